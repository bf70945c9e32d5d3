mod DurationRows
