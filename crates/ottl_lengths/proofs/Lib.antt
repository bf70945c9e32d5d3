mod LengthRows
