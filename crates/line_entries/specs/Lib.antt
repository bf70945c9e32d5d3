-- RecordLines: the lines of what came.
-- DecisionLines: the lines of what became of traces.
pub mod RecordLines
pub mod DecisionLines
