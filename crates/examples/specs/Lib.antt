pub mod Examples
pub mod WorkedExamples
pub mod RepeatCounts
pub mod OrderExamples
