pub mod Words
pub mod Requests
pub mod Records
pub mod ContactRecords
pub mod Answers
pub mod ContactAnswers
pub mod MeasuredRecords
