pub mod Records
pub mod OldRecords
