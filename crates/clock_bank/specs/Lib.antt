pub mod Rows
pub mod Faults
pub mod Runs
