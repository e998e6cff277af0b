pub mod Entries
pub mod Refusals
pub mod Runs
