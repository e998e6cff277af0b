pub mod Faults
pub mod Orders
pub mod Tallies
pub mod Words
pub mod Lists
