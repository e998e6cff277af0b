pub mod Flat
pub mod Shape
pub mod View
