pub mod Larger
pub mod RowsIn
