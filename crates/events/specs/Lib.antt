pub mod Events
pub mod Conflicts
pub mod Rules
pub mod Texts
