pub mod Gathered
pub mod KindLaws
pub mod Looked
pub mod Rows
