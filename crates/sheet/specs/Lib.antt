pub mod Bytes
pub mod Cells
pub mod Counting
pub mod Growing
pub mod Grown
pub mod Learning
pub mod Causes
pub mod Stages
