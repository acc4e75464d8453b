pub mod LineTest
pub mod Bench
pub mod Answers
