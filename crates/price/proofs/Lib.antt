pub mod Counting
pub mod Pricing
pub mod Demands
