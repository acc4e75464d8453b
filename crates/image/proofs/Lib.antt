pub mod RuleSteps
pub mod PairSteps
pub mod Rows
pub mod Faults
