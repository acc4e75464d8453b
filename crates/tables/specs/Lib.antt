pub mod Table
pub mod Masks
pub mod Rows
pub mod Admitted
pub mod Machine
