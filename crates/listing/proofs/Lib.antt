pub mod Cells
pub mod Lines
pub mod Determined
pub mod Tails
