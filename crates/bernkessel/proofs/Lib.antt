pub mod Blanks
pub mod Determined
pub mod Back
pub mod Meant
pub mod Serials
