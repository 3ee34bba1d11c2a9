-- Text as bytes: numbers, a refusal's line, and pieces put behind each other.
pub mod Decimal
pub mod Hex
pub mod Refused
pub mod Appends
pub mod Parts
pub mod Promises
