-- The text of what the reader of the response stream gives.
pub mod Lines
pub mod Listing
