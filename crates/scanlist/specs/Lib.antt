-- What one call over a piece does for the listing of it.
pub mod Calls
