-- The laws of the whole loop.
pub mod Things
pub mod Given
pub mod Rows
pub mod Fit
pub mod Recorded
pub mod Answered
pub mod Asked
pub mod Shown
pub mod Loop
