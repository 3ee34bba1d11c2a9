-- What it is to read a byte stream: framings, runs, calls, and streams with requests told in them.
pub mod Framing
pub mod Run
pub mod Stages
pub mod Calls
pub mod Stream
