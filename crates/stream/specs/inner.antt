-- What only the promises of private functions cite.
pub mod Account
pub mod Hold
pub mod Joint
pub mod Seek
pub mod Reply
pub mod Scan
