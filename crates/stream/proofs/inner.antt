-- Laws that only the proofs of functions cite: what each loop and each answer of the code comes to.
pub mod Account
pub mod Hold
pub mod Promise
pub mod Joint
pub mod Seek
pub mod Reply
pub mod Scan
pub mod Tell
pub mod Window
