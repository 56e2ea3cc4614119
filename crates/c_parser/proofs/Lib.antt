pub mod Loops
pub mod Stack
pub mod Waiting
pub mod Signed
