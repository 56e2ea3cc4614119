-- What the functions inside promise each other.
pub mod Ones
pub mod Reads
