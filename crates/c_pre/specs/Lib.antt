-- What the functions inside promise each other.
pub mod Shown
pub mod Merging
pub mod Balance
pub mod Run
pub mod Parts
pub mod Entries
pub mod Kept
