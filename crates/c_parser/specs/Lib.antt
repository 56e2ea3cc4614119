-- What the functions inside promise each other.
pub mod Form
pub mod Head
pub mod Label
pub mod Matching
pub mod Signs
pub mod Pending
