-- What the promises rest on.
pub mod Entries
pub mod Adds
pub mod WithValue
