-- What the promises rest on.
pub mod Cells
pub mod Objects
