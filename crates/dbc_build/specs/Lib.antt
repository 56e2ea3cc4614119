-- What the promises rest on.
pub mod Last
pub mod Facts
pub mod Reading
pub mod DatabaseOfStatements
-- What the functions inside promise each other.
pub mod Tables
pub mod Parts
