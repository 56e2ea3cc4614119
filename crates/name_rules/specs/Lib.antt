-- What the promises rest on.
pub mod Identifier
pub mod IsIdentifier
pub mod Distinct
pub mod Reserved
pub mod Picks
pub mod Pruning
pub mod Wanted
pub mod Symbols
pub mod Names
-- What the functions inside promise each other.
pub mod Places
pub mod Taken
pub mod Fronts
pub mod Naming
