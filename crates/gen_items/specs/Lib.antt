-- What the laws speak of.
pub mod CalledHelpers
pub mod UnitItems
pub mod ItemNames
pub mod UnitPacks
