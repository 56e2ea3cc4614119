-- What the promises rest on.
pub mod NamedValues
pub mod Reports
pub mod Finding
-- What the functions inside promise each other.
pub mod Given
