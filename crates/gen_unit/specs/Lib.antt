-- What the promises rest on: the texts, and what they mean.
pub mod Header
pub mod HeaderStruct
pub mod Source
pub mod Comments
pub mod NamedDatabase
pub mod Small
pub mod Faithful
pub mod Parses
pub mod Surface
pub mod Macros
pub mod Items
