pub mod Names
pub mod Letters
pub mod OwnNames
pub mod HelperNames
pub mod Comments
pub mod MessageItems
pub mod NewMacros
pub mod Meaning
pub mod ItemNames
pub mod HeaderBehind
pub mod SourceKnown
pub mod BareHelpers
pub mod SourceItems
pub mod PairMeaning
pub mod InPairs
pub mod CalledParts
pub mod CommentedFields
mod Rows
