pub mod SmallLaws
pub mod Pieces
pub mod Spelled
pub mod ExpressionLaw
pub mod StatementLaw
pub mod ItemLaw
pub mod ItemLines
pub mod PartLines
pub mod SettledLaw
pub mod ReadLines
pub mod UnitReading
pub mod UnitLeft
pub mod ExpandedFits
pub mod UnitFits
mod Rows
