pub mod Tokens
pub mod Types
pub mod CutExpression
pub mod Quiet
pub mod CutSimple
pub mod CutStatement
pub mod CutItem
pub mod CutFunction
pub mod Matching
pub mod CutUnit
pub mod PairLaw
mod Example
