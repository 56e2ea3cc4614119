-- What the promises rest on: the text of a unit, part by part, and its tokens.
pub mod Spelling
pub mod PrintedExpression
pub mod PrintedStatement
pub mod PrintedItem
pub mod PrintedUnit
-- What the promises rest on: which units read back, and as what.
pub mod Printable
pub mod PrintableItem
pub mod Within
pub mod Expanded
pub mod Settled
pub mod State
pub mod PrintableUnit
pub mod Reread
pub mod Law
