-- Laws of printed text: tokens.
pub mod Joined
pub mod Boundary
pub mod Marks
pub mod Constants
-- Laws of printed text: preprocessing.
pub mod Places
pub mod Reading
pub mod Left
pub mod Group
pub mod PrintedLines
pub mod TextLines
pub mod HeaderLines
-- Worked values.
mod Rows
mod DirectiveRows
mod HeaderRow
