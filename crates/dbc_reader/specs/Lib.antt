-- What the promises rest on.
pub mod Token
pub mod Tokens
pub mod Spelling
pub mod Keywords
pub mod MuxWord
pub mod Number
pub mod Template
pub mod Parts
pub mod Rows
pub mod Document
pub mod Statements
pub mod FirstFault
pub mod Reading
pub mod Bounds
-- What the functions inside promise each other.
pub mod Flat
pub mod Checks
pub mod Shown
