-- What the promises rest on, in the order of the standard's clauses.
pub mod Refusal
pub mod Splice
pub mod Characters
pub mod IntegerConstant
pub mod Punctuator
pub mod Piece
pub mod Tokens
pub mod SeenToken
pub mod Directive
pub mod Conditional
pub mod StandardHeader
pub mod MacroDefinition
pub mod Preprocessing
-- The same but for places, by which headers' meanings are said.
pub mod BareTokens
pub mod BarePreprocessing
