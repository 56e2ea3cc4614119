-- What the promises rest on, in the order of the standard's clauses.
pub mod Sequence
pub mod Symbol
pub mod Brackets
pub mod Operators
pub mod TypeName
pub mod ExpressionCut
pub mod DeclarationCut
pub mod StructCut
pub mod ParameterCut
pub mod CaseValue
pub mod StatementCut
pub mod FunctionCut
pub mod UnitCut
-- Trees without their places.
pub mod BareExpression
pub mod BareStatement
pub mod BareUnit
-- What the readers promise each other of tokens that stand in a row.
pub mod TokenRun
