-- How what was read makes up larger trees.
pub mod ExpressionPart
pub mod StatementPart
