pub mod ExpressionParts
pub mod StatementParts
pub mod BareTrees
