pub mod ExpressionSteps
pub mod ExpressionTokens
pub mod CaseSteps
pub mod StatementSteps
mod CutRows
