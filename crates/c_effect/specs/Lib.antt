-- What the promises rest on.
pub mod Locals
pub mod World
pub mod Loading
pub mod ExpressionValue
pub mod Ending
pub mod Storing
pub mod Choosing
pub mod StatementEffect
pub mod FunctionCall
