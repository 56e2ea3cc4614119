-- What is proved of them.
pub mod HelpersCalled
-- Such units have no fault of types.
mod TypedWords
mod TypedScope
mod TypedSignals
mod TypedBody
mod TypedFunction
mod TypedHelpers
mod TypedHeader
pub mod TypedUnit
-- Each pack function of such a unit packs its message.
mod PackingPairs
mod PackingStructs
mod PackingFunctions
pub mod PackingUnit
