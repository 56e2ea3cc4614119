-- What trees mean, and what is read behind what is written.
pub mod Equations
pub mod Locals
pub mod Memory
-- The steps of a proof about a function: expressions, statements, calls.
pub mod Expressions
pub mod Pointers
pub mod Statements
pub mod Sequences
pub mod Switches
pub mod Calls
-- Places do not matter.
pub mod Placeless
pub mod BareNodes
pub mod BareGrown
pub mod Anywhere
pub mod AnywhereStatements
pub mod AnywhereCalls
-- Worked programs and faults, by computation, and a helper by the steps.
mod Worked
mod WorkedHelper
mod WorkedPack
