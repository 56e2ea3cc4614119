-- What the promises rest on.
pub mod Callee
pub mod Parts
pub mod Stop
pub mod Prefixes
-- What the functions inside promise each other.
pub mod At
pub mod Before
pub mod Front
pub mod Joint
pub mod Operand
