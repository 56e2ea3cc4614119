-- Helpers have no fault, and may be called.
pub mod HelperTypes
pub mod HelperCalls
pub mod HelperNames
-- A worked unit.
mod WorkedTypes
