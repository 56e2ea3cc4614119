pub mod Growing
pub mod Commas
pub mod FirstFault
pub mod Growth
pub mod Operands
