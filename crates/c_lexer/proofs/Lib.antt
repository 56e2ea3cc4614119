pub mod Lengths
pub mod ConstantParts
pub mod MarkTables
pub mod Scan
