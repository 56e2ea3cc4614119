-- What the promises rest on.
pub mod DataModel
pub mod IntegerType
pub mod Promotion
pub mod Conversion
pub mod CommonType
pub mod ConstantType
