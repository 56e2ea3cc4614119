pub mod Verdicts
pub mod Arguments
pub mod Sequences
pub mod Behind
pub mod FieldLists
pub mod Items
