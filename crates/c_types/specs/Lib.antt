-- What the promises rest on.
pub mod TypeFault
pub mod Scope
pub mod Calling
pub mod Setting
pub mod ExpressionTypes
pub mod SwitchLabels
pub mod StatementTypes
pub mod UnitTypes
pub mod FieldNamed
pub mod FirstFault
-- What the functions inside promise each other.
pub mod Blocks
pub mod Verdict
pub mod Shown
pub mod Behind
pub mod CaseNumbers
