-- What the promises rest on.
pub mod FirstFault
-- What C text is, given on.
pub use Rattle.c_text.specs.Refusal
pub use Rattle.c_text.specs.Tokens
pub use Rattle.c_text.specs.Preprocessing
pub use Rattle.c_tree.specs.UnitCut
pub use Rattle.c_tree.specs.BareUnit
