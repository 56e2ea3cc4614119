-- What expressions and statements are, by their forms.
pub mod TypedNodes
pub mod CallsNodes
-- Places do not matter.
pub mod Folding
pub mod Unplaced
pub mod UnplacedExpressions
pub mod UnplacedFolds
pub mod UnplacedStatements
pub mod UnplacedUnits
-- Forms without a fault, one step each.
pub mod TypedExpressions
pub mod TypedStatements
pub mod TypedUnits
