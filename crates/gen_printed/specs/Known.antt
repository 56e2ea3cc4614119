-- What a text must give the words of a pack function: the header's types, `memset`, the error's number, and nothing to names of its own (ISO/IEC 9899:1999, 6.10.3 and 7.18.1.1).
use Rattle.std.specs.Prelude.{◌≡◌, ℕ, Bool, List, Some, None}
use Rattle.std.specs.List.{AllByRecursion}
use Rattle.name_rules.specs.declared.table.MessageNames.{MessageNames}
use Rattle.name_rules.specs.Symbols.{field_names, local_names}
use Rattle.c_text.specs.declared.token.IntType.TheVariants.{Int}
use Rattle.c_text.specs.declared.token.Spelled.TheVariants.{Exact, Size, Plain}
use Rattle.c_tree.specs.declared.expression.Callee.TheVariants.{Memset}
use Rattle.c_printed.specs.Spelling.{left}
use Rattle.c_printed.specs.PrintedExpression.{tokens_of}
use Rattle.c_printed.specs.Expanded.{Meaning}
use Rattle.c_printed.specs.Printable.{IsFree, IsWidth}
use Rattle.c_printed.specs.Settled.{Becomes, Stands, TypeStands, CalleeStands}
use Rattle.shift_helpers.specs.declared.helper.HelperKind.{HelperKind}
use Rattle.shift_helpers.specs.HelperTree.{helper_name}
use Rattle.gen_pack.specs.PackTree.{buffer, source, size, error_name, number}

-- a word that stays, and that is no macro
pub record StandsAlone (env : Becomes) (meaning : Meaning) (word : List ℕ) : Type 0 where
  pub stands : Stands env word
  pub none : meaning word ≡ None

-- the names of the headers, and those of every pack function
pub record KnowsHeaders (env : Becomes) (meaning : Meaning) : Type 0 where
  pub exact : (w : ℕ) (signed : Bool) → IsWidth w → TypeStands env (Exact w signed)
  pub int : TypeStands env (Plain Int)
  pub size_type : TypeStands env Size
  pub memset : CalleeStands env Memset
  pub error : env error_name ≡ tokens_of left (number 22)
  pub error_means : meaning error_name ≡ Some (number 22)
  pub buffer : StandsAlone env meaning buffer
  pub source : Stands env source
  pub size : StandsAlone env meaning size
  pub helpers : (kind : HelperKind) (w : ℕ) → IsWidth w → Stands env (helper_name kind w)

-- the names of a message
pub record KnowsNames (env : Becomes) (meaning : Meaning) (names : MessageNames) : Type 0 where
  pub function : Stands env names.pack
  pub tag : Stands env names.tag
  pub fields : AllByRecursion (Stands env) (field_names names)
  pub locals : AllByRecursion (StandsAlone env meaning) (local_names names)

-- ---- none of them is a keyword (6.4.1)

pub record AreFreeWords : Type 0 where
  pub error : IsFree error_name
  pub buffer : IsFree buffer
  pub source : IsFree source
  pub size : IsFree size
  pub helpers : (kind : HelperKind) (w : ℕ) → IsWidth w → IsFree (helper_name kind w)

pub record AreFree (names : MessageNames) : Type 0 where
  pub function : IsFree names.pack
  pub tag : IsFree names.tag
  pub fields : AllByRecursion IsFree (field_names names)
  pub locals : AllByRecursion IsFree (local_names names)
