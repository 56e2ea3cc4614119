-- Locals and parameters (ISO/IEC 9899:1999, 6.2.1 and 6.2.4): what each holds, block by block, the innermost first.
use Rattle.std.specs.Prelude.{ℕ, if◌then◌else◌, List, [], ◌∷◌, ◌++◌, Option, Some, None, is_some, Result, Ok, Err}
use Rattle.c_text.specs.declared.token.IntType.{IntType}
use Rattle.c_mem.specs.declared.undefined.Undefined.{Undefined}
use Rattle.c_mem.specs.declared.undefined.Undefined.TheVariants.{Indeterminate}
use Rattle.c_mem.specs.declared.objects.Pointer.{Pointer}
use Rattle.c_operators.specs.declared.value.Value.{Value}
use Rattle.c_operators.specs.declared.value.Value.TheVariants.{Integer, Pointer as pointer}
use Rattle.c_operators.specs.Value.{typed}
use Rattle.cg_out.specs.Words.{or_else, look_up}
use Rattle.name_table.specs.WithValue.{with_value}
use Rattle.c_effect.specs.declared.state.Held.{Held}
use Rattle.c_effect.specs.declared.state.Held.TheVariants.{Integer as Number, Pointer as Address}

-- the names of a block with what they hold, in the order of their declarations
abbrev pub Block : Type 0
Block = List (List ℕ × Held)

-- what the innermost local of a name holds
abbrev pub held_by : List ℕ → List Block → Option Held
held_by name [] = None
held_by name (block ∷ blocks) = or_else (look_up name block) (held_by name blocks)

-- ---- reading; a name that is no local has no value, and no unit without a fault reads one

-- a number that nothing gave is not read (6.7.8p10); a pointer may be any
abbrev pub value_of : Option Held → Result Value Undefined
value_of (Some (Number type (Some number))) = Ok (Integer (typed type number))
value_of (Some (Address p)) = Ok (pointer p)
value_of other = Err Indeterminate

abbrev pub pointer_in : Option Held → Result Pointer Undefined
pointer_in (Some (Address p)) = Ok p
pointer_in other = Err Indeterminate

unfoldable pub read_local : List ℕ → List Block → Result Value Undefined
read_local name locals = value_of (held_by name locals)

unfoldable pub read_pointer : List ℕ → List Block → Result Pointer Undefined
read_pointer name locals = pointer_in (held_by name locals)

-- the type of a local of integers
abbrev pub number_kind : Option Held → Option IntType
number_kind (Some (Number type number)) = Some type
number_kind other = None

-- ---- writing

-- the innermost local of a name holds something else
unfoldable pub set_local : List ℕ → Held → List Block → List Block
set_local name held [] = []
set_local name held (block ∷ blocks) =
    if is_some (look_up name block) then with_value name held block ∷ blocks
    else block ∷ set_local name held blocks

-- a block with a local more
abbrev pub with_name : List ℕ → Held → Block → Block
with_name name held block =
    if is_some (look_up name block) then with_value name held block
    else block ++ (name, held) ∷ []

-- the innermost block has a local more
unfoldable pub declare_local : List ℕ → Held → List Block → List Block
declare_local name held [] = with_name name held [] ∷ []
declare_local name held (block ∷ blocks) = with_name name held block ∷ blocks

-- ---- blocks

abbrev pub opened : List Block → List Block
opened locals = [] ∷ locals

-- the outermost block stays
abbrev pub closed : List Block → List Block
closed (inner ∷ next ∷ outer) = next ∷ outer
closed locals = locals
