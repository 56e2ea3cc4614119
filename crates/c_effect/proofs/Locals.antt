-- Locals that are read after one of them is set or declared, in its block and in the blocks around it: by the first entry of a name.
use Rattle.std.proofs.Common.{◌≡◌, ℕ, Bool, true, false, List, [], ◌∷◌, ◌++◌, Option, Some, None, refl, ap, arith, Ok, ℤ}
use Rattle.std.specs.Prelude.{if◌then◌else◌}
use Rattle.std.specs.Str.{bytes_eq}
use Rattle.std.proofs.lemmas.Slice.Eq.{bytes_eq-Decides}
use Rattle.c_text.specs.declared.token.IntType.{IntType}
use Rattle.c_mem.specs.declared.objects.Pointer.{Pointer}
use Rattle.c_operators.specs.declared.value.Value.TheVariants.{Integer, Pointer as pointer}
use Rattle.c_operators.specs.Value.{typed}
use Rattle.cg_out.specs.Words.{or_else, look_up}
use Rattle.c_effect.specs.declared.state.Held.{Held}
use Rattle.c_effect.specs.declared.state.Held.TheVariants.{Integer as Number, Pointer as Address}
use Rattle.name_table.specs.WithValue.{with_value}
use Rattle.c_effect.specs.Locals.{Block, held_by, value_of, pointer_in, read_local, read_pointer, set_local, with_name, declare_local, closed}

-- ---- names

pub same-name : (name : List ℕ) → bytes_eq name name ≡ true
same-name name = grind (arith, bytes_eq-Decides name name)

tells : (a b : List ℕ) → bytes_eq a b ≡ true → a ≡ b
tells a b e = grind (arith, bytes_eq-Decides a b)

differ : (a name other : List ℕ) → bytes_eq a name ≡ true → bytes_eq name other ≡ false → bytes_eq a other ≡ false
differ a name other e ne = let same : a ≡ name = tells a name e in rw same ne

-- ---- one block, whose local of a name holds something else

set-first : (name n : List ℕ) (g h held : Held) (rest : Block) (is : Bool) → bytes_eq n name ≡ is → look_up name ((n, held) ∷ rest) ≡ Some h
    → (look_up name rest ≡ Some h → look_up name (with_value name g rest) ≡ Some g) → look_up name (with_value name g ((n, held) ∷ rest)) ≡ Some g
set-first name n g h held rest true e has ih = rw (e, e) refl
set-first name n g h held rest false e has ih = rw (e, e) (ih (rw e at has))

pub look_up-set : (name : List ℕ) (g h : Held) (block : Block) → look_up name block ≡ Some h → look_up name (with_value name g block) ≡ Some g
look_up-set name g h [] has = absurd (cc)
look_up-set name g h ((n, held) ∷ rest) has = set-first name n g h held rest (bytes_eq n name) refl has (look_up-set name g h rest)

keep-first : (name other n : List ℕ) (g held : Held) (rest : Block) (is : Bool) → bytes_eq n name ≡ is → bytes_eq name other ≡ false
    → look_up other (with_value name g rest) ≡ look_up other rest → look_up other (with_value name g ((n, held) ∷ rest)) ≡ look_up other ((n, held) ∷ rest)
keep-first name other n g held rest true e ne ih = let past : bytes_eq n other ≡ false = differ n name other e ne in rw (e, past) refl
keep-first name other n g held rest false e ne ih = rw e (ap (λ found. if bytes_eq n other then Some held else found) ih)

pub look_up-other : (name other : List ℕ) (g : Held) (block : Block) → bytes_eq name other ≡ false → look_up other (with_value name g block) ≡ look_up other block
look_up-other name other g [] ne = refl
look_up-other name other g ((n, held) ∷ rest) ne = keep-first name other n g held rest (bytes_eq n name) refl ne (look_up-other name other g rest ne)

-- ---- one block with a local more

last-first : (name n : List ℕ) (g held : Held) (rest : Block) (is : Bool) → bytes_eq n name ≡ is → look_up name ((n, held) ∷ rest) ≡ None
    → (look_up name rest ≡ None → look_up name (rest ++ (name, g) ∷ []) ≡ Some g) → look_up name (((n, held) ∷ rest) ++ (name, g) ∷ []) ≡ Some g
last-first name n g held rest true e has ih = let no : Some held ≡ None = rw e at has in absurd (cc)
last-first name n g held rest false e has ih = rw e (ih (rw e at has))

look_up-last : (name : List ℕ) (g : Held) (block : Block) → look_up name block ≡ None → look_up name (block ++ (name, g) ∷ []) ≡ Some g
look_up-last name g [] has = rw (same-name name) refl
look_up-last name g ((n, held) ∷ rest) has = last-first name n g held rest (bytes_eq n name) refl has (look_up-last name g rest)

look_up-before : (name other : List ℕ) (g : Held) (block : Block) → bytes_eq name other ≡ false → look_up other (block ++ (name, g) ∷ []) ≡ look_up other block
look_up-before name other g [] ne = rw ne refl
look_up-before name other g ((n, held) ∷ rest) ne = ap (λ found. if bytes_eq n other then Some held else found) (look_up-before name other g rest ne)

named : (name : List ℕ) (g : Held) (block : Block) (found : Option Held) → look_up name block ≡ found → look_up name (with_name name g block) ≡ Some g
named name g block (Some h) e = rw e (look_up-set name g h block e)
named name g block None e = rw e (look_up-last name g block e)

pub look_up-named : (name : List ℕ) (g : Held) (block : Block) → look_up name (with_name name g block) ≡ Some g
look_up-named name g block = named name g block (look_up name block) refl

beside : (name other : List ℕ) (g : Held) (block : Block) (found : Option Held) → look_up name block ≡ found → bytes_eq name other ≡ false → look_up other (with_name name g block) ≡ look_up other block
beside name other g block (Some h) e ne = rw e (look_up-other name other g block ne)
beside name other g block None e ne = rw e (look_up-before name other g block ne)

pub look_up-beside : (name other : List ℕ) (g : Held) (block : Block) → bytes_eq name other ≡ false → look_up other (with_name name g block) ≡ look_up other block
look_up-beside name other g block ne = beside name other g block (look_up name block) refl ne

-- ---- a local that is set

set-in : (name : List ℕ) (g h : Held) (block : Block) (blocks : List Block) (found : Option Held) → look_up name block ≡ found → or_else found (held_by name blocks) ≡ Some h
    → (held_by name blocks ≡ Some h → held_by name (set_local name g blocks) ≡ Some g) → held_by name (set_local name g (block ∷ blocks)) ≡ Some g
unfolding set_local
set-in name g h block blocks (Some x) e has ih = rw (e, look_up-set name g x block e) refl
set-in name g h block blocks None e has ih = rw (e, e) (ih has)

-- it holds what is put into it
pub held-set : (name : List ℕ) (g h : Held) (locals : List Block) → held_by name locals ≡ Some h → held_by name (set_local name g locals) ≡ Some g
held-set name g h [] has = absurd (cc)
held-set name g h (block ∷ blocks) has = set-in name g h block blocks (look_up name block) refl has (held-set name g h blocks)

other-in : (name other : List ℕ) (g : Held) (block : Block) (blocks : List Block) (found : Option Held) → look_up name block ≡ found → bytes_eq name other ≡ false
    → held_by other (set_local name g blocks) ≡ held_by other blocks → held_by other (set_local name g (block ∷ blocks)) ≡ held_by other (block ∷ blocks)
unfolding set_local
other-in name other g block blocks (Some x) e ne ih = rw (e, look_up-other name other g block ne) refl
other-in name other g block blocks None e ne ih = rw e (ap (or_else (look_up other block)) ih)

-- and another holds what it held
pub held-other : (name other : List ℕ) (g : Held) (locals : List Block) → bytes_eq name other ≡ false → held_by other (set_local name g locals) ≡ held_by other locals
unfolding set_local
held-other name other g [] ne = refl
held-other name other g (block ∷ blocks) ne = other-in name other g block blocks (look_up name block) refl ne (held-other name other g blocks ne)

-- ---- a local that is declared

pub held-declared : (name : List ℕ) (g : Held) (locals : List Block) → held_by name (declare_local name g locals) ≡ Some g
unfolding declare_local
held-declared name g [] = rw (look_up-named name g []) refl
held-declared name g (block ∷ blocks) = rw (look_up-named name g block) refl

pub held-past : (name other : List ℕ) (g : Held) (locals : List Block) → bytes_eq name other ≡ false → held_by other (declare_local name g locals) ≡ held_by other locals
unfolding declare_local
held-past name other g [] ne = rw (look_up-beside name other g [] ne) refl
held-past name other g (block ∷ blocks) ne = rw (look_up-beside name other g block ne) refl

-- ---- blocks

-- a local that a block lacks is set in the blocks around it
pub set-around : (name : List ℕ) (g : Held) (inner : Block) (locals : List Block) → look_up name inner ≡ None → set_local name g (inner ∷ locals) ≡ inner ∷ set_local name g locals
unfolding set_local
set-around name g inner locals e = rw e refl

-- a local that a block has is set in it, and the blocks around it stay
pub set-inside : (name : List ℕ) (g h : Held) (inner : Block) (locals : List Block) → look_up name inner ≡ Some h → set_local name g (inner ∷ locals) ≡ with_value name g inner ∷ locals
unfolding set_local
set-inside name g h inner locals e = rw e refl

pub declared-inside : (name : List ℕ) (g : Held) (inner : Block) (locals : List Block) → declare_local name g (inner ∷ locals) ≡ with_name name g inner ∷ locals
unfolding declare_local
declared-inside name g inner locals = refl

set-keeps-blocks : (name : List ℕ) (g : Held) (inner next : Block) (outer : List Block) (found : Option Held) → look_up name next ≡ found
    → closed (inner ∷ set_local name g (next ∷ outer)) ≡ set_local name g (next ∷ outer)
unfolding set_local
set-keeps-blocks name g inner next outer (Some h) e = rw e refl
set-keeps-blocks name g inner next outer None e = rw e refl

-- what was set around a block stays behind it
pub closed-around : (name : List ℕ) (g : Held) (inner next : Block) (outer : List Block) → closed (inner ∷ set_local name g (next ∷ outer)) ≡ set_local name g (next ∷ outer)
closed-around name g inner next outer = set-keeps-blocks name g inner next outer (look_up name next) refl

-- ---- reading

-- a local that holds the same reads the same
pub reads-same : (name : List ℕ) (locals others : List Block) → held_by name locals ≡ held_by name others → read_local name locals ≡ read_local name others
unfolding read_local
reads-same name locals others e = ap value_of e

pub points-same : (name : List ℕ) (locals others : List Block) → held_by name locals ≡ held_by name others → read_pointer name locals ≡ read_pointer name others
unfolding read_pointer
points-same name locals others e = ap pointer_in e

pub reads-number : (name : List ℕ) (kind : IntType) (z : ℤ) (locals : List Block) → held_by name locals ≡ Some (Number kind (Some z)) → read_local name locals ≡ Ok (Integer (typed kind z))
unfolding read_local
reads-number name kind z locals h = rw h refl

pub reads-pointer : (name : List ℕ) (p : Pointer) (locals : List Block) → held_by name locals ≡ Some (Address p) → read_local name locals ≡ Ok (pointer p)
unfolding read_local
reads-pointer name p locals h = rw h refl

pub points-at : (name : List ℕ) (p : Pointer) (locals : List Block) → held_by name locals ≡ Some (Address p) → read_pointer name locals ≡ Ok p
unfolding read_pointer
points-at name p locals h = rw h refl
