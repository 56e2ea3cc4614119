-- The text of an expression has its tokens.
use Rattle.std.proofs.Common.{◌≡◌, ◌||◌, ℕ, ◌<◌, ◌≤◌, Bool, true, false, List, [], ◌∷◌, ◌++◌, length, refl, sym, ap, subst, ◌∙◌, append_assoc, arith}
use Rattle.std.specs.Prelude.{codes, ◌^◌}
use Rattle.std.specs.Fmt.{decimal}
use Rattle.std.specs.Char.{digit_value}
use Rattle.std.specs.Str.Parse.{AllDigits}
use Rattle.std.proofs.lemmas.Fmt.{decimal_is_IsNumeral}
use Rattle.std.proofs.lemmas.Bool.Decides.{nat_tests}
use Rattle.c_text.specs.declared.token.TokenKind.TheVariants.{Word, Mark}
use Rattle.c_tree.specs.declared.expression.UnaryOp.{UnaryOp}
use Rattle.c_tree.specs.declared.expression.UnaryOp.TheVariants as sign
use Rattle.c_tree.specs.declared.expression.BinaryOp.{BinaryOp}
use Rattle.c_tree.specs.declared.expression.BinaryOp.TheVariants as op
use Rattle.c_text.specs.Punctuator.{mark_at}
use Rattle.c_text.specs.Piece.{token}
use Rattle.c_text.specs.Tokens.{kinds}
use Rattle.c_text.specs.Characters.{is_letter, first_passes, IsName}
use Rattle.c_tree.specs.BareExpression.{Tree, Trees, constant, name, null, member, element, call, unary, cast, binary, bracket, none, more}
use Rattle.c_text.proofs.Marks.{extends}
use Rattle.c_printed.specs.Spelling.{sign_text, operator_text, type_words, words, value_text, suffix_text, callee_text, level_of, written}
use Rattle.c_printed.specs.PrintedExpression.{printed, separated, separator, comma, tokens_of, all_tokens}
use Rattle.c_printed.specs.Printable.{IsBase, eight, ten, sixteen, AreApart, Fits, FitAll}
use Rattle.c_printed.proofs.Pieces.{Reads, stops, joined, then, nothing, named, named-before, free-any}
use Rattle.c_printed.proofs.Spelled.{given-name, reads-operator, opening, closing, opening_square, closing_square, arrow, comma_mark, signed, sign-cut, callee-name, reads-type, reads-constant}

-- ---- what stands between arguments, and between parameters

pub reads-separator : (b : Bool) → Reads true true (separator b) (comma b)
reads-separator true = nothing
reads-separator false = comma_mark

-- ---- what a text begins with

letter-apart : (b : ℕ) → is_letter b ≡ true → extends b ≡ false
letter-apart b h = grind (arith, nat_tests)

digit-apart : (b : ℕ) → digit_value b < 10 → extends b ≡ false
digit-apart b h = grind (arith, nat_tests)

pub name-first : (n rest : List ℕ) → IsName n → first_passes extends (n ++ rest) ≡ false
name-first [] rest h = absurd h
name-first (b ∷ bs) rest h = letter-apart b h.0

digits-first : (ds rest : List ℕ) → 0 < length ds → AllDigits 10 ds → first_passes extends (ds ++ rest) ≡ false
digits-first [] rest some h = absurd (omega arith)
digits-first (d ∷ ds) rest some h = digit-apart d h.0

value-first : (wide : Bool) (b v : ℕ) (tail rest : List ℕ) → IsBase b v → v < 2 ^ 64 → first_passes extends ((value_text wide b v ++ tail) ++ rest) ≡ false
value-first wide _ _ tail rest eight h = refl
value-first wide _ v tail rest ten h =
    let i = decimal_is_IsNumeral v h in
    ap (first_passes extends) (append_assoc (decimal v) tail rest) ∙ digits-first (decimal v) (tail ++ rest) i.0.0 i.0.1
value-first wide _ v tail rest sixteen h = refl

-- ---- a sign before an operand

by-first : (u : UnaryOp) (x rest : List ℕ) → first_passes extends (x ++ rest) ≡ false → kinds 0 (sign_text u ++ (x ++ rest)) ≡ token (Mark (sign_text u)) ∷ kinds 0 (x ++ rest)
by-first u x rest e = sign-cut u (x ++ rest) e

no-binary : (o : BinaryOp) → 9 ≤ level_of o → ⊥
no-binary op.LogicalOr h = absurd (omega arith)
no-binary op.LogicalAnd h = absurd (omega arith)
no-binary op.BitOr h = absurd (omega arith)
no-binary op.BitXor h = absurd (omega arith)
no-binary op.BitAnd h = absurd (omega arith)
no-binary op.Equal h = absurd (omega arith)
no-binary op.NotEqual h = absurd (omega arith)
no-binary op.Less h = absurd (omega arith)
no-binary op.Greater h = absurd (omega arith)
no-binary op.LessEqual h = absurd (omega arith)
no-binary op.GreaterEqual h = absurd (omega arith)
no-binary op.ShiftLeft h = absurd (omega arith)
no-binary op.ShiftRight h = absurd (omega arith)
no-binary op.Add h = absurd (omega arith)
no-binary op.Subtract h = absurd (omega arith)

two-signs : (u s : UnaryOp) (y : Tree) (ys : List ℕ) → AreApart u (unary s y) → kinds 0 (sign_text u ++ (sign_text s ++ ys)) ≡ token (Mark (sign_text u)) ∷ kinds 0 (sign_text s ++ ys)
unfolding mark_at
two-signs sign.Plus sign.Plus y ys h = absurd h
two-signs sign.Plus sign.Minus y ys h = refl
two-signs sign.Plus sign.Complement y ys h = refl
two-signs sign.Plus sign.Not y ys h = refl
two-signs sign.Minus sign.Plus y ys h = refl
two-signs sign.Minus sign.Minus y ys h = absurd h
two-signs sign.Minus sign.Complement y ys h = refl
two-signs sign.Minus sign.Not y ys h = refl
two-signs sign.Complement sign.Plus y ys h = refl
two-signs sign.Complement sign.Minus y ys h = refl
two-signs sign.Complement sign.Complement y ys h = refl
two-signs sign.Complement sign.Not y ys h = refl
two-signs sign.Not sign.Plus y ys h = refl
two-signs sign.Not sign.Minus y ys h = refl
two-signs sign.Not sign.Complement y ys h = refl
two-signs sign.Not sign.Not y ys h = refl

pub sign-apart : (wide : Bool) (u : UnaryOp) (t : Tree) (rest : List ℕ) → AreApart u t → Fits 9 t → kinds 0 (sign_text u ++ (printed wide t ++ rest)) ≡ token (Mark (sign_text u)) ∷ kinds 0 (printed wide t ++ rest)
sign-apart wide u (constant c) rest h f = by-first u (printed wide (constant c)) rest (value-first wide c.base c.value (suffix_text c.unsigned c.longs) rest f.base f.small)
sign-apart wide u (name n) rest h f = by-first u n rest (name-first n rest f.0)
sign-apart wide u null rest h f = by-first u (codes "NULL") rest refl
sign-apart wide u (member base field) rest h f =
    by-first u (base ++ (codes "->" ++ field)) rest (ap (first_passes extends) (append_assoc base (codes "->" ++ field) rest) ∙ name-first base ((codes "->" ++ field) ++ rest) f.0.0)
sign-apart wide u (element base i) rest h f =
    let x = codes "[" ++ (printed wide i ++ codes "]") in
    by-first u (base ++ x) rest (ap (first_passes extends) (append_assoc base x rest) ∙ name-first base (x ++ rest) f.0.0)
sign-apart wide u (call c ts) rest h f =
    let x = codes "(" ++ (separated wide true ts ++ codes ")") in
    by-first u (callee_text c ++ x) rest (ap (first_passes extends) (append_assoc (callee_text c) x rest) ∙ name-first (callee_text c) (x ++ rest) (callee-name c f.0))
sign-apart wide u (unary s y) rest h f = subst (λ bs. kinds 0 (sign_text u ++ bs) ≡ token (Mark (sign_text u)) ∷ kinds 0 bs) (sym (append_assoc (sign_text s) (printed wide y) rest)) (two-signs u s y (printed wide y ++ rest) h)
sign-apart wide u (cast to y) rest h f = by-first u (printed wide (cast to y)) rest refl
sign-apart wide u (binary o l r) rest h f = absurd (no-binary o f.0)
sign-apart wide u (bracket y) rest h f = by-first u (printed wide (bracket y)) rest refl

-- ---- the law

mutual
  pub reads-tree : (wide : Bool) (level : ℕ) (t : Tree) → Fits level t → Reads true false (printed wide t) (tokens_of written t)
  reads-tree wide level (constant c) h = reads-constant wide c h
  reads-tree wide level (name n) h = named n h.0
  reads-tree wide level null h = named (codes "NULL") (given-name (codes "NULL") refl refl)
  reads-tree wide level (member base field) h =
      named-before false base _ _ (λ rest. refl) h.0.0 (then false _ _ (Mark (codes "->") ∷ []) _ arrow (named field h.1.0))
  reads-tree wide level (element base i) h =
      joined false false _ _ (Word base ∷ []) _ (λ rest e. refl) (named base h.0.0)
      (then false _ _ (Mark (codes "[") ∷ []) _ opening_square
      (joined false false _ _ (tokens_of written i) _ (λ rest e. refl) (reads-tree wide 0 i h.1) (free-any false _ _ closing_square)))
  reads-tree wide level (call f ts) h =
      joined false false _ _ (Word (callee_text f) ∷ []) _ (λ rest e. refl) (named (callee_text f) (callee-name f h.0))
      (then false _ _ (Mark (codes "(") ∷ []) _ opening
      (joined false false _ _ (all_tokens written true ts) _ (λ rest e. refl) (reads-all wide true ts h.1) (free-any false _ _ closing)))
  reads-tree wide level (unary u x) h = signed false u (printed wide x) (tokens_of written x) (λ rest. sign-apart wide u x rest h.0 h.1) (reads-tree wide 9 x h.1)
  reads-tree wide level (cast to x) h =
      then false _ _ (Mark (codes "(") ∷ []) _ opening
      (joined false false _ _ (words (type_words to)) _ (λ rest e. refl) (reads-type to h.0)
      (then false _ _ (Mark (codes ")") ∷ []) _ closing (reads-tree wide 9 x h.1)))
  reads-tree wide level (binary o l r) h =
      joined false false _ _ (tokens_of written l) _ (λ rest e. refl) (reads-tree wide _ l h.1)
      (then false _ _ (Mark (operator_text o) ∷ []) _ (reads-operator o) (reads-tree wide _ r h.2))
  reads-tree wide level (bracket x) h =
      then false _ _ (Mark (codes "(") ∷ []) _ opening
      (joined false false _ _ (tokens_of written x) _ (λ rest e. refl) (reads-tree wide 0 x h) (free-any false _ _ closing))

  pub reads-all : (wide : Bool) (first : Bool) (ts : Trees) → FitAll ts → Reads true false (separated wide first ts) (all_tokens written first ts)
  reads-all wide first none h = free-any false _ _ nothing
  reads-all wide first (more t ts) h =
      then false _ _ (comma first) _ (reads-separator first)
      (joined false false _ _ (tokens_of written t) _ (next wide ts) (reads-tree wide 0 t h.0) (reads-all wide false ts h.1))
    where
      next : (wide : Bool) (us : Trees) (rest : List ℕ) → (false || stops rest) ≡ true → (false || stops (separated wide false us ++ rest)) ≡ true
      next wide none rest e = e
      next wide (more u us) rest e = refl
