-- Where a punctuator ends.
use Rattle.std.proofs.Common.{◌≡◌, ℕ, Bool, true, false, ◌||◌, ◌==◌, List, [], ◌∷◌, ◌++◌, codes, Some, bytes_eq, refl, subst, ap}
use Rattle.std.specs.List.{AllByRecursion, list_any}
use Rattle.std.proofs.lemmas.Slice.Eq.{bytes_eq-Decides}
use Rattle.c_text.specs.declared.token.TokenKind.TheVariants.{Mark}
use Rattle.c_text.specs.Characters.{first_passes}
use Rattle.c_text.specs.Punctuator.{mark_at}
use Rattle.c_text.specs.Piece.{token, piece}
use Rattle.c_text.specs.Tokens.{kinds}

-- ---- members of a table

step : (P : List ℕ → Type 0) (x m : List ℕ) (r s : Bool) → (r ≡ true → x ≡ m) → P x → (s ≡ true → P m) → (r || s) ≡ true → P m
step P x m true s same p others h = subst P (same refl) p
step P x m false s same p others h = others h

-- what holds of each text of a table holds of a text that is found there
pub of-member : (P : List ℕ → Type 0) (xs : List (List ℕ)) (m : List ℕ) → AllByRecursion P xs → list_any (λ x. bytes_eq x m) xs ≡ true → P m
of-member P [] m all h = cc
of-member P (x ∷ xs) m all h = step P x m (bytes_eq x m) (list_any (λ y. bytes_eq y m) xs) (bytes_eq-Decides x m).0 all.0 (of-member P xs m all.1) h

-- ---- punctuators that nothing extends

abbrev pub wholes : List (List ℕ)
wholes =
    codes "..." ∷ codes "<<=" ∷ codes ">>=" ∷ codes "->" ∷ codes "++" ∷ codes "--" ∷ codes "<=" ∷ codes ">=" ∷ codes "==" ∷ codes "!=" ∷ codes "&&" ∷ codes "||"
    ∷ codes "*=" ∷ codes "/=" ∷ codes "%=" ∷ codes "+=" ∷ codes "-=" ∷ codes "&=" ∷ codes "^=" ∷ codes "|=" ∷ codes "##" ∷ codes "[" ∷ codes "]" ∷ codes "("
    ∷ codes ")" ∷ codes "{" ∷ codes "}" ∷ codes "~" ∷ codes "?" ∷ codes ";" ∷ codes "," ∷ []

abbrev IsRead : List ℕ → Type 0
IsRead m = (ys : List ℕ) → kinds 0 (m ++ ys) ≡ token (Mark m) ∷ kinds 0 ys

wholes-read : AllByRecursion IsRead wholes
unfolding mark_at
wholes-read = ((λ ys. refl), ((λ ys. refl), ((λ ys. refl), ((λ ys. refl), ((λ ys. refl), ((λ ys. refl), ((λ ys. refl), ((λ ys. refl), ((λ ys. refl), ((λ ys. refl), ((λ ys. refl), ((λ ys. refl), ((λ ys. refl), ((λ ys. refl), ((λ ys. refl), ((λ ys. refl), ((λ ys. refl), ((λ ys. refl), ((λ ys. refl), ((λ ys. refl), ((λ ys. refl), ((λ ys. refl), ((λ ys. refl), ((λ ys. refl), ((λ ys. refl), ((λ ys. refl), ((λ ys. refl), ((λ ys. refl), ((λ ys. refl), ((λ ys. refl), ((λ ys. refl), tt)))))))))))))))))))))))))))))))

pub kinds-whole : (m ys : List ℕ) → list_any (λ x. bytes_eq x m) wholes ≡ true → kinds 0 (m ++ ys) ≡ token (Mark m) ∷ kinds 0 ys
kinds-whole m ys h = of-member IsRead wholes m wholes-read h ys

-- ---- the others, before a byte that extends none

-- the bytes with which some punctuator or the beginning of a comment goes on
abbrev pub extending : List ℕ
extending = codes "#%&*+-./:<=>|"

abbrev pub extends : ℕ → Bool
extends c = list_any (λ x. c == x) extending

apart : (c : ℕ) (xs : List ℕ) → list_any (λ x. c == x) xs ≡ false → AllByRecursion (λ x. c == x ≡ false) xs
apart c [] h = tt
apart c (x ∷ xs) h = let e = none (c == x) (list_any (λ y. c == y) xs) h in (e.0, apart c xs e.1)
  where
    none : (r s : Bool) → (r || s) ≡ false → (r ≡ false) × (s ≡ false)
    none false s e = (refl, e)
    none true s e = cc

abbrev pub parts : List (List ℕ)
parts = codes "<<" ∷ codes ">>" ∷ codes "." ∷ codes "&" ∷ codes "*" ∷ codes "+" ∷ codes "-" ∷ codes "!" ∷ codes "/" ∷ codes "%" ∷ codes "<" ∷ codes ">" ∷ codes "^" ∷ codes "|" ∷ codes ":" ∷ codes "=" ∷ codes "#" ∷ []

abbrev IsReadBefore : List ℕ → Type 0
IsReadBefore m = (ys : List ℕ) → first_passes extends ys ≡ false → kinds 0 (m ++ ys) ≡ token (Mark m) ∷ kinds 0 ys

at-shift_left : (ys : List ℕ) → first_passes extends ys ≡ false → mark_at (codes "<<" ++ ys) ≡ Some (codes "<<")
unfolding mark_at
at-shift_left [] h = refl
at-shift_left (c ∷ cs) h = let a = apart c extending h in rw (a.1.1.1.1.1.1.1.1.1.1.0) refl

read-shift_left : IsReadBefore (codes "<<")
read-shift_left ys h = rw (at-shift_left ys h) refl

at-shift_right : (ys : List ℕ) → first_passes extends ys ≡ false → mark_at (codes ">>" ++ ys) ≡ Some (codes ">>")
unfolding mark_at
at-shift_right [] h = refl
at-shift_right (c ∷ cs) h = let a = apart c extending h in rw (a.1.1.1.1.1.1.1.1.1.1.0) refl

read-shift_right : IsReadBefore (codes ">>")
read-shift_right ys h = rw (at-shift_right ys h) refl

at-point : (ys : List ℕ) → first_passes extends ys ≡ false → mark_at (codes "." ++ ys) ≡ Some (codes ".")
unfolding mark_at
at-point [] h = refl
at-point (c ∷ cs) h = let a = apart c extending h in rw (a.1.1.1.1.1.1.0) refl

read-point : IsReadBefore (codes ".")
read-point ys h = rw (at-point ys h) refl

at-and : (ys : List ℕ) → first_passes extends ys ≡ false → mark_at (codes "&" ++ ys) ≡ Some (codes "&")
unfolding mark_at
at-and [] h = refl
at-and (c ∷ cs) h = let a = apart c extending h in rw (a.1.1.0, a.1.1.1.1.1.1.1.1.1.1.0) refl

read-and : IsReadBefore (codes "&")
read-and ys h = rw (at-and ys h) refl

at-star : (ys : List ℕ) → first_passes extends ys ≡ false → mark_at (codes "*" ++ ys) ≡ Some (codes "*")
unfolding mark_at
at-star [] h = refl
at-star (c ∷ cs) h = let a = apart c extending h in rw (a.1.1.1.1.1.1.1.1.1.1.0) refl

read-star : IsReadBefore (codes "*")
read-star ys h = rw (at-star ys h) refl

at-plus : (ys : List ℕ) → first_passes extends ys ≡ false → mark_at (codes "+" ++ ys) ≡ Some (codes "+")
unfolding mark_at
at-plus [] h = refl
at-plus (c ∷ cs) h = let a = apart c extending h in rw (a.1.1.1.1.0, a.1.1.1.1.1.1.1.1.1.1.0) refl

read-plus : IsReadBefore (codes "+")
read-plus ys h = rw (at-plus ys h) refl

at-minus : (ys : List ℕ) → first_passes extends ys ≡ false → mark_at (codes "-" ++ ys) ≡ Some (codes "-")
unfolding mark_at
at-minus [] h = refl
at-minus (c ∷ cs) h = let a = apart c extending h in rw (a.1.1.1.1.1.1.1.1.1.1.1.0, a.1.1.1.1.1.0, a.1.1.1.1.1.1.1.1.1.1.0) refl

read-minus : IsReadBefore (codes "-")
read-minus ys h = rw (at-minus ys h) refl

at-not : (ys : List ℕ) → first_passes extends ys ≡ false → mark_at (codes "!" ++ ys) ≡ Some (codes "!")
unfolding mark_at
at-not [] h = refl
at-not (c ∷ cs) h = let a = apart c extending h in rw (a.1.1.1.1.1.1.1.1.1.1.0) refl

read-not : IsReadBefore (codes "!")
read-not ys h = rw (at-not ys h) refl

at-slash : (ys : List ℕ) → first_passes extends ys ≡ false → mark_at (codes "/" ++ ys) ≡ Some (codes "/")
unfolding mark_at
at-slash [] h = refl
at-slash (c ∷ cs) h = let a = apart c extending h in rw (a.1.1.1.1.1.1.1.1.1.1.0) refl

-- a slash begins no comment there
piece-slash : (c : ℕ) (cs : List ℕ) → extends c ≡ false → piece 47 (c ∷ cs) ≡ (token (Mark (codes "/")), 0)
piece-slash c cs h = let a = apart c extending h in rw (a.1.1.1.0, a.1.1.1.1.1.1.1.0, at-slash (c ∷ cs) h) refl

read-slash : IsReadBefore (codes "/")
read-slash [] h = rw (at-slash [] h) refl
read-slash (c ∷ cs) h = ap (λ p. p.0 ∷ kinds p.1 (c ∷ cs)) (piece-slash c cs h)

at-percent : (ys : List ℕ) → first_passes extends ys ≡ false → mark_at (codes "%" ++ ys) ≡ Some (codes "%")
unfolding mark_at
at-percent [] h = refl
at-percent (c ∷ cs) h = let a = apart c extending h in rw (a.1.1.1.1.1.1.1.1.1.1.1.0, a.1.1.1.1.1.1.1.1.0, a.1.1.1.1.1.1.1.1.1.1.0) refl

read-percent : IsReadBefore (codes "%")
read-percent ys h = rw (at-percent ys h) refl

at-less : (ys : List ℕ) → first_passes extends ys ≡ false → mark_at (codes "<" ++ ys) ≡ Some (codes "<")
unfolding mark_at
at-less [] h = refl
at-less (c ∷ cs) h = let a = apart c extending h in rw (a.1.1.1.1.1.1.1.1.0, a.1.0, a.1.1.1.1.1.1.1.1.1.0, a.1.1.1.1.1.1.1.1.1.1.0) refl

read-less : IsReadBefore (codes "<")
read-less ys h = rw (at-less ys h) refl

at-greater : (ys : List ℕ) → first_passes extends ys ≡ false → mark_at (codes ">" ++ ys) ≡ Some (codes ">")
unfolding mark_at
at-greater [] h = refl
at-greater (c ∷ cs) h = let a = apart c extending h in rw (a.1.1.1.1.1.1.1.1.1.1.1.0, a.1.1.1.1.1.1.1.1.1.1.0) refl

read-greater : IsReadBefore (codes ">")
read-greater ys h = rw (at-greater ys h) refl

at-caret : (ys : List ℕ) → first_passes extends ys ≡ false → mark_at (codes "^" ++ ys) ≡ Some (codes "^")
unfolding mark_at
at-caret [] h = refl
at-caret (c ∷ cs) h = let a = apart c extending h in rw (a.1.1.1.1.1.1.1.1.1.1.0) refl

read-caret : IsReadBefore (codes "^")
read-caret ys h = rw (at-caret ys h) refl

at-bar : (ys : List ℕ) → first_passes extends ys ≡ false → mark_at (codes "|" ++ ys) ≡ Some (codes "|")
unfolding mark_at
at-bar [] h = refl
at-bar (c ∷ cs) h = let a = apart c extending h in rw (a.1.1.1.1.1.1.1.1.1.1.1.1.0, a.1.1.1.1.1.1.1.1.1.1.0) refl

read-bar : IsReadBefore (codes "|")
read-bar ys h = rw (at-bar ys h) refl

at-colon : (ys : List ℕ) → first_passes extends ys ≡ false → mark_at (codes ":" ++ ys) ≡ Some (codes ":")
unfolding mark_at
at-colon [] h = refl
at-colon (c ∷ cs) h = let a = apart c extending h in rw (a.1.1.1.1.1.1.1.1.1.1.1.0) refl

read-colon : IsReadBefore (codes ":")
read-colon ys h = rw (at-colon ys h) refl

at-equals : (ys : List ℕ) → first_passes extends ys ≡ false → mark_at (codes "=" ++ ys) ≡ Some (codes "=")
unfolding mark_at
at-equals [] h = refl
at-equals (c ∷ cs) h = let a = apart c extending h in rw (a.1.1.1.1.1.1.1.1.1.1.0) refl

read-equals : IsReadBefore (codes "=")
read-equals ys h = rw (at-equals ys h) refl

at-hash : (ys : List ℕ) → first_passes extends ys ≡ false → mark_at (codes "#" ++ ys) ≡ Some (codes "#")
unfolding mark_at
at-hash [] h = refl
at-hash (c ∷ cs) h = let a = apart c extending h in rw (a.0) refl

read-hash : IsReadBefore (codes "#")
read-hash ys h = rw (at-hash ys h) refl

parts-read : AllByRecursion IsReadBefore parts
parts-read = (read-shift_left, (read-shift_right, (read-point, (read-and, (read-star, (read-plus, (read-minus, (read-not, (read-slash, (read-percent, (read-less, (read-greater, (read-caret, (read-bar, (read-colon, (read-equals, (read-hash, tt)))))))))))))))))

pub kinds-part : (m ys : List ℕ) → list_any (λ x. bytes_eq x m) parts ≡ true → first_passes extends ys ≡ false → kinds 0 (m ++ ys) ≡ token (Mark m) ∷ kinds 0 ys
kinds-part m ys h = of-member IsReadBefore parts m parts-read h ys
