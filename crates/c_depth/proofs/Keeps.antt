-- What a cut tells of the depth of its tokens: the law of a result, and how it goes through a sequence.
use Rattle.std.proofs.Common.{◌≡◌, Bool, true, false, refl, ap, ◌∙◌}
use Rattle.std.specs.Prelude.{◌&&◌, Result, Ok, Err}
use Rattle.c_text.specs.Refusal.{Refusal}
use Rattle.cg_out.specs.Words.{◌>>=◌}
use Rattle.c_depth.specs.Shallow.{is_too_deep}
use Rattle.c_depth.proofs.Tests.{and-false}

-- with `whole` of all tokens and `rest` of those behind the part: what was read was shallow, and what was too deep was not
abbrev pub Keeps : {A : Type 0} → Bool → (A → Bool) → Result A Refusal → Type 0
Keeps whole rest (Ok x) = whole ≡ rest x
Keeps whole rest (Err r) = (is_too_deep r.kind && whole) ≡ false

-- of tokens that are all read
abbrev pub all : {A : Type 0} → A → Bool
all x = true

and-first : (a b c : Bool) → (a && b) ≡ false → (a && (b && c)) ≡ false
and-first true b c e = ap (λ x. x && c) e
and-first false b c e = refl

-- one part, and what stands behind it
pub keeps-bind : {A B : Type 0} (whole : Bool) (mid : A → Bool) (rest : B → Bool) (got : Result A Refusal) (f : A → Result B Refusal)
    → Keeps whole mid got → ((x : A) → Keeps (mid x) rest (f x)) → Keeps whole rest (got >>= f)
keeps-bind whole mid rest (Ok x) f h more = rw h (more x)
keeps-bind whole mid rest (Err e) f h more = h

pub keeps-is : {A : Type 0} (whole other : Bool) (rest : A → Bool) (got : Result A Refusal) → whole ≡ other → Keeps other rest got → Keeps whole rest got
keeps-is whole other rest got e h = rw e h

-- what stands behind, said otherwise
pub keeps-rest : {A : Type 0} (whole : Bool) (rest other : A → Bool) (got : Result A Refusal) → ((x : A) → other x ≡ rest x) → Keeps whole other got → Keeps whole rest got
keeps-rest whole rest other (Ok x) same h = h ∙ same x
keeps-rest whole rest other (Err e) same h = h

-- a part that is read whole, before what stands behind it
pub keeps-part : {A : Type 0} (part rest : Bool) (got : Result A Refusal) → Keeps part all got → Keeps (part && rest) (λ x. rest) got
keeps-part part rest (Ok x) h = rw h refl
keeps-part part rest (Err e) h = and-first (is_too_deep e.kind) part rest h

-- what is not shallow may be refused in any way
pub keeps-deep : {A : Type 0} (whole : Bool) (rest : A → Bool) (r : Refusal) → whole ≡ false → Keeps whole rest (Err r)
keeps-deep whole rest r e = rw e (and-false (is_too_deep r.kind))
