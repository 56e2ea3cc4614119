-- Which lines of a unit are read: all but the conditionals, where each of these asks for a macro that is not defined.
use Rattle.std.proofs.Common.{◌≡◌, ℕ, zero, suc, ◌+◌, true, false, cond, not, List, [], ◌∷◌, ◌++◌, map, replicate, Option, Some, None, refl, sym, ap, subst, ◌∙◌, append-nil, arith}
use Rattle.c_text.specs.SeenToken.{Bare}
use Rattle.c_text.specs.StandardHeader.{Header}
use Rattle.c_text.specs.Directive.{text, standard, quoted, conditional, endif, define as define_line}
use Rattle.c_text.specs.MacroDefinition.{is_macro}
use Rattle.c_text.specs.Conditional.{is_ended, if_ended, balanced, is_read, read_lines}
use Rattle.c_text.proofs.Group.{IsGroup, group-none, group-line, group-append, plain-text, plain-standard, plain-define}
use Rattle.c_printed.specs.PrintedUnit.{Part, comment, blank, include, include_beside, define, if_not_defined, end_if, structure, routine}
use Rattle.c_printed.specs.PrintedItem.{struct_text, function_text}
use Rattle.c_printed.specs.State.{header_named, listed}
use Rattle.c_printed.specs.PrintableUnit.{Balanced}
use Rattle.c_printed.proofs.PartLines.{BareLine, groups_of, body_bares, unit_lines}

-- ---- what is left of the lines

abbrev pub kept_part : (List BareLine → List BareLine) → List BareLine → Part → List BareLine
kept_part header before (if_not_defined n) = []
kept_part header before end_if = []
kept_part header before (include_beside n) = header before
kept_part header before (comment t) = []
kept_part header before blank = []
kept_part header before (include n) = map standard (listed (header_named n))
kept_part header before (define n body) = define_line tt n (body_bares body) ∷ []
kept_part header before (structure tag fs) = map text (groups_of (struct_text tag fs))
kept_part header before (routine h body) = map text (groups_of (function_text h body))

abbrev pub kept : (List BareLine → List BareLine) → List BareLine → List Part → List BareLine
kept header before [] = []
kept header before (p ∷ ps) = kept_part header before p ++ kept header (before ++ kept_part header before p) ps

-- no conditional asks for a macro that is defined before it
abbrev pub Unasked : List BareLine → Part → Type 0
Unasked before (if_not_defined n) = is_macro n before ≡ false
Unasked before p = Unit {0}

abbrev pub AllUnasked : (List BareLine → List BareLine) → List BareLine → List Part → Type 0
AllUnasked header before [] = Unit {0}
AllUnasked header before (p ∷ ps) = Unasked before p × AllUnasked header (before ++ kept_part header before p) ps

-- ---- groups

pub group-texts : (gs : List (List Bare)) → IsGroup (map text gs) (λ before. map text gs)
group-texts [] = group-none
group-texts (g ∷ gs) = group-append (text g ∷ []) (map text gs) (λ before. text g ∷ []) (λ before. map text gs) (group-line (text g) (plain-text g)) (group-texts gs)

group-listed : (h : Option Header) → IsGroup {P = Unit {0}} (map standard (listed h)) (λ before. map standard (listed h))
group-listed None = group-none
group-listed (Some h) = group-line (standard h) (plain-standard h)

-- ---- whole conditionals

one-less : (m : ℕ) (ps : List Part) (n : ℕ) → n ≡ suc m → Balanced n (end_if ∷ ps) → Balanced m ps
one-less m ps zero e h = absurd h
one-less m ps (suc n) e h = let i : n ≡ m = omega (arith, e) in subst (λ x. Balanced x ps) i h

ended : (k d : ℕ) (ps : List Part) → Balanced (k + suc d) ps → is_ended k (unit_lines ps) ≡ true
ended k d [] h = absurd (omega (arith, h))
ended k d (comment t ∷ ps) h = ended k d ps h
ended k d (blank ∷ ps) h = ended k d ps h
ended k d (include n ∷ ps) h = (group-listed (header_named n)).closed k (unit_lines ps) ∙ ended k d ps h
ended k d (include_beside n ∷ ps) h = ended k d ps h
ended k d (define n body ∷ ps) h = ended k d ps h
ended k d (if_not_defined n ∷ ps) h = let e : suc (k + suc d) ≡ suc k + suc d = omega arith in ended (suc k) d ps (subst (λ x. Balanced x ps) e h)
ended zero d (end_if ∷ ps) h = refl
ended (suc k) d (end_if ∷ ps) h = ended k d ps (one-less (k + suc d) ps (suc k + suc d) (omega arith) h)
ended k d (structure tag fs ∷ ps) h = (group-texts (groups_of (struct_text tag fs))).closed k (unit_lines ps) ∙ ended k d ps h
ended k d (routine f body ∷ ps) h = (group-texts (groups_of (function_text f body))).closed k (unit_lines ps) ∙ ended k d ps h

pub balanced-is : (d : ℕ) (ps : List Part) → Balanced d ps → balanced (replicate d false) (unit_lines ps) ≡ unit_lines ps
balanced-is d [] h = refl
balanced-is d (comment t ∷ ps) h = balanced-is d ps h
balanced-is d (blank ∷ ps) h = balanced-is d ps h
balanced-is d (include n ∷ ps) h = (group-listed (header_named n)).whole (replicate d false) (unit_lines ps) ∙ ap (λ ls. map standard (listed (header_named n)) ++ ls) (balanced-is d ps h)
balanced-is d (include_beside n ∷ ps) h = ap (λ ls. quoted ∷ ls) (balanced-is d ps h)
balanced-is d (define n body ∷ ps) h = ap (λ ls. define_line tt n (body_bares body) ∷ ls) (balanced-is d ps h)
balanced-is d (if_not_defined n ∷ ps) h =
    ap (λ b. if_ended b (conditional tt false n) tt ∷ balanced (false ∷ replicate d false) (unit_lines ps)) (let e : suc d ≡ 0 + suc d = omega arith in ended 0 d ps (subst (λ x. Balanced x ps) e h)) ∙ ap (λ ls. conditional tt false n ∷ ls) (balanced-is (suc d) ps h)
balanced-is zero (end_if ∷ ps) h = absurd h
balanced-is (suc d) (end_if ∷ ps) h = ap (λ ls. endif tt ∷ ls) (balanced-is d ps h)
balanced-is d (structure tag fs ∷ ps) h =
    let gs = groups_of (struct_text tag fs) in (group-texts gs).whole (replicate d false) (unit_lines ps) ∙ ap (λ ls. map text gs ++ ls) (balanced-is d ps h)
balanced-is d (routine f body ∷ ps) h =
    let gs = groups_of (function_text f body) in (group-texts gs).whole (replicate d false) (unit_lines ps) ∙ ap (λ ls. map text gs ++ ls) (balanced-is d ps h)

-- ---- lines that are read

all-read : (d : ℕ) → is_read (replicate d true) ≡ true
all-read zero = refl
all-read (suc d) = all-read d

module _ (header : List BareLine → List BareLine) where
  pub lines-read : (d : ℕ) (before : List BareLine) (ps : List Part) → Balanced d ps → AllUnasked header before ps → read_lines header (replicate d true) before (unit_lines ps) ≡ kept header before ps
  lines-read d before [] h u = refl
  lines-read d before (comment t ∷ ps) h u = ap (λ b. read_lines header (replicate d true) b (unit_lines ps)) (sym (append-nil before)) ∙ lines-read d (before ++ []) ps h u.1
  lines-read d before (blank ∷ ps) h u = ap (λ b. read_lines header (replicate d true) b (unit_lines ps)) (sym (append-nil before)) ∙ lines-read d (before ++ []) ps h u.1
  lines-read d before (include n ∷ ps) h u =
      let ls = map standard (listed (header_named n)) in
      (group-listed (header_named n)).read header (replicate d true) before (unit_lines ps) (all-read d) ∙ ap (λ r. ls ++ r) (lines-read d (before ++ ls) ps h u.1)
  lines-read d before (include_beside n ∷ ps) h u =
      ap (λ b. cond b (header before) [] ++ read_lines header (replicate d true) (before ++ cond b (header before) []) (unit_lines ps)) (all-read d)
      ∙ ap (λ r. header before ++ r) (lines-read d (before ++ header before) ps h u.1)
  lines-read d before (define n body ∷ ps) h u =
      let l = define_line tt n (body_bares body) in
      (group-line l (plain-define tt n (body_bares body))).read header (replicate d true) before (unit_lines ps) (all-read d) ∙ ap (λ r. l ∷ r) (lines-read d (before ++ l ∷ []) ps h u.1)
  lines-read d before (if_not_defined n ∷ ps) h u =
      ap (λ b. read_lines header (not b ∷ replicate d true) (before ++ []) (unit_lines ps)) u.0 ∙ lines-read (suc d) (before ++ []) ps h u.1
  lines-read zero before (end_if ∷ ps) h u = absurd h
  lines-read (suc d) before (end_if ∷ ps) h u = lines-read d (before ++ []) ps h u.1
  lines-read d before (structure tag fs ∷ ps) h u =
      let gs = groups_of (struct_text tag fs) in
      (group-texts gs).read header (replicate d true) before (unit_lines ps) (all-read d) ∙ ap (λ r. map text gs ++ r) (lines-read d (before ++ map text gs) ps h u.1)
  lines-read d before (routine f body ∷ ps) h u =
      let gs = groups_of (function_text f body) in
      (group-texts gs).read header (replicate d true) before (unit_lines ps) (all-read d) ∙ ap (λ r. map text gs ++ r) (lines-read d (before ++ map text gs) ps h u.1)
