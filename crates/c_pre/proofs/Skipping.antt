-- A part that is skipped leaves nothing: reading may go on at its end.
use Rattle.std.proofs.Common.{◌≡◌, ℕ, suc, ◌+◌, ◌-◌, ◌<◌, ◌≤◌, ◌⊎◌, inl, inr, Bool, true, false, cond, not, List, [], ◌∷◌, ◌++◌, map, take, drop, length, get_or, slice_get, is_some, Result, Ok, Err, refl, sym, ap, subst, ◌∙◌, arith, length-append}
use Rattle.std.proofs.lemmas.Bool.{cases_lt}
use Rattle.std.proofs.lemmas.List.{reverse-append, take-append-le, take-append-drop, take_all}
use Rattle.std.proofs.lemmas.List.Folds.{list_all-append}
use Rattle.std.proofs.Math.Bool.{and-false}
use Rattle.std.proofs.Math.Seq.{take-append_seam, get_or-append_seam}
use Rattle.std.proofs.Math.ListN.{get_or-append}
use Rattle.c_text.specs.declared.place.Place.{Place}
use Rattle.c_text.specs.Refusal.{Refusal}
use Rattle.c_text.specs.Directive.{Line, text, standard, quoted, define, conditional, otherwise, endif, unbalanced, refused}
use Rattle.cg_out.specs.Words.{◌>>=◌, same_bool}
use Rattle.c_text.specs.Conditional.{is_read}
use Rattle.c_pre.specs.declared.line.Line.{Line as CodeLine}
use Rattle.c_pre.specs.declared.parts.FileLine.{FileLine}
use Rattle.c_pre.proofs.Whole.{shown-last}
use Rattle.c_pre.specs.Shown.{shown}
use Rattle.c_pre.specs.Run.{Progress, look, taken, passed, reads_then, ran}
use Rattle.c_pre.specs.Balance.{is_flag}
use Rattle.c_pre.specs.Parts.{first_or, end_of, open_behind, lines_in, EndsAt, KnowEnds}

-- ---- lines from the last to the first

pub lines_in-more : (es : List FileLine) (e : FileLine) → lines_in (es ++ e ∷ []) ≡ shown e.line ∷ lines_in es
lines_in-more es e = ap (map (λ f. shown f.line)) (reverse-append es (e ∷ []))

-- ---- open parts

-- behind so many conditionals inside a part that is skipped, its end is known
pub record LeadsTo (depth n : ℕ) (es : List FileLine) : Type 0 where
  pub within : n ≤ length es
  pub same : (q : Progress → Result Progress Refusal) (inner reads : List Bool) (s : Progress) → length inner ≡ depth → ran q (inner ++ false ∷ reads) s (lines_in es) ≡ ran q (false ∷ reads) s (lines_in (take n es))

abbrev pub KnowOpen : ℕ → List ℕ → List FileLine → Type 0
KnowOpen depth [] es = Unit {0}
KnowOpen depth (n ∷ ns) es = LeadsTo depth n es × KnowOpen (suc depth) ns es

-- a line in a part that is skipped changes nothing but which conditionals are open
abbrev StepsTo : ℕ → ℕ → Line Place → Type 0
StepsTo before depth l = (q : Progress → Result Progress Refusal) (inner reads : List Bool) (s : Progress) (ls : List (Line Place)) → length inner ≡ before
    → (then : List Bool) × (length then ≡ depth) × (ran q (inner ++ false ∷ reads) s (l ∷ ls) ≡ ran q (then ++ false ∷ reads) s ls)

leads-on : (before depth n : ℕ) (es : List FileLine) (e : FileLine) → StepsTo before depth (shown e.line) → LeadsTo depth n es → LeadsTo before n (es ++ e ∷ [])
leads-on before depth n es e step known = record {
  within = omega (arith, known.within, length-append es (e ∷ []));
  same = λ q inner reads s h.
      let t = step q inner reads s (lines_in es) h in
      ap (ran q (inner ++ false ∷ reads) s) (lines_in-more es e)
      ∙ t.2
      ∙ known.same q t.0 reads s t.1
      ∙ ap (λ ls. ran q (false ∷ reads) s (lines_in ls)) (sym (take-append-le n es (e ∷ []) known.within));
}

-- the conditionals that are open stay as many, or are one less or one more
opens-same : (depth : ℕ) (ns : List ℕ) (es : List FileLine) (e : FileLine) → ((d : ℕ) → StepsTo d d (shown e.line)) → KnowOpen depth ns es → KnowOpen depth ns (es ++ e ∷ [])
opens-same depth [] es e step known = tt
opens-same depth (n ∷ ns) es e step known = (leads-on depth depth n es e (step depth) known.0, opens-same (suc depth) ns es e step known.1)

opens-less : (depth : ℕ) (ns : List ℕ) (es : List FileLine) (e : FileLine) → ((d : ℕ) → StepsTo (suc d) d (shown e.line)) → KnowOpen depth ns es → KnowOpen (suc depth) ns (es ++ e ∷ [])
opens-less depth [] es e step known = tt
opens-less depth (n ∷ ns) es e step known = (leads-on (suc depth) depth n es e (step depth) known.0, opens-less (suc depth) ns es e step known.1)

opens-more : (depth : ℕ) (ns : List ℕ) (es : List FileLine) (e : FileLine) → ((d : ℕ) → StepsTo d (suc d) (shown e.line)) → KnowOpen (suc depth) ns es → KnowOpen depth ns (es ++ e ∷ [])
opens-more depth [] es e step known = tt
opens-more depth (n ∷ ns) es e step known = (leads-on depth (suc depth) n es e (step depth) known.0, opens-more (suc depth) ns es e step known.1)

opens-inside : (depth : ℕ) (ns : List ℕ) (es : List FileLine) (e : FileLine) → ((d : ℕ) → StepsTo (suc d) (suc d) (shown e.line)) → KnowOpen (suc depth) ns es → KnowOpen (suc depth) ns (es ++ e ∷ [])
opens-inside depth [] es e step known = tt
opens-inside depth (n ∷ ns) es e step known = (leads-on (suc depth) (suc depth) n es e (step depth) known.0, opens-inside (suc depth) ns es e step known.1)

-- ---- single lines in a part that is skipped

not-read : (inner reads : List Bool) → is_read (inner ++ false ∷ reads) ≡ false
not-read inner reads = list_all-append (λ r. r) inner (false ∷ reads) ∙ and-false (is_read inner)

past : (q : Progress → Result Progress Refusal) (reads : List Bool) (s : Progress) (ls : List (Line Place)) (x : Result Progress Refusal) → is_read reads ≡ false → ((cond (is_read reads) x (Ok s)) >>= (λ new. ran q reads new ls)) ≡ ran q reads s ls
past q reads s ls x e = ap (λ b. cond b x (Ok s) >>= λ new. ran q reads new ls) e

step-text : (ts : _) (d : ℕ) → StepsTo d d (text ts)
step-text ts d = λ q inner reads s ls h. (inner, h, past q (inner ++ false ∷ reads) s ls (taken s (text ts)) (not-read inner reads))

step-standard : (k : _) (d : ℕ) → StepsTo d d (standard k)
step-standard k d = λ q inner reads s ls h. (inner, h, past q (inner ++ false ∷ reads) s ls (taken s (standard k)) (not-read inner reads))

step-quoted : (d : ℕ) → StepsTo d d quoted
step-quoted d = λ q inner reads s ls h. (inner, h, past q (inner ++ false ∷ reads) s ls (q s) (not-read inner reads))

step-define : (p : Place) (name : List ℕ) (body : _) (d : ℕ) → StepsTo d d (define p name body)
step-define p name body d = λ q inner reads s ls h. (inner, h, past q (inner ++ false ∷ reads) s ls (taken s (define p name body)) (not-read inner reads))

step-refused : (p : Place) (kind : _) (d : ℕ) → StepsTo d d (refused p kind)
step-refused p kind d = λ q inner reads s ls h. (inner, h, past q (inner ++ false ∷ reads) s ls (taken s (refused p kind)) (not-read inner reads))

step-conditional : (p : Place) (wanted : Bool) (name : List ℕ) (d : ℕ) → StepsTo d (suc d) (conditional p wanted name)
step-conditional p wanted name d = λ q inner reads s ls h. (same_bool wanted (is_some (look name s.macros)) ∷ inner, omega arith, refl)

turned-inside : (q : Progress → Result Progress Refusal) (p : Place) (d : ℕ) (inner reads : List Bool) (s : Progress) (ls : List (Line Place)) → length inner ≡ suc d
    → (then : List Bool) × (length then ≡ suc d) × (ran q (inner ++ false ∷ reads) s (otherwise p ∷ ls) ≡ ran q (then ++ false ∷ reads) s ls)
turned-inside q p d [] reads s ls h = absurd (omega arith)
turned-inside q p d (r ∷ rs) reads s ls h = (not r ∷ rs, omega arith, refl)

step-otherwise : (p : Place) (d : ℕ) → StepsTo (suc d) (suc d) (otherwise p)
step-otherwise p d = λ q inner reads s ls h. turned-inside q p d inner reads s ls h

closed-inside : (q : Progress → Result Progress Refusal) (p : Place) (d : ℕ) (inner reads : List Bool) (s : Progress) (ls : List (Line Place)) → length inner ≡ suc d
    → (then : List Bool) × (length then ≡ d) × (ran q (inner ++ false ∷ reads) s (endif p ∷ ls) ≡ ran q (then ++ false ∷ reads) s ls)
closed-inside q p d [] reads s ls h = absurd (omega arith)
closed-inside q p d (r ∷ rs) reads s ls h = (rs, omega arith, refl)

step-endif : (p : Place) (d : ℕ) → StepsTo (suc d) d (endif p)
step-endif p d = λ q inner reads s ls h. closed-inside q p d inner reads s ls h

-- ---- one more line

-- a part that ends at the line itself
leads-here : (es : List FileLine) → LeadsTo 0 (length es) es
leads-here es = record { within = omega arith; same = λ q inner reads s h. here q inner reads s h }
  where
    here : (q : Progress → Result Progress Refusal) (inner reads : List Bool) (s : Progress) → length inner ≡ 0 → ran q (inner ++ false ∷ reads) s (lines_in es) ≡ ran q (false ∷ reads) s (lines_in (take (length es) es))
    here q [] reads s h = ap (λ ls. ran q (false ∷ reads) s (lines_in ls)) (sym (take_all (length es) es (omega arith)))
    here q (b ∷ bs) reads s h = absurd (omega arith)

leads-new : (es : List FileLine) (e : FileLine) → LeadsTo 0 (length es + 1) (es ++ e ∷ [])
leads-new es e = let n : length (es ++ e ∷ []) ≡ length es + 1 = length-append es (e ∷ []) in subst (λ m. LeadsTo 0 m (es ++ e ∷ [])) n (leads-here (es ++ e ∷ []))

open-on : (ns : List ℕ) (es : List FileLine) (e : FileLine) (l : Line Place) → shown e.line ≡ l → KnowOpen 0 ns es → KnowOpen 0 (open_behind l ns (length es)) (es ++ e ∷ [])
open-on ns es e (text ts) is known = opens-same 0 ns es e (λ d. subst (StepsTo d d) (sym is) (step-text ts d)) known
open-on ns es e (standard k) is known = opens-same 0 ns es e (λ d. subst (StepsTo d d) (sym is) (step-standard k d)) known
open-on ns es e quoted is known = opens-same 0 ns es e (λ d. subst (StepsTo d d) (sym is) (step-quoted d)) known
open-on ns es e (define p name body) is known = opens-same 0 ns es e (λ d. subst (StepsTo d d) (sym is) (step-define p name body d)) known
open-on [] es e (conditional p wanted name) is known = tt
open-on (n ∷ ns) es e (conditional p wanted name) is known = opens-more 0 ns es e (λ d. subst (StepsTo d (suc d)) (sym is) (step-conditional p wanted name d)) known.1
open-on [] es e (otherwise p) is known = tt
open-on (n ∷ ns) es e (otherwise p) is known = (leads-new es e, opens-inside 0 ns es e (λ d. subst (StepsTo (suc d) (suc d)) (sym is) (step-otherwise p d)) known.1)
open-on ns es e (endif p) is known = (leads-new es e, opens-less 0 ns es e (λ d. subst (StepsTo (suc d) d) (sym is) (step-endif p d)) known)
open-on ns es e (unbalanced p) is known = tt
open-on ns es e (refused p kind) is known = opens-same 0 ns es e (λ d. subst (StepsTo d d) (sym is) (step-refused p kind d)) known

ends-where : (n : ℕ) (es : List FileLine) → LeadsTo 0 n es → EndsAt es n
ends-where n es known = record { within = known.within; same = λ q reads s. known.same q [] reads s refl }

ends-first : (ns : List ℕ) (es : List FileLine) → KnowOpen 0 ns es → EndsAt es (first_or (length es) ns)
ends-first [] es known = ends-where (length es) es (leads-here es)
ends-first (n ∷ ns) es known = ends-where n es known.0

end-known : (l : Line Place) (ns : List ℕ) (es : List FileLine) → KnowOpen 0 ns es → EndsAt es (end_of l ns (length es))
end-known (text ts) ns es known = ends-where (length es) es (leads-here es)
end-known (standard k) ns es known = ends-where (length es) es (leads-here es)
end-known quoted ns es known = ends-where (length es) es (leads-here es)
end-known (define p name body) ns es known = ends-where (length es) es (leads-here es)
end-known (conditional p wanted name) ns es known = ends-first ns es known
end-known (otherwise p) ns es known = ends-first ns es known
end-known (endif p) ns es known = ends-where (length es) es (leads-here es)
end-known (unbalanced p) ns es known = ends-where (length es) es (leads-here es)
end-known (refused p kind) ns es known = ends-where (length es) es (leads-here es)

moved : (es fs : List FileLine) (m n : ℕ) → es ≡ fs → m ≡ n → EndsAt es m → EndsAt fs n
moved es fs m n e f known = subst (λ xs. EndsAt xs n) e (subst (EndsAt es) f known)

ends-on : (es : List FileLine) (e : FileLine) → EndsAt es e.end → KnowEnds es → KnowEnds (es ++ e ∷ [])
ends-on es e last known = λ k d h. by k d (cases_lt k (length es)) h
  where
    by : (k : ℕ) (d : FileLine) → (k < length es) ⊎ (length es ≤ k) → k < length (es ++ e ∷ []) → EndsAt (take k (es ++ e ∷ [])) (get_or (es ++ e ∷ []) k d).end
    by k d (inl below) h =
        moved (take k es) (take k (es ++ e ∷ [])) (get_or es k d).end (get_or (es ++ e ∷ []) k d).end (sym (take-append-le k es (e ∷ []) (omega arith))) (ap (λ (f : FileLine). f.end) (sym (get_or-append es (e ∷ []) d k below))) (known k d below)
    by k d (inr above) h =
        let at : length es ≡ k = omega (arith, length-append es (e ∷ [])) in
        moved es (take k (es ++ e ∷ [])) e.end (get_or (es ++ e ∷ []) k d).end (sym (take-append_seam es (e ∷ [])) ∙ ap (λ n. take n (es ++ e ∷ [])) at) (ap (λ (f : FileLine). f.end) (sym (get_or-append_seam es e [] d) ∙ ap (λ n. get_or (es ++ e ∷ []) n d) at)) last

pub known-on : (ns : List ℕ) (es : List FileLine) (e : FileLine) → e.end ≡ end_of (shown e.line) ns (length es) → KnowOpen 0 ns es → KnowEnds es
    → KnowOpen 0 (open_behind (shown e.line) ns (length es)) (es ++ e ∷ []) × KnowEnds (es ++ e ∷ [])
known-on ns es e end known ends = (open-on ns es e (shown e.line) refl known, ends-on es e (subst (EndsAt es) (sym end) (end-known (shown e.line) ns es known)) ends)

-- ---- reading

pub known-front : (xs ys : List FileLine) → KnowEnds (xs ++ ys) → KnowEnds xs
known-front xs ys known = λ k d h.
    moved (take k (xs ++ ys)) (take k xs) (get_or (xs ++ ys) k d).end (get_or xs k d).end (take-append-le k xs ys (omega arith)) (ap (λ (f : FileLine). f.end) (get_or-append xs ys d k h)) (known k d (omega (arith, length-append xs ys)))

pub last-end : (rest : List FileLine) (e : FileLine) → KnowEnds (rest ++ e ∷ []) → EndsAt rest e.end
last-end rest e known =
    moved (take (length rest) (rest ++ e ∷ [])) rest (get_or (rest ++ e ∷ []) (length rest) e).end e.end (take-append_seam rest (e ∷ [])) (ap (λ (f : FileLine). f.end) (get_or-append_seam rest e [] e)) (known (length rest) e (omega (arith, length-append rest (e ∷ []))))

abbrev pub left_then : List Bool → FileLine → List FileLine → List FileLine
left_then reads e rest = cond (is_flag false (slice_get reads 0)) (take e.end rest) rest

known-then : (reads : List Bool) (e : FileLine) (rest : List FileLine) → KnowEnds (rest ++ e ∷ []) → KnowEnds (left_then reads e rest)
known-then reads e rest known = by (is_flag false (slice_get reads 0))
  where
    by : (b : Bool) → KnowEnds (cond b (take e.end rest) rest)
    by true = known-front (take e.end rest) (drop e.end rest) (subst KnowEnds (sym (take-append-drop e.end rest)) (known-front rest (e ∷ []) known))
    by false = known-front rest (e ∷ []) known

same-then : (q : Progress → Result Progress Refusal) (reads : List Bool) (s : Progress) (e : FileLine) (rest : List FileLine) → EndsAt rest e.end → ran q reads s (lines_in (left_then reads e rest)) ≡ ran q reads s (lines_in rest)
same-then q [] s e rest known = refl
same-then q (true ∷ rs) s e rest known = refl
same-then q (false ∷ rs) s e rest known = sym (known.same q rs s)

pub read-on : (q : Progress → Result Progress Refusal) (es rest left : List FileLine) (e : FileLine) (reads then : List Bool) (s new : Progress) (all : Result Progress Refusal)
    → es ≡ rest ++ e ∷ [] → KnowEnds es → passed q reads s (shown e.line) ≡ Ok new → then ≡ reads_then reads s (shown e.line) → left ≡ left_then then e rest
    → ran q reads s (lines_in es) ≡ all → (ran q then new (lines_in left) ≡ all) × KnowEnds left
read-on q es rest left e reads then s new all is known p r l told =
    let known_so = subst KnowEnds is known in (
      ap (λ ls. ran q then new (lines_in ls)) l
          ∙ same-then q then new e rest (last-end rest e known_so)
          ∙ ap (λ rs. ran q rs new (lines_in rest)) r
          ∙ ap (λ x. x >>= λ n. ran q (reads_then reads s (shown e.line)) n (lines_in rest)) (sym p)
          ∙ ap (ran q reads s) (sym (ap lines_in is ∙ lines_in-more rest e))
          ∙ told,
      subst KnowEnds (sym l) (known-then then e rest known_so),
    )

pub stop-on : (q : Progress → Result Progress Refusal) (es rest : List FileLine) (e : FileLine) (reads : List Bool) (s : Progress) (f : Refusal) (all : Result Progress Refusal)
    → es ≡ rest ++ e ∷ [] → passed q reads s (shown e.line) ≡ Err f → ran q reads s (lines_in es) ≡ all → all ≡ Err f
stop-on q es rest e reads s f all is p told =
    sym told ∙ ap (ran q reads s) (ap lines_in is ∙ lines_in-more rest e) ∙ ap (λ x. x >>= λ n. ran q (reads_then reads s (shown e.line)) n (lines_in rest)) p

-- ---- the lines that are kept

pub line-kept : (lines : List CodeLine) (at len end : ℕ) (ends then : List ℕ) (line : CodeLine) (es new : List FileLine) → 0 < at → at ≤ length lines → line ≡ get_or lines (at - 1) line
    → len ≡ length es → end ≡ end_of (shown line) ends len → then ≡ open_behind (shown line) ends len → new ≡ es ++ record { line = line; end = end } ∷ []
    → lines_in es ≡ map shown (drop at lines) → KnowOpen 0 ends es → KnowEnds es → (lines_in new ≡ map shown (drop (at - 1) lines)) × KnowOpen 0 then new × KnowEnds new
line-kept lines at len end ends then line es new h k is n e t made told known ends_known =
    let more = known-on ends es (record { line = line; end = end }) (e ∙ ap (end_of (shown line) ends) n) known ends_known in (
      ap lines_in made ∙ lines_in-more es (record { line = line; end = end }) ∙ ap (λ ls. shown line ∷ ls) told ∙ sym (shown-last lines at line line (sym is) h k),
      subst (KnowOpen 0 then) (sym made) (subst (λ ns. KnowOpen 0 ns (es ++ record { line = line; end = end } ∷ [])) (sym (t ∙ ap (open_behind (shown line) ends) n)) more.0),
      subst KnowEnds (sym made) more.1,
    )
