-- A file's tokens, cut into lines.
use Rattle.std.proofs.Common.{◌≡◌, ℕ, suc, ◌+◌, ◌≤◌, Bool, true, false, cond, ◌&&◌, not, codes, List, [], ◌∷◌, ◌++◌, map, length, get_or, take, drop, Option, Some, None, refl, sym, ap, ◌∙◌, arith, append_assoc}
use Rattle.std.proofs.lemmas.List.{map-append}
use Rattle.std.specs.List.{prefix_len}
use Rattle.c_text.specs.declared.place.Place.{Place}
use Rattle.c_text.specs.declared.token.Token.{Token}
use Rattle.c_text.specs.SeenToken.{Seen, is_end, seen_behind}
use Rattle.c_text.specs.Directive.{Line, text, begins_fresh, before_lines, lines, directive, line_of, lines_of}
use Rattle.c_text.specs.StandardHeader.{is_mark}
use Rattle.c_pre.specs.declared.line.Line.{Line as CodeLine}
use Rattle.c_pre.proofs.Seen.{unjoined_seen}
use Rattle.c_pre.specs.Shown.{flats, shown, unjoined, told, starts_line, before_cut, cut}
use Rattle.c_pre.specs.Merging.{begins_directive, is_directive, merged}

-- ---- one line at a time

-- how many tokens of the line follow its first
abbrev pub more : List Token → ℕ
more ts = prefix_len (λ t. not t.fresh) ts

pub one-more : (n : ℕ) → 1 + n ≡ suc n
one-more n = omega arith

pub cut-first : (t : Token) (ts : List Token) → cut (t ∷ ts) ≡ (t ∷ take (more ts) ts) ∷ cut (drop (more ts) ts)
cut-first t [] = refl
cut-first t (u ∷ us) = by u.fresh refl (cut-first u us)
  where
    by : (b : Bool) → u.fresh ≡ b → cut (u ∷ us) ≡ (u ∷ take (more us) us) ∷ cut (drop (more us) us) → cut (t ∷ u ∷ us) ≡ (t ∷ take (more (u ∷ us)) (u ∷ us)) ∷ cut (drop (more (u ∷ us)) (u ∷ us))
    by true f e = (λ i. before_cut (f i) t (cut (u ∷ us))) ∙ sym (ap (λ b. (t ∷ take (cond (not b) (1 + more us) 0) (u ∷ us)) ∷ cut (drop (cond (not b) (1 + more us) 0) (u ∷ us))) f)
    by false f e =
        (λ i. before_cut (f i) t (e i))
        ∙ ap (λ n. (t ∷ take n (u ∷ us)) ∷ cut (drop n (u ∷ us))) (sym (one-more (more us)))
        ∙ sym (ap (λ b. (t ∷ take (cond (not b) (1 + more us) 0) (u ∷ us)) ∷ cut (drop (cond (not b) (1 + more us) 0) (u ∷ us))) f)

-- ---- tokens seen

abbrev end_behind : Option ℕ → List Token → Option ℕ
end_behind end [] = end
end_behind end (t ∷ ts) = end_behind (Some t.place.end) ts

abbrev seen_lines : Option ℕ → List (List Token) → List (List (Seen Place))
seen_lines end [] = []
seen_lines end (l ∷ ls) = seen_behind end l ∷ seen_lines (end_behind end l) ls

abbrev seen_at : Option ℕ → Token → Seen Place
seen_at end t = record { kind = t.kind; fresh = t.fresh; joined = is_end end t.place.start; kept = t.place }

starts-fresh : (end : Option ℕ) (ts : List Token) → begins_fresh (seen_behind end ts) ≡ starts_line ts
starts-fresh end [] = refl
starts-fresh end (t ∷ ts) = refl

before-cut : (b : Bool) (end : Option ℕ) (t : Token) (ls : List (List Token)) → before_lines b (seen_at end t) (seen_lines (Some t.place.end) ls) ≡ seen_lines end (before_cut b t ls)
before-cut true end t ls = refl
before-cut false end t [] = refl
before-cut false end t (l ∷ ls) = refl

lines-cut : (end : Option ℕ) (ts : List Token) → lines (seen_behind end ts) ≡ seen_lines end (cut ts)
lines-cut end [] = refl
lines-cut end (t ∷ ts) =
    (λ i. before_lines (starts-fresh (Some t.place.end) ts i) (seen_at end t) (lines-cut (Some t.place.end) ts i))
    ∙ before-cut (starts_line ts) end t (cut ts)

-- where the token before ends says nothing of a line
told-anywhere : (beside : Option (List ℕ)) (end : Option ℕ) (ts : List Token) → unjoined (line_of beside (seen_behind end ts)) ≡ told beside ts
told-anywhere beside end [] = refl
told-anywhere beside end (t ∷ ts) = by (t.fresh && is_mark (codes "#") t.kind)
  where
    by : (b : Bool) → unjoined (cond b (directive beside t.place (seen_behind (Some t.place.end) ts)) (text (seen_behind end (t ∷ ts)))) ≡ unjoined (cond b (directive beside t.place (seen_behind (Some t.place.end) ts)) (text (seen_behind None (t ∷ ts))))
    by true = refl
    by false = ap text (unjoined_seen end (t ∷ ts) ∙ sym (unjoined_seen None (t ∷ ts)))

told-lines : (beside : Option (List ℕ)) (end : Option ℕ) (ls : List (List Token)) → map unjoined (map (line_of beside) (seen_lines end ls)) ≡ map (told beside) ls
told-lines beside end [] = refl
told-lines beside end (l ∷ ls) = (λ i. told-anywhere beside end l i ∷ told-lines beside (end_behind end l) ls i)

-- the lines of the tokens seen are those of the tokens cut
pub lines-told : (beside : Option (List ℕ)) (ts : List Token) → map unjoined (lines_of beside (seen_behind None ts)) ≡ map (told beside) (cut ts)
lines-told beside ts = ap (λ ls. map unjoined (map (line_of beside) ls)) (lines-cut None ts) ∙ told-lines beside None (cut ts)

-- ---- the code's loop

-- a line that is no directive
pub told-text : (beside : Option (List ℕ)) (ts : List Token) → is_directive ts ≡ false → told beside ts ≡ text (flats ts)
told-text beside [] h = refl
told-text beside (t ∷ ts) h =
    ap (λ b. unjoined (cond b (directive beside t.place (seen_behind (Some t.place.end) ts)) (text (seen_behind None (t ∷ ts))))) h
    ∙ ap text (unjoined_seen None (t ∷ ts))

pub text-told : (beside : Option (List ℕ)) (ts : List Token) (x : Token) → 1 ≤ length ts → x ≡ get_or ts 0 x → begins_directive x ≡ false → text (flats ts) ≡ told beside ts
text-told beside [] x h e b = absurd (omega arith)
text-told beside (t ∷ ts) x h e b = sym (told-text beside (t ∷ ts) (ap begins_directive (sym e) ∙ b))

pub line-on : (beside : Option (List ℕ)) (lines : List CodeLine) (line : CodeLine) (ls : List Token) (n : ℕ) (front back : List Token) (all : List (Line Place)) → merged (cut ls) ≡ take n ls ∷ merged (cut (drop n ls))
    → front ≡ take n ls → back ≡ drop n ls → shown line ≡ told beside front → map shown lines ++ map (told beside) (merged (cut ls)) ≡ all → map shown (lines ++ line ∷ []) ++ map (told beside) (merged (cut back)) ≡ all
line-on beside lines line ls n front back all first f b is told_so =
    ap (λ xs. xs ++ map (told beside) (merged (cut back))) (map-append shown lines (line ∷ []))
    ∙ append_assoc (map shown lines) (shown line ∷ []) (map (told beside) (merged (cut back)))
    ∙ (λ i. map shown lines ++ (is ∙ ap (told beside) f) i ∷ map (told beside) (merged (cut (b i))))
    ∙ ap (λ xs. map shown lines ++ map (told beside) xs) (sym first)
    ∙ told_so
