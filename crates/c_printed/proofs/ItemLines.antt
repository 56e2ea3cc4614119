-- A text that is read piece by piece, with a line end behind it, is lines of tokens and no directives.
use Rattle.std.proofs.Common.{◌≡◌, ℕ, Bool, true, false, ◌||◌, ◌&&◌, cond, List, [], ◌∷◌, ◌++◌, map, drop, Option, Ok, refl, sym, ap, ◌∙◌, append_assoc}
use Rattle.std.specs.Prelude.{codes}
use Rattle.std.specs.List.{list_all, AllByRecursion}
use Rattle.c_text.specs.declared.token.TokenKind.{TokenKind}
use Rattle.c_text.specs.Piece.{Lexeme, token, line_end, space, bad}
use Rattle.c_text.specs.Splice.{is_plain}
use Rattle.c_text.specs.Tokens.{kinds, onto}
use Rattle.c_text.specs.SeenToken.{Seen, Bare}
use Rattle.c_text.specs.StandardHeader.{is_mark}
use Rattle.c_text.specs.BareTokens.{bare_token, bare_gathered}
use Rattle.c_text.specs.Directive.{begins_fresh, before_lines, lines, text, directive, line_of}
use Rattle.c_text.specs.BarePreprocessing.{seen_kinds}
use Rattle.c_text.proofs.Boundary.{pass-append}
use Rattle.c_text.proofs.Joined.{read_behind, gathered-line_end}
use Rattle.c_text.proofs.TextLines.{AreLines}
use Rattle.cg_out.proofs.WordLaws.{both}
use Rattle.c_printed.proofs.SmallLaws.{not-true, and-false}
use Rattle.c_printed.proofs.Pieces.{Reads, stops, fine, tokens_in}

-- ---- the tokens of lexemes without fault

abbrev pub collected : Bool → Bool → List Lexeme → List Bare
collected fresh joined [] = []
collected fresh joined (token k ∷ ls) = bare_token k fresh joined ∷ collected false true ls
collected fresh joined (line_end ∷ ls) = collected true false ls
collected fresh joined (space ∷ ls) = collected fresh false ls
collected fresh joined (bad c ∷ ls) = []

pub clean-gathered : (fresh joined : Bool) (ls : List Lexeme) → list_all (fine false) ls ≡ true → bare_gathered fresh joined ls ≡ Ok (collected fresh joined ls)
clean-gathered fresh joined [] e = refl
clean-gathered fresh joined (token k ∷ ls) e = ap (onto (bare_token k fresh joined)) (clean-gathered false true ls (both (fine false (token k)) (list_all (fine false) ls) e).1)
clean-gathered fresh joined (line_end ∷ ls) e = clean-gathered true false ls e
clean-gathered fresh joined (space ∷ ls) e = clean-gathered fresh false ls e
clean-gathered fresh joined (bad c ∷ ls) e = cc

pub collected-kinds : (fresh joined : Bool) (ls : List Lexeme) → list_all (fine false) ls ≡ true → seen_kinds (collected fresh joined ls) ≡ tokens_in ls
collected-kinds fresh joined [] e = refl
collected-kinds fresh joined (token k ∷ ls) e = ap (λ ks. k ∷ ks) (collected-kinds false true ls (both (fine false (token k)) (list_all (fine false) ls) e).1)
collected-kinds fresh joined (line_end ∷ ls) e = collected-kinds true false ls e
collected-kinds fresh joined (space ∷ ls) e = collected-kinds fresh false ls e
collected-kinds fresh joined (bad c ∷ ls) e = cc

collected-fresh : (joined : Bool) (ls : List Lexeme) → begins_fresh (collected true joined ls) ≡ true
collected-fresh joined [] = refl
collected-fresh joined (token k ∷ ls) = refl
collected-fresh joined (line_end ∷ ls) = collected-fresh false ls
collected-fresh joined (space ∷ ls) = collected-fresh false ls
collected-fresh joined (bad c ∷ ls) = refl

-- ---- no directives

abbrev NoHash : Bare → Type 0
NoHash t = is_mark (codes "#") t.kind ≡ false

collected-no_hash : (fresh joined : Bool) (ls : List Lexeme) → list_all (fine false) ls ≡ true → AllByRecursion NoHash (collected fresh joined ls)
collected-no_hash fresh joined [] e = tt
collected-no_hash fresh joined (token k ∷ ls) e =
    let t = both (fine false (token k)) (list_all (fine false) ls) e in
    (not-true (is_mark (codes "#") k) t.0, collected-no_hash false true ls t.1)
collected-no_hash fresh joined (line_end ∷ ls) e = collected-no_hash true false ls e
collected-no_hash fresh joined (space ∷ ls) e = collected-no_hash fresh false ls e
collected-no_hash fresh joined (bad c ∷ ls) e = tt

is-text : (beside : Option (List ℕ)) (t : Bare) (ts : List Bare) → NoHash t → line_of beside (t ∷ ts) ≡ text (t ∷ ts)
is-text beside t ts h = ap (λ b. cond (t.fresh && b) (directive beside t.kept ts) (text (t ∷ ts))) h ∙ ap (λ b. cond b (directive beside t.kept ts) (text (t ∷ ts))) (and-false t.fresh)

more-text : (beside : Option (List ℕ)) (fresh : Bool) (t : Bare) (ls : List (List Bare)) → NoHash t → map (line_of beside) ls ≡ map text ls → map (line_of beside) (before_lines fresh t ls) ≡ map text (before_lines fresh t ls)
more-text beside true t ls h e = λ i. is-text beside t [] h i ∷ e i
more-text beside false t [] h e = λ i. is-text beside t [] h i ∷ []
more-text beside false t (l ∷ ls) h e = λ i. is-text beside t l h i ∷ ap (drop 1) e i

are-texts : (beside : Option (List ℕ)) (ts : List Bare) → AllByRecursion NoHash ts → map (line_of beside) (lines ts) ≡ map text (lines ts)
are-texts beside [] h = refl
are-texts beside (t ∷ ts) h = more-text beside (begins_fresh ts) t (lines ts) h.0 (are-texts beside ts h.1)

-- ---- all tokens of some lines

abbrev pub flat : {P : Type 0} → List (List (Seen P)) → List (Seen P)
flat [] = []
flat (l ∷ ls) = l ++ flat ls

flat-before : {P : Type 0} (fresh : Bool) (t : Seen P) (ls : List (List (Seen P))) → flat (before_lines fresh t ls) ≡ t ∷ flat ls
flat-before true t ls = refl
flat-before false t [] = refl
flat-before false t (l ∷ ls) = refl

flat-lines : {P : Type 0} (ts : List (Seen P)) → flat (lines ts) ≡ ts
flat-lines [] = refl
flat-lines (t ∷ ts) = flat-before (begins_fresh ts) t (lines ts) ∙ ap (λ us. t ∷ us) (flat-lines ts)

-- ---- the whole

pub text-lines : (beside : Option (List ℕ)) (free : Bool) (x : List ℕ) (ks : List TokenKind) (p : Reads false free x ks) → ((rest : List ℕ) → (free || stops (10 ∷ rest)) ≡ true)
    → AreLines beside (x ++ 10 ∷ []) (map text (lines (collected true false p.lexemes)))
text-lines beside free x ks p stop =
    let list = collected true false p.lexemes in
    record {
      lexemes = p.lexemes ++ line_end ∷ [];
      cut = λ rest.
          ap (kinds 0) (append_assoc x (10 ∷ []) rest) ∙ p.cut (10 ∷ rest) (stop rest) ∙ sym (append_assoc p.lexemes (line_end ∷ []) (kinds 0 rest));
      list = list;
      gathered = λ ls.
          ap (bare_gathered true false) (append_assoc p.lexemes (line_end ∷ []) ls) ∙ gathered-line_end true false p.lexemes ls
          ∙ ap (λ r. read_behind r (bare_gathered true false ls)) (clean-gathered true false p.lexemes p.clean);
      fresh = collected-fresh false p.lexemes;
      lines = are-texts beside list (collected-no_hash true false p.lexemes p.clean);
      plain = pass-append is_plain x (10 ∷ []) p.plain (refl, tt);
    }

pub text-kinds : (free : Bool) (x : List ℕ) (ks : List TokenKind) (p : Reads false free x ks) → seen_kinds (flat (lines (collected true false p.lexemes))) ≡ ks
text-kinds free x ks p = ap seen_kinds (flat-lines (collected true false p.lexemes)) ∙ collected-kinds true false p.lexemes p.clean ∙ p.are
