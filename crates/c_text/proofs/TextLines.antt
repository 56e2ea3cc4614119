-- Texts of whole lines: they may be put together line by line.
use Rattle.std.proofs.Common.{◌≡◌, ℕ, Bool, true, false, List, [], ◌∷◌, ◌++◌, map, Option, Some, None, Result, Ok, Err, refl, sym, ap, ◌∙◌, append_assoc, append-nil}
use Rattle.std.proofs.lemmas.List.{map-append}
use Rattle.c_text.specs.declared.refusal.CKind.{CKind}
use Rattle.c_text.specs.Characters.{Pass}
use Rattle.c_text.specs.Splice.{is_plain}
use Rattle.c_text.specs.Piece.{Lexeme}
use Rattle.c_text.specs.Tokens.{kinds}
use Rattle.c_text.specs.SeenToken.{Bare}
use Rattle.c_text.specs.BareTokens.{bare_gathered, ReadsAs}
use Rattle.c_text.specs.Directive.{begins_fresh, lines, Line, line_of, lines_of}
use Rattle.c_text.specs.Conditional.{balanced, read_lines}
use Rattle.c_text.specs.Preprocessing.{left_of, preprocessed_texts}
use Rattle.c_text.specs.BarePreprocessing.{bare_preprocessed, bare_left}
use Rattle.c_text.proofs.Joined.{read_behind, nothing-before, reads-as}
use Rattle.c_text.proofs.Boundary.{pass-append}
use Rattle.c_text.proofs.Group.{lines-append}
use Rattle.c_text.proofs.Left.{texts-bare}

-- at the beginning of a line the text is these lines, whatever follows
pub record AreLines (beside : Option (List ℕ)) (text : List ℕ) (ls : List (Line (Unit {0}))) : Type 0 where
  pub lexemes : List Lexeme
  pub cut : (rest : List ℕ) → kinds 0 (text ++ rest) ≡ lexemes ++ kinds 0 rest
  pub list : List Bare
  pub gathered : (ks : List Lexeme) → bare_gathered true false (lexemes ++ ks) ≡ read_behind (Ok list) (bare_gathered true false ks)
  pub fresh : begins_fresh list ≡ true
  pub lines : lines_of beside list ≡ ls
  pub plain : Pass is_plain text

-- ---- none, and one behind the other

pub no-lines : (beside : Option (List ℕ)) → AreLines beside [] []
no-lines beside = record { lexemes = []; cut = λ rest. refl; list = []; gathered = λ ks. nothing-before (bare_gathered true false ks); fresh = refl; lines = refl; plain = tt }

read_behind-assoc : (xs ys : List Bare) (r : Result (List Bare) CKind) → read_behind (Ok xs) (read_behind (Ok ys) r) ≡ read_behind (Ok (xs ++ ys)) r
read_behind-assoc xs ys (Ok zs) = ap (λ l. Ok l) (sym (append_assoc xs ys zs))
read_behind-assoc xs ys (Err e) = refl

begins-append : (xs ys : List Bare) → begins_fresh xs ≡ true → begins_fresh ys ≡ true → begins_fresh (xs ++ ys) ≡ true
begins-append [] ys x y = y
begins-append (b ∷ bs) ys x y = x

pub more-lines : (beside : Option (List ℕ)) (x y : List ℕ) (a b : List (Line (Unit {0}))) → AreLines beside x a → AreLines beside y b → AreLines beside (x ++ y) (a ++ b)
more-lines beside x y a b p q = record {
  lexemes = p.lexemes ++ q.lexemes;
  cut = λ rest.
      ap (kinds 0) (append_assoc x y rest) ∙ p.cut (y ++ rest) ∙ ap (λ ks. p.lexemes ++ ks) (q.cut rest) ∙ sym (append_assoc p.lexemes q.lexemes (kinds 0 rest));
  list = p.list ++ q.list;
  gathered = λ ks.
      ap (bare_gathered true false) (append_assoc p.lexemes q.lexemes ks)
      ∙ p.gathered (q.lexemes ++ ks)
      ∙ ap (read_behind (Ok p.list)) (q.gathered ks)
      ∙ read_behind-assoc p.list q.list (bare_gathered true false ks);
  fresh = begins-append p.list q.list p.fresh q.fresh;
  lines =
      ap (map (line_of beside)) (lines-append p.list q.list q.fresh)
      ∙ map-append (line_of beside) (lines p.list) (lines q.list)
      ∙ ap (λ ls. ls ++ lines_of beside q.list) p.lines
      ∙ ap (λ ls. a ++ ls) q.lines;
  plain = pass-append is_plain x y p.plain q.plain;
}

-- ---- whole texts

pub lines-read : (header : Bool) (beside : Option (List ℕ)) (text : List ℕ) (ls : List (Line (Unit {0}))) (p : AreLines beside text ls) → ReadsAs header text p.list
lines-read header beside text ls p =
    let cut : kinds 0 text ≡ p.lexemes = ap (kinds 0) (sym (append-nil text)) ∙ p.cut [] ∙ append-nil p.lexemes in
    let gathered : bare_gathered true false p.lexemes ≡ Ok p.list =
    ap (bare_gathered true false) (sym (append-nil p.lexemes)) ∙ p.gathered [] ∙ ap (λ l. Ok l) (append-nil p.list) in
    reads-as header text p.lexemes p.list p.plain cut gathered

-- what is left of two texts, by their lines
pub texts-lines : (header name source : List ℕ) (hs ss : List (Line (Unit {0}))) → AreLines None header hs → AreLines (Some name) source ss
    → bare_preprocessed (preprocessed_texts header name source) ≡ bare_left (left_of (read_lines (λ before. read_lines (λ ls. []) [] before (balanced [] hs)) [] [] (balanced [] ss)))
texts-lines header name source hs ss h s =
    texts-bare header name source h.list s.list (lines-read true None header hs h) (lines-read false (Some name) source ss s)
    ∙ ap (λ ls. bare_left (left_of (read_lines (λ before. read_lines (λ ms. []) [] before (balanced [] ls)) [] [] (balanced [] (lines_of (Some name) s.list))))) h.lines
    ∙ ap (λ ls. bare_left (left_of (read_lines (λ before. read_lines (λ ms. []) [] before (balanced [] hs)) [] [] (balanced [] ls)))) s.lines
