use Rattle.std.proofs.Common.{◌≡◌, ℕ, ◌+◌, ◌<◌, ◌≤◌, Bool, true, false, List, [], ◌∷◌, length, take, drop, get_or, refl, sym, ap, ◌∙◌, arith, drop-cons, length-drop}
use Rattle.std.proofs.lemmas.Bool.Decides.{nat_tests}
use Rattle.std.proofs.lemmas.List.{nil_from_length, length-take}
use Rattle.std.proofs.lemmas.List.Sums.{count_by-le-length}
use Rattle.c_text.specs.Characters.{is_line_end}
use Rattle.c_text.specs.declared.token.Token.{Token}
use Rattle.c_text.specs.Piece.{Lexeme, token, line_end, space, bad, piece}
use Rattle.c_lexer.specs.Lexemes.{lexeme_of, reach_of}
use Rattle.c_text.specs.Tokens.{Placed, gathered, tokens}
use Rattle.c_lexer.proofs.Scan.{InFront, stands_at, all_onto, answer, answer-all, answer-splice, answer-bad, answer-step, pushed, reach-most}
use Rattle.c_lexer.proofs.lexing.tokens.Goals as goal
use Rattle.c_lexer.proofs.lexing.tokens.Goals.{in-Token+in_ok-push-in-Token, in-LineEnd, in-Space}

-- the piece that was read
front : (left rest : List ℕ) (l m : Lexeme) (k : ℕ) → 0 < length left → rest ≡ drop 1 left → (l, k) ≡ piece (get_or left 0 0) rest → k ≤ length rest → l ≡ m → InFront left m k
front left rest l m k some behind is within same = record {
  first = get_or left 0 0;
  rest = rest;
  left_is = drop-cons left 0 0 some ∙ ap (λ (xs : List ℕ). get_or left 0 0 ∷ xs) (sym behind);
  is = ap (λ (x : Lexeme). (x, k)) (sym same) ∙ is;
  within = within;
}

pub returns-in-Err : goal.returns-in-Err
returns-in-Err c =
    let left = c.loop-left.left.now in
    let some : 0 < length left = grind (arith, nat_tests) in
    let l = lexeme_of c.in_ok-piece.piece.lexeme in
    record {
      exact = sym c.loop-left.invariant.told ∙ answer-splice c.loop-left.tokens.items c.args.header c.loop-left.fresh c.loop-left.line c.loop-left.start c.in_ok-piece.piece.more left l c.in-Err.place
          (front left c.behind.result.now l l c.in_ok-piece.piece.more some c.behind.ensures c.in_ok-piece.ensures.value c.in_ok-piece.ensures.within refl)
          c.in-Err.ensures.first (omega (arith, c.in-Err.ensures.among, c.reach.ensures));
    }

pub returns-in-Bad : goal.returns-in-Bad
returns-in-Bad c =
    let left = c.loop-left.left.now in
    let some : 0 < length left = grind (arith, nat_tests) in
    let is : lexeme_of c.in_ok-piece.piece.lexeme ≡ bad c.in-Bad.kind = ap lexeme_of c.in-Bad.is in
    let one : c.reach.result ≡ 1 = c.reach.ensures ∙ ap (λ (l : Lexeme). reach_of l (c.in_ok-piece.piece.more + 1)) is in
    record {
      exact = sym c.loop-left.invariant.told ∙ answer-bad c.loop-left.tokens.items c.args.header c.loop-left.fresh c.loop-left.line c.loop-left.start c.in_ok-piece.piece.more c.in-Ok.next left c.in-Bad.kind
          (front left c.behind.result.now _ _ c.in_ok-piece.piece.more some c.behind.ensures c.in_ok-piece.ensures.value c.in_ok-piece.ensures.within is)
          (rw (← one) c.in-Ok.ensures.none);
    }

pub loop-left-preserved : goal.loop-left-preserved
loop-left-preserved c =
    let ts = c.loop-left.tokens.items in
    let left = c.loop-left.left.now in
    let more = c.in_ok-piece.piece.more in
    let behind = c.behind-left.ensures in
    let some : 0 < length left = grind (arith, nat_tests) in
    let enough : more + 1 ≤ length left = omega (arith, some, ap length c.behind.ensures, length-drop 1 left, c.in_ok-piece.ensures.within) in
    let here = stands_at c.args.header c.loop-left.line c.loop-left.start (c.loop-left.start + (more + 1)) in
    let step : (us : List Token) (fresh : Bool) (l : Lexeme) → lexeme_of c.in_ok-piece.piece.lexeme ≡ l → reach_of l (more + 1) ≡ more + 1
    → ((ls : List Placed) → all_onto ts (gathered c.loop-left.fresh ((l, here) ∷ ls)) ≡ all_onto us (gathered fresh ls))
    → answer us c.args.header fresh c.in-Ok.next (c.loop-left.start + (more + 1)) c.behind-left.result.now ≡ tokens c.args.header c.args.text.now =
    λ us fresh l is whole onto.
    let reach : c.reach.result ≡ more + 1 = c.reach.ensures ∙ ap (λ (m : Lexeme). reach_of m (more + 1)) is ∙ whole in
    ap (λ (xs : List ℕ). answer us c.args.header fresh c.in-Ok.next (c.loop-left.start + (more + 1)) xs) behind
    ∙ answer-step ts us c.args.header c.loop-left.fresh fresh c.loop-left.line c.loop-left.start more c.in-Ok.next left l
    (front left c.behind.result.now _ l more some c.behind.ensures c.in_ok-piece.ensures.value c.in_ok-piece.ensures.within is)
    (rw (← reach) c.in-Ok.ensures.line) (rw (← reach) c.in-Ok.ensures.none) onto
    ∙ c.loop-left.invariant.told in
    record {
      told = elim c.match-piece-4.branch [
        | in-Token+in_ok-push-in-Token w ↦
            rw (w.tokens-is, w.fresh-is) (step w.push.new.self.items false (token w.in-Token.kind) (ap lexeme_of w.in-Token.is) refl (λ ls. pushed ts w.push.new.self.items _ w.in-Token.kind ls w.in_ok-push-in-Token.ensures.items w.in-Token.kind-is))
        | in-LineEnd w ↦ rw (w.tokens-is, w.fresh-is) (step ts true line_end (ap lexeme_of w.in-LineEnd.is) refl (λ ls. refl))
        | in-Space w ↦ rw (w.tokens-is, w.fresh-is) (step ts c.loop-left.fresh space (ap lexeme_of w.in-Space.is) refl (λ ls. refl))
      ];
      lines = omega (arith, ap length behind, length-drop (more + 1) left, c.loop-left.invariant.lines, enough, c.in-Ok.ensures.line, count_by-le-length is_line_end (take c.reach.result left), length-take c.reach.result left, c.reach.ensures, reach-most (lexeme_of c.in_ok-piece.piece.lexeme) more);
      bytes = omega (arith, ap length behind, length-drop (more + 1) left, c.loop-left.invariant.bytes, enough);
    }

pub returns : goal.returns
returns c =
    let left = c.loop-left.left.now in
    let none : left ≡ [] = nil_from_length left (grind (arith, nat_tests)) in
    record { exact = sym c.loop-left.invariant.told ∙ answer-all c.loop-left.tokens.items c.args.header c.loop-left.fresh c.loop-left.line c.loop-left.start left none }
