use Rattle.std.proofs.Common.{◌≡◌, ℕ, ◌+◌, List, ◌∷◌, take, length, refl, add-one, ap, sym, ◌∙◌, None, Some}
use Rattle.c_text.specs.IntegerConstant.{constant_of}
use Rattle.c_text.specs.Piece.{number_rest}
use Rattle.c_lexer.proofs.Lengths.{take-number_rest}
use Rattle.c_lexer.proofs.lexeme.read_number.Goals as goal

spelling : (first more : ℕ) (text rest : List ℕ) → text ≡ first ∷ rest → more ≡ length (number_rest first rest) → take (more + 1) text ≡ first ∷ number_rest first rest
spelling first more text rest t m = rw (t, add-one, m) (ap (λ bs. first ∷ bs) (take-number_rest first rest))

pub returns-in-None-clause-value : goal.returns-in-None-clause-value
returns-in-None-clause-value c =
    let front = spelling c.args.first c.number_length-more.result c.args.text.now c.args.rest.now c.requires c.number_length-more.ensures.value in
    let none : constant_of (c.args.first ∷ number_rest c.args.first c.args.rest.now) ≡ None = ap constant_of (sym front) ∙ sym c.constant_of.ensures ∙ c.in-None.is in
    c.bad_token.ensures.value ∙ rw none refl

pub returns-in-Some-clause-value : goal.returns-in-Some-clause-value
returns-in-Some-clause-value c =
    let front = spelling c.args.first c.number_length-more.result c.args.text.now c.args.rest.now c.requires c.number_length-more.ensures.value in
    let some : constant_of (c.args.first ∷ number_rest c.args.first c.args.rest.now) ≡ Some c.in-Some.constant = ap constant_of (sym front) ∙ sym c.constant_of.ensures ∙ c.in-Some.is in
    c.token.ensures.value ∙ rw (some, ← c.number_length-more.ensures.value) refl
