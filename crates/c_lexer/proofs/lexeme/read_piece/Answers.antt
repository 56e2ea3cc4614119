use Rattle.std.proofs.Common.{◌≡◌, ℕ, ◌+◌, true, List, ◌∷◌, length, take, take_while, add-one, ap, sym, ◌∙◌}
use Rattle.c_text.specs.Characters.{is_letter, goes_on}
use Rattle.c_lexer.proofs.Lengths.{take-take_while}
use Rattle.c_lexer.proofs.lexeme.read_piece.Goals as goal

spelling : (first : ℕ) (text rest : List ℕ) → text ≡ first ∷ rest → first ∷ take_while goes_on rest ≡ take (length (take_while goes_on rest) + 1) text
spelling first text rest t = rw (t, add-one) (ap (λ bs. first ∷ bs) (sym (take-take_while goes_on rest)))

pub returns-then-is_letter-clause-value : goal.returns-then-is_letter-clause-value
returns-then-is_letter-clause-value c =
    let letter : is_letter c.args.first ≡ true = sym c.is_letter.ensures ∙ c.if-is_letter.true in
    rw (letter, spelling c.args.first c.args.text.now c.args.rest.now c.requires) c.read_word.ensures.value
