use Rattle.std.proofs.Common.{◌≡◌, Some, [], ◌∷◌, refl, sym, ap, ◌∙◌}
use Rattle.c_text.specs.IntegerConstant.{Suffix, suffix_of, value_limit, constant_from}
use Rattle.c_lexer.specs.contracts.constant.Suffix.{the_view}
use Rattle.c_text.proofs.Constants.{constant}
use Rattle.c_lexer.proofs.constant.constant_zero.Goals as goal

zero-digit : (s : Suffix) → constant_from 10 (48 ∷ []) (Some s) ≡ Some (constant 0 10 s)
unfolding value_limit
zero-digit s = refl

pub returns : goal.returns
returns c =
    let s : Suffix = the_view c.suffix.inside in
    let suffix : suffix_of c.args.suffix.now ≡ Some s = sym (c.in_ok-suffix.ensures) ∙ ap (λ (t : Suffix). Some t) (sym c.suffix.view_is) in
    sym (ap (constant_from 10 (48 ∷ [])) suffix ∙ zero-digit s)
