-- A value behind its signs.
use Rattle.std.proofs.Common.{◌≡◌, ℕ, ◌+◌, List, [], ◌∷◌, ◌++◌, length, drop, Result, Ok, Err, refl, sym, ap, ◌∙◌, arith, length-drop}
use Rattle.c_text.specs.declared.place.Place.{Place}
use Rattle.c_text.specs.declared.token.Token.{Token}
use Rattle.c_tree.specs.declared.expression.Expr.{Expr}
use Rattle.c_text.specs.declared.refusal.CFault.{CFault}
use Rattle.c_text.specs.declared.refusal.CFault.TheVariants.{Fault, Memory}
use Rattle.c_text.specs.Refusal.{Refusal, Gives}
use Rattle.cg_out.specs.Words.{◌>>=◌}
use Rattle.c_tree.specs.CaseValue.{signed, value_step, case_value}
use Rattle.c_tree.proofs.CaseSteps.{case_value-step}
use Rattle.c_expression.specs.Prefixes.{with_prefix, with_prefixes}
use Rattle.c_expression.specs.declared.prefixes.PrefixOp.{PrefixOp}
use Rattle.c_expression.proofs.Operands.{behind-more}
use Rattle.c_parser.specs.Signs.{IsSignAt, AreSigns}

pub no-signs : (ts : List Token) → AreSigns ts 0 []
no-signs ts = record { within = omega arith; before = λ room after. none (case_value room ts after) }
  where
    none : (r : Result Expr Refusal) → r ≡ (r >>= λ e. Ok e)
    none (Ok e) = refl
    none (Err f) = refl

pub more-signs : (ts : List Token) (n : ℕ) (ps : List PrefixOp) (p : PrefixOp) → AreSigns ts n ps → IsSignAt n ts p → AreSigns ts (n + 1) (ps ++ p ∷ [])
more-signs ts n ps p are s =
    let t = s.token in
    let rest = drop (n + 1) ts in
    record {
      within = omega (arith, length-drop n ts, ap length s.at.is);
      before = λ room after.
          are.before room after
          ∙ ap (λ us. case_value room us after >>= (λ e. Ok (with_prefixes ps e))) s.at.is
          ∙ ap (λ r. r >>= (λ e. Ok (with_prefixes ps e))) (case_value-step room (t ∷ rest) after ∙ ap (λ o. signed case_value room o t rest after) s.signs)
          ∙ ap (λ q. (case_value room rest after >>= λ e. Ok (with_prefix q e)) >>= (λ e. Ok (with_prefixes ps e))) (sym s.is)
          ∙ behind-more (case_value room rest after) ps p;
    }

-- what the value behind the signs is, the whole is with them
module _ (room : ℕ) (ts : List Token) (after : Place) (n : ℕ) (ps : List PrefixOp) (are : AreSigns ts n ps) where
  whole-is : case_value room ts after ≡ (value_step case_value room (drop n ts) after >>= λ e. Ok (with_prefixes ps e))
  whole-is = are.before room after ∙ ap (λ r. r >>= (λ e. Ok (with_prefixes ps e))) (case_value-step room (drop n ts) after)

  pub with-signs : (e : Expr) → value_step case_value room (drop n ts) after ≡ Ok e → case_value room ts after ≡ Ok (with_prefixes ps e)
  with-signs e is = whole-is ∙ ap (λ r. r >>= (λ x. Ok (with_prefixes ps x))) is

  pub fault-behind : (x : CFault) → Gives {X = Expr} {Y = Expr} (λ e. e) (Err x) (value_step case_value room (drop n ts) after) → Gives {X = Expr} {Y = Expr} (λ e. e) (Err x) (case_value room ts after)
  fault-behind (Fault kind place) is = whole-is ∙ ap (λ r. r >>= (λ x. Ok (with_prefixes ps x))) is
  fault-behind Memory is = tt
