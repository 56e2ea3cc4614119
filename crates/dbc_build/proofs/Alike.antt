-- Signals with equal parts.
use Rattle.std.proofs.Common.{◌≡◌, ℕ, Bool, List, ℤ, Option, None}
use Rattle.limit_fraction.specs.declared.number.Decimal.{Decimal}
use Rattle.can_model.specs.declared.database.Choice.{Choice}
use Rattle.can_model.specs.declared.database.Signal.{Signal}

module _ (start len : ℕ) (motorola signed : Bool) (factor offset : Decimal) (line : ℕ) where
  abbrev pub with_parts : List ℕ → Bool → Option Decimal → Option Decimal → Option ℤ → List Choice → List ℕ → List ℕ → Signal
  with_parts name is_float min max initial choices unit comment = record {
    name = name;
    start = start;
    length = len;
    motorola = motorola;
    signed = signed;
    is_float = is_float;
    factor = factor;
    offset = offset;
    min = min;
    max = max;
    initial = initial;
    choices = choices;
    unit = unit;
    comment = comment;
    parent = None;
    line = line;
  }

  pub alike : {n n' : List ℕ} {f f' : Bool} {lo lo' hi hi' : Option Decimal} {i i' : Option ℤ} {cs cs' : List Choice} {u u' t t' : List ℕ}
      → n ≡ n' → f ≡ f' → lo ≡ lo' → hi ≡ hi' → i ≡ i' → cs ≡ cs' → u ≡ u' → t ≡ t' → with_parts n f lo hi i cs u t ≡ with_parts n' f' lo' hi' i' cs' u' t'
  alike a b c d e f g h = cc
