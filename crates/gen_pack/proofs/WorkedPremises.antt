-- The premises on a struct's values are met: those of a message with two signals, each with a value.
use Rattle.std.proofs.Common.{ℕ, zero, suc, Bool, true, false, [], ◌∷◌, Some, None, pos, negsuc, ℤ, refl}
use Rattle.std.specs.Prelude.{codes}
use Rattle.limit_fraction.specs.Decimal.{zero_decimal}
use Rattle.can_model.specs.declared.database.Message.{Message}
use Rattle.can_model.specs.declared.database.Signal.{Signal}
use Rattle.can_model.specs.Active.{EndsActive}
use Rattle.c_mem.specs.Cells.{CellsOf}
use Rattle.gen_pack.specs.Packs.{AreOfFields, HaveActive}

-- a signal of this place, length and form, without a parent
abbrev signal : ℕ → ℕ → Bool → Signal
signal start length signed = record {
  name = [];
  start = start;
  length = length;
  motorola = false;
  signed = signed;
  is_float = false;
  factor = zero_decimal;
  offset = zero_decimal;
  min = None;
  max = None;
  initial = None;
  choices = [];
  unit = [];
  comment = [];
  parent = None;
  line = 2;
}

-- eight bits without a sign, and behind them four with one
abbrev message : Message
message = record {
  id = 1;
  extended = false;
  name = codes "Ping";
  length = 2;
  cycle = None;
  comment = [];
  signals = signal 0 8 false ∷ signal 8 4 true ∷ [];
  line = 1;
}

-- 7 and -3
abbrev values : CellsOf ℤ
values = Some (pos 7) ∷ Some (negsuc 2) ∷ []

are-of-fields : AreOfFields message values
are-of-fields zero = refl
are-of-fields (suc zero) = refl
are-of-fields (suc (suc i)) = tt

-- past the last signal there is none that could be active
none-active : (n i : ℕ) → EndsActive n message.signals values (suc (suc i)) → ⊥
none-active zero i h = h
none-active (suc n) i h = h

have-active : HaveActive message values
have-active zero h = tt
have-active (suc zero) h = tt
have-active (suc (suc i)) h = absurd (none-active h.0 i h.1)
