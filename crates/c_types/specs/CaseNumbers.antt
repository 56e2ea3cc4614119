-- What the code's numbers of cases show.
use Rattle.std.specs.Prelude.{◌^◌, pos, neg_ℤ, ◌≤ℤ◌, ◌<ℤ◌}
use Rattle.c_types.specs.SwitchLabels.{Typed}
use Rattle.c_types.specs.declared.labels.CaseNumber.{CaseNumber}

abbrev pub typed : CaseNumber → Typed
typed n = record { type = n.kind; value = n.value }

-- every type has such numbers alone
abbrev pub IsSmall : CaseNumber → Type 0
IsSmall n = (neg_ℤ (pos (2 ^ 63)) ≤ℤ n.value) × (n.value <ℤ pos (2 ^ 64))
