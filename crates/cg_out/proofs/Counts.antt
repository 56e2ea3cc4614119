-- A counter that goes up by one rose, or stands at its last value.
use Rattle.std.proofs.Common.{◌≡◌, ◌⊎◌, inl, inr, ℕ, ◌+◌, ◌-◌, ◌^◌, ◌<◌, min, arith}
use Rattle.std.proofs.lemmas.Bool.{cases_lt}
use Rattle.cg_out.specs.Outside.{Rose}
use Rattle.cg_out.specs.InMemory.{one_more}

rose_up_to : (last n : ℕ) → (n < min (n + 1) last) ⊎ (min (n + 1) last ≡ last)
rose_up_to last n =
    elim (cases_lt n last) [
      | inl lt ↦ inl (omega arith)
      | inr le ↦ inr (omega arith)
    ]

pub rose_one_more : (n : ℕ) → Rose n (one_more n)
rose_one_more n = rose_up_to (2 ^ 64 - 1) n
