-- Segments one after the other.
use Rattle.std.proofs.Common.{◌≡◌, ℕ, suc, ◌+◌, ◌-◌, ◌<◌, Bool, ◌∷◌, refl, arith}
use Rattle.bit_layout.specs.Numbers.{segment_at, segments_from}

pub walk_step : (motorola : Bool) (from length byte end : ℕ) → byte < end → segments_from motorola from length byte end ≡ segment_at motorola from length byte ∷ segments_from motorola from length (byte + 1) end
walk_step motorola from length byte end h = let z : end - byte ≡ suc (end - (byte + 1)) = omega arith in rw z refl
