-- What the widths of every model of the list keep.
use Rattle.std.proofs.Common.{◌≤◌, ℕ, arith}
use Rattle.std.proofs.lemmas.Grind.{common_steps}
use Rattle.c_widths.specs.DataModel.{IsModel, is_listed}

pub record Bounds (int long : ℕ) : Type 0 where
  pub int_low : 1 ≤ int
  pub int_high : int ≤ 64
  pub long_low : 1 ≤ long
  pub long_high : long ≤ 64

-- each model of the list has them
pub bounds : (int long pointer : ℕ) → IsModel int long pointer → Bounds int long
unfolding is_listed
bounds int long pointer m =
    let h = m.listed in
    record {
      int_low = grind (arith, common_steps, h);
      int_high = grind (arith, common_steps, h);
      long_low = grind (arith, common_steps, h);
      long_high = grind (arith, common_steps, h);
    }
