-- Files and a sink in memory, and what a write of theirs leaves.
use Rattle.std.specs.Prelude.{ℕ, ◌+◌, ◌-◌, ◌^◌, min, Bool, ◌&&◌, ◌==◌, nat_lt, nat_le, if◌then◌else◌, is_none, List, take, find}
use Rattle.std.specs.declared.option.Option.{Option}
use Rattle.std.specs.declared.option.Option.TheVariants.{None, Some}
use Rattle.std.specs.Option.{option_map}
use Rattle.cg_out.specs.declared.failing.Failing.{Failing}
use Rattle.cg_out.specs.declared.failing.CallLog.{CallLog}

-- one more, up to the last value of a counter
abbrev pub one_more : ℕ → ℕ
one_more n = min (n + 1) (2 ^ 64 - 1)

-- a count of calls is told below its last value
abbrev pub told_below : ℕ → Option ℕ
told_below n = if nat_lt n (2 ^ 64 - 1) then Some n else None

-- how many bytes the call of this number keeps where it is to fail; of equal numbers the first counts
abbrev pub keep_of : List Failing → ℕ → Option ℕ
keep_of failing call = option_map (λ f. f.keep) (find (λ f. f.call == call) failing)

-- which calls fail, how many there were, and how many failed
pub record History : Type 0 where
  pub failing : List Failing
  pub calls : ℕ
  pub faults : ℕ

abbrev pub history_of : CallLog → History
history_of log = record { failing = log.failing.items; calls = log.calls; faults = log.faults }

-- what the next call keeps where it is to fail
abbrev pub next_keep : History → Option ℕ
next_keep h = keep_of h.failing (one_more h.calls)

-- one call more, which succeeded or failed
abbrev pub after_call : History → Bool → History
after_call h success = record { failing = h.failing; calls = one_more h.calls; faults = if success then h.faults else one_more h.faults }

-- how many bytes, in how many writes, there is still room for
pub record Space : Type 0 where
  pub bytes : ℕ
  pub writes : ℕ

-- a write that takes so many bytes fits
abbrev pub fits : Space → ℕ → Bool
fits space taken = nat_lt 0 space.writes && nat_le taken space.bytes

-- what is left after a write that took so many bytes, where it fitted
abbrev pub after_write : Space → ℕ → Space
after_write space taken = if fits space taken then record { bytes = space.bytes - taken; writes = space.writes - 1 } else space

-- a write succeeds where it fits and its call is not to fail
abbrev pub succeeds : Space → ℕ → History → Bool
succeeds space taken history = fits space taken && is_none (next_keep history)

-- all bytes, or as many as a failing call keeps
abbrev pub front_of : Option ℕ → List ℕ → List ℕ
front_of None bytes = bytes
front_of (Some keep) bytes = take keep bytes
