-- The switches of multiplexed signals: which signals a value of a selector asks for, and which values share a body.
use Rattle.std.specs.Prelude.{◌≡◌, ℕ, ◌+◌, max, Bool, true, false, ◌&&◌, ◌==◌, if◌then◌else◌, List, [], ◌∷◌, map, Option, Some, None, ℤ, pos, bytes_eq}
use Rattle.std.specs.List.{list_any, filter, range_with_len}
use Rattle.can_model.specs.declared.database.MuxRange.{MuxRange}
use Rattle.can_model.specs.declared.database.Parent.{Parent}
use Rattle.can_model.specs.declared.database.Signal.{Signal}
use Rattle.can_model.specs.Active.{lies_in}
use Rattle.gen_pack.specs.Parts.{Part}

-- ---- who asks for whom

abbrev pub HasNoParent : Signal → Type 0
HasNoParent s = s.parent ≡ None

abbrev pub has_no_parent : Option Parent → Bool
has_no_parent None = true
has_no_parent (Some p) = false

abbrev pub is_root : Part → Bool
is_root x = has_no_parent x.signal.parent

abbrev pub is_index : ℕ → Option ℕ → Bool
is_index i None = false
is_index i (Some j) = i == j

-- the selector is the signal of an index
abbrev pub has_selector : ℕ → Option Parent → Bool
has_selector i None = false
has_selector i (Some p) = is_index i p.selector

-- the selector of that index asks for it by a value
abbrev pub is_asked : ℕ → ℤ → Option Parent → Bool
is_asked i v None = false
is_asked i v (Some p) = is_index i p.selector && lies_in p.ranges v

-- a signal is a selector where another has it as its own
abbrev pub is_selector : List Part → ℕ → Bool
is_selector parts i = list_any (λ x. has_selector i x.signal.parent) parts

-- the signals that a value of the selector of that index asks for, in their order
abbrev pub asked_by : List Part → ℕ → ℤ → List Part
asked_by parts i v = filter (λ x. is_asked i v x.signal.parent) parts

-- ---- values that share a body

-- labels of a switch, and the signals of the body behind them
pub record Case : Type 0 where
  pub values : List ℕ
  pub parts : List Part

abbrev pub case : List ℕ → List Part → Case
case values parts = record { values = values; parts = parts }

abbrev pub indices : List Part → List ℕ
indices parts = map (λ x. x.index) parts

-- a value in front of cases shares the body of the first where that has the same signals
abbrev pub with_case : ℕ → List Part → List Case → List Case
with_case v parts [] = case (v ∷ []) parts ∷ []
with_case v parts (c ∷ cs) =
    if bytes_eq (indices parts) (indices c.parts) then case (v ∷ c.values) c.parts ∷ cs
    else case (v ∷ []) parts ∷ c ∷ cs

-- of values and the signals that each asks for
abbrev pub cases_by : (ℕ → List Part) → List ℕ → List Case
cases_by asked [] = []
cases_by asked (v ∷ vs) = with_case v (asked v) (cases_by asked vs)

-- ---- the values that ask

abbrev pub is_some_part : List Part → Bool
is_some_part [] = false
is_some_part (x ∷ xs) = true

-- above all values of ranges
abbrev pub top_of : List MuxRange → ℕ
top_of [] = 0
top_of (r ∷ rs) = max (r.last + 1) (top_of rs)

abbrev pub top_above : Option Parent → ℕ
top_above None = 0
top_above (Some p) = top_of p.ranges

abbrev pub top_value : List Part → ℕ
top_value [] = 0
top_value (x ∷ xs) = max (top_above x.signal.parent) (top_value xs)

-- the values at which a selector asks for some signal, rising
abbrev pub asking_values : List Part → ℕ → List ℕ
asking_values parts i = filter (λ v. is_some_part (asked_by parts i (pos v))) (range_with_len 0 (top_value parts))

-- the cases of a selector's switch
abbrev pub cases_of : List Part → ℕ → List Case
cases_of parts i = cases_by (λ v. asked_by parts i (pos v)) (asking_values parts i)
