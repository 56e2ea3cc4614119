-- What names begin with alike.
use Rattle.std.specs.Prelude.{ℕ, suc, ◌-◌, Bool, not, ◌&&◌, ◌==◌, nat_lt, if◌then◌else◌, List, [], ◌∷◌, filter, length, slice_index}
use Rattle.std.specs.List.{list_all, range_with_len}
use Rattle.std.specs.Char.{is_ascii_digit}
use Rattle.name_rules.specs.Pruning.{can_lose, greatest}

-- how many bytes two texts begin with alike
abbrev pub front_len : List ℕ → List ℕ → ℕ
front_len [] ys = 0
front_len (x ∷ xs) [] = 0
front_len (x ∷ xs) (y ∷ ys) = if x == y then suc (front_len xs ys) else 0

-- the first n bytes end in `_`, and behind them stands a byte that is no digit
abbrev pub loses : ℕ → List ℕ → Bool
loses n x = slice_index x (n - 1) == 95 && nat_lt n (length x) && not (is_ascii_digit (slice_index x n))

-- how many bytes all of these names can lose, at most, where they begin as the first one does
abbrev pub most_lost : List ℕ → List (List ℕ) → ℕ
most_lost first names = greatest (filter (λ n. list_all (can_lose first n) names) (range_with_len 1 (length first)))
