-- Names of a signal's choices without what they all begin with.
use Rattle.std.specs.Prelude.{ℕ, ◌-◌, Bool, not, ◌&&◌, ◌==◌, nat_lt, max, List, [], ◌∷◌, map, filter, length, take, drop, slice_index, bytes_eq}
use Rattle.std.specs.List.{list_all, range_with_len}
use Rattle.std.specs.Char.{is_ascii_digit}

-- the first n bytes of the name are those of this one and end in `_`, and behind them stands a byte that is no digit
abbrev pub can_lose : List ℕ → ℕ → List ℕ → Bool
can_lose first n x = bytes_eq (take n x) (take n first) && slice_index x (n - 1) == 95 && nat_lt n (length x) && not (is_ascii_digit (slice_index x n))

abbrev pub greatest : List ℕ → ℕ
greatest [] = 0
greatest (n ∷ ns) = max n (greatest ns)

-- how many bytes all of these names can lose, at most
abbrev pub common_front : List (List ℕ) → ℕ
common_front [] = 0
common_front (x ∷ xs) = greatest (filter (λ n. list_all (can_lose x n) (x ∷ xs)) (range_with_len 1 (length x)))

-- two names or more lose that; a single name stays
abbrev pub pruned : List (List ℕ) → List (List ℕ)
pruned [] = []
pruned (x ∷ []) = x ∷ []
pruned (x ∷ y ∷ more) = map (drop (common_front (x ∷ y ∷ more))) (x ∷ y ∷ more)
