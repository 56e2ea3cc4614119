-- Words in parts.
use Rattle.std.specs.Prelude.{ℕ, ◌+◌, ◌-◌, not, ◌==◌, if◌then◌else◌, List, [], ◌∷◌, take, drop, length, Option, Some, None, position}
use Rattle.std.specs.List.{suffix_len}
use Rattle.std.specs.Option.{option_map}

-- what stands before the first of a sign, and what stands behind it
abbrev pub cut_at : ℕ → List ℕ → Option (List ℕ × List ℕ)
cut_at sign word = option_map (λ i. (take i word, drop (i + 1) word)) (position (λ b. b == sign) word)

-- how many bytes stand up to and with the last of these, 0 where there is none
abbrev pub up_to_last : ℕ → List ℕ → ℕ
up_to_last mark bytes = length bytes - suffix_len (λ b. not (b == mark)) bytes

-- what stands before the last of a sign, and what stands behind it
abbrev pub cut_at_last : ℕ → List ℕ → Option (List ℕ × List ℕ)
cut_at_last sign word =
    let end = up_to_last sign word in
    if end == 0 then None else Some (take (end - 1) word, drop end word)

-- what follows a beginning, where the word has it
abbrev pub behind : List ℕ → List ℕ → Option (List ℕ)
behind [] word = Some word
behind (b ∷ bs) [] = None
behind (b ∷ bs) (c ∷ cs) = if c == b then behind bs cs else None
