-- What follows a beginning.
use Rattle.std.proofs.Common.{◌≡◌, ℕ, ◌+◌, ◌==◌, Bool, true, false, ◌&&◌, cond, List, [], ◌∷◌, length, take, drop, Option, Some, None, refl, sym, ap, ◌∙◌}
use Rattle.std.specs.Borrow.{Bor}
use Rattle.std.specs.Option.{option_map, MatchOption}
use lib.Pointwise.{pointwise}
use Rattle.command_words.specs.CutWord.{behind}

-- the list begins so
abbrev pub begins : List ℕ → List ℕ → Bool
begins beginning word = pointwise (λ a b. a == b) (take (length beginning) word) beginning

there : (same : Bool) (bs cs : List ℕ) → (same && begins bs cs) ≡ true → (begins bs cs ≡ true → behind bs cs ≡ Some (drop (length bs) cs))
    → cond same (behind bs cs) None ≡ Some (drop (length bs) cs)
there true bs cs h ih = ih h
there false bs cs h ih = absurd (cc)

behind-begins : (bs cs : List ℕ) → begins bs cs ≡ true → behind bs cs ≡ Some (drop (length bs) cs)
behind-begins [] cs h = refl
behind-begins (b ∷ bs) [] h = absurd (cc)
behind-begins (b ∷ bs) (c ∷ cs) h = there (c == b) bs cs h (behind-begins bs cs)

absent : (same : Bool) (bs cs : List ℕ) → (same && begins bs cs) ≡ false → (begins bs cs ≡ false → behind bs cs ≡ None)
    → ◌≡◌ {A = Option (List ℕ)} (cond same (behind bs cs) None) None
absent true bs cs h ih = ih h
absent false bs cs h ih = refl

behind-other : (bs cs : List ℕ) → begins bs cs ≡ false → behind bs cs ≡ None
behind-other [] [] h = absurd (cc)
behind-other [] (c ∷ cs) h = absurd (cc)
behind-other (b ∷ bs) [] h = refl
behind-other (b ∷ bs) (c ∷ cs) h = absent (c == b) bs cs h (behind-other bs cs)

pub behind-stripped : (bs cs : List ℕ) (r : Option (Bor (List ℕ)))
    → MatchOption r (begins bs cs ≡ false) (λ x. (begins bs cs ≡ true) × (x.now ≡ drop (length bs) cs) × (length x.now + length bs ≡ length cs))
    → option_map (λ w. w.now) r ≡ behind bs cs
behind-stripped bs cs None h = sym (behind-other bs cs h)
behind-stripped bs cs (Some x) h = ap Some h.1 ∙ sym (behind-begins bs cs h.0)
