-- The digits of a number, the last one by itself.
use Rattle.std.proofs.Common.{◌≡◌, ℕ, zero, suc, ◌+◌, ◌-◌, ◌/◌, ◌%◌, ◌^◌, ◌<◌, ◌≤◌, ◌==◌, Bool, true, false, cond, if◌then◌else◌, List, [], ◌∷◌, ◌++◌, length, replicate, arith, refl, sym, ap, ◌∙◌, append_assoc, length-append}
use Rattle.std.proofs.lemmas.Bool.{ne_eqb, eq-eqb, lt-ltb}
use Rattle.std.proofs.lemmas.Nat.{div_below}
use Rattle.std.proofs.Math.Nat.{pow-suc, pow-zero}
use Rattle.std.proofs.lemmas.List.{replicate_more}
use Rattle.std.specs.Fmt.{digits, digits_onto, digit_glyph}
use Rattle.c_printed.specs.Spelling.{padded, hex_width, hex_digits}

module _ (b : ℕ) where
  abbrev onto : ℕ → ℕ → List ℕ → List ℕ
  onto k n acc = digits_onto k b false n acc

  abbrev last : ℕ → ℕ
  last n = digit_glyph false (n % b)

  onto-one : (k n : ℕ) (acc : List ℕ) → n / b ≡ 0 → onto (suc k) n acc ≡ last n ∷ acc
  onto-one k n acc e = ap (λ t. cond t (last n ∷ acc) (onto k (n / b) (last n ∷ acc))) (eq-eqb (n / b) 0 e)

  onto-more : (k n q : ℕ) (acc : List ℕ) → n / b ≡ suc q → onto (suc k) n acc ≡ onto k (n / b) (last n ∷ acc)
  onto-more k n q acc e = ap (λ t. cond t (last n ∷ acc) (onto k (n / b) (last n ∷ acc))) (ne_eqb (n / b) 0 (λ z. omega (arith, z, e)))

  onto-append : (k n : ℕ) (acc : List ℕ) → onto k n acc ≡ onto k n [] ++ acc
  onto-append zero n acc = refl
  onto-append (suc k) n acc =
      elim (n / b == 0) as (λ t. cond t (last n ∷ acc) (onto k (n / b) (last n ∷ acc)) ≡ cond t (last n ∷ []) (onto k (n / b) (last n ∷ [])) ++ acc) [
        | true ↦ refl
        | false ↦ onto-append k (n / b) (last n ∷ acc) ∙ sym (append_assoc (onto k (n / b) []) (last n ∷ []) acc) ∙ ap (λ xs. xs ++ acc) (sym (onto-append k (n / b) (last n ∷ [])))
      ]

  shorter : (k n : ℕ) → 0 < b → n < b ^ suc k → n / b < b ^ k
  shorter k n h small = div_below n b (b ^ k) h (rw pow-suc at small)

  -- more room changes nothing
  enough : (k n q : ℕ) (acc : List ℕ) → n / b ≡ q → 0 < b → n < b ^ suc k → onto (suc k) n acc ≡ onto (suc (suc k)) n acc
  enough k n zero acc e h small = onto-one k n acc e ∙ sym (onto-one (suc k) n acc e)
  enough zero n (suc q) acc e h small = let one : b ^ 0 ≡ 1 = pow-zero b in let s : n / b < b ^ 0 = shorter zero n h small in absurd (omega (arith, s, one, e))
  enough (suc k) n (suc q) acc e h small =
      onto-more (suc k) n q acc e
      ∙ enough k (n / b) (n / b / b) (last n ∷ acc) refl h (shorter (suc k) n h small)
      ∙ sym (onto-more (suc (suc k)) n q acc e)

  by-step : (k n q : ℕ) → n / b ≡ suc q → 0 < b → n < b ^ suc (suc k) → onto (suc (suc k)) n [] ≡ onto (suc (suc k)) (n / b) [] ++ last n ∷ []
  by-step k n q e h small =
      onto-more (suc k) n q [] e
      ∙ enough k (n / b) (n / b / b) (last n ∷ []) refl h (shorter (suc k) n h small)
      ∙ onto-append (suc (suc k)) (n / b) (last n ∷ [])

  step : (n q : ℕ) → n / b ≡ suc q → 0 < b → n < b ^ 64 → digits b false n ≡ digits b false (n / b) ++ last n ∷ []
  unfolding digits
  step n q e h small = by-step 62 n q e h small

  one : (n : ℕ) → n / b ≡ 0 → digits b false n ≡ last n ∷ []
  unfolding digits
  one n e = onto-one 63 n [] e

-- ---- octal

octal-last : (n : ℕ) → last 8 n ≡ 48 + n % 8
octal-last n = ap (λ t. cond t (48 + n % 8) (87 + n % 8)) (lt-ltb (n % 8) 10 (omega arith))

pub octal_one : (front : List ℕ) (n : ℕ) → n < 8 → front ++ (48 + n % 8) ∷ [] ≡ front ++ digits 8 false n
octal_one front n h = ap (λ ds. front ++ ds) (ap (λ d. d ∷ []) (sym (octal-last n)) ∙ sym (one 8 n (omega arith)))

pub octal_more : (front : List ℕ) (n : ℕ) → 8 ≤ n → n < 2 ^ 64 → (front ++ digits 8 false (n / 8)) ++ (48 + n % 8) ∷ [] ≡ front ++ digits 8 false n
octal_more front n h small =
    append_assoc front (digits 8 false (n / 8)) ((48 + n % 8) ∷ [])
    ∙ ap (λ ds. front ++ ds) (ap (λ d. digits 8 false (n / 8) ++ d ∷ []) (sym (octal-last n)) ∙ sym (step 8 n (n / 8 - 1) (omega arith) (omega arith) (omega arith)))

-- ---- hexadecimal, at least so many digits

hex-last : (w n : ℕ) → n < 16 → w ≤ 1 → last 16 n ∷ [] ≡ padded w (digits 16 false n)
hex-last w n h k = let none : w - 1 ≡ 0 = omega arith in rw (one 16 n (omega arith), none) refl

hex-long : (w n : ℕ) → 16 ≤ n → n < 2 ^ 64 → padded (w - 1) (digits 16 false (n / 16)) ++ last 16 n ∷ [] ≡ padded w (digits 16 false n)
hex-long w n h small =
    let ds = digits 16 false (n / 16) in
    let e : digits 16 false n ≡ ds ++ last 16 n ∷ [] = step 16 n (n / 16 - 1) (omega arith) (omega arith) (omega arith) in
    let long : length (ds ++ last 16 n ∷ []) ≡ length ds + 1 = length-append ds (last 16 n ∷ []) in
    let same : w - 1 - length ds ≡ w - (length ds + 1) = omega arith in
    append_assoc (replicate (w - 1 - length ds) 48) ds (last 16 n ∷ [])
    ∙ ap (λ k. replicate k 48 ++ (ds ++ last 16 n ∷ [])) (same ∙ ap (λ l. w - l) (sym long))
    ∙ ap (padded w) (sym e)

hex-wide : (w n : ℕ) → n < 16 → 1 < w → padded (w - 1) (digits 16 false (n / 16)) ++ last 16 n ∷ [] ≡ padded w (digits 16 false n)
hex-wide w n h k =
    let nothing : n / 16 ≡ 0 = omega arith in
    let less : w - 1 ≡ w - 1 - 1 + 1 = omega arith in
    ap (λ ds. padded (w - 1) ds ++ last 16 n ∷ []) (ap (digits 16 false) nothing ∙ one 16 0 refl)
    ∙ ap (λ zs. zs ++ last 16 n ∷ []) (replicate_more (w - 1 - 1) 48 ∙ ap (λ m. replicate m 48) (sym less))
    ∙ ap (padded w) (sym (one 16 n nothing))

pub hex_one : (front : List ℕ) (w n : ℕ) → n < 16 → w ≤ 1 → front ++ last 16 n ∷ [] ≡ front ++ padded w (digits 16 false n)
hex_one front w n h k = ap (λ ds. front ++ ds) (hex-last w n h k)

pub hex_long : (front : List ℕ) (w n : ℕ) → 16 ≤ n → n < 2 ^ 64 → (front ++ padded (w - 1) (digits 16 false (n / 16))) ++ last 16 n ∷ [] ≡ front ++ padded w (digits 16 false n)
hex_long front w n h small = append_assoc front (padded (w - 1) (digits 16 false (n / 16))) (last 16 n ∷ []) ∙ ap (λ ds. front ++ ds) (hex-long w n h small)

pub hex_wide : (front : List ℕ) (w n : ℕ) → n < 16 → 1 < w → (front ++ padded (w - 1) (digits 16 false (n / 16))) ++ last 16 n ∷ [] ≡ front ++ padded w (digits 16 false n)
hex_wide front w n h k = append_assoc front (padded (w - 1) (digits 16 false (n / 16))) (last 16 n ∷ []) ∙ ap (λ ds. front ++ ds) (hex-wide w n h k)

pub ruleset octal_steps = (octal_one, octal_more)

pub ruleset hex_steps = (hex_one, hex_long, hex_wide)

-- in a macro at least none
pub hex_whole : (front : List ℕ) (wide : Bool) (n : ℕ) → front ++ padded (if wide then hex_width n else 0) (digits 16 false n) ≡ front ++ hex_digits wide n
unfolding hex_digits
hex_whole front true n = refl
hex_whole front false n = let none : 0 - length (digits 16 false n) ≡ 0 = omega arith in rw none refl
