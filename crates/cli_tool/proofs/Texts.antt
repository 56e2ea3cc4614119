-- What is said of texts and calls, behind another call.
use Rattle.std.proofs.Common.{◌≡◌, inl, inr, ℕ, ◌+◌, ◌≤◌, List, subst, arith}
use Rattle.std.specs.Prelude.{IfSome, IsSomeAnd}
use Rattle.std.specs.declared.option.Option.{Option}
use Rattle.std.specs.declared.option.Option.TheVariants.{None, Some}
use Rattle.std.specs.FinMap.{get}
use Rattle.cg_out.specs.Outside.{Folder, FilesSeen, Rose, IfTold}
use Rattle.cli_tool.specs.World.{OfText, HasText}

pub IsSomeAnd-weaker : {A : Type 0} (o : Option A) (P Q : A → Type 0) → ((x : A) → P x → Q x) → IsSomeAnd o P → IsSomeAnd o Q
IsSomeAnd-weaker None P Q f h = h
IsSomeAnd-weaker (Some x) P Q f h = f x h

pub OfText-weaker : (files : FilesSeen) (file : List ℕ) (P Q : List ℕ → Type 0) → ((x : List ℕ) → P x → Q x) → OfText files file P → OfText files file Q
OfText-weaker files file P Q f h = by_cases files.content h where
  by_cases : (o : Option Folder) → IfSome o (λ folder. IsSomeAnd (get folder file) P) → IfSome o (λ folder. IsSomeAnd (get folder file) Q)
  by_cases None k = k
  by_cases (Some folder) k = IsSomeAnd-weaker (get folder file) P Q f k

-- ---- what is said of a text in two ways

abbrev pub Both : {A : Type 0} → (A → Type 0) → (A → Type 0) → Type 0
Both {A} P Q = (x : A) × P x × Q x

at_both : {A : Type 0} (o : Option A) (P Q : A → Type 0) → IsSomeAnd o P → IsSomeAnd o Q → Both P Q
at_both None P Q p q = absurd p
at_both (Some x) P Q p q = (x, p, q)

-- what is said of the text in a file, where it is told, is so of the text that is told
pub both_of_text : (files : FilesSeen) (file : List ℕ) (P Q : List ℕ → Type 0) → HasText files file P → OfText files file Q → Both P Q
both_of_text files file P Q t h = by_content files.content t h where
  by_content : (content : Option Folder) → IsSomeAnd content (λ folder. IsSomeAnd (get folder file) P) → IfSome content (λ folder. IsSomeAnd (get folder file) Q) → Both P Q
  by_content None p q = absurd p
  by_content (Some folder) p q = at_both (get folder file) P Q p q

-- ---- contents and counts that may be told

pub told_joined : {A : Type 0} (o m n : Option A) (g : A → A) (P : A → A → Type 0) → IfTold o m (λ a b. b ≡ g a) → IfTold m n P → IfTold o n (λ a b. P (g a) b)
told_joined o m None g P p q = tt
told_joined o None (Some z) g P p q = absurd q
told_joined None (Some y) (Some z) g P p q = absurd p
told_joined (Some x) (Some y) (Some z) g P p q = subst (λ w. P w z) p q

pub told_weaker : {A : Type 0} (o n : Option A) (P Q : A → A → Type 0) → ((a b : A) → P a b → Q a b) → IfTold o n P → IfTold o n Q
told_weaker o None P Q f h = tt
told_weaker None (Some b) P Q f h = h
told_weaker (Some a) (Some b) P Q f h = f a b h

-- so many calls, and then so many
pub calls_sum : (k m n : Option ℕ) (i j s : ℕ) → s ≡ i + j → IfTold k m (λ x y. y ≡ x + i) → IfTold m n (λ x y. y ≡ x + j) → IfTold k n (λ x y. y ≡ x + s)
calls_sum k m None i j s e p q = tt
calls_sum k None (Some z) i j s e p q = absurd q
calls_sum None (Some y) (Some z) i j s e p q = absurd p
calls_sum (Some x) (Some y) (Some z) i j s e p q = omega arith

pub no_calls : (k : Option ℕ) (s : ℕ) → s ≡ 0 → IfTold k k (λ x y. y ≡ x + s)
no_calls None s e = tt
no_calls (Some x) s e = omega arith

pub Rose-earlier : (a b c : ℕ) → a ≤ b → Rose b c → Rose a c
Rose-earlier a b c le (inl lt) = inl (omega arith)
Rose-earlier a b c le (inr e) = inr e
