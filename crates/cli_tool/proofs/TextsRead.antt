-- Texts that are read one after another.
use Rattle.std.proofs.Common.{◌≡◌, ◌⊎◌, inl, inr, ℕ, zero, suc, ◌+◌, ◌<◌, ◌≤◌, List, [], ◌∷◌, ◌++◌, length, take, drop, slice_get, refl, sym, ap, subst, ◌∙◌, arith, length-take, length-append}
use Rattle.std.specs.Prelude.{IfSome, IsSomeAnd}
use Rattle.std.specs.declared.option.Option.{Option}
use Rattle.std.specs.declared.option.Option.TheVariants.{None, Some}
use Rattle.std.specs.FinMap.{get}
use Rattle.std.proofs.lemmas.List.{take_all}
use Rattle.cg_out.specs.Outside.{Folder, FilesSeen, Rose}
use Rattle.cli_tool.specs.World.{Calls}
use Rattle.cli_tool.specs.Task.{Input}
use Rattle.cli_tool.specs.Reading.{IsRead, AreRead, ReadsText, ReadsTexts, FailsToRead, WantsMemory, HasNoText, HasNotAll}
use Rattle.cli_tool.specs.declared.status.Status.{Status}
use Rattle.cli_tool.specs.declared.status.Status.TheVariants.{Done, Negative, Usage, Refused, FileFault, OutFault, NoMemory}
use Rattle.cli_tool.proofs.Texts.{calls_sum, Rose-earlier}
use Rattle.cli_tool.proofs.Cut.{of_read}

-- ---- a list at a place of it

pub split_at : {A : Type 0} (xs : List A) (n : ℕ) (x : A) → slice_get xs n ≡ Some x → xs ≡ take n xs ++ x ∷ drop (n + 1) xs
split_at [] n x e = absurd cc
split_at (y ∷ xs) zero x e = let same : y ≡ x = cc in ap (λ z. z ∷ xs) same
split_at (y ∷ xs) (suc n) x e = let next : suc n + 1 ≡ suc (n + 1) = omega arith in rw next (ap (λ zs. y ∷ zs) (split_at xs n x e))

pub take_more : {A : Type 0} (xs : List A) (n : ℕ) (x : A) → slice_get xs n ≡ Some x → take (n + 1) xs ≡ take n xs ++ x ∷ []
take_more [] n x e = absurd cc
take_more (y ∷ xs) zero x e = let same : y ≡ x = cc in ap (λ z. z ∷ []) same
take_more (y ∷ xs) (suc n) x e = let next : suc n + 1 ≡ suc (n + 1) = omega arith in rw next (ap (λ zs. y ∷ zs) (take_more xs n x e))

pub is_within : {A : Type 0} (xs : List A) (n : ℕ) (x : A) → slice_get xs n ≡ Some x → n < length xs
is_within [] n x e = absurd cc
is_within (y ∷ xs) zero x e = omega arith
is_within (y ∷ xs) (suc n) x e = omega (arith, is_within xs n x e)

pub is_past : {A : Type 0} (xs : List A) (n : ℕ) → slice_get xs n ≡ None → length xs ≤ n
is_past [] n e = omega arith
is_past (y ∷ xs) zero e = absurd cc
is_past (y ∷ xs) (suc n) e = omega (arith, is_past xs n e)

-- ---- one text more

AreRead-more : (files : FilesSeen) (is : List Input) (texts : List (List ℕ)) (i : Input) (text : List ℕ) → AreRead files is texts → IsRead files i text → AreRead files (is ++ i ∷ []) (texts ++ text ∷ [])
AreRead-more files [] [] i text r h = (h, tt)
AreRead-more files [] (x ∷ texts) i text r h = absurd r
AreRead-more files (j ∷ is) [] i text r h = absurd r
AreRead-more files (j ∷ is) (x ∷ texts) i text r h = (r.0, AreRead-more files is texts i text r.1 h)

-- what was read while no file changed
IsRead-earlier : (old mid : FilesSeen) (i : Input) (text : List ℕ) → mid.content ≡ old.content → IsRead mid i text → IsRead old i text
IsRead-earlier old mid i text e h = record {
  text_is = subst (λ (o : Option Folder). IfSome o (λ folder. IsSomeAnd (get folder i.file) (λ bytes. text ≡ take (i.limit + 1) bytes))) e h.text_is;
  bound = h.bound;
}

pub reads_more : (inputs : List Input) (n : ℕ) (i : Input) (texts : List (List ℕ)) (text : List ℕ) (old mid new : FilesSeen) → ReadsTexts (take n inputs) texts old mid → slice_get inputs n ≡ Some i
    → ReadsText i text mid new → mid.faults ≤ new.faults → ReadsTexts (take (n + 1) inputs) (texts ++ text ∷ []) old new
reads_more inputs n i texts text old mid new r e h le = rw (take_more inputs n i e) record {
  read = AreRead-more old (take n inputs) texts i text r.read (IsRead-earlier old mid i text r.content h.read);
  content = h.content ∙ r.content;
  calls = calls_sum old.calls mid.calls new.calls (length (take n inputs)) 1 _ (length-append (take n inputs) (i ∷ [])) r.calls h.calls;
  later = omega (arith, r.later, le);
}

-- the same, with a count beside it
pub reads_one_more : (inputs : List Input) (n : ℕ) (i : Input) (texts longer : List (List ℕ)) (text : List ℕ) (old mid new : FilesSeen) → n ≡ length texts → longer ≡ texts ++ text ∷ [] → ReadsTexts (take (length texts) inputs) texts old mid
    → slice_get inputs n ≡ Some i → ReadsText i text mid new → mid.faults ≤ new.faults → (length longer ≤ length inputs) × ReadsTexts (take (length longer) inputs) longer old new
reads_one_more inputs n i texts longer text old mid new e is r at h le =
    let at_end : slice_get inputs (length texts) ≡ Some i = ap (slice_get inputs) (sym e) ∙ at in
    let size : length longer ≡ length texts + 1 = ap length is ∙ length-append texts (text ∷ []) in
    let all : ReadsTexts (take (length texts + 1) inputs) (texts ++ text ∷ []) old new = reads_more inputs (length texts) i texts text old mid new r at_end h le in
    (omega (arith, size, is_within inputs (length texts) i at_end), subst (λ (k : ℕ). ReadsTexts (take k inputs) longer old new) (sym size) (subst (λ (xs : List (List ℕ)). ReadsTexts (take (length texts + 1) inputs) xs old new) (sym is) all))

pub reads_all : (inputs : List Input) (texts : List (List ℕ)) (n : ℕ) (old mid : FilesSeen) → ReadsTexts (take n inputs) texts old mid → slice_get inputs n ≡ None → ReadsTexts inputs texts old mid
reads_all inputs texts n old mid r e = subst (λ (is : List Input). ReadsTexts is texts old mid) (take_all n inputs (is_past inputs n e)) r

-- ---- a text that was not read

cause-earlier : (file : List ℕ) (old mid new : FilesSeen) → mid.content ≡ old.content → old.faults ≤ mid.faults → FailsToRead file mid new → FailsToRead file old new
cause-earlier file old mid new e le f = record {
  cause = by_cause f.cause;
  content = f.content ∙ e;
} where
  by_cause : Rose mid.faults new.faults ⊎ IsSomeAnd mid.content (λ folder. get folder file ≡ None) → Rose old.faults new.faults ⊎ IsSomeAnd old.content (λ folder. get folder file ≡ None)
  by_cause (inl r) = inl (Rose-earlier old.faults mid.faults new.faults le r)
  by_cause (inr a) = inr (subst (λ (o : Option Folder). IsSomeAnd o (λ folder. get folder file ≡ None)) e a)

count_within : (inputs : List Input) (n : ℕ) (i : Input) → slice_get inputs n ≡ Some i → length (take n inputs) + 1 ≤ length inputs
count_within inputs n i e = omega (arith, length-take n inputs, is_within inputs n i e)

wants_memory : (inputs : List Input) (n : ℕ) (i : Input) (texts : List (List ℕ)) (old mid new : FilesSeen) → ReadsTexts (take n inputs) texts old mid → slice_get inputs n ≡ Some i
    → new.content ≡ mid.content → Calls mid new 1 → WantsMemory inputs old new
wants_memory inputs n i texts old mid new r e same calls = record {
  count = length (take n inputs) + 1;
  some = omega arith;
  most = count_within inputs n i e;
  content = same ∙ r.content;
  calls = calls_sum old.calls mid.calls new.calls (length (take n inputs)) 1 _ refl r.calls calls;
}

-- memory was wanting for a text that was read
pub no_room : (inputs : List Input) (n : ℕ) (i : Input) (texts : List (List ℕ)) (text : List ℕ) (old mid new : FilesSeen) → ReadsTexts (take n inputs) texts old mid → slice_get inputs n ≡ Some i
    → ReadsText i text mid new → WantsMemory inputs old new
no_room inputs n i texts text old mid new r e h = wants_memory inputs n i texts old mid new r e h.content h.calls

pub not_all : (inputs : List Input) (n : ℕ) (i : Input) (texts : List (List ℕ)) (old mid new : FilesSeen) (status : Status) → ReadsTexts (take n inputs) texts old mid → slice_get inputs n ≡ Some i
    → HasNoText i mid new status → HasNotAll inputs old new status
not_all inputs n i texts old mid new FileFault r e h = record {
  front = take n inputs;
  missed = i;
  rest = drop (n + 1) inputs;
  inputs_are = split_at inputs n i e;
  there = of_read old (take n inputs) texts r.read (λ ws. Unit {0}) (λ ws c. tt);
  failed = cause-earlier i.file old mid new r.content r.later h.0;
  calls = calls_sum old.calls mid.calls new.calls (length (take n inputs)) 1 _ refl r.calls h.1;
}
not_all inputs n i texts old mid new NoMemory r e h = wants_memory inputs n i texts old mid new r e h.0 h.1
not_all inputs n i texts old mid new Done r e h = absurd h
not_all inputs n i texts old mid new Negative r e h = absurd h
not_all inputs n i texts old mid new Usage r e h = absurd h
not_all inputs n i texts old mid new Refused r e h = absurd h
not_all inputs n i texts old mid new OutFault r e h = absurd h
