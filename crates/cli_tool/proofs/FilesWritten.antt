-- Files that are written one after another.
use Rattle.std.proofs.Common.{◌≡◌, ℕ, ◌+◌, ◌≤◌, List, [], ◌∷◌, ◌++◌, length, take, drop, slice_get, refl, sym, subst, ◌∙◌, arith, length-append}
use Rattle.std.specs.declared.option.Option.{Option}
use Rattle.std.specs.declared.option.Option.TheVariants.{Some}
use Rattle.std.specs.FinMap.{insert}
use Rattle.cg_out.specs.Outside.{Folder, FilesSeen, Rose, IfTold, CountsCall, IsTornWrite}
use Rattle.cli_tool.specs.Task.{Output}
use Rattle.cli_tool.specs.Writing.{with_outputs, Puts, WritesFiles, TearsFiles}
use Rattle.cli_tool.proofs.TextsRead.{split_at, take_more}
use Rattle.cli_tool.proofs.Texts.{told_joined, told_weaker, calls_sum, Rose-earlier}

with_outputs-more : (files : Folder) (os : List Output) (o : Output) → with_outputs files (os ++ o ∷ []) ≡ insert (with_outputs files os) o.file o.bytes
with_outputs-more files [] o = refl
with_outputs-more files (x ∷ os) o = with_outputs-more (insert files x.file x.bytes) os o

subst2 : (P : List ℕ → List ℕ → Type 0) {x y z w : List ℕ} → x ≡ y → z ≡ w → P x z → P y w
subst2 P {y} {z} e f h = subst (P y) f (subst (λ a. P a z) e h)

-- what a call did behind writes
puts_then : (os : List Output) (old mid new : Option Folder) (P : Folder → Folder → Type 0) → Puts os old mid → IfTold mid new P → IfTold old new (λ a b. P (with_outputs a os) b)
puts_then [] old mid new P e h = subst (λ (o : Option Folder). IfTold o new P) e h
puts_then (x ∷ os) old mid new P e h = told_joined old mid new (λ a. with_outputs a (x ∷ os)) P e h

puts_more : (os : List Output) (o : Output) (old mid new : Option Folder) → Puts os old mid → IfTold mid new (λ a b. b ≡ insert a o.file o.bytes) → Puts (os ++ o ∷ []) old new
puts_more [] o old mid new e h = puts_then [] old mid new (λ a b. b ≡ insert a o.file o.bytes) e h
puts_more (x ∷ os) o old mid new e h =
    told_weaker old new (λ a b. b ≡ insert (with_outputs a (x ∷ os)) o.file o.bytes) (λ a b. b ≡ with_outputs a (x ∷ os ++ o ∷ []))
    (λ a b p. p ∙ sym (with_outputs-more a (x ∷ os) o))
    (puts_then (x ∷ os) old mid new (λ a b. b ≡ insert a o.file o.bytes) e h)

module _ (all : List Output) (n : ℕ) (o : Output) (name bytes : List ℕ) (old mid new : FilesSeen) (at : slice_get all n ≡ Some o) (named : name ≡ o.file) (has : bytes ≡ o.bytes) where
  pub writes_more : WritesFiles 0 (take n all) old mid → IfTold mid.content new.content (λ a b. b ≡ insert a name bytes) → CountsCall mid.calls new.calls → WritesFiles 0 (take (n + 1) all) old new
  writes_more w h k = rw (take_more all n o at) record {
    content = puts_more (take n all) o old.content mid.content new.content w.content (subst2 (λ x y. IfTold mid.content new.content (λ a b. b ≡ insert a x y)) named has h);
    calls = calls_sum old.calls mid.calls new.calls (0 + length (take n all)) 1 _ (omega (arith, length-append (take n all) (o ∷ []))) w.calls k;
  }

  pub tears : WritesFiles 0 (take n all) old mid → old.faults ≤ mid.faults → IfTold mid.content new.content (λ a b. IsTornWrite a b name bytes) → Rose mid.faults new.faults → CountsCall mid.calls new.calls → TearsFiles 0 all old new
  tears w le h r k = record {
    front = take n all;
    torn = o;
    rest = drop (n + 1) all;
    outputs_are = split_at all n o at;
    cause = Rose-earlier old.faults mid.faults new.faults le r;
    content = puts_then (take n all) old.content mid.content new.content (λ a b. IsTornWrite a b o.file o.bytes) w.content (subst2 (λ x y. IfTold mid.content new.content (λ a b. IsTornWrite a b x y)) named has h);
    calls = calls_sum old.calls mid.calls new.calls (0 + length (take n all)) 1 _ refl w.calls k;
  }
