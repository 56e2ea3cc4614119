-- Lines that leave the same: adjacent lines of text may be one.
use Rattle.std.proofs.Common.{◌≡◌, ℕ, zero, suc, Bool, true, false, cond, List, [], ◌∷◌, ◌++◌, map, Option, Result, Ok, refl, sym, ap, ◌∙◌, append_assoc}
use Rattle.std.proofs.lemmas.List.{map-append}
use Rattle.c_text.specs.declared.place.Place.{Place}
use Rattle.c_text.specs.declared.token.Token.{Token}
use Rattle.c_text.specs.Refusal.{Refusal}
use Rattle.c_text.specs.SeenToken.{Seen, token_of}
use Rattle.c_text.specs.StandardHeader.{Header}
use Rattle.c_text.specs.Directive.{Line, text, standard, quoted, define, conditional, otherwise, endif, unbalanced, refused, word_of}
use Rattle.c_text.specs.Conditional.{is_read, is_ended, balanced}
use Rattle.c_text.specs.Preprocessing.{NamedBody}
use Rattle.cg_out.specs.Words.{◌>>=◌}
use Rattle.c_pre.specs.Shown.{flat, flats, told}
use Rattle.c_pre.specs.Merging.{is_directive, with_text, merged}
use Rattle.c_pre.specs.Run.{Progress, written_word, written, taken, passed, reads_then, ran}
use Rattle.c_pre.specs.Balance.{endings, balanced_line, elses_behind}
use Rattle.c_pre.proofs.Whole.{balanced-step}
use Rattle.c_pre.proofs.Cut.{told-text}

-- lines that end the same conditionals, and of which the same is left
pub record Alike (xs ys : List (Line Place)) : Type 0 where
  pub ended : (depth : ℕ) → is_ended depth xs ≡ is_ended depth ys
  pub runs : (q : Progress → Result Progress Refusal) (elses reads : List Bool) (s : Progress) → ran q reads s (balanced elses xs) ≡ ran q reads s (balanced elses ys)

same-alike : (xs ys : List (Line Place)) → xs ≡ ys → Alike xs ys
same-alike xs ys e = record {
  ended = λ depth. ap (is_ended depth) e;
  runs = λ q elses reads s. ap (λ ls. ran q reads s (balanced elses ls)) e;
}

then-alike : (xs ys zs : List (Line Place)) → Alike xs ys → Alike ys zs → Alike xs zs
then-alike xs ys zs a b = record {
  ended = λ depth. a.ended depth ∙ b.ended depth;
  runs = λ q elses reads s. a.runs q elses reads s ∙ b.runs q elses reads s;
}

-- ---- behind one line

ended-behind : (l : Line Place) (xs ys : List (Line Place)) → ((depth : ℕ) → is_ended depth xs ≡ is_ended depth ys) → (depth : ℕ) → is_ended depth (l ∷ xs) ≡ is_ended depth (l ∷ ys)
ended-behind (text ts) xs ys e depth = e depth
ended-behind (standard h) xs ys e depth = e depth
ended-behind quoted xs ys e depth = e depth
ended-behind (define p name body) xs ys e depth = e depth
ended-behind (conditional p wanted name) xs ys e depth = e (suc depth)
ended-behind (otherwise p) xs ys e depth = e depth
ended-behind (endif p) xs ys e zero = refl
ended-behind (endif p) xs ys e (suc depth) = e depth
ended-behind (unbalanced p) xs ys e depth = e depth
ended-behind (refused p kind) xs ys e depth = e depth

line-behind : (elses : List Bool) (l : Line Place) (xs ys : List (Line Place)) → is_ended 0 xs ≡ is_ended 0 ys → balanced_line elses (endings (l ∷ xs)) l ≡ balanced_line elses (endings (l ∷ ys)) l
line-behind elses (text ts) xs ys e = refl
line-behind elses (standard h) xs ys e = refl
line-behind elses quoted xs ys e = refl
line-behind elses (define p name body) xs ys e = refl
line-behind elses (conditional p wanted name) xs ys e = ap (λ b. balanced_line elses (b ∷ []) (conditional p wanted name)) e
line-behind elses (otherwise p) xs ys e = refl
line-behind elses (endif p) xs ys e = refl
line-behind elses (unbalanced p) xs ys e = refl
line-behind elses (refused p kind) xs ys e = refl

behind-alike : (l : Line Place) (xs ys : List (Line Place)) → Alike xs ys → Alike (l ∷ xs) (l ∷ ys)
behind-alike l xs ys a = record {
  ended = ended-behind l xs ys a.ended;
  runs = λ q elses reads s.
      let then = elses_behind elses l in
      let new = balanced_line elses (endings (l ∷ ys)) l in
      ap (ran q reads s) (balanced-step elses l xs)
      ∙ ap (λ n. ran q reads s (n ∷ balanced then xs)) (line-behind elses l xs ys (a.ended 0))
      ∙ (λ i. passed q reads s new >>= λ t. a.runs q then (reads_then reads s new) t i)
      ∙ ap (ran q reads s) (sym (balanced-step elses l ys));
}

-- ---- lines of text

written-append : (ms : List (NamedBody Place)) (hs : List Header) (xs ys : List (Seen Place)) → written ms hs (xs ++ ys) ≡ written ms hs xs ++ written ms hs ys
written-append ms hs [] ys = refl
written-append ms hs (x ∷ xs) ys =
    let first = map token_of (written_word ms hs x (word_of x.kind)) in
    ap (λ ts. first ++ ts) (written-append ms hs xs ys) ∙ sym (append_assoc first (written ms hs xs) (written ms hs ys))

texts-run : (q : Progress → Result Progress Refusal) (reads : List Bool) (s : Progress) (xs ys : List (Seen Place)) (ls : List (Line Place)) → ran q reads s (text (xs ++ ys) ∷ ls) ≡ ran q reads s (text xs ∷ text ys ∷ ls)
texts-run q reads s xs ys ls = by (is_read reads)
  where
    tokens : s.tokens ++ written s.macros s.headers (xs ++ ys) ≡ (s.tokens ++ written s.macros s.headers xs) ++ written s.macros s.headers ys
    tokens = ap (λ ts. s.tokens ++ ts) (written-append s.macros s.headers xs ys) ∙ sym (append_assoc s.tokens (written s.macros s.headers xs) (written s.macros s.headers ys))

    by : (b : Bool) → (cond b (taken s (text (xs ++ ys))) (Ok s) >>= λ t. ran q reads t ls) ≡ (cond b (taken s (text xs)) (Ok s) >>= λ t. (cond b (taken t (text ys)) (Ok t) >>= λ u. ran q reads u ls))
    by true = ap (λ ts. ran q reads (record s { tokens = ts }) ls) tokens
    by false = refl

texts-alike : (xs ys : List (Seen Place)) (ls : List (Line Place)) → Alike (text (xs ++ ys) ∷ ls) (text xs ∷ text ys ∷ ls)
texts-alike xs ys ls = record {
  ended = λ depth. refl;
  runs = λ q elses reads s. texts-run q reads s xs ys (balanced elses ls);
}

-- ---- lines that are merged

told-both : (beside : Option (List ℕ)) (xs ys : List Token) → is_directive xs ≡ false → is_directive ys ≡ false → told beside (xs ++ ys) ≡ text (flats xs ++ flats ys)
told-both beside [] ys d e = told-text beside ys e
told-both beside (x ∷ xs) ys d e = told-text beside (x ∷ (xs ++ ys)) d ∙ ap text (map-append flat (x ∷ xs) ys)

with-alike : (beside : Option (List ℕ)) (l : List Token) (ls : List (List Token)) → is_directive l ≡ false → Alike (map (told beside) (with_text l ls)) (told beside l ∷ map (told beside) ls)
with-alike beside l [] d = same-alike (told beside l ∷ []) (told beside l ∷ []) refl
with-alike beside l (m ∷ ls) d = by (is_directive m) refl
  where
    rest : List (Line Place)
    rest = map (told beside) ls

    apart : (c : Bool) → is_directive m ≡ c → map (told beside) (with_text l (m ∷ ls)) ≡ map (told beside) (cond c (l ∷ m ∷ ls) ((l ++ m) ∷ ls))
    apart c e = ap (λ b. map (told beside) (cond b (l ∷ m ∷ ls) ((l ++ m) ∷ ls))) e

    by : (c : Bool) → is_directive m ≡ c → Alike (map (told beside) (with_text l (m ∷ ls))) (told beside l ∷ told beside m ∷ rest)
    by true e = same-alike (map (told beside) (with_text l (m ∷ ls))) (told beside l ∷ told beside m ∷ rest) (apart true e)
    by false e =
        let one = text (flats l ++ flats m) ∷ rest in
        let two = text (flats l) ∷ text (flats m) ∷ rest in
        then-alike (map (told beside) (with_text l (m ∷ ls))) one (told beside l ∷ told beside m ∷ rest)
        (same-alike (map (told beside) (with_text l (m ∷ ls))) one (apart false e ∙ ap (λ t. t ∷ rest) (told-both beside l m d e)))
        (then-alike one two (told beside l ∷ told beside m ∷ rest) (texts-alike (flats l) (flats m) rest)
        (same-alike two (told beside l ∷ told beside m ∷ rest) (λ i. sym (told-text beside l d) i ∷ sym (told-text beside m e) i ∷ rest)))

-- what merged lines leave is what the lines leave
pub merged-alike : (beside : Option (List ℕ)) (ls : List (List Token)) → Alike (map (told beside) (merged ls)) (map (told beside) ls)
merged-alike beside [] = same-alike [] [] refl
merged-alike beside (l ∷ ls) = by (is_directive l) refl (merged-alike beside ls)
  where
    some : List (Line Place)
    some = map (told beside) (merged ls)

    rest : List (Line Place)
    rest = map (told beside) ls

    apart : (c : Bool) → is_directive l ≡ c → map (told beside) (merged (l ∷ ls)) ≡ map (told beside) (cond c (l ∷ merged ls) (with_text l (merged ls)))
    apart c d = ap (λ b. map (told beside) (cond b (l ∷ merged ls) (with_text l (merged ls)))) d

    by : (c : Bool) → is_directive l ≡ c → Alike some rest → Alike (map (told beside) (merged (l ∷ ls))) (told beside l ∷ rest)
    by true d more =
        then-alike (map (told beside) (merged (l ∷ ls))) (told beside l ∷ some) (told beside l ∷ rest)
        (same-alike (map (told beside) (merged (l ∷ ls))) (told beside l ∷ some) (apart true d))
        (behind-alike (told beside l) some rest more)
    by false d more =
        then-alike (map (told beside) (merged (l ∷ ls))) (map (told beside) (with_text l (merged ls))) (told beside l ∷ rest)
        (same-alike (map (told beside) (merged (l ∷ ls))) (map (told beside) (with_text l (merged ls))) (apart false d))
        (then-alike (map (told beside) (with_text l (merged ls))) (told beside l ∷ some) (told beside l ∷ rest)
        (with-alike beside l (merged ls) d)
        (behind-alike (told beside l) some rest more))
