-- An expression that grows by one operand after the other.
use Rattle.std.proofs.Common.{◌≡◌, ℕ, suc, ◌+◌, ◌==◌, ◌<◌, ◌≤◌, List, [], ◌∷◌, ◌++◌, length, take, drop, get_or, Option, Some, None, Result, Ok, Err, refl, sym, ap, subst, ◌∙◌, arith, Bool, true, false, cond, length-drop}
use Rattle.std.specs.Prelude.{◌&&◌, is_some}
use Rattle.std.proofs.lemmas.Bool.{false≢true}
use Rattle.std.proofs.lemmas.Bool.Decides.{nat_tests}
use Rattle.std.proofs.lemmas.Option.{none-some, same_Some}
use Rattle.std.proofs.lemmas.List.{append-nil, take-append-drop, drop-drop, drop_all}
use Rattle.std.proofs.Math.Seq.{take-length, take-append_seam, drop-append_seam}
use Rattle.c_text.specs.declared.place.Place.{Place}
use Rattle.c_text.specs.declared.token.Token.{Token}
use Rattle.c_tree.specs.declared.expression.BinaryOp.{BinaryOp}
use Rattle.c_tree.specs.declared.expression.Expr.{Expr}
use Rattle.c_tree.specs.declared.expression.ExprKind.TheVariants as k
use Rattle.c_text.specs.declared.refusal.CFault.{CFault}
use Rattle.c_text.specs.declared.refusal.CFault.TheVariants.{Fault, Memory}
use Rattle.c_text.specs.Refusal.{Refusal, Gives}
use Rattle.cg_out.specs.Words.{or_else}
use Rattle.c_tree.specs.Operators.{Leveled, operator}
use Rattle.c_tree.specs.Brackets.{depth_after}
use Rattle.c_tree.specs.Sequence.{place_at}
use Rattle.c_tree.specs.ExpressionCut.{Before, start, operand, behind, is_operand, has_level, last_from, node, binary_of, expression_of}
use Rattle.c_tree.specs.TokenRun.{depth_over, before_over}
use Rattle.c_tree.proofs.ExpressionSteps.{expression_of-some}
use Rattle.c_tree.proofs.ExpressionTokens.{last_from-append, depth_over-append, before_over-append, IsFlat, operator-flat, operator-level, loosest-is}
use Rattle.c_expression.specs.At.{IsAt, IsInfixAt, StopsAt, Stops}
use Rattle.c_expression.specs.Joint.{cuts_here, IsJoint, IsTight, IsJointless, EndsAt, IsFirstJoint, Grown, GrownAll, Faults}
use Rattle.cg_out.proofs.WordLaws.{both}
use Rattle.c_expression.proofs.Commas.{is-zero, at-drop}
use Rattle.c_expression.proofs.Growing.{take-next, taken-more, at-within}
use Rattle.c_expression.proofs.FirstFault.{is-operand, joint-fault, fault}

-- ---- up to the first operator between operands

not-cut : (x y : Bool) (level : ℕ) (o : Option Leveled) → (x && (y && is_some o)) ≡ false → (x && (y && has_level level o)) ≡ false
not-cut false y level o e = refl
not-cut true false level o e = refl
not-cut true true level None e = refl
not-cut true true level (Some v) e = absurd (false≢true (sym e))

pub tight-none : IsJointless []
tight-none = record { none = λ level at h. refl }

pub tight-next : (xs : List Token) (t : Token) → IsJointless xs → cuts_here (depth_over 0 xs) (before_over start xs) t ≡ false → IsJointless (xs ++ t ∷ [])
tight-next xs t tight e = record {
  none = λ level at h.
      last_from-append level at 0 start xs (t ∷ [])
      ∙ ap (λ o. or_else (last_from level (at + length xs) (depth_over 0 xs) (before_over start xs) (t ∷ [])) o) (tight.none level at h)
      ∙ ap (λ b. or_else (or_else None (cond b (Some (at + length xs)) None)) None) (not-cut (depth_over 0 xs == 0) (is_operand (before_over start xs)) level (operator t.kind) e);
}

-- what is known of the first tokens, with one token more
module _ (ts : List Token) (i : ℕ) (t : Token) (at : IsAt i ts t) where
  taken : take (i + 1) ts ≡ take i ts ++ t ∷ []
  taken = let z : i + 1 ≡ suc i = omega arith in ap (λ n. take n ts) z ∙ take-next i ts t (drop (i + 1) ts) at.is

  pub depth-next : (depth : ℕ) → depth ≡ depth_over 0 (take i ts) → depth_after t.kind depth ≡ depth_over 0 (take (i + 1) ts)
  depth-next depth e = ap (depth_after t.kind) e ∙ sym (depth_over-append 0 (take i ts) (t ∷ [])) ∙ ap (depth_over 0) (sym taken)

  pub before-next : (before : Before) → before ≡ before_over start (take i ts) → behind t.kind before ≡ before_over start (take (i + 1) ts)
  before-next before e = ap (behind t.kind) e ∙ sym (before_over-append start (take i ts) (t ∷ [])) ∙ ap (before_over start) (sym taken)

  pub tight-more : (depth : ℕ) (before : Before) → depth ≡ depth_over 0 (take i ts) → before ≡ before_over start (take i ts) → IsJointless (take i ts) → cuts_here depth before t ≡ false → IsJointless (take (i + 1) ts)
  tight-more depth before e f tight none = subst IsJointless (sym taken) (tight-next (take i ts) t tight ((λ j. cuts_here (sym e j) (sym f j) t) ∙ none))

  by-level : (depth : ℕ) (before : Before) (o : Option Leveled) → operator t.kind ≡ o → depth ≡ depth_over 0 (take i ts) → before ≡ before_over start (take i ts) → IsJointless (take i ts)
      → (depth == 0 && (is_operand before && is_some o)) ≡ true → IsFirstJoint i ts
  by-level depth before None is e f tight yes_ =
      let a = both (depth == 0) (is_operand before && false) yes_ in
      absurd (false≢true (both (is_operand before) false a.1).1)
  by-level depth before (Some o) is e f tight yes_ =
      let a = both (depth == 0) (is_operand before && true) yes_ in
      let b = both (is_operand before) true a.1 in
      let zero_is = is-zero depth a.0 in
      record {
        token = t;
        at = at;
        joint = record { flat = sym e ∙ zero_is; ended = sym f ∙ is-operand before b.0; leveled = o; operates = is };
        first = tight;
      }

  pub first-joint : (depth : ℕ) (before : Before) → depth ≡ depth_over 0 (take i ts) → before ≡ before_over start (take i ts) → IsJointless (take i ts) → cuts_here depth before t ≡ true → IsFirstJoint i ts
  first-joint depth before e f tight yes_ = by-level depth before (operator t.kind) refl e f tight yes_

-- ---- two parts and the operator between them

joint-behind : (p m : List Token) (u t : Token) → IsJoint p u → IsJoint m t → IsJoint (p ++ u ∷ m) t
joint-behind p m u t j k =
    let flat = operator-flat u.kind j.leveled j.operates in
    record {
      flat = depth_over-append 0 p (u ∷ m) ∙ ap (λ d. depth_over (depth_after u.kind d) m) j.flat ∙ ap (λ d. depth_over d m) (flat.depth 0) ∙ k.flat;
      ended = before_over-append start p (u ∷ m) ∙ ap (λ b. before_over b m) (flat.after (before_over start p)) ∙ k.ended;
      leveled = k.leveled;
      operates = k.operates;
    }

ends-behind : (bound : ℕ) (p m rest : List Token) (u : Token) → IsJoint p u → EndsAt bound m rest → EndsAt bound (p ++ u ∷ m) rest
unfolding joint-behind
ends-behind bound p m [] u j ends = tt
ends-behind bound p m (t ∷ rest) u j ends = record { joint = joint-behind p m u t j ends.joint; looser = ends.looser }

module _ (room bound level : ℕ) (op : BinaryOp) (p q : List Token) (t : Token) (a b : Expr) (after : Place) (j : IsJoint p t) (is : operator t.kind ≡ Some (level, op)) (le : level ≤ bound) (left : IsTight bound p) (right : IsTight (level + 1) q) where
  flat_t : IsFlat t.kind
  flat_t = operator-flat t.kind (level, op) is

  below : level < 9
  below = operator-level t.kind (level, op) is

  -- what the operator and the right side add
  last-rest : (l at : ℕ) → l < level + 1 → last_from l at 0 operand (t ∷ q) ≡ cond (level == l) (Some at) None
  last-rest l at h =
      ap (λ o. or_else (last_from l (at + 1) (depth_after t.kind 0) (behind t.kind operand) q) (cond (has_level l o) (Some at) None)) is
      ∙ ap (λ d. or_else (last_from l (at + 1) d (behind t.kind operand) q) (cond (level == l) (Some at) None)) (flat_t.depth 0)
      ∙ ap (λ s. or_else (last_from l (at + 1) 0 s q) (cond (level == l) (Some at) None)) (flat_t.after operand)
      ∙ ap (λ o. or_else o (cond (level == l) (Some at) None)) (right.none l (at + 1) h)

  last-join : (l at : ℕ) → l < level + 1 → last_from l at 0 start (p ++ t ∷ q) ≡ or_else (cond (level == l) (Some (at + length p)) None) (last_from l at 0 start p)
  last-join l at h =
      last_from-append l at 0 start p (t ∷ q)
      ∙ ap (λ d. or_else (last_from l (at + length p) d (before_over start p) (t ∷ q)) (last_from l at 0 start p)) j.flat
      ∙ ap (λ x. or_else (last_from l (at + length p) 0 x (t ∷ q)) (last_from l at 0 start p)) j.ended
      ∙ ap (λ o. or_else o (last_from l at 0 start p)) (last-rest l (at + length p) h)

  join-none : (l at : ℕ) → l < level → last_from l at 0 start (p ++ t ∷ q) ≡ None
  join-none l at h =
      let other : level == l ≡ false = grind (arith, nat_tests) in
      last-join l at (omega (arith, h)) ∙ ap (λ c. or_else (cond c (Some (at + length p)) None) (last_from l at 0 start p)) other ∙ left.none l at (omega (arith, h, le))

  pub join-tight : IsTight level (p ++ t ∷ q)
  join-tight = record { none = join-none }

  join-last : last_from level 0 0 start (p ++ t ∷ q) ≡ Some (length p)
  join-last =
      let same : level == level ≡ true = grind (arith, nat_tests) in
      let z : 0 + length p ≡ length p = omega arith in
      last-join level 0 (omega arith) ∙ ap (λ c. or_else (cond c (Some (0 + length p)) None) (last_from level 0 0 start p)) same ∙ ap Some z

  pub join-cuts : expression_of room p t.place ≡ Ok a → expression_of room q after ≡ Ok b → expression_of room (p ++ t ∷ q) after ≡ Ok (node t.place (k.Binary op a b))
  join-cuts e f =
      expression_of-some room (p ++ t ∷ q) after (length p) (sym (loosest-is (p ++ t ∷ q) (length p) level (λ l h. join-none l 0 h) join-last below))
      ∙ rw (take-append_seam, drop-append_seam, e, f) (ap (λ o. binary_of o t.place a b) is)

-- ---- climbing

is-err : (r : Result Expr Refusal) (x : Refusal) → fault r ≡ Some x → r ≡ Err x
is-err (Ok v) x h = absurd (none-some x h)
is-err (Err y) x h = ap Err (same_Some y x h)

pub grown-least : (room least : ℕ) (after : Place) (ts : List Token) (n : ℕ) (e : Expr) → least ≤ 9 → Grown room 9 after ts n e → Grown room least after ts n e
grown-least room least after ts n e h g = record { within = g.within; cuts = g.cuts; bound = g.bound; above = omega (arith, h, g.above); tight = g.tight; ends = g.ends }

-- the operator that follows is the one that was found
same-level : (bound : ℕ) (ls rest : List Token) (t : Token) (level : ℕ) (op : BinaryOp) → operator t.kind ≡ Some (level, op) → EndsAt bound ls (t ∷ rest) → level < bound
same-level bound ls rest t level op is ends = let e = sym ends.joint.operates ∙ is in subst (λ o. StopsAt bound o) e ends.looser

module _ (room least : ℕ) (after : Place) (ts : List Token) (n : ℕ) (a : Expr) (g : Grown room least after ts n a) (level : ℕ) (op : BinaryOp) (place : Place) (at : IsInfixAt n ts level op place) where
  next : EndsAt (g.bound + 1) (take n ts) (at.token ∷ drop (n + 1) ts)
  next = subst (EndsAt (g.bound + 1) (take n ts)) at.at.is g.ends

  left-cuts : expression_of room (take n ts) at.token.place ≡ Ok a
  left-cuts = ap (λ rest. expression_of room (take n ts) (place_at rest after)) (sym at.at.is) ∙ g.cuts

  whole : ts ≡ take n ts ++ at.token ∷ drop (n + 1) ts
  whole = sym (take-append-drop n ts) ∙ ap (λ rest. take n ts ++ rest) at.at.is

  -- the right side has a fault
  pub fails-right : (f : Refusal) → expression_of room (drop (n + 1) ts) after ≡ Err f → expression_of room ts after ≡ Err f
  fails-right f e =
      let parts = joint-fault room (take n ts) at.token (drop (n + 1) ts) after next.joint in
      is-err (expression_of room ts after) f
      (ap (λ us. fault (expression_of room us after)) whole ∙ parts ∙ ap (λ r. or_else (fault r) (fault (expression_of room (drop (n + 1) ts) after))) left-cuts ∙ ap fault e)

  -- both sides and the operator
  pub grown-more : (more : ℕ) (b : Expr) → least ≤ level → GrownAll room (level + 1) after (drop (n + 1) ts) more b → Grown room least after ts (n + 1 + more) (node place (k.Binary op a b))
  grown-more more b le right =
      let t = at.token in
      let p = take n ts in
      let q = take more (drop (n + 1) ts) in
      let e = node place (k.Binary op a b) in
      let below_bound = same-level (g.bound + 1) p (drop (n + 1) ts) t level op at.operates next in
      let sum : n + 1 + more ≡ n + suc more = omega arith in
      let parts : take (n + 1 + more) ts ≡ p ++ t ∷ q = ap (λ i. take i ts) sum ∙ taken-more n more ts t at.at in
      let rest : drop (n + 1 + more) ts ≡ drop more (drop (n + 1) ts) = sym (drop-drop more (n + 1) ts) in
      let cuts = join-cuts room g.bound level op p q t a b (place_at (drop more (drop (n + 1) ts)) after) next.joint at.operates (omega (arith, below_bound)) g.tight right.tight left-cuts right.cuts in
      record {
        within = omega (arith, right.within, length-drop (n + 1) ts, at-within n ts t at.at);
        cuts = (λ i. expression_of room (parts i) (place_at (rest i) after)) ∙ cuts ∙ ap (λ x. Ok (node x (k.Binary op a b))) at.place_is;
        bound = level;
        above = le;
        tight = subst (IsTight level) (sym parts) (join-tight room g.bound level op p q t a b after next.joint at.operates (omega (arith, below_bound)) g.tight right.tight);
        ends = subst (λ xs. EndsAt (level + 1) xs (drop (n + 1 + more) ts)) (sym parts) (subst (λ us. EndsAt (level + 1) (p ++ t ∷ q) us) (sym rest) (ends-behind (level + 1) p q (drop more (drop (n + 1) ts)) t next.joint right.ends));
      }

-- no operator as tight as the level follows
stops-looser : (bound least : ℕ) (ls rest : List Token) → EndsAt bound ls rest → Stops least rest → EndsAt least ls rest
stops-looser bound least ls [] ends stop = tt
stops-looser bound least ls (t ∷ rest) ends stop = record { joint = ends.joint; looser = subst (StopsAt least) ends.joint.operates stop }

pub grown-all : (room least : ℕ) (after : Place) (ts : List Token) (n : ℕ) (e : Expr) → Grown room least after ts n e → Stops least (drop n ts) → GrownAll room least after ts n e
grown-all room least after ts n e g stop = record {
  within = g.within;
  cuts = g.cuts;
  tight = record { none = λ l at h. g.tight.none l at (omega (arith, h, g.above)) };
  ends = stops-looser (g.bound + 1) least (take n ts) (drop n ts) g.ends stop;
}

-- at the loosest level all tokens are read
none-left : (ls rest : List Token) → EndsAt 0 ls rest → rest ≡ []
none-left ls [] ends = refl
none-left ls (t ∷ rest) ends = absurd (omega (arith, ends.looser))

pub all-cut : (room : ℕ) (after : Place) (ts : List Token) (n : ℕ) (e : Expr) → GrownAll room 0 after ts n e → expression_of room ts after ≡ Ok e
all-cut room after ts n e g =
    let none = none-left (take n ts) (drop n ts) g.ends in
    let all : take n ts ≡ ts = sym (append-nil (take n ts)) ∙ ap (λ rest. take n ts ++ rest) (sym none) ∙ take-append-drop n ts in
    (λ i. expression_of room (sym all i) (place_at (sym none i) after)) ∙ g.cuts

-- ---- an operand

pub last-operand : (room : ℕ) (after : Place) (ts : List Token) (e : Expr) → IsJointless ts → expression_of room ts after ≡ Ok e → Grown room 9 after ts (length ts) e
last-operand room after ts e tight is =
    let all : take (length ts) ts ≡ ts = take-length ts in
    let none : drop (length ts) ts ≡ [] = drop_all (length ts) ts (omega arith) in
    record {
      within = omega arith;
      cuts = (λ i. expression_of room (all i) (place_at (none i) after)) ∙ is;
      bound = 9;
      above = omega arith;
      tight = subst IsJointless (sym all) tight;
      ends = subst (EndsAt 10 (take (length ts) ts)) (sym none) tt;
    }

-- the operator behind it, by its index
at-place : (ts : List Token) (n : ℕ) (d t : Token) → IsAt n ts t → (get_or ts n d).place ≡ t.place
at-place ts n d t at = ap (λ x. x.place) (at-drop n ts t (drop (n + 1) ts) d at.is).0

pub first-operand : (room : ℕ) (after : Place) (ts : List Token) (n : ℕ) (d : Token) (e : Expr) → n ≤ length ts → IsFirstJoint n ts → expression_of room (take n ts) (get_or ts n d).place ≡ Ok e → Grown room 9 after ts n e
first-operand room after ts n d e le j is =
    record {
      within = le;
      cuts = ap (λ rest. expression_of room (take n ts) (place_at rest after)) j.at.is ∙ ap (λ p. expression_of room (take n ts) p) (sym (at-place ts n d j.token j.at)) ∙ is;
      bound = 9;
      above = omega arith;
      tight = j.first;
      ends = subst (EndsAt 10 (take n ts)) (sym j.at.is) (record { joint = j.joint; looser = omega (arith, operator-level j.token.kind j.joint.leveled j.joint.operates) });
    }

fails-left : (room : ℕ) (after : Place) (ts : List Token) (n : ℕ) (d : Token) (f : Refusal) → IsFirstJoint n ts → expression_of room (take n ts) (get_or ts n d).place ≡ Err f → expression_of room ts after ≡ Err f
fails-left room after ts n d f j is =
    let whole : ts ≡ take n ts ++ j.token ∷ drop (n + 1) ts = sym (take-append-drop n ts) ∙ ap (λ rest. take n ts ++ rest) j.at.is in
    let parts = joint-fault room (take n ts) j.token (drop (n + 1) ts) after j.joint in
    is-err (expression_of room ts after) f
    (ap (λ us. fault (expression_of room us after)) whole ∙ parts
    ∙ ap (λ r. or_else (fault r) (fault (expression_of room (drop (n + 1) ts) after))) (ap (λ p. expression_of room (take n ts) p) (sym (at-place ts n d j.token j.at)) ∙ is))

-- ---- faults

pub fault-left : (room : ℕ) (after : Place) (ts : List Token) (n : ℕ) (d : Token) (x : CFault) → IsFirstJoint n ts → Gives {X = Expr} {Y = Expr} (λ e. e) (Err x) (expression_of room (take n ts) (get_or ts n d).place) → Faults {X = Expr × ℕ} (Err x) (expression_of room ts after)
fault-left room after ts n d (Fault kind place) j e = fails-left room after ts n d (record { kind = kind; place = place }) j e
fault-left room after ts n d Memory j e = tt

pub fault-right : (room least : ℕ) (after : Place) (ts : List Token) (n : ℕ) (a : Expr) (g : Grown room least after ts n a) (level : ℕ) (op : BinaryOp) (place : Place) (at : IsInfixAt n ts level op place) (x : CFault)
    → Faults {X = Expr × ℕ} (Err x) (expression_of room (drop (n + 1) ts) after) → Faults {X = Expr × ℕ} (Err x) (expression_of room ts after)
fault-right room least after ts n a g level op place at (Fault kind p) e = fails-right room least after ts n a g level op place at (record { kind = kind; place = p }) e
fault-right room least after ts n a g level op place at Memory e = tt
