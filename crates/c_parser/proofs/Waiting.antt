-- `if`s that wait for their branches.
use Rattle.std.proofs.Common.{◌≡◌, ℕ, ◌+◌, Bool, true, false, List, [], ◌∷◌, ◌++◌, drop, Option, Some, None, Ok, Err, refl, sym, ap, ◌∙◌, arith}
use Rattle.std.proofs.lemmas.List.{drop-drop}
use Rattle.c_text.specs.declared.place.Place.{Place}
use Rattle.c_text.specs.declared.token.Token.{Token}
use Rattle.c_tree.specs.declared.expression.Expr.{Expr}
use Rattle.c_tree.specs.declared.statement.Stmt.{Stmt}
use Rattle.c_tree.specs.declared.statement.StmtKind.TheVariants as k
use Rattle.c_text.specs.declared.refusal.CFault.{CFault}
use Rattle.c_text.specs.declared.refusal.CFault.TheVariants.{Fault, Memory}
use Rattle.c_text.specs.Refusal.{Refusal, Gives}
use Rattle.cg_out.specs.Words.{◌>>=◌}
use Rattle.c_tree.specs.StatementCut.{StatementRead, Reader, stmt, is_else, else_by, else_at, if_branches, if_open, statement_step, statement_of}
use Rattle.c_tree.proofs.StatementSteps.{statement_of-step}
use Rattle.c_parser.specs.declared.pending.Pending.{Pending}
use Rattle.c_parser.specs.Pending.{IsIf, IsPlain, plain_step, IsHead, Descends, around, has_else, Around, moved, read_from, goes_on_by, goes_on, resumed}

-- the innermost stands last
pub resumed-last : (a : Around) (ps : List Pending) (p : Pending) (got : StatementRead) → resumed a (ps ++ p ∷ []) got ≡ resumed a ps (got >>= goes_on a p)
resumed-last a [] p got = refl
resumed-last a (q ∷ ps) p got = ap (λ r. r >>= goes_on a q) (resumed-last a ps p got)

-- a fault is that of all
pub resumed-fault : (a : Around) (ps : List Pending) (f : Refusal) → resumed a ps (Err f) ≡ Err f
resumed-fault a [] f = refl
resumed-fault a (q ∷ ps) f = ap (λ r. r >>= goes_on a q) (resumed-fault a ps f)

-- ---- behind the head of an `if`

abbrev with_other : Place → Expr → Stmt → ℕ → Stmt × ℕ → StatementRead
with_other place e s n o = Ok (stmt place (k.If e s (Some o.0)), n + 2 + o.1)

other-moved : (other : StatementRead) (place : Place) (e : Expr) (s : Stmt) (n at : ℕ) → (other >>= with_other place e s n >>= moved at) ≡ (other >>= with_other place e s (at + n))
other-moved (Err f) place e s n at = refl
other-moved (Ok o) place e s n at = let sum : at + (n + 2 + o.1) ≡ at + n + 2 + o.1 = omega arith in ap (λ m. Ok (stmt place (k.If e s (Some o.0)), m)) sum

else_by-moved : (r : Reader) (may : Bool) (room : ℕ) (b : Bool) (place : Place) (e : Expr) (s : Stmt) (n : ℕ) (ts : List Token) (after : Place) (at : ℕ)
    → (else_by r may room b place e s n ts after >>= moved at) ≡ else_by r may room b place e s (at + n) ts after
else_by-moved r may room false place e s n ts after at = refl
else_by-moved r may room true place e s n ts after at = other-moved (r may room ts after) place e s n at

else_at-moved : (r : Reader) (may : Bool) (room : ℕ) (place : Place) (e : Expr) (s : Stmt) (n : ℕ) (ts : List Token) (after : Place) (at : ℕ)
    → (else_at r may room place e s n ts after >>= moved at) ≡ else_at r may room place e s (at + n) ts after
else_at-moved r may room place e s n [] after at = refl
else_at-moved r may room place e s n (t ∷ ts) after at = else_by-moved r may room (is_else t.kind) place e s n ts after at

-- behind a first branch, from the tokens that begin with it
abbrev behind_first : Around → Place → Expr → ℕ → List Token → Stmt × ℕ → StatementRead
behind_first a place e n ts s = else_at statement_of a.may a.room place e s.0 (n + 1 + s.1) (drop (s.1 + 1) ts) a.after

abbrev pub waiting : Place → Expr → Option Stmt → Pending
waiting place e first = record { place = place; condition = e; first = first }

branch-moved : (a : Around) (got : StatementRead) (place : Place) (e : Expr) (at n : ℕ)
    → (got >>= moved (at + 1 + n) >>= goes_on a (waiting place e None)) ≡ (got >>= behind_first a place e n (drop (at + 1 + n) a.tokens) >>= moved at)
branch-moved a (Err f) place e at n = refl
branch-moved a (Ok s) place e at n =
    let m : ℕ = at + 1 + n in
    let count : at + (n + 1 + s.1) ≡ m + s.1 = omega arith in
    let behind : m + (s.1 + 1) ≡ m + s.1 + 1 = omega arith in
    sym (
    else_at-moved statement_of a.may a.room place e s.0 (n + 1 + s.1) (drop (s.1 + 1) (drop m a.tokens)) a.after at
    ∙ ap (λ c. else_at statement_of a.may a.room place e s.0 c (drop (s.1 + 1) (drop m a.tokens)) a.after) count
    ∙ ap (λ ts. else_at statement_of a.may a.room place e s.0 (m + s.1) ts a.after) (drop-drop (s.1 + 1) m a.tokens ∙ ap (λ c. drop c a.tokens) behind)
    )

pub goes_down : (a : Around) (ps : List Pending) (place : Place) (e : Expr) (at n : ℕ) (ts : List Token)
    → ts ≡ drop 1 (drop at a.tokens)
    → statement_step statement_of a.may a.room (drop at a.tokens) a.after ≡ if_open statement_of a.may a.room place ts a.after
    → if_open statement_of a.may a.room place ts a.after ≡ if_branches statement_of a.may a.room place e n (drop n ts) a.after
    → resumed a (ps ++ waiting place e None ∷ []) (read_from a (at + 1 + n)) ≡ resumed a ps (read_from a at)
goes_down a ps place e at n ts rest is head =
    let left : drop n ts ≡ drop (at + 1 + n) a.tokens = ap (drop n) (rest ∙ drop-drop 1 at a.tokens) ∙ drop-drop n (at + 1) a.tokens in
    let whole : statement_of a.may a.room (drop at a.tokens) a.after ≡ if_branches statement_of a.may a.room place e n (drop (at + 1 + n) a.tokens) a.after =
    statement_of-step a.may a.room (drop at a.tokens) a.after ∙ is ∙ head ∙ ap (λ us. if_branches statement_of a.may a.room place e n us a.after) left in
    resumed-last a ps (waiting place e None) (read_from a (at + 1 + n))
    ∙ ap (resumed a ps) (branch-moved a (statement_of a.may a.room (drop (at + 1 + n) a.tokens) a.after) place e at n ∙ ap (λ r. r >>= moved at) (sym whole))

-- a fault in the statement at an index
pub fault_at : (a : Around) (ps : List Pending) (at : ℕ) (f : Refusal) → statement_of a.may a.room (drop at a.tokens) a.after ≡ Err f → resumed a ps (read_from a at) ≡ Err f
fault_at a ps at f e = ap (λ r. resumed a ps (r >>= moved at)) e ∙ resumed-fault a ps f

-- a fault in the head of an `if`
pub head_fault : (fault : CFault) (ps old : List Pending) (room : ℕ) (tokens : List Token) (place : Place) (ts : List Token) (at start : ℕ) (after : Place)
    → IsIf place ts (drop at tokens) → IsHead (Err fault) room place ts after
    → ((may : Bool) → resumed (around may room tokens after) ps (read_from (around may room tokens after) at) ≡ resumed (around may room tokens after) old (read_from (around may room tokens after) start))
    → Descends (Err fault) old ps room tokens start after
head_fault (Fault kind at) ps old room tokens place ts i start after is head same =
    λ may. sym (same may) ∙ fault_at (around may room tokens after) ps i (record { kind = kind; place = at }) (statement_of-step may room (drop i tokens) after ∙ is statement_of may room after ∙ head statement_of may)
head_fault Memory ps old room tokens place ts i start after is head same = tt

-- ---- behind a branch

-- an `else` follows
continues-at : (a : Around) (place : Place) (e : Expr) (s : Stmt) (end : ℕ) (ts : List Token) → true ≡ has_else ts
    → else_at statement_of a.may a.room place e s end ts a.after ≡ (statement_of a.may a.room (drop 1 ts) a.after >>= with_other place e s end)
continues-at a place e s end [] h = absurd (grind (arith, h))
continues-at a place e s end (t ∷ ts) h = ap (λ b. else_by statement_of a.may a.room b place e s end ts a.after) (sym h)

other-is : (a : Around) (place : Place) (e : Expr) (s : Stmt) (end : ℕ) (other : StatementRead) → (other >>= with_other place e s end) ≡ (other >>= moved (end + 2) >>= goes_on a (waiting place e (Some s)))
other-is a place e s end (Ok o) = refl
other-is a place e s end (Err f) = refl

pub continues : (a : Around) (p : Pending) (s : Stmt) (end : ℕ) (ts : List Token) → p.first ≡ None → ts ≡ drop (end + 1) a.tokens → true ≡ has_else ts
    → goes_on a p (s, end) ≡ (read_from a (end + 2) >>= goes_on a (waiting p.place p.condition (Some s)))
continues a p s end ts first left h =
    let next : end + 1 + 1 ≡ end + 2 = omega arith in
    ap (λ f. goes_on_by f a p.place p.condition s end) first
    ∙ ap (λ us. else_at statement_of a.may a.room p.place p.condition s end us a.after) (sym left)
    ∙ continues-at a p.place p.condition s end ts h
    ∙ ap (λ us. statement_of a.may a.room us a.after >>= with_other p.place p.condition s end) (ap (drop 1) left ∙ drop-drop 1 (end + 1) a.tokens ∙ ap (λ n. drop n a.tokens) next)
    ∙ other-is a p.place p.condition s end (statement_of a.may a.room (drop (end + 2) a.tokens) a.after)

-- the innermost takes the statement that was read
pub taken : (a : Around) (old ps : List Pending) (p : Pending) (s : Stmt) (end : ℕ) (got : StatementRead) → old ≡ ps ++ p ∷ [] → goes_on a p (s, end) ≡ got
    → resumed a old (Ok (s, end)) ≡ resumed a ps got
taken a old ps p s end got e h = ap (λ qs. resumed a qs (Ok (s, end))) e ∙ resumed-last a ps p (Ok (s, end)) ∙ ap (resumed a ps) h

-- ---- a statement that begins with no `if`

plain_at : (a : Around) (at : ℕ) (left : List Token) (got : StatementRead) → left ≡ drop at a.tokens → IsPlain (drop at a.tokens) → plain_step statement_of a.may a.room left a.after ≡ got
    → statement_of a.may a.room (drop at a.tokens) a.after ≡ got
plain_at a at left got rest plain is = statement_of-step a.may a.room (drop at a.tokens) a.after ∙ plain statement_of a.may a.room a.after ∙ ap (λ ts. plain_step statement_of a.may a.room ts a.after) (sym rest) ∙ is

-- it was read, behind the `if`s before it
pub reads_on : (may : Bool) (room : ℕ) (tokens : List Token) (after : Place) (old ps : List Pending) (at front : ℕ) (left : List Token) (s : Stmt) (n : ℕ)
    → Descends (Ok front) old ps room tokens at after → left ≡ drop front tokens → IsPlain (drop front tokens) → plain_step statement_of may room left after ≡ Ok (s, n)
    → resumed (around may room tokens after) old (read_from (around may room tokens after) at) ≡ statement_of may room tokens after
    → statement_of may room tokens after ≡ resumed (around may room tokens after) ps (Ok (s, front + n))
reads_on may room tokens after old ps at front left s n descends rest plain is same =
    let a : Around = around may room tokens after in
    sym same ∙ sym (descends may) ∙ ap (λ got. resumed a ps (got >>= moved front)) (plain_at a front left (Ok (s, n)) rest plain is)

-- it has a fault
pub plain_fault : (fault : CFault) (may : Bool) (room : ℕ) (tokens : List Token) (after : Place) (old ps : List Pending) (at front : ℕ) (left : List Token)
    → Descends (Ok front) old ps room tokens at after → left ≡ drop front tokens → IsPlain (drop front tokens) → Gives {X = Stmt × ℕ} (λ s. s) (Err fault) (plain_step statement_of may room left after)
    → resumed (around may room tokens after) old (read_from (around may room tokens after) at) ≡ statement_of may room tokens after
    → Gives {X = Stmt × ℕ} (λ s. s) (Err fault) (statement_of may room tokens after)
plain_fault (Fault kind place) may room tokens after old ps at front left descends rest plain is same =
    let a : Around = around may room tokens after in
    let f : Refusal = record { kind = kind; place = place } in
    sym same ∙ sym (descends may) ∙ fault_at a ps front f (plain_at a front left (Err f) rest plain is)
plain_fault Memory may room tokens after old ps at front left descends rest plain is same = tt
