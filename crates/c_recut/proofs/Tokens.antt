-- Lists of tokens by their kinds.
use Rattle.std.proofs.Common.{◌≡◌, List, [], ◌∷◌, ◌++◌, refl, ap, ◌∙◌}
use Rattle.std.specs.List.{AllByRecursion}
use Rattle.c_text.specs.declared.token.Token.{Token}
use Rattle.c_text.specs.declared.token.TokenKind.{TokenKind}
use Rattle.c_tree.specs.TypeName.{kinds_of}

pub record Head (k : TokenKind) (others : List TokenKind) (ts : List Token) : Type 0 where
  pub first : Token
  pub rest : List Token
  pub is : ts ≡ first ∷ rest
  pub first_kind : first.kind ≡ k
  pub rest_kinds : kinds_of rest ≡ others

pub head-of : (k : TokenKind) (others : List TokenKind) (ts : List Token) → kinds_of ts ≡ k ∷ others → Head k others ts
head-of k others [] e = cc
head-of k others (x ∷ xs) e = record { first = x; rest = xs; is = refl; first_kind = cc; rest_kinds = cc }

pub nil-of : (ts : List Token) → kinds_of ts ≡ [] → ts ≡ []
nil-of [] e = refl
nil-of (x ∷ xs) e = cc

pub record Split (p q : List TokenKind) (ts : List Token) : Type 0 where
  pub left : List Token
  pub right : List Token
  pub is : ts ≡ left ++ right
  pub left_kinds : kinds_of left ≡ p
  pub right_kinds : kinds_of right ≡ q

pub split-of : (p q : List TokenKind) (ts : List Token) → kinds_of ts ≡ p ++ q → Split p q ts
split-of [] q ts e = record { left = []; right = ts; is = refl; left_kinds = refl; right_kinds = e }
split-of (k ∷ p) q ts e =
    let h = head-of k (p ++ q) ts e in
    let s = split-of p q h.rest h.rest_kinds in
    record {
      left = h.first ∷ s.left;
      right = s.right;
      is = h.is ∙ ap (λ xs. h.first ∷ xs) s.is;
      left_kinds = λ i. h.first_kind i ∷ s.left_kinds i;
      right_kinds = s.right_kinds;
    }

-- one token
pub one-of : (k : TokenKind) (ts : List Token) (h : Head k [] ts) → ts ≡ h.first ∷ []
one-of k ts h = h.is ∙ ap (λ xs. h.first ∷ xs) (nil-of h.rest h.rest_kinds)

-- tokens between a first and a last one
pub record Between (o : TokenKind) (p : List TokenKind) (c : TokenKind) (q : List TokenKind) (ts : List Token) : Type 0 where
  pub first : Token
  pub inner : List Token
  pub last : Token
  pub rest : List Token
  pub is : ts ≡ first ∷ (inner ++ last ∷ rest)
  pub first_kind : first.kind ≡ o
  pub inner_kinds : kinds_of inner ≡ p
  pub last_kind : last.kind ≡ c
  pub rest_kinds : kinds_of rest ≡ q

pub between-of : (o : TokenKind) (p : List TokenKind) (c : TokenKind) (q : List TokenKind) (ts : List Token) → kinds_of ts ≡ o ∷ (p ++ c ∷ q) → Between o p c q ts
between-of o p c q ts e =
    let a = head-of o (p ++ c ∷ q) ts e in
    let s = split-of p (c ∷ q) a.rest a.rest_kinds in
    let z = head-of c q s.right s.right_kinds in
    record {
      first = a.first;
      inner = s.left;
      last = z.first;
      rest = z.rest;
      is = a.is ∙ ap (λ xs. a.first ∷ xs) (s.is ∙ ap (λ xs. s.left ++ xs) z.is);
      first_kind = a.first_kind;
      inner_kinds = s.left_kinds;
      last_kind = z.first_kind;
      rest_kinds = z.rest_kinds;
    }

-- ---- what holds of all kinds

pub every-is : (P Q : TokenKind → Type 0) → ((k : TokenKind) → P k → Q k) → (ks : List TokenKind) → AllByRecursion P ks → AllByRecursion Q ks
every-is P Q f [] h = tt
every-is P Q f (k ∷ ks) h = (f k h.0, every-is P Q f ks h.1)
