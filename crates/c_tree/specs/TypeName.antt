-- The types of integers as tokens spell them (ISO/IEC 9899:1999, 6.7.2 and 7.18.1.1).
use Rattle.std.specs.Prelude.{ℕ, Bool, true, false, List, [], ◌∷◌, length, take, map, Option, Some, None}
use Rattle.c_text.specs.declared.token.IntType.{IntType}
use Rattle.c_text.specs.declared.token.IntType.TheVariants as int
use Rattle.c_text.specs.declared.token.Spelled.{Spelled}
use Rattle.c_text.specs.declared.token.Spelled.TheVariants.{Plain}
use Rattle.c_text.specs.declared.token.Token.{Token}
use Rattle.c_text.specs.declared.token.TokenKind.{TokenKind}
use Rattle.c_text.specs.declared.token.TokenKind.TheVariants.{TypeName}
use Rattle.c_tree.specs.declared.symbol.Keyword.{Keyword}
use Rattle.c_tree.specs.declared.symbol.Keyword.TheVariants as key
use Rattle.c_tree.specs.Symbol.{keyword_of}
use Rattle.cg_out.specs.Words.{or_else}

-- ---- the spellings by keywords, in this order

abbrev pub of_one : Keyword → Option IntType
of_one key.Bool = Some int.Bool
of_one key.Short = Some int.Short
of_one key.Int = Some int.Int
of_one key.Unsigned = Some int.UnsignedInt
of_one key.Long = Some int.Long
of_one _ = None

abbrev pub of_two : Keyword → Keyword → Option IntType
of_two key.Signed key.Char = Some int.SignedChar
of_two key.Unsigned key.Char = Some int.UnsignedChar
of_two key.Unsigned key.Short = Some int.UnsignedShort
of_two key.Unsigned key.Int = Some int.UnsignedInt
of_two key.Unsigned key.Long = Some int.UnsignedLong
of_two key.Long key.Long = Some int.LongLong
of_two a b = None

abbrev pub of_three : Keyword → Keyword → Keyword → Option IntType
of_three key.Unsigned key.Long key.Long = Some int.UnsignedLongLong
of_three a b c = None

-- ---- of tokens

abbrev pub by_keywords : Option IntType → Option Spelled
by_keywords None = None
by_keywords (Some t) = Some (Plain t)

abbrev pub one_by : Option Keyword → Option IntType
one_by None = None
one_by (Some a) = of_one a

abbrev pub two_by : Option Keyword → Option Keyword → Option IntType
two_by (Some a) (Some b) = of_two a b
two_by a b = None

abbrev pub three_by : Option Keyword → Option Keyword → Option Keyword → Option IntType
three_by (Some a) (Some b) (Some c) = of_three a b c
three_by a b c = None

abbrev pub of_token : TokenKind → Option Spelled
of_token (TypeName s) = Some s
of_token k = by_keywords (one_by (keyword_of k))

-- the type that all these tokens spell
unfoldable pub spelled_of : List TokenKind → Option Spelled
spelled_of [] = None
spelled_of (a ∷ []) = of_token a
spelled_of (a ∷ b ∷ []) = by_keywords (two_by (keyword_of a) (keyword_of b))
spelled_of (a ∷ b ∷ c ∷ []) = by_keywords (three_by (keyword_of a) (keyword_of b) (keyword_of c))
spelled_of (a ∷ b ∷ c ∷ d ∷ ks) = None

-- ---- at the front of tokens

-- a type, and how many tokens spell it
abbrev pub CountedType : Type 0
CountedType = Spelled × ℕ

abbrev pub counted_type : Option Spelled → ℕ → Option CountedType
counted_type None n = None
counted_type (Some s) n = Some (s, n)

abbrev pub kinds_of : List Token → List TokenKind
kinds_of ts = map (λ t. t.kind) ts

-- the type that the first n tokens spell, or all where there are fewer
abbrev pub type_of_first : ℕ → List Token → Option CountedType
type_of_first n ts = counted_type (spelled_of (kinds_of (take n ts))) (length (take n ts))

-- the longest type at the front
unfoldable pub front_type : List Token → Option CountedType
front_type ts = or_else (type_of_first 3 ts) (or_else (type_of_first 2 ts) (type_of_first 1 ts))

-- ---- tokens that a type may begin with

abbrev pub is_type_keyword : Option Keyword → Bool
is_type_keyword (Some key.Bool) = true
is_type_keyword (Some key.Char) = true
is_type_keyword (Some key.Int) = true
is_type_keyword (Some key.Long) = true
is_type_keyword (Some key.Short) = true
is_type_keyword (Some key.Signed) = true
is_type_keyword (Some key.Unsigned) = true
is_type_keyword other = false

-- a word of a type, or a name that stands for one
abbrev pub is_type_word : TokenKind → Bool
is_type_word (TypeName s) = true
is_type_word k = is_type_keyword (keyword_of k)
