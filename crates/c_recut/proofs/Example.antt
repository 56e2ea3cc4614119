-- A header and a source that the printing law holds of: its premises are met, and what is left is what one expects.
use Rattle.std.proofs.Common.{◌≡◌, ◌<◌, ℕ, Bool, true, false, List, [], ◌∷◌, map, Some, None, refl, arith}
use Rattle.std.specs.Prelude.{codes, ◌^◌}
use Rattle.std.specs.List.{list_all}
use Rattle.c_text.specs.declared.token.IntType.TheVariants as int
use Rattle.c_text.specs.declared.token.Spelled.{Spelled}
use Rattle.c_text.specs.declared.token.Spelled.TheVariants.{Exact, Size, Plain}
use Rattle.c_text.specs.Characters.{is_letter, goes_on, first_passes}
use Rattle.c_text.specs.StandardHeader.{kind_in, string_h}
use Rattle.c_text.specs.Splice.{is_plain}
use Rattle.c_text.specs.Piece.{in_string}
use Rattle.c_text.proofs.Boundary.{pass-all}
use Rattle.c_tree.specs.declared.item.CType.TheVariants.{Integer, Pointer}
use Rattle.c_tree.specs.declared.item.Target.TheVariants.{Byte, Struct}
use Rattle.c_tree.specs.declared.expression.Callee.TheVariants as callee
use Rattle.c_tree.specs.declared.expression.UnaryOp.TheVariants as sign
use Rattle.c_tree.specs.declared.expression.BinaryOp.TheVariants as op
use Rattle.c_tree.specs.declared.statement.AssignOp.TheVariants as set
use Rattle.c_tree.specs.Symbol.{keyword_in}
use Rattle.c_tree.specs.BareExpression.{Tree, Trees, constant, name, null, unary, binary, bracket, none, more}
use Rattle.c_tree.specs.BareExpression as e
use Rattle.c_tree.specs.BareStatement.{Actions, declare, assign, call, block, when, return, no_more, then}
use Rattle.c_tree.specs.BareUnit.{BareHead, BareItem, struct, function}
use Rattle.c_printed.specs.PrintedUnit.{Part, comment, blank, include, include_beside, define, if_not_defined, end_if, structure, routine, unit_text}
use Rattle.c_printed.specs.Printable.{IsFree, IsConstant, sixteen, w8}
use Rattle.c_printed.specs.PrintableItem.{is_shown, IsHead}
use Rattle.c_printed.specs.State.{State, nothing_known, with_headers}
use Rattle.c_printed.specs.PrintableUnit.{IsHeaderAt, IsSource}
use Rattle.c_printed.specs.Reread.{macro_tokens}
use Rattle.c_printed.specs.Law.{ReadAsUnit}
use Rattle.c_printed.proofs.Spelled.{given-name}
use Rattle.c_printed.proofs.UnitFits.{decimal-fits}
use Rattle.c_recut.proofs.PairLaw.{pair-reads}

-- ---- the units

abbrev number : ℕ → ℕ → Bool → Tree
number v base u = constant (record { value = v; base = base; unsigned = u; longs = 0 })

abbrev byte : Spelled
byte = Exact 8 false

abbrev head : BareHead
head = record {
  fixed = false;
  returns = Integer (Plain int.Int);
  name = codes "e_pack";
  params =
      record { kind = Pointer Byte false; name = codes "dst_p" } ∷ record { kind = Pointer (Struct (codes "e_t")) true; name = codes "src_p" } ∷ record { kind = Integer Size; name = codes "size" } ∷ [];
}

abbrev header : List Part
header =
    comment (codes "Generated.") ∷ if_not_defined (codes "E_H") ∷ define (codes "E_H") None ∷ blank
    ∷ include (codes "stdbool.h") ∷ include (codes "stddef.h") ∷ include (codes "stdint.h") ∷ blank
    ∷ if_not_defined (codes "EINVAL") ∷ define (codes "EINVAL") (Some (number 22 10 false)) ∷ end_if ∷ blank
    ∷ define (codes "E_ID") (Some (bracket (number 496 16 true))) ∷ define (codes "E_ID") (Some (bracket (number 496 16 true))) ∷ blank
    ∷ structure (codes "e_t") (record { about = codes "On [-]"; named = record { kind = Integer byte; name = codes "on" } } ∷ []) ∷ blank
    ∷ routine head None ∷ blank ∷ end_if ∷ []

abbrev error_answer : Tree → Actions
error_answer t = then (return (Some (bracket (unary sign.Minus t)))) no_more

-- its body with what stands for `true`, `EINVAL` and the macro
abbrev body_with : Tree → Tree → Tree → Actions
body_with truth error id =
    then (declare byte (codes "x") (Some truth))
    (then (when (binary op.Less (name (codes "size")) (number 8 10 true)) (block (error_answer error)))
    (then (when (binary op.Equal (name (codes "dst_p")) null) (block (error_answer (number 1 10 false))))
    (then (call callee.Memset (more (name (codes "dst_p")) (more (number 0 10 false) (more (number 8 10 true) none))))
    (then (assign (e.element (codes "dst_p") (number 0 10 false)) set.BitOr (e.cast byte (e.member (codes "src_p") (codes "on"))))
    (then (assign (name (codes "x")) set.Set id)
    (then (return (Some (bracket (number 0 10 false)))) no_more))))))

abbrev source : List Part
source = include (codes "string.h") ∷ blank ∷ include_beside (codes "e.h") ∷ blank ∷ routine head (Some (body_with (name (codes "true")) (name (codes "EINVAL")) (name (codes "E_ID")))) ∷ []

-- what they read as: names are replaced, and the macro that is defined twice is one
abbrev items_read : List BareItem
items_read =
    struct (codes "e_t") (record { kind = Integer byte; name = codes "on" } ∷ []) ∷ function head None
    ∷ function head (Some (body_with (number 1 10 false) (number 22 10 false) (bracket (number 496 16 true)))) ∷ []

-- ---- they are printable

free : (n : List ℕ) → list_all goes_on n ≡ true → first_passes is_letter n ≡ true → keyword_in n ≡ None → IsFree n
free n h k e = (given-name n h k, e)

id-small : IsConstant (record { value = 496; base = 16; unsigned = true; longs = 0 })
id-small = record { small = omega arith; base = sixteen; longs = omega arith }

is-head : IsHead head
unfolding keyword_in
is-head = record {
  returns = tt;
  name = free (codes "e_pack") refl refl refl;
  params = ((tt, free (codes "dst_p") refl refl refl), ((free (codes "e_t") refl refl refl, free (codes "src_p") refl refl refl), ((tt, free (codes "size") refl refl refl), tt)));
}

abbrev with_string : State
with_string = with_headers nothing_known (string_h ∷ [])

header-right : IsHeaderAt with_string header
unfolding keyword_in kind_in
header-right = record {
  right = (
    pass-all is_shown (codes "Generated.") refl,
    (
      (free (codes "E_H") refl refl refl, refl),
      (
        (free (codes "E_H") refl refl refl, tt, tt),
        (
          tt,
          (
            tt,
            (
              tt,
              (
                tt,
                (
                  tt,
                  (
                    (free (codes "EINVAL") refl refl refl, refl),
                    (
                      (free (codes "EINVAL") refl refl refl, (decimal-fits 22 false (omega arith), tt), tt),
                      (
                        tt,
                        (
                          tt,
                          (
                            (free (codes "E_ID") refl refl refl, (id-small, tt), tt),
                            (
                              (free (codes "E_ID") refl refl refl, (id-small, tt), refl),
                              (
                                tt,
                                (
                                  (free (codes "e_t") refl refl refl, tt, (record { about = pass-all is_shown (codes "On [-]") refl; kind = w8; name = free (codes "on") refl refl refl }, tt), (refl, ((refl, refl), tt))),
                                  (
                                    tt,
                                    ((is-head, tt, ((refl, refl, ((refl, refl), ((refl, refl), ((refl, refl), tt)))), tt)), (tt, (tt, tt))),
                                  ),
                                ),
                              ),
                            ),
                          ),
                        ),
                      ),
                    ),
                  ),
                ),
              ),
            ),
          ),
        ),
      ),
    ),
  );
  balanced = refl;
}

source-right : IsSource (codes "e.h") header source
unfolding keyword_in kind_in
source-right = record {
  right = (
    tt,
    (
      tt,
      (
        (record { is = refl; not_empty = omega arith; shown = pass-all in_string (codes "e.h") refl; plain = pass-all is_plain (codes "e.h") refl }, header-right),
        (
          tt,
          (
            (
              is-head,
              (
                (w8, free (codes "x") refl refl refl, free (codes "true") refl refl refl),
                (
                  ((omega arith, free (codes "size") refl refl refl, decimal-fits 8 true (omega arith)), ((tt, free (codes "EINVAL") refl refl refl), tt)),
                  (
                    ((omega arith, free (codes "dst_p") refl refl refl, tt), ((tt, decimal-fits 1 false (omega arith)), tt)),
                    (
                      (tt, (free (codes "dst_p") refl refl refl, (decimal-fits 0 false (omega arith), (decimal-fits 8 true (omega arith), tt)))),
                      (
                        (refl, (free (codes "dst_p") refl refl refl, decimal-fits 0 false (omega arith)), (w8, (free (codes "src_p") refl refl refl, free (codes "on") refl refl refl))),
                        (
                          (refl, free (codes "x") refl refl refl, free (codes "E_ID") refl refl refl),
                          (decimal-fits 0 false (omega arith), tt),
                        ),
                      ),
                    ),
                  ),
                ),
              ),
              (
                (refl, refl, ((refl, refl), ((refl, refl), ((refl, refl), tt)))),
                ((refl, refl, (refl, tt)), ((((refl, tt), tt), ((refl, tt), tt)), ((((refl, tt), refl), (tt, tt)), ((refl, ((refl, tt), (tt, (tt, tt)))), ((tt, (refl, tt), (refl, (refl, refl))), ((refl, (refl, tt), (refl, tt)), (tt, tt))))))),
              ),
            ),
            tt,
          ),
        ),
      ),
    ),
  );
  balanced = refl;
}

pub example_law : ReadAsUnit (codes "e.h") (unit_text header) (unit_text source) items_read (map macro_tokens ((codes "E_H", None) ∷ (codes "EINVAL", Some (number 22 10 false)) ∷ (codes "E_ID", Some (bracket (number 496 16 true))) ∷ []))
unfolding kind_in
example_law = pair-reads (codes "e.h") header source with_string header-right source-right (tt, (tt, ((tt, (((tt, tt), (tt, tt)), (((tt, tt), (tt, tt)), ((tt, (tt, (tt, tt))), ((tt, tt), ((tt, tt), (tt, tt))))))), tt)))
