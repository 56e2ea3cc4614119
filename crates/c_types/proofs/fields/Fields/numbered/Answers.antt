use Rattle.std.proofs.Common.{length, refl, ap, sym, ◌∙◌}
use Rattle.std.proofs.lemmas.Option.{slice_get_read}
use Rattle.std.specs.Option.{option_map, option_and_then}
use Rattle.c_tree.specs.declared.item.Field.{Field}
use Rattle.c_types.specs.FieldNamed.{numbered}
use Rattle.c_types.proofs.FieldLists.{field_named-place}
use Rattle.c_types.proofs.fields.Fields.numbered.Goals as goal

pub returns-in_err-number : goal.returns-in_err-number
returns-in_err-number c =
    let fields = c.args.self.now in
    let named = field_named-place c.args.name.now fields.list.now fields.table c.position.result fields.same c.position.ensures.position in
    rw (c.from_residual.ensures) (sym (named ∙ ap (option_and_then (numbered fields.list.now)) c.in_err-number.was))

pub returns : goal.returns
returns c =
    let fields = c.args.self.now in
    let list = fields.list.now in
    let number = c.in_ok-number.number in
    let named = field_named-place c.args.name.now list fields.table c.position.result fields.same c.position.ensures.position in
    let at = c.in_ok-field.ensures.lookup in
    let field = slice_get_read list (length list) number c.in_ok-field.field.now refl at.3.0 at.1 in
    sym (named ∙ ap (option_and_then (numbered list)) c.in_ok-number.was ∙ ap (option_map (λ (f : Field). (number, f))) field)
