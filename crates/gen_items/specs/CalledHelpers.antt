-- The helpers that pack functions call: one for each segment of each signal.
use Rattle.std.specs.Prelude.{ℕ, Bool, true, false, ◌&&◌, ◌==◌, List}
use Rattle.std.specs.List.{list_any, filter}
use Rattle.can_model.specs.declared.database.Message.{Message}
use Rattle.can_model.specs.declared.database.Signal.{Signal}
use Rattle.bit_layout.specs.Segments.{segments_of}
use Rattle.shift_helpers.specs.declared.helper.HelperKind.{HelperKind}
use Rattle.shift_helpers.specs.declared.helper.HelperKind.TheVariants.{PackLeft, PackRight, UnpackLeft, UnpackRight}
use Rattle.gen_types.specs.HelperList.{every_helper}
use Rattle.gen_pack.specs.SegmentMove.{width_of, pack_kind}

abbrev pub same_kind : HelperKind → HelperKind → Bool
same_kind PackLeft PackLeft = true
same_kind PackRight PackRight = true
same_kind UnpackLeft UnpackLeft = true
same_kind UnpackRight UnpackRight = true
same_kind a b = false

-- a segment of the signal is moved by the helper of this kind and width
abbrev pub calls_helper : HelperKind × ℕ → Signal → Bool
calls_helper h s = width_of s == h.1 && list_any (λ g. same_kind (pack_kind g) h.0) (segments_of s)

abbrev pub is_called : List Message → HelperKind × ℕ → Bool
is_called messages h = list_any (λ m. list_any (calls_helper h) m.signals) messages

-- in the order of all helpers
abbrev pub called_helpers : List Message → List (HelperKind × ℕ)
called_helpers messages = filter (is_called messages) every_helper
