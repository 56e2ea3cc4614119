-- Worked values of the helpers, by computation.
use Rattle.std.proofs.Common.{◌≡◌, [], refl, Err}
use Rattle.std.specs.Prelude.{codes}
use Rattle.c_mem.specs.declared.undefined.Undefined.TheVariants.{ShiftCount}
use Rattle.c_widths.specs.DataModel.{ilp32}
use Rattle.c_widths.specs.IntegerType.{exact_type}
use Rattle.c_widths.specs.Conversion.{wrap}
use Rattle.c_operators.specs.Operator.{operate}
use Rattle.c_effect.specs.Locals.{read_local}
use Rattle.c_effect.specs.FunctionCall.{run_in, ended}
use Rattle.c_effect.specs.World.{stop}
use Rattle.c_effect.proofs.Equations.{meanings}
use Rattle.shift_helpers.specs.declared.helper.HelperKind.TheVariants as h
use Rattle.shift_helpers.specs.HelperResult.{result}
use Rattle.shift_helpers.specs.HelperTree.{nowhere, packed, returned, helper_name, helper}
use Rattle.shift_helpers.specs.HelperMeaning.{alone, arguments}

named : helper_name h.UnpackRight 64 ≡ codes "unpack_right_shift_u64"
unfolding helper_name
named = refl

-- the two low bits of 0xabcd to the top of a byte
packed_left : result h.PackLeft 16 43981 6 192 ≡ 64
unfolding result
packed_left = refl

-- its four high bits to the bottom
packed_right : result h.PackRight 16 43981 12 15 ≡ 10
unfolding result
packed_right = refl

-- and back from each place
unpacked_right : result h.UnpackRight 16 64 6 192 ≡ 1
unfolding result
unpacked_right = refl

unpacked_left : result h.UnpackLeft 16 10 12 15 ≡ 40960
unfolding result
unpacked_left = refl

-- bits above the width are lost
lost : result h.UnpackLeft 8 255 4 255 ≡ 240
unfolding result
lost = refl

-- a shift by the width of int is undefined (6.5.7p3): no helper is called with it
too_far : run_in (alone ilp32 []) (helper h.PackRight 32) (arguments 1 32 255) [] ≡ ended (Err (stop ShiftCount nowhere)) []
unfolding wrap read_local run_in operate exact_type helper_name returned packed
too_far = simp meanings
