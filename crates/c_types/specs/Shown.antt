-- What the code's tables show of a place in a unit.
use Rattle.std.specs.Prelude.{ℕ}
use Rattle.std.specs.Option.{option_map}
use Rattle.cg_out.specs.Words.{look_up}
use Rattle.c_widths.specs.DataModel.{model_of}
use Rattle.c_types.specs.Setting.{Setting}
use Rattle.c_types.specs.declared.known.Known.{Known}

abbrev pub setting_of : {int long pointer : ℕ} → Known int long pointer → Setting
setting_of {int = int} {long = long} {pointer = pointer} k = record {
  model = model_of int long pointer;
  fields = λ tag. option_map (λ f. f.list.now) (look_up tag k.structs);
  function = λ name. option_map (λ f. f.now) (look_up name k.functions);
  defined = λ name. option_map (λ f. f.now) (look_up name k.defined);
  calls = λ name. look_up name k.calls;
}
