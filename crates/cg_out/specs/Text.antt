-- The bytes of a text, wherever they lie.
use Rattle.std.specs.Prelude.{ℕ, List}
use Rattle.cg_out.specs.declared.text.Content.{Content}
use Rattle.cg_out.specs.declared.text.Content.TheVariants.{Inline, Heap}

abbrev pub bytes_of : Content → List ℕ
bytes_of (Inline short) = short
bytes_of (Heap long) = long.value.items
