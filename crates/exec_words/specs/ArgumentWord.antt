-- What a word of the command line gives a parameter of a function: `int:N`, `null`, `stray`, or an object that a word makes.
use Rattle.std.specs.Prelude.{ℕ, if◌then◌else◌, List, codes, Option, Some, None, bytes_eq}
use Rattle.std.specs.Option.{option_map, option_and_then}
use Rattle.c_tree.specs.declared.item.CType.{CType}
use Rattle.c_tree.specs.declared.item.CType.TheVariants.{Void, Integer, Pointer}
use Rattle.c_tree.specs.declared.item.Field.{Field}
use Rattle.c_widths.specs.DataModel.{DataModel}
use Rattle.c_widths.specs.IntegerType.{type_of}
use Rattle.cg_out.specs.Words.{or_else}
use Rattle.exec_words.specs.declared.argument.Argument.{Argument}
use Rattle.exec_words.specs.declared.argument.Argument.TheVariants as argument
use Rattle.command_words.specs.CutWord.{behind}
use Rattle.exec_words.specs.NumberWord.{number_of}
use Rattle.exec_words.specs.ObjectWord.{object_in}

-- a pointer to no object
abbrev pub pointer_in : List ℕ → Option Argument
pointer_in word =
    if bytes_eq word (codes "null") then Some argument.Null
    else if bytes_eq word (codes "stray") then Some argument.Stray
    else None

-- for a parameter of a type
abbrev pub argument_of : DataModel → List (List ℕ × List Field) → CType → List ℕ → Option Argument
argument_of m structs Void word = None
argument_of m structs (Integer s) word =
    option_map (λ z. argument.Number z) (option_and_then (number_of m (Some (type_of m s))) (behind (codes "int:") word))
argument_of m structs (Pointer target constant) word =
    or_else (pointer_in word) (option_map (λ o. argument.Object o) (object_in m structs target word))
