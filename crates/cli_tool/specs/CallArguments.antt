-- The arguments that words give a function: one for each parameter, and the objects that they bring, each its own.
use Rattle.std.specs.Prelude.{ℕ, List, [], ◌∷◌, ◌++◌, length}
use Rattle.std.specs.Option.{option_and_then}
use Rattle.std.specs.declared.option.Option.{Option}
use Rattle.std.specs.declared.option.Option.TheVariants.{None, Some}
use Rattle.c_tree.specs.declared.item.Field.{Field}
use Rattle.c_mem.specs.declared.objects.Object.{Object}
use Rattle.c_mem.specs.declared.objects.Pointer.TheVariants.{Null, Stray, At}
use Rattle.c_widths.specs.DataModel.{DataModel}
use Rattle.c_effect.specs.declared.state.Arg.{Arg}
use Rattle.c_effect.specs.declared.state.Arg.TheVariants.{Integer, Pointer}
use Rattle.exec_words.specs.declared.argument.Argument.{Argument}
use Rattle.exec_words.specs.declared.argument.Argument.TheVariants as argument
use Rattle.exec_words.specs.ArgumentWord.{argument_of}

pub record Given : Type 0 where
  pub args : List Arg
  pub objects : List Object

abbrev pub with_arg : Given → Arg → Given
with_arg given x = record { args = given.args ++ x ∷ []; objects = given.objects }

-- a pointer to the next object, and the object
abbrev pub with_object : Given → Object → Given
with_object given o = record {
  args = given.args ++ Pointer (At (length given.objects)) ∷ [];
  objects = given.objects ++ o ∷ [];
}

-- behind one argument
abbrev pub with_argument : Given → Argument → Given
with_argument given (argument.Number z) = with_arg given (Integer z)
with_argument given argument.Null = with_arg given (Pointer Null)
with_argument given argument.Stray = with_arg given (Pointer Stray)
with_argument given (argument.Object o) = with_object given o

-- behind one for each of these parameters; words that are too many or too few are none
abbrev pub with_arguments : DataModel → List (List ℕ × List Field) → List Field → List (List ℕ) → Given → Option Given
with_arguments m structs [] [] given = Some given
with_arguments m structs (f ∷ fs) (word ∷ words) given =
    option_and_then (λ a. with_arguments m structs fs words (with_argument given a)) (argument_of m structs f.kind word)
with_arguments m structs fields words given = None

abbrev pub arguments_of : DataModel → List (List ℕ × List Field) → List Field → List (List ℕ) → Option Given
arguments_of m structs fields words = with_arguments m structs fields words (record { args = []; objects = [] })
