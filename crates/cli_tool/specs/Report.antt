-- What a run writes to its sink.
use Rattle.std.specs.Prelude.{ℕ, Bool, true, false, ◌||◌, ◌==◌, nat_lt, if◌then◌else◌, List, [], ◌∷◌, ◌++◌, length, map, codes}
use Rattle.std.specs.Fmt.{decimal}
use Rattle.can_model.specs.declared.refusal.TextKind.TheVariants.{TooLarge}
use Rattle.can_model.specs.Refusal.{Refusal, number_of, name_of}
use Rattle.can_model.specs.CheckRefusal.{check_number, check_name}
use Rattle.can_model.specs.Validity.{Fault}
use Rattle.c_text.specs.Refusal as c
use Rattle.cli_tool.specs.FileName.{header_path, source_path}

unfoldable pub usage_report : List ℕ
usage_report = codes "cantoolc: wrong words\n"

-- the names of the files that were written, the header's first
unfoldable pub written_report : List ℕ → List ℕ
written_report file = header_path file ++ codes "\n" ++ source_path file ++ codes "\n"

-- two C texts have no fault
unfoldable pub fine_report : List ℕ
fine_report = codes "ok\n"

-- a refusal by number, name, the text that is meant, where there are two, line, and the names that it is of
unfoldable pub refused_report : ℕ → List ℕ → List ℕ → ℕ → List ℕ → List ℕ
refused_report number name text line names =
    codes "refused " ++ decimal number ++ codes " " ++ name ++ text ++ codes " line " ++ decimal line ++ names ++ codes "\n"

-- of the one text
abbrev pub refusal_report : Refusal → List ℕ
refusal_report r = refused_report (number_of r.kind) (name_of r.kind) [] r.line []

-- what is shown of a name: a byte that ASCII does not print, or a blank, as `.`
abbrev pub shown_byte : ℕ → ℕ
shown_byte b = if nat_lt b 33 || nat_lt 126 b then 46 else b

-- a mark and a name, where there is one
abbrev pub marked : ℕ → List ℕ → List ℕ
marked mark name = if length name == 0 then [] else mark ∷ map shown_byte name

-- a message behind a blank, and a signal of it behind a `.`
abbrev pub names_of : Fault → List ℕ
names_of f = marked 32 f.message ++ marked 46 f.signal

-- of the database that the text spells
abbrev pub fault_report : Fault → List ℕ
fault_report f = refused_report (check_number f.kind) (check_name f.kind) [] f.line (names_of f)

-- a text has more bytes than it may
abbrev pub too_large_report : List ℕ
too_large_report = refusal_report (record { kind = TooLarge; line = 0 })

-- the header, or the source
unfoldable pub text_named : Bool → List ℕ
text_named true = codes " header"
text_named false = codes " source"

-- of one of two C texts
abbrev pub c_refusal_report : c.Refusal → List ℕ
c_refusal_report r = refused_report (c.kind_number r.kind) (c.kind_name r.kind) (text_named r.place.header) r.place.line []
