-- `encode FILE MESSAGE NAME=VALUE..` and `decode FILE ID HEX`: the frame of values, and the values of a frame.
use Rattle.std.specs.Prelude.{◌≡◌, ℕ, true, List, [], Option, Some, None, MatchOption, MatchResult}
use Rattle.hex.specs.Hex.{decode_of}
use Rattle.can_model.specs.declared.database.Database.{Database}
use Rattle.codec_words.specs.Finding.{message_named, message_numbered}
use Rattle.codec_words.specs.Reports.{IsFrameReport, IsValuesReport}
use Rattle.cli_tool.specs.DatabaseInFile.{database_task}
use Rattle.cli_tool.specs.Task.{Answer, wrong_words, outcome, Task}

-- a report is told, or the words are wrong where there is none
abbrev pub told_report : Option (List ℕ) → Answer
told_report None = wrong_words
told_report (Some report) = outcome true [] report

-- the frame of the message of this name is told, where its signals have the values that words give them
abbrev pub TellsFrame : List ℕ → List (List ℕ) → Database → Answer → Type 0
TellsFrame name words db answer =
    MatchOption (message_named name db.messages) (answer ≡ wrong_words) (λ m. (report : Option (List ℕ)) × IsFrameReport m words report × (answer ≡ told_report report))

-- the values of the message of this number are told, in a frame of these bytes
abbrev pub TellsValuesOf : List ℕ → List ℕ → Database → Answer → Type 0
TellsValuesOf number bytes db answer =
    MatchOption (message_numbered number db.messages) (answer ≡ wrong_words) (λ m. (report : Option (List ℕ)) × IsValuesReport m bytes report × (answer ≡ told_report report))

-- the same in a frame that digits spell
abbrev pub TellsValues : List ℕ → List ℕ → Database → Answer → Type 0
TellsValues number digits db answer = MatchResult (decode_of digits) (λ bytes. TellsValuesOf number bytes db answer) (λ fault. answer ≡ wrong_words)

abbrev pub encode_task : List ℕ → List ℕ → List (List ℕ) → Task
encode_task file name words = database_task (TellsFrame name words) file

abbrev pub decode_task : List ℕ → List ℕ → List ℕ → Task
decode_task file number digits = database_task (TellsValues number digits) file
