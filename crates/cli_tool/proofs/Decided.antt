-- The texts of each command give one answer.
use Rattle.std.proofs.Common.{◌≡◌, ℕ, Bool, true, false, List, [], ◌∷◌, map, Result, Ok, Err, sym, ap, subst, ◌∙◌, ℤ}
use Rattle.std.specs.Prelude.{nat_lt, length, MatchBool, MatchOption, MatchResult}
use Rattle.std.specs.declared.option.Option.{Option}
use Rattle.std.specs.declared.option.Option.TheVariants.{None, Some}
use Rattle.hex.specs.Hex.{decode_of}
use Rattle.hex.specs.declared.error.FromHexError.{FromHexError}
use Rattle.can_model.specs.declared.database.Database.{Database}
use Rattle.can_model.specs.declared.database.Message.{Message}
use Rattle.can_model.specs.Frame.{IsFrame, AreRawValues}
use Rattle.name_rules.specs.declared.table.SymbolTable.{SymbolTable}
use Rattle.name_rules.proofs.OneTable.{one-table}
use Rattle.frame_codec.proofs.OneFrame.{one_frame, one_reading}
use Rattle.codec_words.specs.NamedValues.{values_of}
use Rattle.codec_words.specs.Reports.{frame_report, IsFrameReport, value_lines, IsValuesReport}
use Rattle.codec_words.specs.Finding.{message_named, message_numbered}
use Rattle.db_text.specs.DatabaseOfText.{DatabaseRefusal, in_text, Spells}
use Rattle.db_text.proofs.OneAnswer.{one_answer}
use Rattle.cli_tool.specs.FileName.{database_name, is_sym}
use Rattle.cli_tool.specs.DatabaseInFile.{not_yet, GivesDatabase, AnswersGiven, HasAnswer, TextAnswers, database_task}
use Rattle.cli_tool.specs.GenerateTask.{pair_outputs, WritesPair}
use Rattle.cli_tool.specs.CodecTasks.{told_report, TellsFrame, TellsValuesOf, TellsValues}
use Rattle.cli_tool.specs.Command.{Command, generate_c_source, check, exec, encode, decode}
use Rattle.cli_tool.specs.Ends.{task_found}
use Rattle.cli_tool.specs.Report.{too_large_report, written_report}
use Rattle.cli_tool.specs.Task.{Task, Answer, wrong_words, refused, outcome, are_within}
use Rattle.cli_tool.proofs.Comes.{IsDecided}

-- ---- of a database

one_in : (file text : List ℕ) (a b : Result Database DatabaseRefusal) → GivesDatabase file text a → GivesDatabase file text b → a ≡ b
one_in file text a b = by_name (is_sym file) where
  by_name : (sym_file : Bool) → MatchBool sym_file (a ≡ Err (in_text (not_yet 0))) (Spells text a) → MatchBool sym_file (b ≡ Err (in_text (not_yet 0))) (Spells text b) → a ≡ b
  by_name true h k = h ∙ sym k
  by_name false h k = one_answer text a b h k

-- each database has one answer
abbrev IsOneAnswer : (Database → Answer → Type 0) → Type 0
IsOneAnswer Answers = (db : Database) (a b : Answer) → Answers db a → Answers db b → a ≡ b

module _ (Answers : Database → Answer → Type 0) (one : IsOneAnswer Answers) where
  one_of_given : (given : Result Database DatabaseRefusal) (a b : Answer) → AnswersGiven Answers given a → AnswersGiven Answers given b → a ≡ b
  one_of_given (Ok db) a b h k = one db a b h k
  one_of_given (Err refusal) a b h k = h ∙ sym k

  one_of_text : (file text : List ℕ) (a b : Answer) → HasAnswer Answers file text a → HasAnswer Answers file text b → a ≡ b
  one_of_text file text a b (x, h, e) (y, k, d) = one_of_given x a b e (subst (λ given. AnswersGiven Answers given b) (sym (one_in file text x y h k)) d)

  one_of_texts : (file : List ℕ) (texts : List (List ℕ)) (a b : Answer) → TextAnswers Answers file texts a → TextAnswers Answers file texts b → a ≡ b
  one_of_texts file [] a b h k = h ∙ sym k
  one_of_texts file (text ∷ []) a b h k = one_of_text file text a b h k
  one_of_texts file (text ∷ other ∷ texts) a b h k = h ∙ sym k

-- ---- of each command

one_pair : (file : List ℕ) → IsOneAnswer (WritesPair file)
one_pair file db a b (x, h, e) (y, k, d) =
    let same : y ≡ x = one-table db (database_name file) false x y h k in
    e ∙ ap (λ (names : SymbolTable). outcome true (pair_outputs file db names) (written_report file)) (sym same) ∙ sym d

one_report : (m : Message) (words : List (List ℕ)) (a b : Option (List ℕ)) → IsFrameReport m words a → IsFrameReport m words b → a ≡ b
one_report m words a b = by_values (values_of m words) where
  Reports : Option (List ℤ) → Option (List ℕ) → Type 0
  Reports values report = MatchOption values (report ≡ None) (λ vs. (bytes : List ℕ) × IsFrame m (map Some vs) bytes × (report ≡ Some (frame_report bytes)))

  by_values : (values : Option (List ℤ)) → Reports values a → Reports values b → a ≡ b
  by_values None h k = h ∙ sym k
  by_values (Some vs) (x, h, e) (y, k, d) = e ∙ ap (λ (bytes : List ℕ). Some (frame_report bytes)) (one_frame m (map Some vs) x y h k) ∙ sym d

one_told : (name : List ℕ) (words : List (List ℕ)) → IsOneAnswer (TellsFrame name words)
one_told name words db a b = by_message (message_named name db.messages) where
  Told : Option Message → Answer → Type 0
  Told found answer = MatchOption found (answer ≡ wrong_words) (λ m. (report : Option (List ℕ)) × IsFrameReport m words report × (answer ≡ told_report report))

  by_message : (found : Option Message) → Told found a → Told found b → a ≡ b
  by_message None h k = h ∙ sym k
  by_message (Some m) (x, h, e) (y, k, d) = e ∙ ap told_report (one_report m words x y h k) ∙ sym d

one_values_report : (m : Message) (bytes : List ℕ) (a b : Option (List ℕ)) → IsValuesReport m bytes a → IsValuesReport m bytes b → a ≡ b
one_values_report m bytes a b = by_size (nat_lt (length bytes) m.length) where
  Reports : Bool → Option (List ℕ) → Type 0
  Reports short report = MatchBool short (report ≡ None) ((values : List (Option ℤ)) × AreRawValues m bytes values × (report ≡ Some (value_lines m.signals values)))

  by_size : (short : Bool) → Reports short a → Reports short b → a ≡ b
  by_size true h k = h ∙ sym k
  by_size false (x, h, e) (y, k, d) = e ∙ ap (λ (values : List (Option ℤ)). Some (value_lines m.signals values)) (one_reading m bytes x y h k) ∙ sym d

one_of_bytes : (number bytes : List ℕ) → IsOneAnswer (TellsValuesOf number bytes)
one_of_bytes number bytes db a b = by_message (message_numbered number db.messages) where
  Told : Option Message → Answer → Type 0
  Told found answer = MatchOption found (answer ≡ wrong_words) (λ m. (report : Option (List ℕ)) × IsValuesReport m bytes report × (answer ≡ told_report report))

  by_message : (found : Option Message) → Told found a → Told found b → a ≡ b
  by_message None h k = h ∙ sym k
  by_message (Some m) (x, h, e) (y, k, d) = e ∙ ap told_report (one_values_report m bytes x y h k) ∙ sym d

one_of_digits : (number digits : List ℕ) → IsOneAnswer (TellsValues number digits)
one_of_digits number digits db a b = by_digits (decode_of digits) where
  Told : Result (List ℕ) FromHexError → Answer → Type 0
  Told decoded answer = MatchResult decoded (λ bytes. TellsValuesOf number bytes db answer) (λ fault. answer ≡ wrong_words)

  by_digits : (decoded : Result (List ℕ) FromHexError) → Told decoded a → Told decoded b → a ≡ b
  by_digits (Ok bytes) h k = one_of_bytes number bytes db a b h k
  by_digits (Err fault) h k = h ∙ sym k

-- ---- commands

within_limits : (task : Task) → ((texts : List (List ℕ)) (a b : Answer) → task.gives texts a → task.gives texts b → a ≡ b) → IsDecided task
within_limits task one texts a b = by_size (are_within task.inputs texts) where
  by_size : (w : Bool) → MatchBool w (task.gives texts a) (a ≡ refused too_large_report) → MatchBool w (task.gives texts b) (b ≡ refused too_large_report) → a ≡ b
  by_size true h k = one texts a b h k
  by_size false h k = h ∙ sym k

of_one_database : (Answers : Database → Answer → Type 0) (file : List ℕ) → IsOneAnswer Answers → IsDecided (database_task Answers file)
of_one_database Answers file one = within_limits (database_task Answers file) (one_of_texts Answers one file)

pub decided : (command : Option Command) → IsDecided (task_found command)
decided None = within_limits (task_found None) (λ texts a b h k. h ∙ sym k)
decided (Some (generate_c_source file)) = of_one_database (WritesPair file) file (one_pair file)
decided (Some (check header source)) = within_limits (task_found (Some (check header source))) (λ texts a b h k. h ∙ sym k)
decided (Some (exec header source model function words)) = within_limits (task_found (Some (exec header source model function words))) (λ texts a b h k. h ∙ sym k)
decided (Some (encode file message words)) = of_one_database (TellsFrame message words) file (one_told message words)
decided (Some (decode file number digits)) = of_one_database (TellsValues number digits) file (one_of_digits number digits)
