use Rattle.std.proofs.Common.{◌≡◌, drop}
use Rattle.codec_words.specs.Given.{with_words}
use Rattle.codec_words.proofs.giving.Signals.give_all.Given as goal

-- the words that are left give what all give
abbrev pub invariant-loop-word : goal.invariant-loop-word
invariant-loop-word l = with_words l.self.message.now (drop l.word-index l.words) l.values ≡ with_words l.self.message.now l.words l.initial.values
