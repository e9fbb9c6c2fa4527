-- The words so far are written.
use Rattle.std.proofs.Common.{◌≡◌, ◌++◌, take}
use Rattle.std.specs.String.{string_bytes}
use Rattle.report_texts.specs.OutputTexts.{words_text}
use Rattle.report_texts.proofs.plain_text.write_words.Given as goal

abbrev pub invariant-loop-word : goal.invariant-loop-word
invariant-loop-word l =
    string_bytes l.text ≡ string_bytes l.initial.text ++ words_text (take l.word-index l.words)
