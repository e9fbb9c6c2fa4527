-- The lines of the answers so far are written.
use Rattle.std.proofs.Common.{◌≡◌, ◌++◌, take}
use Rattle.std.specs.String.{string_bytes}
use Rattle.verdict_report.specs.ReplayText.{answers_text}
use Rattle.verdict_report.proofs.event_text.write_answers.Given as goal

abbrev pub invariant-loop-index : goal.invariant-loop-index
invariant-loop-index l = string_bytes l.text ≡ string_bytes l.initial.text ++ answers_text (take l.index l.answers)
