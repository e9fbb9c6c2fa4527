-- One line more.
use Rattle.std.proofs.Common.{◌++◌, ◌∙◌, ap, List, ℕ}
use Rattle.std.specs.String.{string_bytes}
use Rattle.event_script.proofs.WrittenRuns.{repeated_more}
use Rattle.event_script.proofs.writing.repeat_line.Goals as goal

pub loop-preserved : goal.loop-preserved
loop-preserved c =
    c.in_ok-push_str.ensures.bytes ∙ ap (λ (t : List ℕ). t ++ c.args.line.now) c.loop.invariant
    ∙ repeated_more (string_bytes c.args.text.now) c.loop.counter c.args.line.now
