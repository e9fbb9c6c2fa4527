-- The first line with a fault is told of first.
use Rattle.std.proofs.Common.{◌∙◌}
use Rattle.input_diagnostics.proofs.Silence.{script_told}
use Rattle.input_diagnostics.proofs.script.script_errors.Goals as goal

pub returns : goal.returns
returns c =
    script_told c.args.program.now c.args.text.now _ _ (c.deref.ensures.value ∙ c.in_ok-bad.ensures.first) c.in_ok-list.ensures (c.refused_for_the_first.ensures c.args.program.now c.args.text.now)
