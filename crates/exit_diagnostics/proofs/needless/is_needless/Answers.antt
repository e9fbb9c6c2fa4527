-- The marks decide.
use Rattle.std.proofs.Common.{◌≡◌, ◌<◌, Bool, List, length, ◌∙◌, ap, arith}
use Rattle.task_descriptor.specs.declared.descriptor.Marked.{Marked}
use Rattle.exit_diagnostics.specs.NeedlessSteps.{all_right}
use Rattle.exit_diagnostics.proofs.Removing.{needless_exactly}
use Rattle.exit_diagnostics.proofs.needless.is_needless.Goals as goal

pub returns : goal.returns
returns c =
    let s = c.args.subject.now in
    let code = c.in_ok-code.code in
    let count : length c.code.result.now ≡ length s.program.code = ap (λ (ms : List Marked). length ms) c.code.ensures in
    let less : c.args.index < length s.program.code = omega (arith, c.if-index-code.false) in
    needless_exactly s c.args.task c.args.index code c.in_ok-marks.marks.items c.all_right.result less c.in_ok-code.ensures c.in_ok-marks.ensures
    (c.all_right.ensures ∙ ap (λ (marks : List Bool). all_right s code marks c.args.task c.args.index) c.deref.ensures.value)
