-- The register of this turn has the right word, as those before.
use Rattle.demonstration.proofs.Imports.{sym, arith, machine_state, Active, value, state, wrong_word}
use Rattle.std.proofs.Common.{◌≡◌, None}
use Rattle.unit_core.specs.Units.{active_of}
use Rattle.demonstration.proofs.Harmless.{one_more_right}
use Rattle.demonstration.proofs.judge.wrong_word.Goals as goal

pub loop-number-preserved : goal.loop-number-preserved
loop-number-preserved c =
    let plain = machine_state c.args.plain.now in
    let n = c.loop-number.number in
    let head : Active = active_of c.in_ok-head.head.now in
    let none : wrong_word (plain.regs n) (value head n) ≡ None =
    cc (c.in_default-unless_right.ensures, c.reg-right.ensures, c.value.ensures, c.in-Some.ensures.value) in
    one_more_right (state c.args.machine.now) plain n head (sym c.in_ok-head.ensures) none c.loop-number.invariant

pub returns-clause-none : goal.returns-clause-none
returns-clause-none c = λ r word right below h. c.loop-number.invariant r word right (omega arith) h
