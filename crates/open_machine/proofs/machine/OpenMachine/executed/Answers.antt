-- No more was executed than there were events.
use Rattle.std.proofs.Common.{◌≡◌, ◌+◌, ◌<◌, ◌^◌, List, length, ap, ◌∙◌, subst, arith}
use Rattle.mips_plain.specs.declared.outcome.Read.{Read}
use Rattle.machine_model.specs.Claims.{by_head}
use Rattle.open_machine.specs.Machines.{OpenView, state}
use Rattle.open_machine.proofs.Applied.{few_executed}
use Rattle.open_machine.proofs.machine.OpenMachine.executed.Goals as goal

pub overflow_add-result : goal.overflow_add-result
overflow_add-result c =
    let i = c.self.inside in
    let m : OpenView = record { program = i.program.now; processor = i.processor; count = i.count } in
    let s = state c.args.self.now in
    let few : length s.reads + by_head s.queue < 2 ^ 32 =
    subst (λ (x : OpenView). length (state x).reads + by_head (state x).queue < 2 ^ 32) c.self.view_is (few_executed m c.self.invariant) in
    let reads : c.len.result ≡ length s.reads =
    c.len.ensures ∙ ap (λ (xs : List Read). length xs) c.reads-retired.ensures ∙ ap (λ (x : OpenView). length (state x).reads) c.self.view_is in
    omega (arith, c.executed_by_head-by_head.ensures)
