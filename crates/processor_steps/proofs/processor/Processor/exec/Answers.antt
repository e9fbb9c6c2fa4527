use Rattle.std.proofs.Common.{ℕ, sym, subst}
use Rattle.machine_model.specs.declared.event.Event.TheVariants.{Exec}
use Rattle.processor_steps.specs.Processors.{Steps}
use Rattle.processor_steps.proofs.processor.Processor.exec.Goals as goal

pub returns-then-position-eq0 : goal.returns-then-position-eq0
returns-then-position-eq0 c =
    subst (λ (k : ℕ). Steps c.args.program.now c.args.self.now c.args.count (Exec k) c.exec_head.result c.exec_head.new.self) (sym c.if-position-eq0.true)
    c.exec_head.ensures
