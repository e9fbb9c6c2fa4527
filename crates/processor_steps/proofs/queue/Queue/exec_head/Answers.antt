use Rattle.std.proofs.Common.{true, refl, ap, ◌∙◌, List}
use Rattle.std.specs.Prelude.{slice_set}
use Rattle.unit_core.specs.Units.{UnitView, active_of}
use Rattle.processor_steps.specs.Processors.{QueueView, actives}
use Rattle.processor_steps.proofs.Queues.{is_there, changed, set_back}
use Rattle.processor_steps.proofs.Outcomes.{refused_at}
use Rattle.processor_steps.proofs.queue.Queue.exec_head.Goals as goal

pub returns-in-Ok-clause-ok : goal.returns-in-Ok-clause-ok
returns-in-Ok-clause-ok c =
    let items = c.self.inside.ring.items in
    let x = c.in-Some.head.now in
    let v = c.exec.new.self in
    let same = ap (λ (q : QueueView). actives q) c.self.view_is in
    record {
      unit = active_of x;
      is_unit = is_there items c.args.self.now 0 x same c.in-Some.ensures.value;
      may = c.in-Ok.ensures.allowed;
      after = active_of v;
      step = c.in-Ok.ensures.step;
      is = changed items c.args.self.now 0 v (active_of v) same refl;
    }

pub returns-in-Err-clause-refused : goal.returns-in-Err-clause-refused
returns-in-Err-clause-refused c =
    let x = c.in-Some.head.now in
    let there = is_there c.self.inside.ring.items c.args.self.now 0 x (ap (λ (q : QueueView). actives q) c.self.view_is) c.in-Some.ensures.value in
    refused_at c.args.program.now true (actives c.args.self.now) 0 (active_of x) c.in-Err.wait c.refused_by.result there c.refused_by.ensures c.in-Err.ensures.refused

pub returns-in-Err-clause-err : goal.returns-in-Err-clause-err
returns-in-Err-clause-err c =
    let items = c.self.inside.ring.items in
    let x = c.in-Some.head.now in
    let queue_of : List UnitView → QueueView = λ us. record { units = us; capacity = c.self.inside.ring.capacity } in (
      ap (λ (us : List UnitView). queue_of us) (ap (λ (v : UnitView). slice_set items 0 v) c.in-Err.ensures.kept.0 ∙ set_back items 0 x c.in-Some.ensures.value) ∙ c.self.view_is,
      c.in-Err.ensures.kept.1,
    )
