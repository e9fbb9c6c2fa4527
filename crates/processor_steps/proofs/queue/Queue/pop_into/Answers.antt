-- The head hands over what it holds before it goes, and the units after it are as they were.
use Rattle.std.proofs.Common.{◌≡◌, ℕ, List, ◌++◌, None, drop, refl, ap, ◌∙◌, unwrap_or}
use Rattle.std.specs.Prelude.{slice_index, slice_set, if◌then◌else◌, OnErr, Result, Ok, Err}
use Rattle.mips_instructions.specs.Words.{has}
use Rattle.machine_model.specs.Machine.{Active, Words}
use Rattle.unit_core.specs.Units.{UnitView, active_of}
use Rattle.processor_steps.specs.Processors.{QueueView, actives}
use Rattle.processor_steps.proofs.Queues.{unit_is, behind_head, set_back}
use Rattle.processor_steps.proofs.queue.Queue.pop_into.Goals as goal

holds_on_err : {T E P : Type 0} (r : Result T E) → P → OnErr r P
holds_on_err (Ok done) p = tt
holds_on_err (Err refused) p = p

pub returns-clause-registers : goal.returns-clause-registers
returns-clause-registers c = λ u at r.
    let items = c.self.inside.ring.items in
    let x = c.in-Some.head.now in
    let is : active_of x ≡ u = unit_is items c.args.self.now 0 x u (ap (λ (q : QueueView). actives q) c.self.view_is) c.in-Some.ensures.value at in
    let word : (Words → ℕ) = λ sent. unwrap_or (if has c.args.create r then sent r else None) (slice_index c.args.registers.now r) in
    c.hand_over.ensures r
    ∙ ap (λ (v : UnitView). word (active_of v).sent) c.in_ok-hand_over_reads.ensures.unit
    ∙ ap (λ (a : Active). word a.sent) is

pub returns-clause-reads : goal.returns-clause-reads
returns-clause-reads c = λ u at.
    let items = c.self.inside.ring.items in
    let x = c.in-Some.head.now in
    let is : active_of x ≡ u = unit_is items c.args.self.now 0 x u (ap (λ (q : QueueView). actives q) c.self.view_is) c.in-Some.ensures.value at in
    c.in_ok-hand_over_reads.ensures.reads ∙ ap (λ (a : Active). c.args.reads.now.reads ++ a.log) is

pub returns-clause-queue : goal.returns-clause-queue
returns-clause-queue c =
    let queue_of : List UnitView → QueueView = λ us. record { units = us; capacity = c.self.inside.ring.capacity } in
    c.pop-2.ensures
    ∙ ap queue_of (behind_head c.self.inside.ring.items c.swap_log.new.self)
    ∙ ap (λ (q : QueueView). record q { units = drop 1 q.units }) c.self.view_is

pub returns-in_err-hand_over_reads-clause-err : goal.returns-in_err-hand_over_reads-clause-err
returns-in_err-hand_over_reads-clause-err c =
    let items = c.self.inside.ring.items in
    let queue_of : List UnitView → QueueView = λ us. record { units = us; capacity = c.self.inside.ring.capacity } in
    let same : queue_of (slice_set items 0 c.hand_over_reads.new.self) ≡ c.args.self.now =
    ap queue_of (ap (λ (v : UnitView). slice_set items 0 v) c.in_err-hand_over_reads.ensures.err.0 ∙ set_back items 0 c.in-Some.head.now c.in-Some.ensures.value) ∙ c.self.view_is in
    holds_on_err c.from_residual.result (same, refl, c.in_err-hand_over_reads.ensures.err.1)
