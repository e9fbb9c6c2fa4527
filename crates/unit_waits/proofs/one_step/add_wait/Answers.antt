-- After the last unit there is none, a unit that acts does not wait, and else there is one wait more.
use Rattle.std.proofs.Common.{◌≡◌, ℕ, List, [], ◌∷◌, ◌++◌, length, true, false, slice_get, Some, None, sym, ap, ◌∙◌, arith}
use Rattle.unit_core.specs.Units.{active_of}
use Rattle.sequencer.specs.Machines.{state}
use Rattle.unit_waits.specs.Waits.{acts, waiting}
use Rattle.unit_waits.proofs.InOrder.{waits_past, waits_skip, waits_more}
use Rattle.unit_waits.proofs.one_step.add_wait.Goals as goal

pub returns-in_default : goal.returns-in_default
returns-in_default c =
    let s = state c.args.machine.now in
    let none : slice_get s.queue c.args.position ≡ None = first_of (cc, grind arith) in
    waits_past c.args.accepted.now.program c.args.units c.args.step s c.args.events.now c.args.position s.queue c.args.waits.now.items none

pub returns-then-acts : goal.returns-then-acts
returns-then-acts c =
    let s = state c.args.machine.now in
    let u = active_of c.in-Some.unit.now in
    let there : slice_get s.queue c.args.position ≡ Some u = first_of (cc, grind arith) in
    let does : acts (length s.queue) c.args.position c.args.events.now ≡ true =
    ap (λ (n : ℕ). acts n c.args.position c.args.events.now) (sym c.active.ensures.active) ∙ sym c.acts.ensures ∙ c.if-acts.true in
    waits_skip c.args.accepted.now.program c.args.units c.args.step s c.args.events.now c.args.position s.queue u c.args.waits.now.items there does

pub returns : goal.returns
returns c =
    let s = state c.args.machine.now in
    let u = active_of c.in-Some.unit.now in
    let there : slice_get s.queue c.args.position ≡ Some u = first_of (cc, grind arith) in
    let idle : acts (length s.queue) c.args.position c.args.events.now ≡ false =
    ap (λ (n : ℕ). acts n c.args.position c.args.events.now) (sym c.active.ensures.active) ∙ sym c.acts.ensures ∙ c.if-acts.false in
    let unit = c.unit_at.ensures in
    let task = c.task.ensures in
    let place = c.spot.ensures in
    let reason = c.reason.ensures in
    waits_more c.args.accepted.now.program c.args.units c.args.step s c.args.events.now c.args.position s.queue u c.args.waits.now.items c.push.new.self.items there idle
    (c.in_ok-push.ensures.items ∙ (λ i. c.args.waits.now.items ++ record { step = c.args.step; unit = unit i; task = task i; place = place i; reason = reason i } ∷ []))
