-- The event is the next of the run exactly where the machine allows it.
use Rattle.demonstration.proofs.Imports.{sym, ap, ◌∙◌, Event, DrivenView, driven_of, is_allowed, tried, units_of}
use Rattle.std.proofs.Common.{◌≡◌, Bool, true, false, List, [], ◌∷◌, ◌++◌}
use Rattle.demonstration.proofs.Driving.{not_allowed, now_allowed, now_tried, stays_driven}
use Rattle.demonstration.proofs.Rounding.{not_tried}
use Rattle.demonstration.proofs.driven.Driven.try_event.Goals as goal

pub invariant_of-self-in-Ok : goal.invariant_of-self-in-Ok
invariant_of-self-in-Ok c =
    let pushed : c.push_reserved.new.self.items ≡ c.self.inside.events.items ++ c.args.event ∷ [] = cc (c.push_reserved.ensures.items, c.in_ok-reserve.ensures.items) in
    stays_driven c.replays_join.ensures c.self.inside.machine c.apply.new.self c.self.inside.events.items c.push_reserved.new.self.items c.args.event c.in-Ok.field-0
    c.self.invariant c.in-Ok.ensures.answer c.in-Ok.ensures.ok c.in-Ok.ensures.kept.0 c.in-Ok.ensures.kept.1 pushed

pub returns-in-Ok-clause-run : goal.returns-in-Ok-clause-run
returns-in-Ok-clause-run c =
    let m = c.self.inside.machine in
    let events = c.self.inside.events.items in
    let e = c.args.event in
    let pushed : c.push_reserved.new.self.items ≡ events ++ e ∷ [] = cc (c.push_reserved.ensures.items, c.in_ok-reserve.ensures.items) in
    let next : c.push_reserved.new.self.items ≡ tried m.program (units_of m) events e =
    pushed ∙ sym (now_tried m.program (units_of m) events e (now_allowed m events e c.in-Ok.field-0 c.self.invariant c.in-Ok.ensures.answer)) in
    (λ j. record { program = c.in-Ok.ensures.kept.0 j; units = c.in-Ok.ensures.kept.1 j; run = next j })
    ∙ ap (λ (d : DrivenView). record d { run = tried d.program d.units d.run e }) c.self.view_is

pub returns-in-Ok-clause-allowed : goal.returns-in-Ok-clause-allowed
returns-in-Ok-clause-allowed c =
    let e = c.args.event in
    sym (now_allowed c.self.inside.machine c.self.inside.events.items e c.in-Ok.field-0 c.self.invariant c.in-Ok.ensures.answer)
    ∙ ap (λ (d : DrivenView). is_allowed d.program d.units d.run e) c.self.view_is

pub returns-else-is_memory-clause-run : goal.returns-else-is_memory-clause-run
returns-else-is_memory-clause-run c =
    let m = c.self.inside.machine in
    let events = c.self.inside.events.items in
    let e = c.args.event in
    let kept : c.reserve.new.self.items ≡ events = cc (c.in_ok-reserve.ensures.items) in
    let never = not_allowed m events e c.in-Err.why c.self.invariant
    (λ same. let found = c.is_memory.ensures.1 same in let other = c.if-is_memory.false in cc) c.in-Err.ensures.answer in
    (λ j. driven_of (c.in-Err.ensures.err j) (kept j))
    ∙ ap (λ (run : List Event). record (driven_of m events) { run = run }) (sym (not_tried m.program (units_of m) events e never))
    ∙ ap (λ (d : DrivenView). record d { run = tried d.program d.units d.run e }) c.self.view_is

pub returns-else-is_memory-clause-allowed : goal.returns-else-is_memory-clause-allowed
returns-else-is_memory-clause-allowed c =
    let e = c.args.event in
    sym (not_allowed c.self.inside.machine c.self.inside.events.items e c.in-Err.why c.self.invariant
    (λ same. let found = c.is_memory.ensures.1 same in let other = c.if-is_memory.false in cc) c.in-Err.ensures.answer)
    ∙ ap (λ (d : DrivenView). is_allowed d.program d.units d.run e) c.self.view_is
