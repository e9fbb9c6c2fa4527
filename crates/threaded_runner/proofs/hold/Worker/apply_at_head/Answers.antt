use Rattle.threaded_runner.proofs.Imports.{◌≡◌, ℕ, ◌<◌, ◌≤◌, ◌⊎◌, length, inl, inr, rules, sym, ap, ◌∙◌, subst, arith, true≢false, Exec, MachineView, units_of, unit_for, turn_of, Apply, Wait, Share, IsShareOf, IsServed, GaveUp, DoesEvent}
use Rattle.threaded_runner.proofs.Sharing.{head_served, on_ring}
use Rattle.threaded_runner.proofs.hold.Worker.apply_at_head.Goals as goal

pub apply_event-requires-clause-served : goal.apply_event-requires-clause-served
apply_event-requires-clause-served g c =
    let s = c.args.self.now.share in
    let m = c.machine-machine.result.now in
    let head = c.head_unit-head.result in
    let of_run : IsShareOf g.J.Naming.units g.J.Naming.workers s = subst (λ (x : Share). IsShareOf g.J.Naming.units g.J.Naming.workers x) c.share.ensures.value c.share.ensures.of_run in
    let ready : turn_of m head ≡ Wait → ⊥ = λ waits. let never : Apply c.in-Apply.event ≡ Wait = sym c.in-Apply.is ∙ c.turn_at_head.ensures.value ∙ waits in absurd (cc) in
    let in_ring : head < units_of m = on_ring m head ready in
    subst (λ (u : ℕ). IsServed s u) (sym c.head_unit-head.ensures)
    (head_served m s g.J.Naming.units g.J.Naming.workers c.machine-machine.ensures.units of_run c.requires (omega arith))

pub returns-in-Apply-clause-applied : goal.returns-in-Apply-clause-applied
returns-in-Apply-clause-applied g c = λ _.
    let m = c.machine-machine.result.now in
    let d = c.args.desk.now in
    let e = c.in-Apply.event in
    let head = c.head_unit-head.result in
    let same : m ≡ d.machine = c.machine-machine.ensures.machine in
    let at : head ≡ unit_for d.machine (Exec 0) = c.head_unit-head.ensures ∙ ap (λ (x : MachineView). unit_for x (Exec 0)) same in
    let named : turn_of m head ≡ Apply e = sym c.turn_at_head.ensures.value ∙ c.in-Apply.is in
    let turn : turn_of d.machine (unit_for d.machine (Exec 0)) ≡ Apply e =
    subst (λ (u : ℕ). turn_of d.machine u ≡ Apply e) at (subst (λ (x : MachineView). turn_of x head ≡ Apply e) same named) in
    let short : c.self.inside.budget ≤ length d.machine.history → ⊥ = λ full. true≢false (sym (c.is_done.ensures.1 (inr (inr full))) ∙ c.if-is_done.false) in
    let same_budget : c.args.self.now.budget ≡ c.self.inside.budget = search rules in
    let room : length d.machine.history < c.args.self.now.budget = omega (arith, same_budget) in (
      e,
      turn,
      room,
      subst (λ (u : ℕ). DoesEvent c.args.self.now u e d c.apply_event.new.self c.apply_event.new.desk
          ⊎ GaveUp g.J.Deeds.was_asked c.args.self.now u e d c.apply_event.new.self c.apply_event.new.desk) at c.apply_event.ensures.did,
    )
