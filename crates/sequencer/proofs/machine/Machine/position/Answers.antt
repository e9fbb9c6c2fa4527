use Rattle.std.proofs.Common.{◌≡◌, ◌+◌, ◌<◌, ◌≤◌, ◌⊎◌, inl, inr, length, sym, ap, ◌∙◌, subst, arith}
use Rattle.sequencer.specs.Machines.{MachineView, state, units_of}
use Rattle.sequencer.proofs.Numbers.{around, one_place}
use Rattle.sequencer.proofs.machine.Machine.position.Goals.{then-unit-head, else-unit-head}
use Rattle.sequencer.proofs.machine.Machine.position.Goals as goal

pub returns-then-position-active-clause-position : goal.returns-then-position-active-clause-position
returns-then-position-active-clause-position c =
    let m : MachineView = c.args.self.now in
    let n : c.capacity-units.result ≡ units_of m = c.capacity-units.ensures.capacity ∙ ap (λ (x : MachineView). units_of x) c.self.view_is in
    let active : c.active.result ≡ length (state m).queue = c.active.ensures.active ∙ ap (λ (x : MachineView). length (state x).queue) c.self.view_is in
    let reached : (c.number_at-head.result + c.if-unit-head.position ≡ c.args.unit) ⊎ (c.number_at-head.result + c.if-unit-head.position ≡ c.args.unit + units_of m) =
    elim c.if-unit-head.branch [
      | then-unit-head w ↦ inl (omega (arith, w.if-unit-head.true, w.position-is))
      | else-unit-head w ↦ inr (omega (arith, n, w.if-unit-head.false, w.position-is))
    ] in
    let small : c.args.unit < units_of m = omega (arith, n, c.if-unit-units.false) in
    (omega (arith, active, c.if-position-active.true), around (length (state m).commits) c.number_at-head.result c.args.unit (units_of m) c.if-unit-head.position c.number_at-head.ensures small reached)

pub returns-else-position-active-clause-none : goal.returns-else-position-active-clause-none
returns-else-position-active-clause-none c k behind same =
    let m : MachineView = c.args.self.now in
    let n : c.capacity-units.result ≡ units_of m = c.capacity-units.ensures.capacity ∙ ap (λ (x : MachineView). units_of x) c.self.view_is in
    let active : c.active.result ≡ length (state m).queue = c.active.ensures.active ∙ ap (λ (x : MachineView). length (state x).queue) c.self.view_is in
    let within : length (state m).queue ≤ units_of m = subst (λ (x : MachineView). length (state x).queue ≤ units_of x) c.self.view_is c.active.ensures.within in
    let small : c.args.unit < units_of m = omega (arith, n, c.if-unit-units.false) in
    let reached : ((c.number_at-head.result + c.if-unit-head.position ≡ c.args.unit) ⊎ (c.number_at-head.result + c.if-unit-head.position ≡ c.args.unit + units_of m)) × (c.if-unit-head.position < units_of m) =
    elim c.if-unit-head.branch [
      | then-unit-head w ↦ (inl (omega (arith, w.if-unit-head.true, w.position-is)), omega (arith, small, w.if-unit-head.true, w.position-is))
      | else-unit-head w ↦ (inr (omega (arith, n, w.if-unit-head.false, w.position-is)), omega (arith, n, w.if-unit-head.false, w.position-is))
    ] in
    let there = around (length (state m).commits) c.number_at-head.result c.args.unit (units_of m) c.if-unit-head.position c.number_at-head.ensures small reached.0 in
    let one : k ≡ c.if-unit-head.position = one_place (length (state m).commits) k c.if-unit-head.position (units_of m) (omega (arith, behind, within)) reached.1 (same ∙ sym there) in
    absurd (omega (arith, behind, active, one, c.if-position-active.false))
