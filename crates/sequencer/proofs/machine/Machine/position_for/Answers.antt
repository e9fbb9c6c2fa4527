-- A fresh burst has its unit where the search looks, so where that finds none, or another unit, it is stale.
use Rattle.std.proofs.Common.{◌≡◌, ℕ, Some, None, sym, ap, ◌∙◌, subst}
use Rattle.std.specs.Prelude.{slice_get}
use Rattle.std.proofs.lemmas.Bool.{false≢true}
use Rattle.machine_model.specs.Machine.{Active}
use Rattle.unit_core.specs.Units.{UnitView, active_of, unlogged}
use Rattle.unit_core.specs.Bursts.{HasMore}
use Rattle.processor_steps.specs.Processors.{position_with}
use Rattle.sequencer.specs.Machines.{MachineView, state}
use Rattle.sequencer.proofs.TakenBursts.{never_none, at_fresh}
use Rattle.sequencer.proofs.machine.Machine.position_for.Goals as goal

pub returns-in_default-clause-none : goal.returns-in_default-clause-none
returns-in_default-clause-none c = λ f.
    let m = c.args.self.now in
    let b = c.args.burst.now in
    let serial : c.serial.result ≡ b.before.serial = c.serial.ensures ∙ ap (λ (u : UnitView). u.serial) c.before-before.ensures.unit in
    let found : c.position_with.result ≡ position_with (state m).queue b.before.serial =
    c.position_with.ensures ∙ (λ j. position_with (state (c.self.view_is j)).queue (serial j)) in
    never_none m b f c.law_replay.ensures.distinct (sym found ∙ c.in_default.is)

pub returns-in_default-unit-clause-none : goal.returns-in_default-unit-clause-none
returns-in_default-unit-clause-none c = λ f.
    let m = c.args.self.now in
    let b = c.args.burst.now in
    let k = c.in-Some.position in
    let serial : c.serial.result ≡ b.before.serial = c.serial.ensures ∙ ap (λ (u : UnitView). u.serial) c.before-before.ensures.unit in
    let found : c.position_with.result ≡ position_with (state m).queue b.before.serial =
    c.position_with.ensures ∙ (λ j. position_with (state (c.self.view_is j)).queue (serial j)) in
    let here = at_fresh m b f c.law_replay.ensures.distinct k (sym found ∙ c.in-Some.is) in
    let gone : slice_get (state m).queue k ≡ None =
    ap (λ (x : MachineView). slice_get (state x).queue k) (sym c.self.view_is)
    ∙ sym c.in_default-unit.ensures in
    let never : None ≡ Some f.unit = sym gone ∙ here in
    absurd (cc)

pub returns-then-not-has_more-clause-none : goal.returns-then-not-has_more-clause-none
returns-then-not-has_more-clause-none c = λ f.
    let m = c.args.self.now in
    let b = c.args.burst.now in
    let k = c.in-Some.position in
    let serial : c.serial.result ≡ b.before.serial = c.serial.ensures ∙ ap (λ (u : UnitView). u.serial) c.before-before.ensures.unit in
    let found : c.position_with.result ≡ position_with (state m).queue b.before.serial =
    c.position_with.ensures ∙ (λ j. position_with (state (c.self.view_is j)).queue (serial j)) in
    let here = at_fresh m b f c.law_replay.ensures.distinct k (sym found ∙ c.in-Some.is) in
    let u = active_of c.in-Some-unit.unit.now in
    let there : slice_get (state m).queue k ≡ Some u =
    ap (λ (x : MachineView). slice_get (state x).queue k) (sym c.self.view_is) ∙ sym c.in-Some-unit.ensures in
    let both : Some u ≡ Some f.unit = sym there ∙ here in
    let same : u ≡ f.unit = cc in
    let state = c.before-before.result.now in
    let more : HasMore (active_of (unlogged state)) state.reads u =
    subst (λ (v : Active). HasMore (active_of (unlogged state)) state.reads v) (sym same)
    (subst (λ (n : ℕ). HasMore (active_of (unlogged state)) n f.unit) (sym c.before-before.ensures.reads)
    (subst (λ (x : UnitView). HasMore (active_of x) b.reads f.unit) (sym c.before-before.ensures.unit) f.has_more)) in
    false≢true (sym c.if-not-has_more.true ∙ c.has_more.ensures.1 more)
