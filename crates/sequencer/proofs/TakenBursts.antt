-- A burst that is taken over is one Exec event for each step, by the law on bursts.
use Rattle.std.proofs.Common.{◌≡◌, ℕ, ◌+◌, ◌≤◌, List, ◌++◌, length, Some, None, sym, ap, ◌∙◌, subst, arith, length-append}
use Rattle.std.proofs.lemmas.List.{length-replicate}
use Rattle.std.specs.Prelude.{◌<◌, slice_get, slice_set, replicate}
use Rattle.mark_checker.specs.Places.{Checked}
use Rattle.machine_model.specs.Machine.{State, Active}
use Rattle.machine_model.specs.Replay.{ReplaysFrom}
use Rattle.machine_model.specs.Answer.{with_queue, most_events}
use Rattle.machine_model.specs.Unit.{with_log}
use Rattle.machine_model.specs.Laws.{BurstsAreEvents}
use Rattle.machine_model.specs.declared.event.Event.{Event}
use Rattle.machine_model.specs.declared.event.Event.TheVariants.{Exec}
use Rattle.machine_model.specs.declared.event.Standing.TheVariants.{Running}
use Rattle.unit_core.specs.Units.{active_of}
use Rattle.unit_core.specs.Bursts.{BurstView, IsMade, Makes, HasMore, carried_on}
use Rattle.processor_steps.specs.Processors.{ProcessorView, Keeps, state_of, position_with}
use Rattle.processor_steps.proofs.Positions.{first_with}
use Rattle.sequencer.specs.Machines.{MachineView, IsMachine, state, units_of}
use Rattle.sequencer.specs.Rings.{AreDistinct}
use Rattle.sequencer.specs.Bursts.{IsFresh, Takes}

-- what the search for the unit of a burst finds
abbrev pub Found : MachineView → BurstView → (k : ℕ) → Type 0
Found m b k =
    (0 < b.steps) × (b.accepted ≡ m.accepted) × (position_with (state m).queue b.before.serial ≡ Some k)
    × ((u : Active) × (slice_get (state m).queue k ≡ Some u) × HasMore (active_of b.before) b.reads u)

abbrev pub fresh_at : (m : MachineView) (b : BurstView) (k : ℕ) → Found m b k → IsFresh m b
fresh_at m b k f = record { has_step = f.0; is_own = f.1; position = k; unit = f.3.0; is_unit = f.3.1; has_more = f.3.2 }

-- the unit with the burst's serial number is the one that it is taken over by
pub owner : (m : MachineView) (b : BurstView) (f : IsFresh m b) → AreDistinct (state m).queue → position_with (state m).queue b.before.serial ≡ Some f.position
owner m b f distinct =
    let us = (state m).queue in
    let serial : f.unit.serial ≡ b.before.serial = ap (λ (u : Active). u.serial) f.has_more.is in
    first_with us b.before.serial f.position f.unit f.is_unit serial
    (λ j u less there same.
    let one : j ≡ f.position = distinct j f.position u f.unit there f.is_unit (same ∙ sym serial) in
    omega arith)

-- so the search finds one, and at its position that unit
pub never_none : (m : MachineView) (b : BurstView) (f : IsFresh m b) → AreDistinct (state m).queue → position_with (state m).queue b.before.serial ≡ None → ⊥
never_none m b f distinct none = let never : None ≡ Some f.position = sym none ∙ owner m b f distinct in absurd (cc)

pub at_fresh : (m : MachineView) (b : BurstView) (f : IsFresh m b) → AreDistinct (state m).queue → (k : ℕ) → position_with (state m).queue b.before.serial ≡ Some k → slice_get (state m).queue k ≡ Some f.unit
at_fresh m b f distinct k found =
    let both : Some f.position ≡ Some k = sym (owner m b f distinct) ∙ found in
    let same : f.position ≡ k = cc in
    subst (λ (j : ℕ). slice_get (state m).queue j ≡ Some f.unit) same f.is_unit

-- its unit executes once for each step
pub executes : BurstsAreEvents → (m : MachineView) (b : BurstView) (f : IsFresh m b) (s' : State) → (state m).outcome ≡ Running → IsMade b
    → s' ≡ with_queue (state m) (slice_set (state m).queue f.position (carried_on (active_of b.after) f.unit))
    → ReplaysFrom m.accepted.program (units_of m) (state m) (replicate b.steps (Exec f.position)) s'
executes law m b f s' runs made is =
    let p = m.accepted.program in
    let log = f.unit.log in
    let own : Makes p b.before b.steps b.after = subst (λ (a : Checked). Makes a.program b.before b.steps b.after) f.is_own made.made in
    subst (λ (s : State). ReplaysFrom p (units_of m) (state m) (replicate b.steps (Exec f.position)) s) (sym is)
    (law p (units_of m) b.steps f.position (state m) (with_log (active_of b.before) log) (with_log (active_of b.after) (log ++ b.after.log)) f.unit.arrived
    (own log) f.has_more.more runs (f.is_unit ∙ ap Some f.has_more.is))

-- and exactly these events are after its history
pub takes : BurstsAreEvents → (m : MachineView) (b : BurstView) (f : IsFresh m b) (p' : ProcessorView) (h' : List Event) → (state m).outcome ≡ Running → IsMade b → AreDistinct (state m).queue
    → state_of p' ≡ with_queue (state m) (slice_set (state m).queue f.position (carried_on (active_of b.after) f.unit))
    → h' ≡ m.history ++ replicate b.steps (Exec f.position) → length m.history + b.steps ≤ most_events
    → Takes m b (record m { processor = p'; history = h' })
takes law m b f p' h' runs made distinct is history room = record {
  fresh = f;
  owner = owner m b f distinct;
  events = executes law m b f (state_of p') runs made is;
  history = history;
  fits =
      let long : length h' ≡ length m.history + b.steps =
      ap (λ (h : List Event). length h) history ∙ length-append m.history (replicate b.steps (Exec f.position)) ∙ ap (λ (n : ℕ). length m.history + n) (length-replicate b.steps (Exec f.position)) in
      omega arith;
}

-- so the machine stays one, by the law on more events
pub is_machine : (m : MachineView) (b : BurstView) (p' : ProcessorView) (h' : List Event) → Takes m b (record m { processor = p'; history = h' }) → Keeps m.processor p'
    → ((es : List Event) (p : ProcessorView) → ReplaysFrom m.accepted.program (units_of m) (state m) es (state_of p) → Keeps m.processor p → length m.history + length es ≤ most_events → IsMachine (record m { processor = p; history = m.history ++ es }))
    → IsMachine (record m { processor = p'; history = h' })
is_machine m b p' h' taken kept law =
    let es = replicate b.steps (Exec taken.fresh.position) in
    let long : length h' ≡ length m.history + length es = ap (λ (h : List Event). length h) taken.history ∙ length-append m.history es in
    let fits : length h' ≤ most_events = taken.fits in
    subst (λ (h : List Event). IsMachine (record m { processor = p'; history = h })) (sym taken.history) (law es p' taken.events kept (omega arith))
