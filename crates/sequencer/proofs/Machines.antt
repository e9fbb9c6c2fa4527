-- A machine stays the replay of its history: at its start, and after one more event.
use Rattle.std.proofs.Common.{◌≡◌, ℕ, ◌+◌, ◌<◌, ◌≤◌, List, [], ◌∷◌, ◌++◌, length, Ok, refl, sym, ap, ◌∙◌, subst, arith, length-append}
use Rattle.mips_plain.specs.MemoryMap.{byte_of}
use Rattle.machine_model.specs.Machine.{State}
use Rattle.machine_model.specs.Replay.{ReplaysFrom, Replays}
use Rattle.machine_model.specs.Answer.{most_events}
use Rattle.machine_model.specs.declared.event.Event.{Event}
use Rattle.processor_steps.specs.Processors.{ProcessorView, Keeps, Steps, state_of}
use Rattle.processor_steps.proofs.TriedSteps.{has_room}
use Rattle.sequencer.specs.Machines.{MachineView, IsMachine, state, units_of}

-- more events

pub goes_on : (m : MachineView) (es : List Event) (p' : ProcessorView) → IsMachine m → ReplaysFrom m.accepted.program (units_of m) (state m) es (state_of p') → Keeps m.processor p' → length m.history + length es ≤ most_events
    → ((units : ℕ) (first second : List Event) (s s' : State) → Replays m.accepted.program units first s → ReplaysFrom m.accepted.program units s second s' → Replays m.accepted.program units (first ++ second) s')
    → IsMachine (record m { processor = p'; history = m.history ++ es })
goes_on m es p' h events kept room more =
    let p = m.accepted.program in
    record {
      some_unit = subst (λ (n : ℕ). 0 < n) (sym kept.capacity) h.some_unit;
      replay =
          subst (λ (n : ℕ). Replays p n (m.history ++ es) (state_of p')) (sym kept.capacity)
          (more (units_of m) m.history es (state m) (state_of p') h.replay events);
      room = omega (arith, length-append m.history es);
      fixed = ap byte_of kept.fixed ∙ h.fixed;
    }

pub applied : (m : MachineView) (e : Event) (done : Unit {0}) (p' : ProcessorView) → IsMachine m → Steps m.accepted.program m.processor (length m.history) e (Ok done) p'
    → ((units : ℕ) (first second : List Event) (s s' : State) → Replays m.accepted.program units first s → ReplaysFrom m.accepted.program units s second s' → Replays m.accepted.program units (first ++ second) s')
    → IsMachine (record m { processor = p'; history = m.history ++ e ∷ [] })
applied m e done p' h steps more =
    let room : length m.history < most_events = has_room m.accepted.program m.processor (length m.history) e done p' steps in
    goes_on m (e ∷ []) p' h (state_of p', steps.next, refl) steps.kept (omega arith) more

-- the same from the law of a machine v, for the parts m that a call has of it
pub pushed : (v m : MachineView) (count : ℕ) (e : Event) (p' : ProcessorView) (history : List Event) → m ≡ v
    → ((e : Event) (done : Unit {0}) (p : ProcessorView) → Steps v.accepted.program v.processor (length v.history) e (Ok done) p → IsMachine (record v { processor = p; history = v.history ++ e ∷ [] }))
    → count ≡ length v.history → Steps m.accepted.program m.processor count e (Ok tt) p' → history ≡ m.history ++ e ∷ []
    → IsMachine (record m { processor = p'; history = history })
pushed v m count e p' history is law counted steps more =
    let law' = subst (λ (x : MachineView). (e : Event) (done : Unit {0}) (p : ProcessorView) → Steps x.accepted.program x.processor (length x.history) e (Ok done) p → IsMachine (record x { processor = p; history = x.history ++ e ∷ [] })) (sym is) law in
    let steps' : Steps m.accepted.program m.processor (length m.history) e (Ok tt) p' =
    subst (λ (n : ℕ). Steps m.accepted.program m.processor n e (Ok tt) p') (counted ∙ ap (λ (x : MachineView). length x.history) (sym is)) steps in
    subst (λ (h : List Event). IsMachine (record m { processor = p'; history = h })) (sym more) (law' e tt p' steps')
