-- A call that takes no memory is a step of the machine where the run goes on.
use Rattle.std.proofs.Common.{◌≡◌, ℕ, ◌<◌, Bool, true, false, inl, Option, Some, None, Result, Ok, Err, refl, sym, ap, ◌∙◌, subst, ltb-true}
use Rattle.std.specs.Prelude.{nat_lt}
use Rattle.std.specs.Option.{option_or}
use Rattle.task_descriptor.specs.Listing.{Listing}
use Rattle.machine_model.specs.Machine.{State}
use Rattle.machine_model.specs.Step.{Next}
use Rattle.machine_model.specs.Refusals.{unless}
use Rattle.machine_model.specs.Answer.{refusal, later_refusal, is_running, ok_unless, most_events, after}
use Rattle.machine_model.specs.declared.event.Event.{Event}
use Rattle.machine_model.specs.declared.event.Refused.{Refused}
use Rattle.machine_model.specs.declared.event.Refused.TheVariants as refused
use Rattle.machine_model.specs.declared.event.Standing.{Standing}
use Rattle.machine_model.specs.declared.event.Standing.TheVariants.{Running}
use Rattle.processor_steps.specs.Processors.{ProcessorView, state_of, Steps}
use Rattle.processor_steps.specs.CallParts.{Does}

first_none : (o b : Option Refused) → option_or o b ≡ None → o ≡ None
first_none None b e = refl
first_none (Some r) b e = absurd (cc)

pub may_none : (p : Listing) (units : ℕ) (s : State) (n : ℕ) (e : Event) → later_refusal p units s n e ≡ None → refusal p units s e ≡ None
may_none p units s n e h = first_none (refusal p units s e) (unless (nat_lt n most_events) refused.Full None) h

pub does_steps : (p : Listing) (old : ProcessorView) (n : ℕ) (e : Event) (result : Result (Unit {0}) Refused) (new : ProcessorView) → Does p old n e result new → (state_of old).outcome ≡ Running
    → ((units : ℕ) (s : State) (e : Event) → s.outcome ≡ Running → refusal p units s e ≡ None → Next p units s e (after p s e)) → Steps p old n e result new
does_steps p old n e (Ok done) new d runs law = record {
  allowed = sym d.refused;
  refused = tt;
  next = subst (Next p old.queue.capacity (state_of old) e) (sym d.state) (law old.queue.capacity (state_of old) e runs (may_none p old.queue.capacity (state_of old) n e (sym d.refused)));
  kept = d.kept;
  err = tt;
}
does_steps p old n e (Err why) new d runs law = record {
  allowed = tt;
  refused = inl (sym d.refused);
  next = tt;
  kept = d.kept;
  err = d.err;
}

-- where the run goes on, nothing refuses the event and there is room, the answer is Ok
pub ok_where_running : (o : Standing) (r : Option Refused) → o ≡ Running → r ≡ None → ok_unless (unless (is_running o) refused.Ended (option_or r (unless (nat_lt 0 most_events) refused.Full None))) ≡ Ok tt
ok_where_running o r runs none =
    ap (λ (x : Standing). ok_unless (unless (is_running x) refused.Ended (option_or r (unless (nat_lt 0 most_events) refused.Full None)))) runs
    ∙ ap (λ (x : Option Refused). ok_unless (option_or x (unless (nat_lt 0 most_events) refused.Full None))) none

-- there was room for an event that is answered Ok

room_left : (o : Option Refused) (b : Bool) → option_or o (unless b refused.Full None) ≡ None → b ≡ true
room_left None true e = refl
room_left None false e = absurd (cc)
room_left (Some r) b e = absurd (cc)

pub has_room : (p : Listing) (old : ProcessorView) (n : ℕ) (e : Event) (done : Unit {0}) (new : ProcessorView) → Steps p old n e (Ok done) new → n < most_events
has_room p old n e done new steps =
    ltb-true n most_events (room_left (refusal p old.queue.capacity (state_of old) e) (nat_lt n most_events) steps.allowed)
