-- A unit goes on over inner edges alone, so it stands where its task reaches; no other event moves it.
use Rattle.std.proofs.Common.{◌≡◌, ◌<◌, ℕ, zero, suc, Bool, true, false, List, [], ◌∷◌, ◌++◌, length, Option, Some, None, refl, sym, ap, ◌∙◌, subst, take}
use Rattle.std.specs.Prelude.{slice_get, slice_set}
use Rattle.mips_instructions.specs.Words.{address}
use Rattle.mips_instructions.specs.Instruction.{taken, turn}
use Rattle.mips_plain.specs.Effect.{outcome_after}
use Rattle.mips_plain.specs.declared.outcome.Outcome.{Outcome}
use Rattle.mips_plain.specs.declared.outcome.Outcome.TheVariants.{Running, Halted, Trapped}
use Rattle.task_descriptor.specs.Listing.{Listing, IsWellFormed}
use Rattle.task_descriptor.specs.declared.descriptor.Marked.{Marked}
use Rattle.task_graph.specs.Edges.{Edge, Path, stay, onward, edge, leaves}
use Rattle.task_graph.specs.Soundness.{Sound}
use Rattle.machine_model.specs.Machine.{Active, State, opening, task_at}
use Rattle.machine_model.specs.Unit.{put, place_after, executed, after_exec}
use Rattle.machine_model.specs.Step.{Next, started, filled}
use Rattle.machine_model.specs.Replay.{ReplaysFrom, Replays}
use Rattle.machine_model.specs.Places.{PlaceValid}
use Rattle.machine_model.specs.declared.event.Event.{Event}
use Rattle.machine_model.specs.declared.event.Event.TheVariants.{Assign, Exec, Transfer, Drain, Squash, Retire, Fault, Drop}
use Rattle.machine_model.specs.declared.event.Spot.TheVariants.{Inside}
use Rattle.machine_model.proofs.HeadEvents.{reached_inside}

-- where a unit goes on, an inner edge leads there
pub goes_to : (p : Listing) (i : ℕ) (m : Marked) → slice_get p.code i ≡ Some m → (a b : ℕ) (leaving : Bool) (o : Option ℕ) (j : ℕ) → leaves m.stop (taken m.op a b) ≡ leaving → edge m.op i (taken m.op a b) ≡ o → place_after leaving o (turn m.op a b (address i)) ≡ Inside j → Edge p false i j
goes_to p i m there a b true o j kind e at = absurd (cc)
goes_to p i m there a b false None j kind e at = absurd (cc)
goes_to p i m there a b false (Some to) j kind e at = record {
  at = m;
  is_there = there;
  taken = taken m.op a b;
  leads = (let same : to ≡ j = cc in e ∙ ap Some same);
  kind = kind;
}

-- The places of a queue

abbrev pub AllValid : Listing → List Active → Type 0
AllValid p [] = Unit {0}
AllValid p (u ∷ us) = PlaceValid p u × AllValid p us

same_place : (p : Listing) (u v : Active) → v.task ≡ u.task → v.place ≡ u.place → PlaceValid p u → PlaceValid p v
same_place p u v task place h = record {
  is_task = subst (λ (t : ℕ). t < length p.tasks) (sym task) h.is_task;
  is_instruction = λ i at. h.is_instruction i (sym place ∙ at);
  is_reached = λ i at. subst (λ (t : ℕ). Path p (task_at p t).entry i) (sym task) (h.is_reached i (sym place ∙ at));
}

pub valid_at : (p : Listing) (us : List Active) (k : ℕ) (u : Active) → AllValid p us → slice_get us k ≡ Some u → PlaceValid p u
valid_at p [] k u h at = absurd (cc)
valid_at p (x ∷ us) zero u h at = let same : x ≡ u = cc in subst (PlaceValid p) same h.0
valid_at p (x ∷ us) (suc k) u h at = valid_at p us k u h.1 at

push_valid : (p : Listing) (us : List Active) (u : Active) → AllValid p us → PlaceValid p u → AllValid p (us ++ u ∷ [])
push_valid p [] u h valid = (valid, tt)
push_valid p (x ∷ us) u h valid = (h.0, push_valid p us u h.1 valid)

set_valid : (p : Listing) (us : List Active) (k : ℕ) (u : Active) → AllValid p us → PlaceValid p u → AllValid p (slice_set us k u)
set_valid p [] k u h valid = tt
set_valid p (x ∷ us) zero u h valid = (valid, h.1)
set_valid p (x ∷ us) (suc k) u h valid = (h.0, set_valid p us k u h.1 valid)

take_valid : (p : Listing) (us : List Active) (k : ℕ) → AllValid p us → AllValid p (take k us)
take_valid p [] zero h = tt
take_valid p [] (suc k) h = tt
take_valid p (x ∷ us) zero h = tt
take_valid p (x ∷ us) (suc k) h = (h.0, take_valid p us k h.1)

filled_valid : (p : Listing) (regs : ℕ → ℕ) (us : List Active) → AllValid p us → AllValid p (filled regs us)
filled_valid p regs [] h = tt
filled_valid p regs (u ∷ us) h = (same_place p u _ refl refl h.0, h.1)

module _ (p : Listing) (formed : IsWellFormed p) (sound : Sound p) where
  reached_valid : (u : Active) → u.task < length p.tasks → ((i : ℕ) → u.place ≡ Inside i → Path p (task_at p u.task).entry i) → PlaceValid p u
  reached_valid u is_task reached = record {
    is_task = is_task;
    is_instruction = λ i at. reached_inside p formed sound u.task i is_task (reached i at);
    is_reached = reached;
  }

  pub begins_valid : (s : State) (t : ℕ) → t < length p.tasks → PlaceValid p (started p s t)
  begins_valid s t is_task =
      reached_valid (started p s t) is_task (λ i at. (let same : (task_at p t).entry ≡ i = cc in subst (Path p (task_at p t).entry) same stay))

  module _ (u : Active) (i : ℕ) (m : Marked) (a b : ℕ) (memory : ℕ → ℕ) (valid : PlaceValid p u) (inside : u.place ≡ Inside i) (there : slice_get p.code i ≡ Some m) where
    stays_by : (o : Outcome) → PlaceValid p (executed o p u m i a b memory)
    stays_by Running =
        reached_valid (executed Running p u m i a b memory) valid.is_task
        (λ j at. onward (valid.is_reached i inside) (goes_to p i m there a b (leaves m.stop (taken m.op a b)) (edge m.op i (taken m.op a b)) j refl refl at))
    stays_by Halted = valid
    stays_by (Trapped trap) = valid

    pub stays_valid : PlaceValid p (after_exec p u m i a b memory)
    stays_valid =
        same_place p (executed (outcome_after m.op a) p u m i a b memory) (after_exec p u m i a b memory) refl refl (stays_by (outcome_after m.op a))

  step_valid : (units : ℕ) (s s' : State) (e : Event) → AllValid p s.queue → Next p units s e s' → AllValid p s'.queue
  step_valid units s s' (Assign t) h next =
      let d = next.does in
      subst (λ (x : State). AllValid p x.queue) (sym d.is) (push_valid p s.queue (started p s t) h (begins_valid s t d.is_task))
  step_valid units s s' (Exec k) h next =
      let d = next.does in
      subst (λ (x : State). AllValid p x.queue) (sym d.is)
      (set_valid p s.queue k (after_exec p d.unit d.at d.index d.a d.b s.memory) h
      (stays_valid d.unit d.index d.at d.a d.b s.memory (valid_at p s.queue k d.unit h d.is_unit) d.next.is_inside d.next.is_there))
  step_valid units s s' (Transfer k r) h next =
      let d = next.does in
      subst (λ (x : State). AllValid p x.queue) (sym d.is)
      (set_valid p s.queue k (record (d.unit) { arrived = put r d.word d.unit.arrived }) h (same_place p d.unit _ refl refl (valid_at p s.queue k d.unit h d.is_unit)))
  step_valid units s s' (Drain k r) h next =
      let d = next.does in
      subst (λ (x : State). AllValid p x.queue) (sym d.is)
      (set_valid p s.queue k d.after h
      (same_place p d.unit d.after (ap (λ (u : Active). u.task) d.sends.is) (ap (λ (u : Active). u.place) d.sends.is) (valid_at p s.queue k d.unit h d.is_unit)))
  step_valid units s s' (Squash k) h next =
      let d = next.does in
      subst (λ (x : State). AllValid p x.queue) (sym d.is) (take_valid p s.queue (suc k) h)
  step_valid units s s' Retire h next =
      let d = next.does in
      let both : AllValid p (d.head ∷ d.rest) = subst (AllValid p) d.is_queue h in
      subst (λ (x : State). AllValid p x.queue) (sym d.is) (filled_valid p _ d.rest both.1)
  step_valid units s s' Fault h next =
      let d = next.does in
      subst (λ (x : State). AllValid p x.queue) (sym d.is) h
  step_valid units s s' (Drop k) h next =
      let d = next.does in
      subst (λ (x : State). AllValid p x.queue) (sym d.is) (take_valid p s.queue k h)

  replay_valid : (units : ℕ) (events : List Event) (s s' : State) → AllValid p s.queue → ReplaysFrom p units s events s' → AllValid p s'.queue
  replay_valid units [] s s' h replay = subst (λ (x : State). AllValid p x.queue) (sym replay) h
  replay_valid units (e ∷ events) s s' h replay = replay_valid units events replay.0 s' (step_valid units s replay.0 e h replay.1) replay.2

  pub places_valid : (units : ℕ) (events : List Event) (s : State) → Replays p units events s → (k : ℕ) (u : Active) → slice_get s.queue k ≡ Some u → PlaceValid p u
  places_valid units events s replay k u at = valid_at p s.queue k u (replay_valid units events (opening p) s tt replay) at
