-- Serial numbers rise from the head to the tail and stay below the number of Assigns: each Assign gives
-- the next one, and no other event gives any.
use Rattle.std.proofs.Common.{◌≡◌, ℕ, zero, suc, ◌<◌, ◌≤◌, List, [], ◌∷◌, ◌++◌, take, Some, refl, sym, ap, ◌∙◌, subst, arith}
use Rattle.std.specs.Prelude.{slice_get, slice_set}
use Rattle.mips_plain.specs.Effect.{outcome_after}
use Rattle.mips_plain.specs.declared.outcome.Outcome.{Outcome}
use Rattle.mips_plain.specs.declared.outcome.Outcome.TheVariants.{Running, Halted, Trapped}
use Rattle.task_descriptor.specs.Listing.{Listing}
use Rattle.task_descriptor.specs.declared.descriptor.Marked.{Marked}
use Rattle.machine_model.specs.Machine.{Active, State, opening}
use Rattle.machine_model.specs.Unit.{executed, after_exec}
use Rattle.machine_model.specs.Step.{Next, started, filled, handed_over}
use Rattle.machine_model.specs.Replay.{ReplaysFrom, Replays}
use Rattle.machine_model.specs.declared.event.Event.{Event}
use Rattle.machine_model.specs.declared.event.Event.TheVariants.{Assign, Exec, Transfer, Drain, Squash, Retire, Fault, Drop}
use Rattle.sequencer.specs.Rings.{AreDistinct}

-- they rise, from `low` on, below `high`
abbrev Rise : (low : ℕ) → List Active → (high : ℕ) → Type 0
Rise low [] high = low ≤ high
Rise low (u ∷ us) high = (low ≤ u.serial) × Rise (suc u.serial) us high

bound : (low : ℕ) (us : List Active) (high : ℕ) → Rise low us high → low ≤ high
bound low [] high h = h
bound low (x ∷ us) high h =
    let rest : suc x.serial ≤ high = bound (suc x.serial) us high h.1 in
    let first : low ≤ x.serial = h.0 in omega arith

pushed : (low : ℕ) (us : List Active) (high : ℕ) (v : Active) → v.serial ≡ high → Rise low us high → Rise low (us ++ v ∷ []) (suc high)
pushed low [] high v is h = (omega (arith, h), omega arith)
pushed low (x ∷ us) high v is h = (h.0, pushed (suc x.serial) us high v is h.1)

set : (low : ℕ) (us : List Active) (high k : ℕ) (u v : Active) → slice_get us k ≡ Some u → v.serial ≡ u.serial → Rise low us high → Rise low (slice_set us k v) high
set low [] high k u v at is h = h
set low (x ∷ us) high zero u v at is h =
    let same : x ≡ u = cc in
    let serial : x.serial ≡ v.serial = ap (λ (w : Active). w.serial) same ∙ sym is in
    (subst (λ (n : ℕ). low ≤ n) serial h.0, subst (λ (n : ℕ). Rise (suc n) us high) serial h.1)
set low (x ∷ us) high (suc k) u v at is h = (h.0, set (suc x.serial) us high k u v at is h.1)

taken : (low : ℕ) (us : List Active) (high k : ℕ) → Rise low us high → Rise low (take k us) high
taken low [] high zero h = h
taken low [] high (suc k) h = h
taken low (x ∷ us) high zero h = bound low (x ∷ us) high h
taken low (x ∷ us) high (suc k) h = (h.0, taken (suc x.serial) us high k h.1)

weaker : (low low' : ℕ) (us : List Active) (high : ℕ) → low ≤ low' → Rise low' us high → Rise low us high
weaker low low' [] high less h = omega (arith, h)
weaker low low' (x ∷ us) high less h = (omega (arith, h.0), h.1)

fill : (low : ℕ) (regs : ℕ → ℕ) (us : List Active) (high : ℕ) → Rise low us high → Rise low (filled regs us) high
fill low regs [] high h = h
fill low regs (x ∷ us) high h = (h.0, h.1)

-- an event keeps them rising

pub exec_serial : (o : Outcome) (p : Listing) (u : Active) (m : Marked) (index a b : ℕ) (memory : ℕ → ℕ) → (executed o p u m index a b memory).serial ≡ u.serial
exec_serial Running p u m index a b memory = refl
exec_serial Halted p u m index a b memory = refl
exec_serial (Trapped trap) p u m index a b memory = refl

abbrev Rises : State → Type 0
Rises s = Rise 0 s.queue s.assigns

module _ (p : Listing) (units : ℕ) (s s' : State) (h : Rises s) where
  keeps : (t : State) → s' ≡ t → Rises t → Rises s'
  keeps t is risen = subst Rises (sym is) risen

  event_rises : (e : Event) → Next p units s e s' → Rises s'
  event_rises (Assign t) next = keeps _ next.does.is (pushed 0 s.queue s.assigns (started p s t) refl h)
  event_rises (Exec k) next =
      let d = next.does in
      let v = after_exec p d.unit d.at d.index d.a d.b s.memory in
      keeps _ d.is (set 0 s.queue s.assigns k d.unit v d.is_unit (exec_serial (outcome_after d.at.op d.a) p d.unit d.at d.index d.a d.b s.memory) h)
  event_rises (Transfer k r) next = (let d = next.does in keeps _ d.is (set 0 s.queue s.assigns k d.unit _ d.is_unit refl h))
  event_rises (Drain k r) next = (let d = next.does in keeps _ d.is (set 0 s.queue s.assigns k d.unit d.after d.is_unit (ap (λ (u : Active). u.serial) d.sends.is) h))
  event_rises (Squash k) next = keeps _ next.does.is (taken 0 s.queue s.assigns (suc k) h)
  event_rises Retire next =
      let d = next.does in
      let all : Rise 0 (d.head ∷ d.rest) s.assigns = subst (λ (us : List Active). Rise 0 us s.assigns) d.is_queue h in
      keeps _ d.is (fill 0 (handed_over p d.head s.regs) d.rest s.assigns (weaker 0 (suc d.head.serial) d.rest s.assigns (omega arith) all.1))
  event_rises Fault next = keeps _ next.does.is h
  event_rises (Drop k) next = keeps _ next.does.is (taken 0 s.queue s.assigns k h)

rises : (p : Listing) (units : ℕ) (es : List Event) (s s' : State) → Rises s → ReplaysFrom p units s es s' → Rises s'
rises p units [] s s' h replay = subst Rises (sym replay) h
rises p units (e ∷ es) s s' h replay = rises p units es replay.0 s' (event_rises p units s replay.0 h e replay.1) replay.2

-- so no two are the same

above : (low : ℕ) (us : List Active) (high k : ℕ) (u : Active) → Rise low us high → slice_get us k ≡ Some u → low ≤ u.serial
above low [] high k u h at = absurd (cc)
above low (x ∷ us) high zero u h at =
    let same : x ≡ u = cc in subst (λ (w : Active). low ≤ w.serial) same h.0
above low (x ∷ us) high (suc k) u h at =
    let rest : suc x.serial ≤ u.serial = above (suc x.serial) us high k u h.1 at in
    let first : low ≤ x.serial = h.0 in omega arith

distinct : (low : ℕ) (us : List Active) (high : ℕ) → Rise low us high → AreDistinct us
distinct low [] high h j k u v at there same = absurd (cc)
distinct low (x ∷ us) high h zero zero u v at there same = refl
distinct low (x ∷ us) high h zero (suc k) u v at there same =
    let is : x ≡ u = cc in
    let serial : x.serial ≡ v.serial = ap (λ (w : Active). w.serial) is ∙ same in
    let over : suc x.serial ≤ v.serial = above (suc x.serial) us high k v h.1 there in
    absurd (omega arith)
distinct low (x ∷ us) high h (suc j) zero u v at there same =
    let is : x ≡ v = cc in
    let serial : u.serial ≡ x.serial = same ∙ ap (λ (w : Active). w.serial) (sym is) in
    let over : suc x.serial ≤ u.serial = above (suc x.serial) us high j u h.1 at in
    absurd (omega arith)
distinct low (x ∷ us) high h (suc j) (suc k) u v at there same = ap suc (distinct (suc x.serial) us high h.1 j k u v at there same)

below : (low : ℕ) (us : List Active) (high k : ℕ) (u : Active) → Rise low us high → slice_get us k ≡ Some u → u.serial < high
below low [] high k u h at = absurd (cc)
below low (x ∷ us) high zero u h at =
    let same : x ≡ u = cc in
    let last : suc x.serial ≤ high = bound (suc x.serial) us high h.1 in
    let serial : x.serial ≡ u.serial = ap (λ (w : Active). w.serial) same in omega arith
below low (x ∷ us) high (suc k) u h at = below (suc x.serial) us high k u h.1 at

-- a unit at work was assigned
pub serial_below : (p : Listing) (units : ℕ) (events : List Event) (s : State) → Replays p units events s → (k : ℕ) (u : Active) → slice_get s.queue k ≡ Some u → u.serial < s.assigns
serial_below p units events s replay k u at =
    let start : 0 ≤ 0 = omega arith in
    below 0 s.queue s.assigns k u (rises p units events (opening p) s start replay) at

pub serials_distinct : (p : Listing) (units : ℕ) (events : List Event) (s : State) → Replays p units events s → AreDistinct s.queue
serials_distinct p units events s replay =
    let start : 0 ≤ 0 = omega arith in
    distinct 0 s.queue s.assigns (rises p units events (opening p) s start replay)
