-- What an event does to the counts, read off its record.
use Rattle.std.proofs.Common.{◌≡◌, ℕ, zero, suc, ◌+◌, ◌<◌, List, [], ◌∷◌, ◌++◌, length, drop, Some, refl, sym, ap, ◌∙◌, arith, take, length-append, length-set, length-take-le}
use Rattle.std.specs.Prelude.{slice_get, slice_set}
use Rattle.std.proofs.lemmas.Option.{slice_get_within}
use Rattle.mips_instructions.specs.Words.{address}
use Rattle.mips_plain.specs.declared.outcome.Read.{Read}
use Rattle.task_descriptor.specs.Listing.{Listing}
use Rattle.machine_model.specs.Machine.{Active, State}
use Rattle.machine_model.specs.Unit.{after_exec, put}
use Rattle.machine_model.specs.Step.{Next, started, filled, handed_over, retire_leaves}
use Rattle.machine_model.specs.Claims.{by_head, count_c, count_h}
use Rattle.machine_model.specs.HeadEvent.{growth, retired_after, active_after}
use Rattle.machine_model.specs.declared.event.Event.{Event}
use Rattle.machine_model.specs.declared.event.Event.TheVariants.{Assign, Exec, Transfer, Drain, Squash, Retire, Fault, Drop}
use Rattle.machine_model.proofs.Headline.{counted_push}

-- the head's log, where the queue changes

by_head_behind : (us : List Active) (k : ℕ) (v : Active) → by_head (slice_set us (suc k) v) ≡ by_head us
by_head_behind [] k v = refl
by_head_behind (x ∷ us) k v = refl

by_head_same : (us : List Active) (k : ℕ) (u v : Active) → slice_get us k ≡ Some u → v.log ≡ u.log → by_head (slice_set us k v) ≡ by_head us
by_head_same us (suc k) u v e same = by_head_behind us k v
by_head_same [] zero u v e same = refl
by_head_same (x ∷ us) zero u v e same = ap length same ∙ (let is : x ≡ u = cc in ap (λ (y : Active). length y.log) (sym is))

by_head_front : (us : List Active) (k : ℕ) → by_head (take (suc k) us) ≡ by_head us
by_head_front [] k = refl
by_head_front (x ∷ us) k = refl

by_head_new : (us : List Active) (u : Active) → u.log ≡ [] → by_head (us ++ u ∷ []) ≡ by_head us
by_head_new [] u e = ap length e
by_head_new (x ∷ us) u e = refl

by_head_filled : (us : List Active) (regs : ℕ → ℕ) → by_head (filled regs us) ≡ by_head us
by_head_filled [] regs = refl
by_head_filled (x ∷ us) regs = refl

by_head_on : (us : List Active) (u v : Active) (read : Read) → slice_get us 0 ≡ Some u → v.log ≡ u.log ++ read ∷ [] → by_head (slice_set us 0 v) ≡ by_head us + 1
by_head_on [] u v read e on = absurd (cc)
by_head_on (x ∷ us) u v read e on =
    let is : x ≡ u = cc in
    ap length on ∙ length-append u.log (read ∷ []) ∙ ap (λ (y : Active). length y.log + 1) (sym is)

-- from the counts of the new state as its record says them
h_by : (s s' t : State) (e : Event) → s' ≡ t → count_h t ≡ count_h s + growth s e → count_h s' ≡ count_h s + growth s e
h_by s s' t e is h = ap count_h is ∙ h

still : (c h h' : ℕ) → h' ≡ h → c + h' ≡ c + h + 0
still c h h' e = omega arith

module _ (p : Listing) (units : ℕ) (s s' : State) where
  pub events_grow : (e : Event) → Next p units s e s' → count_h s' ≡ count_h s + growth s e
  events_grow (Assign t) next =
      let d = next.does in
      h_by s s' _ (Assign t) d.is (still (count_c s) (by_head s.queue) _ (by_head_new s.queue (started p s t) refl))
  events_grow (Exec zero) next =
      let d = next.does in
      let v : Active = after_exec p d.unit d.at d.index d.a d.b s.memory in
      let on : by_head (slice_set s.queue 0 v) ≡ by_head s.queue + 1 = by_head_on s.queue d.unit v (record { pc = address d.index; a = d.a; b = d.b }) d.is_unit refl in
      h_by s s' _ (Exec zero) d.is (omega arith)
  events_grow (Exec (suc k)) next =
      let d = next.does in
      h_by s s' _ (Exec (suc k)) d.is (still (count_c s) (by_head s.queue) _ (by_head_behind s.queue k (after_exec p d.unit d.at d.index d.a d.b s.memory)))
  events_grow (Transfer k r) next =
      let d = next.does in
      h_by s s' _ (Transfer k r) d.is (still (count_c s) (by_head s.queue) _ (by_head_same s.queue k d.unit (record (d.unit) { arrived = put r d.word d.unit.arrived }) d.is_unit refl))
  events_grow (Drain k r) next =
      let d = next.does in
      h_by s s' _ (Drain k r) d.is (still (count_c s) (by_head s.queue) _ (by_head_same s.queue k d.unit d.after d.is_unit (ap (λ (u : Active). u.log) d.sends.is)))
  events_grow (Squash k) next =
      let d = next.does in
      h_by s s' _ (Squash k) d.is (still (count_c s) (by_head s.queue) _ (by_head_front s.queue k))
  events_grow Retire next =
      let d = next.does in
      let new : State = retire_leaves p s d.head d.rest d.exit in
      let counted : count_c new ≡ count_c s + length d.head.log = counted_push 0 s.commits (record { task = d.head.task; exit = d.exit; count = length d.head.log }) in
      let ahead : by_head new.queue ≡ by_head d.rest = by_head_filled d.rest (handed_over p d.head s.regs) in
      let head : by_head s.queue ≡ length d.head.log = ap by_head d.is_queue in
      let rest : by_head (drop 1 s.queue) ≡ by_head d.rest = ap (λ (x : List Active). by_head (drop 1 x)) d.is_queue in
      h_by s s' new Retire d.is (omega arith)
  events_grow Fault next =
      let d = next.does in
      h_by s s' _ Fault d.is (still (count_c s) (by_head s.queue) (by_head s.queue) refl)
  events_grow (Drop zero) next =
      let d = next.does in absurd (let b : 0 < 0 = d.is_behind in omega arith)
  events_grow (Drop (suc k)) next =
      let d = next.does in
      h_by s s' _ (Drop (suc k)) d.is (still (count_c s) (by_head s.queue) _ (by_head_front s.queue k))

  length_filled : (us : List Active) (regs : ℕ → ℕ) → length (filled regs us) ≡ length us
  length_filled [] regs = refl
  length_filled (x ∷ us) regs = refl

  counts_by : (t : State) (e : Event) → s' ≡ t → (length t.commits ≡ retired_after (length s.commits) e) × (length t.queue ≡ active_after (length s.queue) e) → (length s'.commits ≡ retired_after (length s.commits) e) × (length s'.queue ≡ active_after (length s.queue) e)
  counts_by t e is h = (ap (λ (x : State). length x.commits) is ∙ h.0, ap (λ (x : State). length x.queue) is ∙ h.1)

  pub events_count : (e : Event) → Next p units s e s' → (length s'.commits ≡ retired_after (length s.commits) e) × (length s'.queue ≡ active_after (length s.queue) e)
  events_count (Assign t) next =
      let d = next.does in
      counts_by _ (Assign t) d.is (refl, omega (arith, length-append s.queue (started p s t ∷ [])))
  events_count (Exec k) next =
      let d = next.does in
      counts_by _ (Exec k) d.is (refl, length-set s.queue k _)
  events_count (Transfer k r) next =
      let d = next.does in
      counts_by _ (Transfer k r) d.is (refl, length-set s.queue k _)
  events_count (Drain k r) next =
      let d = next.does in
      counts_by _ (Drain k r) d.is (refl, length-set s.queue k _)
  events_count (Squash k) next =
      let d = next.does in
      let within : suc k < length s.queue = slice_get_within s.queue (suc k) d.after d.is_after in
      counts_by _ (Squash k) d.is (refl, length-take-le (suc k) s.queue (omega arith))
  events_count Retire next =
      let d = next.does in
      let queue : length s.queue ≡ suc (length d.rest) = ap length d.is_queue in
      counts_by (retire_leaves p s d.head d.rest d.exit) Retire d.is (
        omega (arith, length-append s.commits (record { task = d.head.task; exit = d.exit; count = length d.head.log } ∷ [])),
        omega (arith, length_filled d.rest (handed_over p d.head s.regs)),
      )
  events_count Fault next =
      let d = next.does in
      counts_by _ Fault d.is (refl, refl)
  events_count (Drop k) next =
      let d = next.does in
      let within : k < length s.queue = slice_get_within s.queue k d.unit d.is_unit in
      counts_by _ (Drop k) d.is (refl, length-take-le k s.queue (omega arith))
