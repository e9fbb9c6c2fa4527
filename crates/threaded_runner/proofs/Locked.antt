-- The counts stay right where the machine and one worker's count grow by the same events.
use Rattle.threaded_runner.proofs.Imports.{◌≡◌, ℕ, ◌+◌, ◌*◌, ◌%◌, ◌<◌, List, [], ◌∷◌, ◌++◌, length, Bool, sym, ap, ◌∙◌, subst, arith, length-set, append_assoc, replicate_more, slice_index, slice_set, nat_eq, if◌then◌else◌, replicate, unit_of, Event, Exec, MachineView, state, units_of, unit_for, retired_by, active_by, events_from, IsCounted, IsDesk}
use Rattle.threaded_runner.proofs.Counting.{counted_more, events_of_execs}

once : (x : ℕ) → x + 0 ≡ 1 * x
once x = omega arith

-- the unit of an event by the history is that by the state
unit_by : (m : MachineView) (e : Event) (unit : ℕ) → retired_by m.history ≡ length (state m).commits → active_by m.history ≡ length (state m).queue → unit_for m e ≡ unit
    → unit_of (units_of m) (retired_by m.history) (active_by m.history) e ≡ unit
unit_by m e unit retired active belongs =
    ap (λ (r : ℕ). unit_of (units_of m) r (active_by m.history) e) retired
    ∙ ap (λ (a : ℕ). unit_of (units_of m) (length (state m).commits) a e) active
    ∙ belongs

pub one_own : (m : MachineView) (workers unit : ℕ) (e : Event) → retired_by m.history ≡ length (state m).commits → active_by m.history ≡ length (state m).queue → unit_for m e ≡ unit
    → (w : ℕ) → events_from (units_of m) workers w (retired_by m.history) (active_by m.history) (e ∷ []) ≡ 1 * (if nat_eq (unit % workers) w then 1 else 0)
one_own m workers unit e retired active belongs w =
    ap (λ (u : ℕ). (if nat_eq (u % workers) w then 1 else 0) + 0) (unit_by m e unit retired active belongs)
    ∙ once (if nat_eq (unit % workers) w then 1 else 0)

pub execs_own : (m : MachineView) (workers unit k n : ℕ) → retired_by m.history ≡ length (state m).commits → active_by m.history ≡ length (state m).queue → unit_for m (Exec k) ≡ unit
    → (w : ℕ) → events_from (units_of m) workers w (retired_by m.history) (active_by m.history) (replicate n (Exec k)) ≡ n * (if nat_eq (unit % workers) w then 1 else 0)
execs_own m workers unit k n retired active belongs w =
    events_of_execs (units_of m) workers w (retired_by m.history) (active_by m.history) k n
    ∙ ap (λ (u : ℕ). n * (if nat_eq (u % workers) w then 1 else 0)) (unit_by m (Exec k) unit retired active belongs)

pub more : (m m' : MachineView) (counts counts' : List ℕ) (es : List Event) (unit n workers : ℕ) (stopped : Bool) (asleep : List Bool)
    → IsDesk (record { machine = m; counts = counts; is_stopped = stopped; asleep = asleep })
    → ((w : ℕ) → events_from (units_of m) (length counts) w (retired_by m.history) (active_by m.history) es ≡ n * (if nat_eq (unit % length counts) w then 1 else 0))
    → length es ≡ n → m'.history ≡ m.history ++ es → units_of m' ≡ units_of m → workers ≡ length counts
    → counts' ≡ slice_set counts (unit % workers) (slice_index counts (unit % workers) + n)
    → IsDesk (record { machine = m'; counts = counts'; is_stopped = stopped; asleep = asleep })
more m m' counts counts' es unit n workers stopped asleep d own long history units same is =
    let now : counts' ≡ slice_set counts (unit % length counts) (slice_index counts (unit % length counts) + n) =
    is ∙ ap (λ (k : ℕ). slice_set counts (unit % k) (slice_index counts (unit % k) + n)) same in
    let size : length counts' ≡ length counts =
    ap (λ (x : List ℕ). length x) now ∙ length-set counts (unit % length counts) (slice_index counts (unit % length counts) + n) in
    record {
      some_worker = subst (λ (k : ℕ). 0 < k) (sym size) d.some_worker;
      counted =
          subst (λ (u : ℕ). IsCounted u m'.history counts') (sym units)
          (subst (λ (h : List Event). IsCounted (units_of m) h counts') (sym history)
          (subst (λ (x : List ℕ). IsCounted (units_of m) (m.history ++ es) x) (sym now)
          (counted_more (units_of m) unit n m.history es counts d.some_worker d.counted own long)));
    }

-- as many counts as before
pub as_many : (counts counts' : List ℕ) (worker count : ℕ) → counts' ≡ slice_set counts worker count → length counts' ≡ length counts
as_many counts counts' worker count is = ap (λ (x : List ℕ). length x) is ∙ length-set counts worker count

-- one event more after several
pub one_more : (start before now : List Event) (n : ℕ) (e : Event) → before ≡ start ++ replicate n e → now ≡ before ++ e ∷ [] → now ≡ start ++ replicate (n + 1) e
one_more start before now n e long more =
    more
    ∙ ap (λ (h : List Event). h ++ e ∷ []) long
    ∙ append_assoc start (replicate n e) (e ∷ [])
    ∙ ap (λ (es : List Event). start ++ es) (replicate_more n e)
