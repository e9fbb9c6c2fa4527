-- Counts over a history: by induction on the events, one more after them, and several Execs.
use Rattle.threaded_runner.proofs.Imports.{◌≡◌, ◌≢◌, ℕ, zero, suc, ◌+◌, ◌*◌, ◌%◌, ◌<◌, List, [], ◌∷◌, ◌++◌, length, inl, inr, sym, ap, ◌∙◌, subst, arith, Bool, true, false, true≢false, length-append, length-set, get_or-set_same, get_or-set_other, eq-eqb, cases_eq, ne_eqb, fold, sum, replicate, slice_index, slice_set, nat_eq, if◌then◌else◌, Listing, State, opening, unit_of, retired_after, active_after, Event, Exec, retired_by, active_by, events_from, events_of, IsCounted}
use Rattle.std.proofs.lemmas.List.Sums.{sum_by-set}
use Rattle.machine_model.specs.Replay.{ReplaysFrom, Replays}
use Rattle.machine_model.specs.Laws.{EventsCount}

-- retired tasks and units at work

retired_from : EventsCount → (p : Listing) (units : ℕ) (es : List Event) (s s' : State) → ReplaysFrom p units s es s' → fold retired_after (length s.commits) es ≡ length s'.commits
retired_from count p units [] s s' h = ap (λ (x : State). length x.commits) (sym h)
retired_from count p units (e ∷ es) s s' h =
    ap (λ (n : ℕ). fold retired_after n es) (sym (count p units s h.0 e h.1).0) ∙ retired_from count p units es h.0 s' h.2

active_from : EventsCount → (p : Listing) (units : ℕ) (es : List Event) (s s' : State) → ReplaysFrom p units s es s' → fold active_after (length s.queue) es ≡ length s'.queue
active_from count p units [] s s' h = ap (λ (x : State). length x.queue) (sym h)
active_from count p units (e ∷ es) s s' h =
    ap (λ (n : ℕ). fold active_after n es) (sym (count p units s h.0 e h.1).1) ∙ active_from count p units es h.0 s' h.2

pub retired_is : EventsCount → (p : Listing) (units : ℕ) (history : List Event) (s : State) → Replays p units history s → retired_by history ≡ length s.commits
retired_is count p units history s h = retired_from count p units history (opening p) s h

pub active_is : EventsCount → (p : Listing) (units : ℕ) (history : List Event) (s : State) → Replays p units history s → active_by history ≡ length s.queue
active_is count p units history s h = active_from count p units history (opening p) s h

-- events after a history

pub events_append : (units workers w r a : ℕ) (es fs : List Event) → events_from units workers w r a (es ++ fs) ≡ events_from units workers w r a es + events_from units workers w (fold retired_after r es) (fold active_after a es) fs
events_append units workers w r a [] fs = omega arith
events_append units workers w r a (e ∷ es) fs =
    let rest = events_append units workers w (retired_after r e) (active_after a e) es fs in
    omega (arith, rest)

-- a number of instructions of one unit belong to one worker
pub events_of_execs : (units workers w r a k n : ℕ) → events_from units workers w r a (replicate n (Exec k)) ≡ n * (if nat_eq (unit_of units r a (Exec k) % workers) w then 1 else 0)
events_of_execs units workers w r a k zero = omega arith
events_of_execs units workers w r a k (suc n) =
    let rest = events_of_execs units workers w r a k n in
    omega (arith, rest)

-- one number more or less, by a test

if_same : (b : Bool) (n : ℕ) → b ≡ true → n * (if b then 1 else 0) ≡ n
if_same true n e = omega arith
if_same false n e = absurd (true≢false (sym e))

if_other : (b : Bool) (n : ℕ) → b ≡ false → n * (if b then 1 else 0) ≡ 0
if_other true n e = absurd (true≢false e)
if_other false n e = omega arith

-- where a worker's count grows by as many events as are put after the history, all of them its own, the
-- counts stay right
pub counted_more : (units unit n : ℕ) (history es : List Event) (counts : List ℕ) → 0 < length counts → IsCounted units history counts
    → ((w : ℕ) → events_from units (length counts) w (retired_by history) (active_by history) es ≡ n * (if nat_eq (unit % length counts) w then 1 else 0))
    → length es ≡ n
    → IsCounted units (history ++ es) (slice_set counts (unit % length counts) (slice_index counts (unit % length counts) + n))
counted_more units unit n history es counts some before own long =
    let j : ℕ = unit % length counts in
    let there : j < length counts = omega arith in
    let size : length (slice_set counts j (slice_index counts j + n)) ≡ length counts = length-set counts j (slice_index counts j + n) in
    let total = sum_by-set (λ (x : ℕ). x) counts j (slice_index counts j + n) 0 there in
    record {
      each = λ w within.
          let inside : w < length counts = omega arith in
          let more = events_append units (length counts) w 0 0 history es in
          let old : slice_index counts w ≡ events_of units (length counts) w history = before.each w inside in
          subst (λ (k : ℕ). slice_index (slice_set counts j (slice_index counts j + n)) w ≡ events_of units k w (history ++ es)) (sym size)
          (elim (cases_eq j w) [
            | inl same ↦
                let here : slice_index (slice_set counts j (slice_index counts j + n)) w ≡ slice_index counts w + n =
                subst (λ (v : ℕ). slice_index (slice_set counts j (slice_index counts j + n)) v ≡ slice_index counts v + n) same (get_or-set_same counts j (slice_index counts j + n) 0 there) in
                let added = own w ∙ if_same (nat_eq j w) n (eq-eqb j w same) in
                omega arith
            | inr other ↦
                let apart : w ≢ j = λ e. other (sym e) in
                let here : slice_index (slice_set counts j (slice_index counts j + n)) w ≡ slice_index counts w = get_or-set_other counts j w (slice_index counts j + n) 0 apart in
                let added = own w ∙ if_other (nat_eq j w) n (ne_eqb j w other) in
                omega arith
          ]);
      all =
          let old : sum counts ≡ length history = before.all in
          let longer : length (history ++ es) ≡ length history + length es = length-append history es in
          omega arith;
    }
