-- The lives of a history are those that its changes tell: what each event tells of each unit, and then by induction.
use Rattle.std.proofs.Common.{◌≡◌, ℕ, zero, suc, ◌+◌, ◌-◌, ◌<◌, ◌≤◌, ◌⊎◌, inl, inr, List, [], ◌∷◌, ◌++◌, length, take, drop, filter, flat_map, fold, Bool, true, false, cond, Option, Some, None, refl, sym, ap, ◌∙◌, subst, arith, length-append, length-set, length-take-le, length-drop, slice_set, unwrap_or, nat_eq, eq-eqb, ne_eqb, lt-ltb, le-ltb}
use Rattle.std.proofs.lemmas.Bool.{cases_lt}
use Rattle.std.proofs.lemmas.Option.{slice_get_within}
use Rattle.std.specs.Option.{option_map_or}
use Rattle.task_descriptor.specs.Listing.{Listing}
use Rattle.machine_model.specs.Machine.{Active, State, task_at}
use Rattle.machine_model.specs.Unit.{after_drain, after_exec, put}
use Rattle.machine_model.specs.Step.{Next, filled, handed_over, started}
use Rattle.machine_model.specs.Answer.{after, exit_of, index_of_place}
use Rattle.machine_model.specs.HeadEvent.{active_after, retired_after}
use Rattle.machine_model.specs.Laws.{EventsCount, NextIsAfter}
use Rattle.machine_model.specs.Replay.{ReplaysFrom}
use Rattle.machine_model.specs.declared.event.Event.{Event}
use Rattle.machine_model.specs.declared.event.Event.TheVariants.{Assign, Exec, Transfer, Drain, Squash, Retire, Fault, Drop}
use Rattle.task_lives.specs.Lives.{Course, after_one, begun, course, ending_by, executed_at, lives_from, position_after}
use Rattle.task_lives.specs.Sums.{is_unfinished}
use Rattle.task_lives.specs.declared.life.Ending.{Ending}
use Rattle.task_lives.specs.declared.life.Ending.TheVariants as ended
use Rattle.task_lives.specs.declared.life.Life.{Life}
use Rattle.event_trace.specs.declared.change.Change.{Change}
use Rattle.event_trace.specs.declared.change.Change.TheVariants.{AtUnit}
use Rattle.event_trace.specs.declared.unit_change.UnitChange.{UnitChange}
use Rattle.event_trace.specs.declared.unit_change.UnitChange.TheVariants.{Began, Executed, Arrived, Drained, Squashed, Dropped, Retired}
use Rattle.event_trace.specs.Changes.{changes_of, lost}
use Rattle.event_trace.specs.LivesTold.{beginning_life, begun_by, is_retirement, life_told, life_with, lived, lives_told_from, retired_by}
use Rattle.event_trace.specs.Seen.{changes_through}
use Rattle.event_trace.proofs.LostUnits.{lost_but}
use Rattle.event_trace.proofs.UnitsTold.{assign_units, at_units, drain_units, exec_units, next_head, retire_units, transfer_units}

-- ---- only changes that name a unit tell of lives

told_by_units : (k : ℕ) (cs : List Change) (life : Life) → fold (life_told k) life cs ≡ fold (life_told k) life (at_units cs)
told_by_units k [] life = refl
told_by_units k (AtUnit j task change ∷ cs) life = told_by_units k cs (life_told k life (AtUnit j task change))
told_by_units k (c ∷ cs) life = told_by_units k cs life

retired_by_units : (cs : List Change) → retired_by cs ≡ retired_by (at_units cs)
retired_by_units [] = refl
retired_by_units (AtUnit j task (Retired exit) ∷ cs) = ap (λ (n : ℕ). suc n) (retired_by_units cs)
retired_by_units (AtUnit j task change ∷ cs) = retired_by_units cs
retired_by_units (c ∷ cs) = retired_by_units cs

begun_by_units : (units r n : ℕ) (later : List (List Change)) (cs : List Change) → flat_map (begun_by units r n later) cs ≡ flat_map (begun_by units r n later) (at_units cs)
begun_by_units units r n later [] = refl
begun_by_units units r n later (AtUnit j task change ∷ cs) =
    ap (λ (ls : List Life). begun_by units r n later (AtUnit j task change) ++ ls) (begun_by_units units r n later cs)
begun_by_units units r n later (c ∷ cs) = begun_by_units units r n later cs

-- ---- how a life goes on

abbrev with_more : (n : ℕ) → Life → Life
with_more n life = record life { executed = life.executed + n }

either_way : (b : Bool) (life : Life) → cond b life life ≡ life
either_way true life = refl
either_way false life = refl

none_more : (life : Life) → life ≡ with_more 0 life
none_more life =
    let same : life.executed ≡ life.executed + 0 = omega arith in
    λ j. record life { executed = same j }

one_more : (life : Life) → record life { executed = suc life.executed } ≡ with_more 1 life
one_more life =
    let same : suc life.executed ≡ life.executed + 1 = omega arith in
    λ j. record life { executed = same j }

executed_more : (b : Bool) (life : Life) → cond b (record life { executed = suc life.executed }) life ≡ with_more (cond b 1 0) life
executed_more true life = one_more life
executed_more false life = none_more life

-- ---- what changes tell, where they are those of an event

-- the unit at position k is at work after the event, among this many
record Stays (k left : ℕ) (e : Event) (cs : List Change) : Type 0 where
  pub to : ℕ
  pub goes_to : position_after k e ≡ Some to
  pub within : to < left
  pub moves : k - retired_by cs ≡ to
  pub executes : (life : Life) → fold (life_told k) life cs ≡ with_more (executed_at k e) life

-- or its task ends
record Ends (k : ℕ) (e : Event) (cs : List Change) : Type 0 where
  pub goes : position_after k e ≡ None
  pub is_over : is_unfinished (ending_by e) ≡ false
  pub ends : (life : Life) → fold (life_told k) life cs ≡ record life { ending = ending_by e }

-- the life that an event begins
abbrev assigned : (units r n : ℕ) (later : List (List Change)) (active : ℕ) → Event → List Life
assigned units r n later active (Assign t) = lived active (beginning_life units r n active t) later ∷ []
assigned units r n later active e = []

-- of `active` units at work, `left` are so after the event
record Tells (active left : ℕ) (e : Event) (cs : List Change) : Type 0 where
  pub fares : (k : ℕ) → k < active → Stays k left e cs ⊎ Ends k e cs
  pub retires : (r : ℕ) → retired_after r e ≡ r + retired_by cs
  pub begins : (units r n : ℕ) (later : List (List Change)) → flat_map (begun_by units r n later) cs ≡ assigned units r n later active e

-- no unit moves or ends
module _ (active left : ℕ) (e : Event) (cs heads : List Change)
    (stays : (k : ℕ) → position_after k e ≡ Some k) (all : active ≤ left) (still : (r : ℕ) → retired_after r e ≡ r)
    (told : at_units cs ≡ heads) (none : retired_by heads ≡ 0)
    (executes : (k : ℕ) (life : Life) → fold (life_told k) life heads ≡ with_more (executed_at k e) life)
    (begins : (units r n : ℕ) (later : List (List Change)) → flat_map (begun_by units r n later) heads ≡ assigned units r n later active e) where
  none_retired : retired_by cs ≡ 0
  none_retired = retired_by_units cs ∙ ap (λ (xs : List Change). retired_by xs) told ∙ none

  plain_tells : Tells active left e cs
  plain_tells = record {
    fares = λ k below. inl (record {
      to = k;
      goes_to = stays k;
      within = omega (arith, below, all);
      moves = omega (arith, none_retired);
      executes = λ life. told_by_units k cs life ∙ ap (λ (xs : List Change). fold (life_told k) life xs) told ∙ executes k life;
    });
    retires = λ r. still r ∙ (let same : r ≡ r + retired_by cs = omega (arith, none_retired) in same);
    begins = λ units r n later. begun_by_units units r n later cs ∙ ap (λ (xs : List Change). flat_map (begun_by units r n later) xs) told ∙ begins units r n later;
  }

-- ---- units that are lost

lost_past : (c : UnitChange) (us : List Active) (k n : ℕ) (life : Life) → k < n → fold (life_told k) life (lost c n us) ≡ life
lost_past c [] k n life before = refl
lost_past c (u ∷ us) k n life before =
    let apart : n ≡ k → ⊥ = λ same. absurd (omega (arith, before, same)) in
    ap (λ (b : Bool). fold (life_told k) (cond b (life_with c life) life) (lost c (suc n) us)) (ne_eqb n k apart)
    ∙ lost_past c us k (suc n) life (omega (arith, before))

lost_there : (c : UnitChange) (us : List Active) (k n : ℕ) (life : Life) → n ≤ k → k < n + length us → fold (life_told k) life (lost c n us) ≡ life_with c life
lost_there c [] k n life from below = absurd (omega (arith, from, below))
lost_there c (u ∷ us) k n life from below =
    by (λ before. lost_there c us k (suc n) life (omega (arith, before)) (omega (arith, below))) (cases_lt n k)
  where
    by : (n < k → fold (life_told k) life (lost c (suc n) us) ≡ life_with c life) → (n < k) ⊎ (k ≤ n) → fold (life_told k) life (lost c n (u ∷ us)) ≡ life_with c life
    by later (inl before) =
        let apart : n ≡ k → ⊥ = λ same. absurd (omega (arith, before, same)) in
        ap (λ (b : Bool). fold (life_told k) (cond b (life_with c life) life) (lost c (suc n) us)) (ne_eqb n k apart)
        ∙ later before
    by later (inr here) =
        let same : n ≡ k = omega (arith, from, here) in
        ap (λ (b : Bool). fold (life_told k) (cond b (life_with c life) life) (lost c (suc n) us)) (eq-eqb n k same)
        ∙ lost_past c us k (suc n) (life_with c life) (omega (arith, here))

-- the units from a position on
module _ (c : UnitChange) (e : Event) (limit : ℕ) (q : List Active) (some : limit ≤ length q)
    (stays : (k : ℕ) → k < limit → position_after k e ≡ Some k) (goes : (k : ℕ) → limit ≤ k → position_after k e ≡ None)
    (idle : (k : ℕ) → 0 ≡ executed_at k e) (is_over : is_unfinished (ending_by e) ≡ false)
    (ends : (life : Life) → life_with c life ≡ record life { ending = ending_by e })
    (still : (r : ℕ) → retired_after r e ≡ r)
    (unretired : (j task : ℕ) → is_retirement (AtUnit j task c) ≡ false)
    (unborn : (units r n : ℕ) (later : List (List Change)) (j task : ℕ) → begun_by units r n later (AtUnit j task c) ≡ [])
    (nobody : (units r n : ℕ) (later : List (List Change)) → [] ≡ assigned units r n later (length q) e) where
  none_retire : (us : List Active) (n : ℕ) → retired_by (lost c n us) ≡ 0
  none_retire [] n = refl
  none_retire (u ∷ us) n =
      ap (λ (b : Bool). length (cond b (AtUnit n u.task c ∷ filter is_retirement (lost c (suc n) us)) (filter is_retirement (lost c (suc n) us)))) (unretired n u.task)
      ∙ none_retire us (suc n)

  none_begin : (units r m : ℕ) (later : List (List Change)) (us : List Active) (n : ℕ) → flat_map (begun_by units r m later) (lost c n us) ≡ []
  none_begin units r m later [] n = refl
  none_begin units r m later (u ∷ us) n =
      ap (λ (ls : List Life). ls ++ flat_map (begun_by units r m later) (lost c (suc n) us)) (unborn units r m later n u.task)
      ∙ none_begin units r m later us (suc n)

  abbrev gone : List Change
  gone = lost c limit (drop limit q)

  left_are : length (take limit q) ≡ limit
  left_are = length-take-le limit q some

  cut_fares : (k : ℕ) → k < length q → (k < limit) ⊎ (limit ≤ k) → Stays k (length (take limit q)) e gone ⊎ Ends k e gone
  cut_fares k below (inl before) =
      let none : retired_by (lost c limit (drop limit q)) ≡ 0 = none_retire (drop limit q) limit in
      inl (record {
        to = k;
        goes_to = stays k before;
        within = omega (arith, before, left_are);
        moves = omega (arith, none);
        executes = λ life. lost_past c (drop limit q) k limit life before ∙ none_more life ∙ ap (λ (n : ℕ). with_more n life) (idle k);
      })
  cut_fares k below (inr from) =
      let rest : length (drop limit q) ≡ length q - limit = length-drop limit q in
      inr (record {
        goes = goes k from;
        is_over = is_over;
        ends = λ life. lost_there c (drop limit q) k limit life from (omega (arith, rest, below, from)) ∙ ends life;
      })

  cut_tells : Tells (length q) (length (take limit q)) e (lost c (length (take limit q)) (drop (length (take limit q)) q))
  cut_tells =
      let none : retired_by (lost c limit (drop limit q)) ≡ 0 = none_retire (drop limit q) limit in
      let here : Tells (length q) (length (take limit q)) e (lost c limit (drop limit q)) = record {
        fares = λ k below. cut_fares k below (cases_lt k limit);
        retires = λ r. still r ∙ (let same : r ≡ r + retired_by (lost c limit (drop limit q)) = omega (arith, none) in same);
        begins = λ units r n later. none_begin units r n later (drop limit q) limit ∙ nobody units r n later;
      } in
      subst (λ (cs : List Change). Tells (length q) (length (take limit q)) e cs) (lost_but c limit q) here

-- ---- Retire

head_passes : (k : ℕ) (rest : List Active) (life : Life) → fold (life_told k) life (next_head rest) ≡ life
head_passes k [] life = refl
head_passes k (u ∷ us) life = either_way (nat_eq 1 k) life

head_retires_none : (rest : List Active) → retired_by (next_head rest) ≡ 0
head_retires_none [] = refl
head_retires_none (u ∷ us) = refl

head_begins_none : (units r n : ℕ) (later : List (List Change)) (rest : List Active) → flat_map (begun_by units r n later) (next_head rest) ≡ []
head_begins_none units r n later [] = refl
head_begins_none units r n later (u ∷ us) = refl

length-filled : (regs : ℕ → ℕ) (rest : List Active) → length (filled regs rest) ≡ length rest
length-filled regs [] = refl
length-filled regs (u ∷ us) = refl

module _ (q rest : List Active) (head : Active) (exit : ℕ) (regs : ℕ → ℕ) (cs : List Change) (is : q ≡ head ∷ rest)
    (told : at_units cs ≡ AtUnit 0 head.task (Retired exit) ∷ next_head rest) where
  one_retires : retired_by cs ≡ 1
  one_retires =
      retired_by_units cs ∙ ap (λ (xs : List Change). retired_by xs) told ∙ ap (λ (n : ℕ). suc n) (head_retires_none rest)

  told_at : (k : ℕ) (b : Bool) (life : Life) → nat_eq 0 k ≡ b → fold (life_told k) life cs ≡ cond b (record life { ending = ended.Retired }) life
  told_at k b life at =
      told_by_units k cs life
      ∙ ap (λ (xs : List Change). fold (life_told k) life xs) told
      ∙ ap (λ (t : Bool). fold (life_told k) (cond t (record life { ending = ended.Retired }) life) (next_head rest)) at
      ∙ head_passes k rest (cond b (record life { ending = ended.Retired }) life)

  retire_fares : (k : ℕ) → k < length q → Stays k (length (filled regs rest)) Retire cs ⊎ Ends k Retire cs
  retire_fares zero below = inr (record { goes = refl; is_over = refl; ends = λ life. told_at 0 true life (eq-eqb 0 0 refl) })
  retire_fares (suc i) below =
      let one : retired_by cs ≡ 1 = one_retires in
      let size : length q ≡ suc (length rest) = ap (λ (us : List Active). length us) is in
      let apart : 0 ≡ suc i → ⊥ = λ same. absurd (omega (arith, same)) in
      inl (record {
        to = i;
        goes_to = refl;
        within = omega (arith, below, size, length-filled regs rest);
        moves = omega (arith, one);
        executes = λ life. told_at (suc i) false life (ne_eqb 0 (suc i) apart) ∙ none_more life;
      })

  retire_tells : Tells (length q) (length (filled regs rest)) Retire cs
  retire_tells =
      let one : retired_by cs ≡ 1 = one_retires in
      record {
        fares = retire_fares;
        retires = λ r. let same : suc r ≡ r + retired_by cs = omega (arith, one) in same;
        begins = λ units r n later.
            begun_by_units units r n later cs
            ∙ ap (λ (xs : List Change). flat_map (begun_by units r n later) xs) told
            ∙ head_begins_none units r n later rest;
      }

-- ---- any event

tells_by : (p : Listing) (s s' t : State) (e : Event) → s' ≡ t → Tells (length s.queue) (length t.queue) e (changes_of p s e t) → Tells (length s.queue) (length s'.queue) e (changes_of p s e s')
tells_by p s s' t e is tells = subst (λ (x : State). Tells (length s.queue) (length x.queue) e (changes_of p s e x)) (sym is) tells

more_units : (q : List Active) (u : Active) → length q ≤ length (q ++ u ∷ [])
more_units q u = let size = length-append q (u ∷ []) in omega (arith, size)

as_many : (q : List Active) (k : ℕ) (u : Active) → length q ≤ length (slice_set q k u)
as_many q k u = let size : length (slice_set q k u) ≡ length q = length-set q k u in omega (arith, size)

module _ (p : Listing) (units : ℕ) (s s' : State) where
  event_tells : (e : Event) → Next p units s e s' → Tells (length s.queue) (length s'.queue) e (changes_of p s e s')
  event_tells (Assign t) next =
      let d = next.does in
      tells_by p s s' _ (Assign t) d.is
      (plain_tells (length s.queue) (length (s.queue ++ started p s t ∷ [])) (Assign t) _ (AtUnit (length s.queue) t (Began (task_at p t).entry) ∷ [])
      (λ k. refl) (more_units s.queue (started p s t)) (λ r. refl) (assign_units p s t) refl
      (λ k life. either_way (nat_eq (length s.queue) k) life ∙ none_more life)
      (λ units r n later. refl))
  event_tells (Exec k) next =
      let d = next.does in
      tells_by p s s' _ (Exec k) d.is
      (plain_tells (length s.queue) (length (slice_set s.queue k (after_exec p d.unit d.at d.index d.a d.b s.memory))) (Exec k) _ (AtUnit k d.unit.task (Executed (index_of_place d.unit.place)) ∷ [])
      (λ i. refl) (as_many s.queue k (after_exec p d.unit d.at d.index d.a d.b s.memory)) (λ r. refl) (exec_units p s k d.unit d.at d.index d.a d.b d.is_unit d.next) refl
      (λ i life. executed_more (nat_eq k i) life)
      (λ units r n later. refl))
  event_tells (Transfer k r) next =
      let d = next.does in
      let v : Active = record (d.unit) { arrived = put r d.word d.unit.arrived } in
      tells_by p s s' _ (Transfer k r) d.is
      (plain_tells (length s.queue) (length (slice_set s.queue k v)) (Transfer k r) _ (AtUnit k d.unit.task (Arrived r (unwrap_or (put r d.word d.unit.arrived r) 0)) ∷ [])
      (λ i. refl) (as_many s.queue k v) (λ n. refl) (transfer_units p s k r d.word d.unit d.is_unit) refl
      (λ i life. either_way (nat_eq k i) life ∙ none_more life)
      (λ units m n later. refl))
  event_tells (Drain k r) next =
      let d = next.does in
      let v : Active = after_drain d.unit r d.sends.word in
      let is : s' ≡ record s { queue = slice_set s.queue k v } = d.is ∙ ap (λ (u : Active). record s { queue = slice_set s.queue k u }) d.sends.is in
      tells_by p s s' _ (Drain k r) is
      (plain_tells (length s.queue) (length (slice_set s.queue k v)) (Drain k r) _ (AtUnit k d.unit.task (Drained r (unwrap_or (put r d.sends.word d.unit.sent r) 0)) ∷ [])
      (λ i. refl) (as_many s.queue k v) (λ n. refl) (drain_units p s k r d.sends.word d.unit d.is_unit) refl
      (λ i life. either_way (nat_eq k i) life ∙ none_more life)
      (λ units m n later. refl))
  event_tells (Squash k) next =
      let d = next.does in
      let within : suc k < length s.queue = slice_get_within s.queue (suc k) d.after d.is_after in
      tells_by p s s' _ (Squash k) d.is
      (cut_tells Squashed (Squash k) (suc k) s.queue (omega (arith, within))
      (λ i before. ap (λ (b : Bool). cond b None (Some i)) (le-ltb k i (omega (arith, before))))
      (λ i from. ap (λ (b : Bool). cond b None (Some i)) (lt-ltb k i (omega (arith, from))))
      (λ i. refl) refl (λ life. refl) (λ r. refl) (λ j task. refl) (λ units r n later j task. refl) (λ units r n later. refl))
  event_tells Retire next =
      let d = next.does in
      tells_by p s s' _ Retire d.is
      (retire_tells s.queue d.rest d.head (unwrap_or (exit_of d.head.place) 0) (handed_over p d.head s.regs) _ d.is_queue
      (retire_units p s d.head d.rest d.exit d.is_queue))
  event_tells Fault next =
      let d = next.does in
      tells_by p s s' _ Fault d.is
      (plain_tells (length s.queue) (length s.queue) Fault _ []
      (λ i. refl) (omega arith) (λ r. refl) refl refl (λ i life. none_more life) (λ units r n later. refl))
  event_tells (Drop k) next =
      let d = next.does in
      let within : k < length s.queue = slice_get_within s.queue k d.unit d.is_unit in
      tells_by p s s' _ (Drop k) d.is
      (cut_tells Dropped (Drop k) k s.queue (omega (arith, within))
      (λ i before. ap (λ (b : Bool). cond b (Some i) None) (lt-ltb i k before))
      (λ i from. ap (λ (b : Bool). cond b (Some i) None) (le-ltb i k from))
      (λ i. refl) refl (λ life. refl) (λ r. refl) (λ j task. refl) (λ units r n later j task. refl) (λ units r n later. refl))

-- ---- a life over the events that come

-- a life that goes on by a course
abbrev by_course : Life → Course → Life
by_course life c = record life { last = life.last + c.events; executed = life.executed + c.executed; ending = c.ending }

abbrev one_event : Life → Life
one_event life = record life { last = suc life.last }

course_on : (k j : ℕ) (e : Event) (es : List Event) → position_after k e ≡ Some j → course k (e ∷ es) ≡ after_one (executed_at k e) (course j es)
course_on k j e es is =
    ap (λ (o : Option ℕ). option_map_or (λ i. after_one (executed_at k e) (course i es)) o (record { events = 1; executed = 0; ending = ending_by e })) is

course_ends : (k : ℕ) (e : Event) (es : List Event) → position_after k e ≡ None → course k (e ∷ es) ≡ record { events = 1; executed = 0; ending = ending_by e }
course_ends k e es is =
    ap (λ (o : Option ℕ). option_map_or (λ i. after_one (executed_at k e) (course i es)) o (record { events = 1; executed = 0; ending = ending_by e })) is

more_course : (life : Life) (x : ℕ) (c : Course) → by_course (with_more x (one_event life)) c ≡ by_course life (after_one x c)
more_course life x c =
    let ends : suc life.last + c.events ≡ life.last + suc c.events = omega arith in
    let executes : life.executed + x + c.executed ≡ life.executed + (x + c.executed) = omega arith in
    λ j. record life { last = ends j; executed = executes j; ending = c.ending }

end_course : (life : Life) (ending : Ending) → record (one_event life) { ending = ending } ≡ by_course life (record { events = 1; executed = 0; ending = ending })
end_course life ending =
    let ends : suc life.last ≡ life.last + 1 = omega arith in
    let executes : life.executed ≡ life.executed + 0 = omega arith in
    λ j. record life { last = ends j; executed = executes j; ending = ending }

-- over one event, where it is told over the later ones
over_event : (e : Event) (es : List Event) (k left : ℕ) (cs : List Change) (later : List (List Change)) (life : Life) → life.ending ≡ ended.Unfinished
    → Stays k left e cs ⊎ Ends k e cs
    → ((j : ℕ) (x : Life) → j < left → x.ending ≡ ended.Unfinished → lived j x later ≡ by_course x (course j es))
    → lived k life (cs ∷ later) ≡ by_course life (course k (e ∷ es))
over_event e es k left cs later life unfinished (inl h) rest =
    let x : Life = with_more (executed_at k e) (one_event life) in
    ap (λ (y : Life). cond (is_unfinished y.ending) (lived (k - retired_by cs) y later) y) (h.executes (one_event life))
    ∙ ap (λ (o : Ending). cond (is_unfinished o) (lived (k - retired_by cs) x later) x) unfinished
    ∙ ap (λ (j : ℕ). lived j x later) h.moves
    ∙ rest h.to x h.within unfinished
    ∙ more_course life (executed_at k e) (course h.to es)
    ∙ ap (λ (c : Course). by_course life c) (sym (course_on k h.to e es h.goes_to))
over_event e es k left cs later life unfinished (inr h) rest =
    let x : Life = record (one_event life) { ending = ending_by e } in
    ap (λ (y : Life). cond (is_unfinished y.ending) (lived (k - retired_by cs) y later) y) (h.ends (one_event life))
    ∙ ap (λ (b : Bool). cond b (lived (k - retired_by cs) x later) x) h.is_over
    ∙ end_course life (ending_by e)
    ∙ ap (λ (c : Course). by_course life c) (sym (course_ends k e es h.goes))

module _ (p : Listing) (units : ℕ) (after_is : NextIsAfter) where
  life_on : (es : List Event) (s s' : State) (k : ℕ) (life : Life) → ReplaysFrom p units s es s' → k < length s.queue → life.ending ≡ ended.Unfinished
      → lived k life (changes_through p s es) ≡ by_course life (course k es)
  life_on [] s s' k life h within unfinished =
      let ends : life.last ≡ life.last + 0 = omega arith in
      let executes : life.executed ≡ life.executed + 0 = omega arith in
      λ j. record life { last = ends j; executed = executes j; ending = unfinished j }
  life_on (e ∷ es) s s' k life h within unfinished =
      let mid : State = h.0 in
      let is : mid ≡ after p s e = after_is p units s mid e h.1 in
      let tells : Tells (length s.queue) (length mid.queue) e (changes_of p s e mid) = event_tells p units s mid e h.1 in
      ap (λ (t : State). lived k life (changes_of p s e t ∷ changes_through p t es)) (sym is)
      ∙ over_event e es k (length mid.queue) (changes_of p s e mid) (changes_through p mid es) life unfinished (tells.fares k within)
      (λ j x below open_still. life_on es mid s' j x h.2 below open_still)

  -- the life that an event begins
  begun_told : (e : Event) (es : List Event) (mid s' : State) (r n active : ℕ) → ReplaysFrom p units mid es s' → length mid.queue ≡ active_after active e
      → begun units r active n e es ≡ assigned units r n (changes_through p mid es) active e
  begun_told (Assign t) es mid s' r n active h count =
      let within : active < length mid.queue = omega (arith, count) in
      let life : Life = beginning_life units r n active t in
      let c : Course = course active es in
      let executes : c.executed ≡ 0 + c.executed = omega arith in
      let same : lived active life (changes_through p mid es) ≡ by_course life c = life_on es mid s' active life h within refl in
      (λ j. record life { last = n + c.events; executed = executes j; ending = c.ending } ∷ [])
      ∙ ap (λ (l : Life). l ∷ []) (sym same)
  begun_told e es mid s' r n active h count = refl

  pub lives_from_told : EventsCount → (es : List Event) (s s' : State) (r n : ℕ) → ReplaysFrom p units s es s'
      → lives_from units r (length s.queue) n es ≡ lives_told_from units r n (changes_through p s es)
  lives_from_told count [] s s' r n h = refl
  lives_from_told count (e ∷ es) s s' r n h =
      let mid : State = h.0 in
      let is : mid ≡ after p s e = after_is p units s mid e h.1 in
      let size : length mid.queue ≡ active_after (length s.queue) e = (count p units s mid e h.1).1 in
      let tells : Tells (length s.queue) (length mid.queue) e (changes_of p s e mid) = event_tells p units s mid e h.1 in
      let later : List (List Change) = changes_through p mid es in
      let first : begun units r (length s.queue) n e es ≡ flat_map (begun_by units r n later) (changes_of p s e mid) =
      begun_told e es mid s' r n (length s.queue) h.2 size ∙ sym (tells.begins units r n later) in
      (λ j. first j ++ lives_from units (retired_after r e) (sym size j) (suc n) es)
      ∙ ap (λ (ls : List Life). flat_map (begun_by units r n later) (changes_of p s e mid) ++ ls) (lives_from_told count es mid s' (retired_after r e) (suc n) h.2)
      ∙ ap (λ (m : ℕ). flat_map (begun_by units r n later) (changes_of p s e mid) ++ lives_told_from units m (suc n) later) (tells.retires r)
      ∙ ap (λ (t : State). lives_told_from units r n (changes_of p s e t ∷ changes_through p t es)) is
