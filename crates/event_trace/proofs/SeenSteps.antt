-- What each event changes is what is told of it, and so over a list of events.
use Rattle.std.proofs.Common.{◌≡◌, ℕ, zero, suc, List, [], ◌∷◌, ◌++◌, length, map, take, drop, Bool, cond, not, ◌&&◌, Option, Some, None, refl, sym, ap, ◌∙◌, slice_get, slice_set, nat_eq, unwrap_or, is_some, eq-eqb, ne_eqb, fold}
use Rattle.std.proofs.lemmas.Bool.{cond-true, cond-false}
use Rattle.std.proofs.lemmas.List.{map-set, map_push}
use Rattle.std.specs.Option.{option_or}
use Rattle.task_descriptor.specs.Listing.{Listing}
use Rattle.machine_model.specs.Machine.{Active, State, Words, task_at}
use Rattle.machine_model.specs.Unit.{after_drain, put}
use Rattle.machine_model.specs.Step.{Next, filled, handed_over, retire_leaves, started}
use Rattle.machine_model.specs.Answer.{after, exit_of}
use Rattle.machine_model.specs.Laws.{NextIsAfter}
use Rattle.machine_model.specs.Replay.{ReplaysFrom}
use Rattle.machine_model.specs.declared.event.Event.{Event}
use Rattle.machine_model.specs.declared.event.Event.TheVariants.{Assign, Exec, Transfer, Drain, Squash, Retire, Fault, Drop}
use Rattle.machine_model.specs.declared.event.Spot.{Spot}
use Rattle.event_trace.specs.declared.change.Change.{Change}
use Rattle.event_trace.specs.declared.unit_change.UnitChange.TheVariants.{Squashed, Dropped}
use Rattle.event_trace.specs.Changes.{arrived, became_head, began, changes_of, drained, has_arrived, lost, retired, taken, takes}
use Rattle.event_trace.specs.Seen.{Seen, SeenUnit, beginning, changed_at, changes_through, registers, seen, seen_unit, sending, taking, with_changes, with_changes_at, without_head}
use Rattle.event_trace.proofs.LostUnits.{lost_but}
use Rattle.event_trace.proofs.Puts.{put_at}
use Rattle.event_trace.proofs.SeenExec.{exec_told}
use Rattle.event_trace.proofs.SeenUnits.{changed_last, changed_there, cut_told, nonzero_told, now_last, now_there, took}

-- an event is told, with the state that it leaves
abbrev pub IsTold : Listing → State → Event → State → Type 0
IsTold p s e s' = seen s' ≡ with_changes (seen s) (changes_of p s e s')

told_by : (p : Listing) (s s' t : State) (e : Event) → s' ≡ t → IsTold p s e t → IsTold p s e s'
told_by p s s' t e is told = ap seen is ∙ told ∙ ap (λ (x : State). with_changes (seen s) (changes_of p s e x)) (sym is)

module _ (p : Listing) (s : State) where
  -- Assign
  assign_told : (t : ℕ) → IsTold p s (Assign t) (record s { queue = s.queue ++ started p s t ∷ []; assigns = suc s.assigns })
  assign_told t =
      let v : Active = started p s t in
      let k = length s.queue in
      let first : SeenUnit = beginning t (task_at p t).entry in
      let queue_with : SeenUnit → List SeenUnit = λ w. map seen_unit s.queue ++ w ∷ [] in
      let word : ℕ → ℕ = λ r. unwrap_or (v.arrived r) 0 in
      ap (λ (us : List SeenUnit). record (seen s) { queue = us }) (map_push seen_unit s.queue v)
      ∙ sym (took k queue_with (changed_last s.queue) (seen s) first (takes (has_arrived None) v) (λ r. 0) word (λ r. nonzero_told (word r)))
      ∙ ap (λ (o : Option Active). with_changes (seen s) (began k o)) (sym (now_last s.queue v))

  -- Transfer
  transfer_told : (k r word : ℕ) (u : Active) → slice_get s.queue k ≡ Some u → IsTold p s (Transfer k r) (record s { queue = slice_set s.queue k (record u { arrived = put r word u.arrived }) })
  transfer_told k r word u is =
      let v : Active = record u { arrived = put r word u.arrived } in
      let old : ℕ → ℕ = λ q. unwrap_or (u.arrived q) 0 in
      let new : ℕ → ℕ = λ q. unwrap_or (v.arrived q) 0 in
      let other : (q : ℕ) → (q ≡ r → ⊥) → new q ≡ old q = λ q apart. ap (λ (o : Option ℕ). unwrap_or o 0) (cond-false (nat_eq q r) (Some word) (u.arrived q) (ne_eqb q r apart)) in
      let words : slice_set (map old registers) r (new r) ≡ map new registers = put_at old new (new r) r refl other in
      ap (λ (us : List SeenUnit). record (seen s) { queue = us })
      (map-set seen_unit s.queue k v
      ∙ ap (λ (ws : List ℕ). slice_set (map seen_unit s.queue) k (record (seen_unit u) { arrived = ws })) (sym words)
      ∙ sym (changed_there s.queue k u (taking r (new r)) is))
      ∙ ap (λ (o : Option Active). with_changes (seen s) (arrived k r o)) (sym (now_there s.queue k u v is))

  -- Drain
  drain_told : (k r word : ℕ) (u : Active) → slice_get s.queue k ≡ Some u → IsTold p s (Drain k r) (record s { queue = slice_set s.queue k (after_drain u r word) })
  drain_told k r word u is =
      let v : Active = after_drain u r word in
      let told : ℕ = unwrap_or (v.sent r) 0 in
      let there : v.sent r ≡ Some word = cond-true (nat_eq r r) (Some word) (u.sent r) (eq-eqb r r refl) in
      let same : v.sent r ≡ Some told = there ∙ ap (λ (o : Option ℕ). Some (unwrap_or o 0)) (sym there) in
      let other : (q : ℕ) → (q ≡ r → ⊥) → v.sent q ≡ u.sent q = λ q apart. cond-false (nat_eq q r) (Some word) (u.sent q) (ne_eqb q r apart) in
      let words : slice_set (map u.sent registers) r (Some told) ≡ map v.sent registers = put_at u.sent v.sent (Some told) r same other in
      ap (λ (us : List SeenUnit). record (seen s) { queue = us })
      (map-set seen_unit s.queue k v
      ∙ ap (λ (ws : List (Option ℕ)). slice_set (map seen_unit s.queue) k (record (seen_unit u) { sent = ws })) (sym words)
      ∙ sym (changed_there s.queue k u (sending r told) is))
      ∙ ap (λ (o : Option Active). with_changes (seen s) (drained k r o)) (sym (now_there s.queue k u v is))

  -- Squash and Drop
  squash_told : (k : ℕ) → IsTold p s (Squash k) (record s { queue = take (suc k) s.queue })
  squash_told k =
      sym (cut_told Squashed (λ j task x. refl) (suc k) s)
      ∙ ap (λ (cs : List Change). with_changes (seen s) cs) (lost_but Squashed (suc k) s.queue)

  drop_told : (k : ℕ) → IsTold p s (Drop k) (record s { queue = take k s.queue })
  drop_told k =
      sym (cut_told Dropped (λ j task x. refl) k s)
      ∙ ap (λ (cs : List Change). with_changes (seen s) cs) (lost_but Dropped k s.queue)

  -- Retire: the next unit becomes the head
  filled_word : (o : Option ℕ) (word : ℕ) → cond (not (is_some o) && not (nat_eq (unwrap_or (option_or o (Some word)) 0) 0)) (unwrap_or (option_or o (Some word)) 0) (unwrap_or o 0) ≡ unwrap_or (option_or o (Some word)) 0
  filled_word (Some w) word = refl
  filled_word None word = nonzero_told word

  head_told : (rest : List Active) (regs : ℕ → ℕ) (x : Seen)
      → record x { queue = map seen_unit (filled regs rest) } ≡ with_changes_at 0 (became_head (has_arrived (slice_get rest 0)) (slice_get (filled regs rest) 0)) (record x { queue = map seen_unit rest })
  head_told [] regs x = refl
  head_told (u ∷ us) regs x =
      let v : Active = record u { arrived = λ r. option_or (u.arrived r) (Some (regs r)) } in
      let queue_with : SeenUnit → List SeenUnit = λ w. w ∷ map seen_unit us in
      sym (took 0 queue_with (λ change w. refl) x (seen_unit u) (takes (has_arrived (Some u)) v) (λ r. unwrap_or (u.arrived r) 0) (λ r. unwrap_or (v.arrived r) 0)
      (λ r. filled_word (u.arrived r) (regs r)))

  retire_told : (head : Active) (rest : List Active) (exit : ℕ) → s.queue ≡ head ∷ rest → exit_of head.place ≡ Some exit → IsTold p s Retire (retire_leaves p s head rest exit)
  retire_told head rest exit is stopped =
      let regs : ℕ → ℕ = handed_over p head s.regs in
      let told : List Active → Seen = λ q. with_changes (record (seen s) { queue = map seen_unit q }) (retired (slice_get q 0) ++ became_head (has_arrived (slice_get q 1)) (slice_get (filled regs rest) 0)) in
      let x : ℕ → Seen = λ at. without_head head.task at (record (seen s) { queue = map seen_unit (head ∷ rest) }) in
      let after_head : ℕ → Seen = λ at. with_changes_at 0 (became_head (has_arrived (slice_get rest 0)) (slice_get (filled regs rest) 0)) (x at) in
      head_told rest regs (x exit)
      ∙ ap (λ (o : Option ℕ). after_head (unwrap_or o 0)) (sym stopped)
      ∙ ap told (sym is)

module _ (p : Listing) (units : ℕ) where
  pub event_told : (s s' : State) (e : Event) → Next p units s e s' → IsTold p s e s'
  event_told s s' (Assign t) next =
      let d = next.does in told_by p s s' _ (Assign t) d.is (assign_told p s t)
  event_told s s' (Exec k) next =
      let d = next.does in told_by p s s' _ (Exec k) d.is (exec_told p s k d.unit d.at d.index d.a d.b next.runs d.is_unit d.next)
  event_told s s' (Transfer k r) next =
      let d = next.does in told_by p s s' _ (Transfer k r) d.is (transfer_told p s k r d.word d.unit d.is_unit)
  event_told s s' (Drain k r) next =
      let d = next.does in
      let is : s' ≡ record s { queue = slice_set s.queue k (after_drain d.unit r d.sends.word) } = d.is ∙ ap (λ (v : Active). record s { queue = slice_set s.queue k v }) d.sends.is in
      told_by p s s' _ (Drain k r) is (drain_told p s k r d.sends.word d.unit d.is_unit)
  event_told s s' (Squash k) next =
      let d = next.does in told_by p s s' _ (Squash k) d.is (squash_told p s k)
  event_told s s' Retire next =
      let d = next.does in
      told_by p s s' _ Retire d.is (retire_told p s d.head d.rest d.exit d.is_queue (ap (λ (spot : Spot). exit_of spot) d.is_stopped))
  event_told s s' Fault next =
      let d = next.does in told_by p s s' _ Fault d.is refl
  event_told s s' (Drop k) next =
      let d = next.does in told_by p s s' _ (Drop k) d.is (drop_told p s k)

  pub run_told : NextIsAfter → (events : List Event) (s s' : State) → ReplaysFrom p units s events s' → seen s' ≡ fold with_changes (seen s) (changes_through p s events)
  run_told after_is [] s s' h = ap seen h
  run_told after_is (e ∷ es) s s' h =
      let mid : State = h.0 in
      let is : mid ≡ after p s e = after_is p units s mid e h.1 in
      let step : seen mid ≡ with_changes (seen s) (changes_of p s e (after p s e)) =
      event_told s mid e h.1 ∙ ap (λ (x : State). with_changes (seen s) (changes_of p s e x)) is in
      run_told after_is es mid s' h.2
      ∙ (λ j. fold with_changes (step j) (changes_through p (is j) es))
