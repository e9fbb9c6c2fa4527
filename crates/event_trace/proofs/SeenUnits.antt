-- Units as they are seen: one of them changes, in its place in the queue.
use Rattle.std.proofs.Common.{◌≡◌, ℕ, zero, suc, ◌-◌, ◌≤◌, List, [], ◌∷◌, ◌++◌, length, map, take, drop, Bool, true, false, cond, not, Option, Some, None, refl, sym, ap, ◌∙◌, arith, slice_get, slice_set, take_all, length-take, length-drop, nat_eq, unwrap_or, eqb-true, flat_map}
use Rattle.std.proofs.lemmas.Bool.{cases_Bool}
use Rattle.std.proofs.lemmas.List.{length-map, take-map}
use Rattle.machine_model.specs.Machine.{Active, State}
use Rattle.machine_model.specs.declared.event.Spot.{Spot}
use Rattle.machine_model.specs.declared.event.Spot.TheVariants.{Inside, Stopped}
use Rattle.event_trace.specs.declared.change.Change.{Change}
use Rattle.event_trace.specs.declared.change.Change.TheVariants.{AtUnit, Took, Wrote, Sent}
use Rattle.event_trace.specs.declared.unit_change.UnitChange.{UnitChange}
use Rattle.event_trace.specs.Changes.{for_registers, lost, stands_at}
use Rattle.event_trace.specs.Seen.{Seen, SeenUnit, changed_at, cut_at, position_told, registers, seen, seen_unit, sending, standing_at, taking, with_changes_at, with_unit_change, writing}
use Rattle.event_trace.proofs.Puts.{registers_told, registers_told_last}

-- ---- the place of a unit

pub changed_there : (q : List Active) (k : ℕ) (u : Active) (change : SeenUnit → SeenUnit) → slice_get q k ≡ Some u
    → changed_at (map seen_unit q) k change ≡ slice_set (map seen_unit q) k (change (seen_unit u))
changed_there (x ∷ q) zero u change is =
    let same : x ≡ u = cc in
    ap (λ (v : Active). change (seen_unit v) ∷ map seen_unit q) same
changed_there (x ∷ q) (suc k) u change is = ap (λ (us : List SeenUnit). seen_unit x ∷ us) (changed_there q k u change is)
changed_there [] k u change is = absurd (cc)

pub changed_again : (us : List SeenUnit) (k : ℕ) (change : SeenUnit → SeenUnit) (w : SeenUnit) → changed_at (slice_set us k w) k change ≡ slice_set us k (change w)
changed_again (x ∷ us) zero change w = refl
changed_again (x ∷ us) (suc k) change w = ap (λ (vs : List SeenUnit). x ∷ vs) (changed_again us k change w)
changed_again [] k change w = refl

pub changed_last : (q : List Active) (change : SeenUnit → SeenUnit) (w : SeenUnit) → changed_at (map seen_unit q ++ w ∷ []) (length q) change ≡ map seen_unit q ++ change w ∷ []
changed_last [] change w = refl
changed_last (x ∷ q) change w = ap (λ (vs : List SeenUnit). seen_unit x ∷ vs) (changed_last q change w)

pub now_there : (q : List Active) (k : ℕ) (u v : Active) → slice_get q k ≡ Some u → slice_get (slice_set q k v) k ≡ Some v
now_there (x ∷ q) zero u v is = refl
now_there (x ∷ q) (suc k) u v is = now_there q k u v is
now_there [] k u v is = absurd (cc)

pub now_last : (q : List Active) (v : Active) → slice_get (q ++ v ∷ []) (length q) ≡ Some v
now_last [] v = refl
now_last (x ∷ q) v = now_last q v

-- ---- changes of a unit in its place

module _ (k : ℕ) (queue_with : SeenUnit → List SeenUnit) (there : (change : SeenUnit → SeenUnit) (w : SeenUnit) → changed_at (queue_with w) k change ≡ queue_with (change w)) (x : Seen) where
  abbrev pub whole : SeenUnit → Seen
  whole w = record x { queue = queue_with w }

  changed : (change : SeenUnit → SeenUnit) (w : SeenUnit) (cs : List Change) → with_changes_at k cs (record x { queue = changed_at (queue_with w) k change }) ≡ with_changes_at k cs (whole (change w))
  changed change w cs = ap (λ (us : List SeenUnit). with_changes_at k cs (record x { queue = us })) (there change w)

  pub took : (w : SeenUnit) (set : ℕ → Bool) (old new : ℕ → ℕ) → ((r : ℕ) → cond (set r) (new r) (old r) ≡ new r)
      → with_changes_at k (for_registers set (λ r. Took r (new r))) (whole (record w { arrived = map old registers })) ≡ whole (record w { arrived = map new registers })
  took w set old new same =
      registers_told_last ℕ k (λ (xs : List ℕ). whole (record w { arrived = xs })) (λ (r : ℕ). Took r (new r)) new
      (λ r xs cs. changed (taking r (new r)) (record w { arrived = xs }) cs) set old new same

  pub wrote : (w : SeenUnit) (set : ℕ → Bool) (word : ℕ → ℕ) (old new : ℕ → Option ℕ) (cs : List Change) → ((r : ℕ) → cond (set r) (Some (word r)) (old r) ≡ new r)
      → with_changes_at k (for_registers set (λ r. Wrote r (word r)) ++ cs) (whole (record w { own = map old registers })) ≡ with_changes_at k cs (whole (record w { own = map new registers }))
  wrote w set word old new cs same =
      registers_told (Option ℕ) k (λ (xs : List (Option ℕ)). whole (record w { own = xs })) (λ (r : ℕ). Wrote r (word r)) (λ (r : ℕ). Some (word r))
      (λ r xs more. changed (writing r (word r)) (record w { own = xs }) more) set old new cs same

  pub sent : (w : SeenUnit) (set : ℕ → Bool) (word : ℕ → ℕ) (old new : ℕ → Option ℕ) (cs : List Change) → ((r : ℕ) → cond (set r) (Some (word r)) (old r) ≡ new r)
      → with_changes_at k (for_registers set (λ r. Sent r (word r)) ++ cs) (whole (record w { sent = map old registers })) ≡ with_changes_at k cs (whole (record w { sent = map new registers }))
  sent w set word old new cs same =
      registers_told (Option ℕ) k (λ (xs : List (Option ℕ)). whole (record w { sent = xs })) (λ (r : ℕ). Sent r (word r)) (λ (r : ℕ). Some (word r))
      (λ r xs more. changed (sending r (word r)) (record w { sent = xs }) more) set old new cs same

  pub moved_to : (w : SeenUnit) (spot : Spot) → with_changes_at k (stands_at spot ∷ []) (whole w) ≡ whole (standing_at spot w)
  moved_to w (Inside index) = changed (standing_at (Inside index)) w []
  moved_to w (Stopped at) = changed (standing_at (Stopped at)) w []

-- a word that arrived, where 0 is not told
pub nonzero_told : (word : ℕ) → cond (not (nat_eq word 0)) word 0 ≡ word
nonzero_told word = told_by (nat_eq word 0) refl
  where
    told_by : (zeroth : Bool) → nat_eq word 0 ≡ zeroth → cond (not zeroth) word 0 ≡ word
    told_by true is = sym (eqb-true word 0 is)
    told_by false is = refl

-- ---- units that are lost

few_units : (n : ℕ) (q : List Active) → drop n q ≡ [] → length (map seen_unit q) ≤ n
few_units n q none =
    let size : length (map seen_unit q) ≡ length q = length-map q seen_unit in
    let left : length (drop n q) ≡ length q - n = length-drop n q in
    let no : length (drop n q) ≡ 0 = ap (λ (us : List Active). length us) none in
    omega (arith, size, left, no)

module _ (c : UnitChange) (cuts : (j task : ℕ) (x : Seen) → with_unit_change j task c x ≡ cut_at j x) where
  nothing_left : (us : List Active) (k m : ℕ) (x : Seen) → length x.queue ≤ m → with_changes_at k (lost c m us) x ≡ x
  nothing_left [] k m x few = refl
  nothing_left (u ∷ us) k m x few =
      let same : with_unit_change m u.task c x ≡ x = cuts m u.task x ∙ ap (λ (vs : List SeenUnit). record x { queue = vs }) (take_all m x.queue few) in
      let fewer : length x.queue ≤ suc m = omega (arith, few) in
      ap (λ (y : Seen). with_changes_at (position_told k (AtUnit m u.task c)) (lost c (suc m) us) y) same
      ∙ nothing_left us (position_told k (AtUnit m u.task c)) (suc m) x fewer

  cut_by : (us : List Active) (k n : ℕ) (x : Seen) → (us ≡ [] → length x.queue ≤ n) → with_changes_at k (lost c n us) x ≡ cut_at n x
  cut_by [] k n x all = ap (λ (vs : List SeenUnit). record x { queue = vs }) (sym (take_all n x.queue (all refl)))
  cut_by (u ∷ us) k n x all =
      let few : length (take n x.queue) ≤ suc n = omega (arith, length-take n x.queue) in
      ap (λ (y : Seen). with_changes_at (position_told k (AtUnit n u.task c)) (lost c (suc n) us) y) (cuts n u.task x)
      ∙ nothing_left us (position_told k (AtUnit n u.task c)) (suc n) (cut_at n x) few

  -- all from a position on
  pub cut_told : (n : ℕ) (s : State) → with_changes_at 0 (lost c n (drop n s.queue)) (seen s) ≡ seen (record s { queue = take n s.queue })
  cut_told n s =
      cut_by (drop n s.queue) 0 n (seen s) (few_units n s.queue)
      ∙ ap (λ (vs : List SeenUnit). record (seen s) { queue = vs }) (take-map seen_unit n s.queue)
