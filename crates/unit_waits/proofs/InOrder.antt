-- The waits of units, one unit after the other.
use Rattle.std.proofs.Common.{◌≡◌, ℕ, suc, ◌+◌, ◌<◌, ◌≤◌, ◌⊎◌, inl, inr, Bool, true, false, cond, List, [], ◌∷◌, ◌++◌, length, drop, get_or, slice_get, Some, None, sym, ap, ◌∙◌, arith, add-one, append_assoc, append-nil, drop-cons}
use Rattle.std.proofs.lemmas.List.{drop_all}
use Rattle.std.proofs.lemmas.Option.{slice_get_cases, slice_get_within, get_or_from_slice_get}
use Rattle.task_descriptor.specs.Listing.{Listing}
use Rattle.machine_model.specs.Machine.{Active, State}
use Rattle.machine_model.specs.declared.event.Event.{Event}
use Rattle.unit_waits.specs.declared.waiting.Waiting.{Waiting}
use Rattle.unit_waits.specs.Waits.{acts, waiting, waits_at, waits_of, waits_in}

module _ (p : Listing) (units step : ℕ) (s : State) (events : List Event) where
  abbrev pub waits_behind : (k : ℕ) → List Active → List Waiting
  waits_behind k q = waits_of p units step s events k (drop k q)

  past_by : (k : ℕ) (q : List Active)
      → ((x : Active) × (k < length q) × (slice_get q k ≡ Some x) × (get_or q k x ≡ x)) ⊎ ((length q ≤ k) × (slice_get q k ≡ None))
      → slice_get q k ≡ None → waits_behind (k + 1) q ≡ waits_behind k q
  past_by k q (inl there) none = let is = there.2 in cc
  past_by k q (inr past) none =
      ap (λ (us : List Active). waits_of p units step s events (k + 1) us) (drop_all (k + 1) q (omega (arith, past.0)))
      ∙ sym (ap (λ (us : List Active). waits_of p units step s events k us) (drop_all k q past.0))

  -- after the last unit there is none
  pub waits_past : (k : ℕ) (q : List Active) (front : List Waiting) → slice_get q k ≡ None
      → front ++ waits_behind (k + 1) q ≡ front ++ waits_behind k q
  waits_past k q front none = ap (λ (ws : List Waiting). front ++ ws) (past_by k q (slice_get_cases q k).1 none)

  waits_there : (k : ℕ) (q : List Active) (u : Active) → slice_get q k ≡ Some u
      → waits_behind k q ≡ waits_at p units step s events k u ++ waits_behind (k + 1) q
  waits_there k q u there =
      let cut : drop k q ≡ u ∷ drop (k + 1) q =
      drop-cons q k u (slice_get_within q k u there)
      ∙ ap (λ (v : Active). v ∷ drop (suc k) q) (get_or_from_slice_get q k u u there)
      ∙ ap (λ (j : ℕ). u ∷ drop j q) (sym (add-one k)) in
      ap (λ (us : List Active). waits_of p units step s events k us) cut
      ∙ ap (λ (j : ℕ). waits_at p units step s events k u ++ waits_of p units step s events j (drop (k + 1) q)) (sym (add-one k))

  -- a unit that acts does not wait
  pub waits_skip : (k : ℕ) (q : List Active) (u : Active) (front : List Waiting) → slice_get q k ≡ Some u → acts (length s.queue) k events ≡ true
      → front ++ waits_behind (k + 1) q ≡ front ++ waits_behind k q
  waits_skip k q u front there does =
      ap (λ (ws : List Waiting). front ++ ws)
      (sym (waits_there k q u there ∙ ap (λ (b : Bool). cond b [] (waiting p units step s k u ∷ []) ++ waits_behind (k + 1) q) does))

  -- one that does not act waits
  pub waits_more : (k : ℕ) (q : List Active) (u : Active) (front now : List Waiting) → slice_get q k ≡ Some u → acts (length s.queue) k events ≡ false
      → now ≡ front ++ waiting p units step s k u ∷ [] → now ++ waits_behind (k + 1) q ≡ front ++ waits_behind k q
  waits_more k q u front now there idle added =
      let rest = waits_behind (k + 1) q in
      ap (λ (ws : List Waiting). ws ++ rest) added
      ∙ append_assoc front (waiting p units step s k u ∷ []) rest
      ∙ ap (λ (ws : List Waiting). front ++ ws)
      (sym (waits_there k q u there ∙ ap (λ (b : Bool). cond b [] (waiting p units step s k u ∷ []) ++ rest) idle))

  -- after all units none is left
  pub waits_all : (k : ℕ) (q : List Active) (front whole : List Waiting) → length q ≤ k → front ++ waits_behind k q ≡ whole → front ≡ whole
  waits_all k q front whole behind is =
      sym (append-nil front)
      ∙ ap (λ (us : List Active). front ++ waits_of p units step s events k us) (sym (drop_all k q behind))
      ∙ is

  one_or_none : (b : Bool) (w : Waiting) (ws : List Waiting) (n : ℕ) → length ws ≤ n → length (cond b [] (w ∷ []) ++ ws) ≤ suc n
  one_or_none true w ws n few = omega (arith, few)
  one_or_none false w ws n few = omega (arith, few)

  -- each unit waits at most once
  pub few_wait : (k : ℕ) (q : List Active) → length (waits_of p units step s events k q) ≤ length q
  few_wait k [] = omega arith
  few_wait k (u ∷ us) =
      one_or_none (acts (length s.queue) k events) (waiting p units step s k u) (waits_of p units step s events (suc k) us) (length us) (few_wait (suc k) us)
