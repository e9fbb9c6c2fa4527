-- A mask is put into those of the sources, one source after another.
use Rattle.annotator.proofs.Imports.{◌≡◌, ℕ, ◌+◌, ◌*◌, ◌-◌, ◌^◌, ◌<◌, ◌≤◌, ◌≢◌, ◌⊎◌, Bool, true, false, ◌||◌, List, [], ◌∷◌, ◌++◌, length, get_or, set, refl, sym, ◌∙◌, ap, subst, inl, inr, arith, length-append, Contains, sum_by, bit_and, cases_eq, or_cases, or_left, or_right, get_or-set_same, get_or-set_other, length-set, Contains-append_left, Contains-push, Contains-push_cases, sum_by-set, has, subset_iff, may, room_of, left_to_do, Widened}
use Rattle.std.proofs.lemmas.Nat.{and_le_r}

-- a set that another contains is the lesser number
pub subset_le : (a b : ℕ) → ((r : ℕ) → has a r ≡ true → has b r ≡ true) → a ≤ b
subset_le a b within = subst (λ (n : ℕ). n ≤ b) ((subset_iff a b).1 within) (and_le_r a b)

-- no greater number: nothing new
pub nothing_new : (set mask joined : ℕ) → ((r : ℕ) → has joined r ≡ (has set r || has mask r)) → joined ≤ set
    → (r : ℕ) → has mask r ≡ true → has set r ≡ true
nothing_new set mask joined members no_more r h =
    let more : set ≤ joined = subset_le set joined (λ q yes. members q ∙ or_left (has set q) (has mask q) yes) in
    let same : set ≡ joined = omega arith in
    ap (λ (n : ℕ). has n r) same ∙ members r ∙ or_right (has set r) (has mask r) h

pub widened_none : (mask : ℕ) (masks waiting : List ℕ) → Widened [] mask masks masks waiting waiting
widened_none mask masks waiting = record {
  sized = refl;
  kept = λ i r h. h;
  has_it = λ i r c h. absurd (omega (arith, c.1));
  only = λ i r h. inl h;
  waits = λ i r h. inl h;
  still_waits = λ i c. c;
  waits_inside = λ i c. inl c;
  no_more_to_do = omega arith;
}

-- the mask of the next source has all of it already
pub widened_same : (sources more : List ℕ) (source mask : ℕ) (old new waiting_old waiting_new : List ℕ) → more ≡ sources ++ source ∷ []
    → ((r : ℕ) → has mask r ≡ true → may new source r)
    → Widened sources mask old new waiting_old waiting_new → Widened more mask old new waiting_old waiting_new
widened_same sources more source mask old new waiting_old waiting_new is has_all w = record {
  sized = w.sized;
  kept = w.kept;
  has_it = λ i r c h. elim (Contains-push_cases sources source i (subst (λ (xs : List ℕ). Contains xs i) is c)) [
    | inl was ↦ w.has_it i r was h
    | inr same ↦ subst (λ (k : ℕ). may new k r) same (has_all r h)
  ];
  only = λ i r h. among i r (w.only i r h);
  waits = w.waits;
  still_waits = w.still_waits;
  waits_inside = w.waits_inside;
  no_more_to_do = w.no_more_to_do;
}
  where
    among : (i r : ℕ) → may old i r ⊎ (Contains sources i × (has mask r ≡ true)) → may old i r ⊎ (Contains more i × (has mask r ≡ true))
    among i r (inl was) = inl was
    among i r (inr k) = inr (subst (λ (xs : List ℕ). Contains xs i) (sym is) (Contains-append_left sources (source ∷ []) i k.0), k.1)

-- the mask of the next source grows, and it waits
pub widened_more : (sources more : List ℕ) (source mask joined : ℕ) (old new waiting_old waiting_new : List ℕ) → more ≡ sources ++ source ∷ []
    → source < length new → ((r : ℕ) → has joined r ≡ (has (get_or new source 0) r || has mask r)) → room_of joined < room_of (get_or new source 0)
    → Widened sources mask old new waiting_old waiting_new
    → Widened more mask old (set new source joined) waiting_old (waiting_new ++ source ∷ [])
widened_more sources more source mask joined old new waiting_old waiting_new is within members smaller w = record {
  sized = length-set new source joined ∙ w.sized;
  kept = λ i r h. grows i r (w.kept i r h);
  has_it = λ i r c h. elim (Contains-push_cases sources source i (subst (λ (xs : List ℕ). Contains xs i) is c)) [
    | inl was ↦ grows i r (w.has_it i r was h)
    | inr same ↦ subst (λ (k : ℕ). may (set new source joined) k r) same (at_source r (or_right (has (get_or new source 0) r) (has mask r) h))
  ];
  only = λ i r h. elim (looked_up i r h) [
    | inl was ↦ among i r (w.only i r was)
    | inr k ↦ inr (subst (λ (n : ℕ). Contains more n) k.0 (subst (λ (xs : List ℕ). Contains xs source) (sym is) (Contains-push sources source)), k.1)
  ];
  waits = λ i r h. elim (looked_up i r h) [
    | inl was ↦ still i r (w.waits i r was)
    | inr k ↦ inr (subst (λ (n : ℕ). Contains (waiting_new ++ source ∷ []) n) k.0 (Contains-push waiting_new source))
  ];
  still_waits = λ i c. Contains-append_left waiting_new (source ∷ []) i (w.still_waits i c);
  waits_inside = λ i c. elim (Contains-push_cases waiting_new source i c) [
    | inl was ↦ w.waits_inside i was
    | inr same ↦ inr (subst (λ (n : ℕ). n < length old) same (subst (λ (n : ℕ). source < n) w.sized within))
  ];
  no_more_to_do = let sums = sum_by-set room_of new source joined 0 within in
      let len : length (waiting_new ++ source ∷ []) ≡ length waiting_new + 1 = length-append waiting_new (source ∷ []) in
      let before : left_to_do new waiting_new ≤ left_to_do old waiting_old = w.no_more_to_do in
      less_left (sum_by room_of (set new source joined)) (sum_by room_of new) (room_of joined) (room_of (get_or new source 0)) (length (waiting_new ++ source ∷ [])) (length waiting_new) (left_to_do old waiting_old) sums smaller len before;
}
  where
    at_source : (r : ℕ) → (has (get_or new source 0) r || has mask r) ≡ true → may (set new source joined) source r
    at_source r h = ap (λ (n : ℕ). has n r) (get_or-set_same new source joined 0 within) ∙ members r ∙ h

    grows : (i r : ℕ) → may new i r → may (set new source joined) i r
    grows i r h = elim (cases_eq i source) [
      | inl e ↦ subst (λ (k : ℕ). may (set new source joined) k r) (sym e)
          (at_source r (or_left (has (get_or new source 0) r) (has mask r) (subst (λ (k : ℕ). may new k r) e h)))
      | inr ne ↦ ap (λ (n : ℕ). has n r) (get_or-set_other new source i joined 0 ne) ∙ h
    ]

    -- what a mask has now it had before, or it is the source's and has it of the mask
    looked_up : (i r : ℕ) → may (set new source joined) i r → may new i r ⊎ ((source ≡ i) × (has mask r ≡ true))
    looked_up i r h = elim (cases_eq i source) [
      | inl e ↦ elim (or_cases (has (get_or new source 0) r) (has mask r)
          (sym (members r) ∙ sym (ap (λ (n : ℕ). has n r) (get_or-set_same new source joined 0 within)) ∙ subst (λ (k : ℕ). may (set new source joined) k r) e h)) [
            | inl was ↦ inl (subst (λ (k : ℕ). may new k r) (sym e) was)
            | inr now ↦ inr (sym e, now)
          ]
      | inr ne ↦ inl (sym (ap (λ (n : ℕ). has n r) (get_or-set_other new source i joined 0 ne)) ∙ h)
    ]

    among : (i r : ℕ) → may old i r ⊎ (Contains sources i × (has mask r ≡ true)) → may old i r ⊎ (Contains more i × (has mask r ≡ true))
    among i r (inl was) = inl was
    among i r (inr k) = inr (subst (λ (xs : List ℕ). Contains xs i) (sym is) (Contains-append_left sources (source ∷ []) i k.0), k.1)

    still : (i r : ℕ) → may old i r ⊎ Contains waiting_new i → may old i r ⊎ Contains (waiting_new ++ source ∷ []) i
    still i r (inl was) = inl was
    still i r (inr waits) = inr (Contains-append_left waiting_new (source ∷ []) i waits)

    less_left : (sum_new sum_old room_new room_old len_new len_old whole : ℕ) → sum_new + room_old ≡ sum_old + room_new → room_new < room_old
        → len_new ≡ len_old + 1 → 2 * sum_old + len_old ≤ whole → 2 * sum_new + len_new ≤ whole
    less_left sum_new sum_old room_new room_old len_new len_old whole sums smaller len before = omega arith
