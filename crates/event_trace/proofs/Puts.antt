-- Changes at registers, one after the other: they put words into a list with an entry for each register.
use Rattle.std.proofs.Common.{◌≡◌, ℕ, zero, suc, ◌+◌, ◌≤◌, List, [], ◌∷◌, ◌++◌, length, map, Bool, true, false, cond, refl, sym, ap, ◌∙◌, arith, append_assoc, append-nil, length-append, slice_set, flat_map}
use Rattle.std.specs.Prelude.{if◌then◌else◌}
use Rattle.std.specs.List.{range_with_len}
use Rattle.event_trace.specs.declared.change.Change.{Change}
use Rattle.event_trace.specs.Changes.{for_registers, register_count}
use Rattle.event_trace.specs.Seen.{Seen, registers, with_changes_at}

-- the entries from one on, where those of a set get their words
abbrev puts : {A : Type 0} → (set : ℕ → Bool) (word : ℕ → A) (from n : ℕ) → List A → List A
puts set word from zero xs = xs
puts set word from (suc n) xs = puts set word (from + 1) n (cond (set from) (slice_set xs from (word from)) xs)

set_next : {A : Type 0} (front : List A) (y w : A) (rest : List A) → slice_set (front ++ (y ∷ rest)) (length front) w ≡ front ++ (w ∷ rest)
set_next [] y w rest = refl
set_next {A} (x ∷ front) y w rest = ap (λ (xs : List A). x ∷ xs) (set_next front y w rest)

module _ (A : Type 0) (set : ℕ → Bool) (word old new : ℕ → A) (same : (r : ℕ) → cond (set r) (word r) (old r) ≡ new r) where
  put_by : (b : Bool) (front rest : List A) (r : ℕ) → length front ≡ r → cond b (word r) (old r) ≡ new r
      → cond b (slice_set (front ++ (old r ∷ rest)) r (word r)) (front ++ (old r ∷ rest)) ≡ (front ++ new r ∷ []) ++ rest
  put_by true front rest r at is =
      ap (λ (k : ℕ). slice_set (front ++ (old r ∷ rest)) k (word r)) (sym at)
      ∙ set_next front (old r) (word r) rest
      ∙ ap (λ (w : A). front ++ (w ∷ rest)) is
      ∙ sym (append_assoc front (new r ∷ []) rest)
  put_by false front rest r at is =
      ap (λ (w : A). front ++ (w ∷ rest)) is ∙ sym (append_assoc front (new r ∷ []) rest)

  puts_from : (n from : ℕ) (front : List A) → length front ≡ from
      → puts set word from n (front ++ map old (range_with_len from n)) ≡ front ++ map new (range_with_len from n)
  puts_from zero from front at = refl
  puts_from (suc n) from front at =
      let longer : length (front ++ new from ∷ []) ≡ from + 1 = length-append front (new from ∷ []) ∙ ap (λ (k : ℕ). k + 1) at in
      ap (λ (xs : List A). puts set word (from + 1) n xs) (put_by (set from) front (map old (range_with_len (from + 1) n)) from at (same from))
      ∙ puts_from n (from + 1) (front ++ new from ∷ []) longer
      ∙ append_assoc front (new from ∷ []) (map new (range_with_len (from + 1) n))

module _ (A : Type 0) (k : ℕ) (with_words : List A → Seen) (change : ℕ → Change) (word : ℕ → A)
    (step : (r : ℕ) (xs : List A) (cs : List Change) → with_changes_at k (change r ∷ cs) (with_words xs) ≡ with_changes_at k cs (with_words (slice_set xs r (word r)))) where
  one : (b : Bool) (r : ℕ) (xs : List A) (cs : List Change) → with_changes_at k (cond b (change r ∷ []) [] ++ cs) (with_words xs) ≡ with_changes_at k cs (with_words (cond b (slice_set xs r (word r)) xs))
  one true r xs cs = step r xs cs
  one false r xs cs = refl

  each : (set : ℕ → Bool) (n from : ℕ) (xs : List A) (cs : List Change)
      → with_changes_at k (flat_map (λ r. if set r then change r ∷ [] else []) (range_with_len from n) ++ cs) (with_words xs) ≡ with_changes_at k cs (with_words (puts set word from n xs))
  each set zero from xs cs = refl
  each set (suc n) from xs cs =
      let later : List Change = flat_map (λ r. if set r then change r ∷ [] else []) (range_with_len (from + 1) n) in
      ap (λ (l : List Change). with_changes_at k l (with_words xs)) (append_assoc (cond (set from) (change from ∷ []) []) later cs)
      ∙ one (set from) from xs (later ++ cs)
      ∙ each set n (from + 1) (cond (set from) (slice_set xs from (word from)) xs) cs

  -- a change for each register of a set, where the others keep their words
  pub registers_told : (set : ℕ → Bool) (old new : ℕ → A) (cs : List Change) → ((r : ℕ) → cond (set r) (word r) (old r) ≡ new r)
      → with_changes_at k (for_registers set change ++ cs) (with_words (map old registers)) ≡ with_changes_at k cs (with_words (map new registers))
  registers_told set old new cs same =
      each set register_count 0 (map old registers) cs
      ∙ ap (λ (xs : List A). with_changes_at k cs (with_words xs)) (puts_from A set word old new same register_count 0 [] refl)

  -- and where nothing comes after them
  pub registers_told_last : (set : ℕ → Bool) (old new : ℕ → A) → ((r : ℕ) → cond (set r) (word r) (old r) ≡ new r)
      → with_changes_at k (for_registers set change) (with_words (map old registers)) ≡ with_words (map new registers)
  registers_told_last set old new same =
      ap (λ (l : List Change). with_changes_at k l (with_words (map old registers))) (sym (append-nil (for_registers set change)))
      ∙ registers_told set old new [] same

-- lists of what functions give that are alike from a register on
alike : {A : Type 0} (f g : ℕ → A) (n from : ℕ) → ((s : ℕ) → from ≤ s → f s ≡ g s) → map f (range_with_len from n) ≡ map g (range_with_len from n)
alike f g zero from same = refl
alike f g (suc n) from same =
    let here : f from ≡ g from = same from (omega arith) in
    let rest : map f (range_with_len (from + 1) n) ≡ map g (range_with_len (from + 1) n) = alike f g n (from + 1) (λ s behind. same s (omega (arith, behind))) in
    λ j. here j ∷ rest j

-- a word put at a register
put_from : {A : Type 0} (old new : ℕ → A) (w : A) (n from r : ℕ) → new (from + r) ≡ w → ((s : ℕ) → (s ≡ from + r → ⊥) → new s ≡ old s)
    → slice_set (map old (range_with_len from n)) r w ≡ map new (range_with_len from n)
put_from old new w zero from r is other = refl
put_from old new w (suc n) from zero is other =
    let first : from + 0 ≡ from = omega arith in
    let here : w ≡ new from = sym is ∙ ap new first in
    let apart : (s : ℕ) → from + 1 ≤ s → s ≡ from + 0 → ⊥ = λ s behind e. omega (arith, behind, e) in
    let rest : map old (range_with_len (from + 1) n) ≡ map new (range_with_len (from + 1) n) =
    alike old new n (from + 1) (λ s behind. sym (other s (apart s behind))) in
    λ j. here j ∷ rest j
put_from old new w (suc n) from (suc r) is other =
    let not_first : from ≡ from + suc r → ⊥ = λ e. omega (arith, e) in
    let here : old from ≡ new from = sym (other from not_first) in
    let later : from + 1 + r ≡ from + suc r = omega arith in
    let rest : slice_set (map old (range_with_len (from + 1) n)) r w ≡ map new (range_with_len (from + 1) n) =
    put_from old new w n (from + 1) r (ap new later ∙ is) (λ s apart. other s (λ e. apart (e ∙ sym later))) in
    λ j. here j ∷ rest j

pub put_at : {A : Type 0} (old new : ℕ → A) (w : A) (r : ℕ) → new r ≡ w → ((s : ℕ) → (s ≡ r → ⊥) → new s ≡ old s)
    → slice_set (map old registers) r w ≡ map new registers
put_at old new w r is other =
    let first : 0 + r ≡ r = omega arith in
    put_from old new w register_count 0 r (ap new first ∙ is) (λ s apart. other s (λ e. apart (e ∙ sym first)))
