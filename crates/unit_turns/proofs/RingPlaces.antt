-- The position of a unit is where an Exec belongs to it; and what a unit's turn is, by its position.
use Rattle.unit_turns.proofs.Imports.{◌≡◌, ℕ, zero, suc, ◌+◌, ◌-◌, ◌%◌, ◌<◌, ◌⊎◌, inl, inr, length, Bool, true, false, refl, sym, ap, ◌∙◌, subst, arith, true≢false, ◌&&◌, nat_lt, nat_eq, if◌then◌else◌, cases_lt, cases_eq, lt-ltb, le-ltb, eq-eqb, ne_eqb, ltb-true, cond-true, cond-false, is_running, most_events, Assign, Exec, Running, MachineView, state, units_of, unit_for, choices_of, executed_in, first_allowed, position_of_unit, turn_at_position, turn_of, turn_ahead, turn_of_free, own_events, pauses, Wait}
use Rattle.std.proofs.lemmas.Nat.{mod_below}
use Rattle.std.proofs.Math.Nat.{add-mod_left, mod-eq_of_lt}
use Rattle.sequencer.proofs.Numbers.{one_place, around}
use Rattle.unit_turns.specs.declared.turn.Turn.{Turn}

-- counted round the ring from the head, the position of a unit reaches it
module _ (units retired unit : ℕ) (small : unit < units) where
  abbrev head : ℕ
  head = retired % units

  head_below : head < units
  head_below = mod_below retired units (omega arith)

  reached : (head + position_of_unit units retired unit ≡ unit) ⊎ (head + position_of_unit units retired unit ≡ unit + units)
  reached = elim (cases_lt unit head) [
    | inl before ↦ inr (
        let below : unit + (units - head) < units = (let h : head < units = head_below in omega arith) in
        let same : (unit + (units - head)) % units ≡ unit + (units - head) = mod-eq_of_lt below in
        let h : head < units = head_below in
        omega arith
        )
    | inr beyond ↦ inl (
        let h : head < units = head_below in
        let below : unit - head < units = omega arith in
        let sum : unit + (units - head) ≡ units + (unit - head) = omega arith in
        let same : (unit + (units - head)) % units ≡ unit - head =
        ap (λ (x : ℕ). x % units) sum ∙ add-mod_left units (unit - head) ∙ mod-eq_of_lt below in
        omega arith
        )
  ]

  pub position_below : position_of_unit units retired unit < units
  position_below = mod_below (unit + (units - head)) units (omega arith)

  pub position_belongs : (retired + position_of_unit units retired unit) % units ≡ unit
  position_belongs =
      around retired head unit units (position_of_unit units retired unit) (ap (λ (x : ℕ). x % units) (let e : retired ≡ retired + 0 = omega arith in e)) small reached

pub position_is : (units retired unit k : ℕ) → k < units → (retired + k) % units ≡ unit → position_of_unit units retired unit ≡ k
position_is units retired unit k below at =
    let some : 0 < units = omega arith in
    let small : unit < units = subst (λ (x : ℕ). x < units) at (mod_below (retired + k) units some) in
    one_place retired (position_of_unit units retired unit) k units (position_below units retired unit small) below (position_belongs units retired unit small ∙ sym at)

-- tests in a row

all_three : (a b c : Bool) (x y : Turn) → a ≡ true → b ≡ true → c ≡ true → (if a && b && c then x else y) ≡ x
all_three true true true x y ea eb ec = refl
all_three false b c x y ea eb ec = absurd (true≢false (sym ea))
all_three true false c x y ea eb ec = absurd (true≢false (sym eb))
all_three true true false x y ea eb ec = absurd (true≢false (sym ec))

not_all : (a b c : Bool) (x : Turn) → (a ≡ true → b ≡ true → c ≡ true → x ≡ Wait) → (if a && b && c then x else Wait) ≡ Wait
not_all true true true x h = h refl refl refl
not_all false b c x h = refl
not_all true false c x h = refl
not_all true true false x h = refl

-- the turn of the unit at a position of the ring
pub at_place : (m : MachineView) (unit k : ℕ) → (state m).outcome ≡ Running → length m.history < most_events → k < units_of m → unit_for m (Exec k) ≡ unit → turn_of m unit ≡ turn_at_position m k
at_place m unit k running room below at =
    let small : unit < units_of m = subst (λ (x : ℕ). x < units_of m) at (mod_below (length (state m).commits + k) (units_of m) (omega arith)) in
    all_three (is_running (state m).outcome) (nat_lt (length m.history) most_events) (nat_lt unit (units_of m)) _ _ (ap is_running running) (lt-ltb _ _ room) (lt-ltb _ _ small)
    ∙ ap (turn_at_position m) (position_is (units_of m) (length (state m).commits) unit k below at)

-- by where the position lies

pub at_work : (m : MachineView) (k : ℕ) → 0 < k → k < length (state m).queue
    → turn_at_position m k ≡ turn_ahead (pauses (state m) (executed_in m.history)) (first_allowed m.accepted.program (units_of m) (state m) (own_events k))
at_work m zero ahead within = absurd (omega arith)
at_work m (suc k) ahead within = cond-true (nat_lt (suc k) (length (state m).queue)) _ _ (lt-ltb (suc k) (length (state m).queue) within)

pub at_free : (m : MachineView) (k : ℕ) → 0 < k → k ≡ length (state m).queue
    → turn_at_position m k ≡ turn_of_free m.accepted.program (state m) (choices_of m.accepted.program (state m))
at_free m zero ahead same = absurd (omega arith)
at_free m (suc k) ahead same =
    cond-false (nat_lt (suc k) (length (state m).queue)) _ _ (le-ltb (suc k) (length (state m).queue) (omega arith))
    ∙ cond-true (nat_eq (suc k) (length (state m).queue)) _ _ (eq-eqb (suc k) (length (state m).queue) same)

behind_free : (m : MachineView) (k : ℕ) → length (state m).queue < k → turn_at_position m k ≡ Wait
behind_free m zero behind = absurd (omega arith)
behind_free m (suc k) behind =
    cond-false (nat_lt (suc k) (length (state m).queue)) _ _ (le-ltb (suc k) (length (state m).queue) (omega arith))
    ∙ cond-false (nat_eq (suc k) (length (state m).queue)) _ _ (ne_eqb (suc k) (length (state m).queue) (λ same. omega arith))

-- a unit that is neither at work nor the one that takes the next task
pub neither : (m : MachineView) (unit : ℕ) → ((k : ℕ) → k < length (state m).queue → unit_for m (Exec k) ≡ unit → ⊥)
    → (length (state m).queue < units_of m → unit_for m (Assign 0) ≡ unit → ⊥) → turn_of m unit ≡ Wait
neither m unit not_at_work not_next =
    let queue = (state m).queue in
    let retired = length (state m).commits in
    let k = position_of_unit (units_of m) retired unit in
    not_all (is_running (state m).outcome) (nat_lt (length m.history) most_events) (nat_lt unit (units_of m)) _ (λ running room is_unit.
    let small : unit < units_of m = ltb-true unit (units_of m) is_unit in
    let belongs : (retired + k) % units_of m ≡ unit = position_belongs (units_of m) retired unit small in
    let below : k < units_of m = position_below (units_of m) retired unit small in
    behind_free m k (elim (cases_lt k (length queue)) [
      | inl within ↦ absurd (not_at_work k within belongs)
      | inr beyond ↦ elim (cases_eq k (length queue)) [
        | inl same ↦ absurd (not_next (omega arith) (subst (λ (x : ℕ). (retired + x) % units_of m ≡ unit) same belongs))
        | inr other ↦ omega arith
      ]
    ]))

-- a unit that is not the head's is ahead of it
pub ahead_of_head : (m : MachineView) (unit k : ℕ) → (unit_for m (Exec 0) ≡ unit → ⊥) → unit_for m (Exec k) ≡ unit → 0 < k
ahead_of_head m unit zero not_head at = absurd (not_head at)
ahead_of_head m unit (suc k) not_head at = omega arith
