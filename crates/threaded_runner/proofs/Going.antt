-- Turns one after another.
use Rattle.threaded_runner.proofs.Imports.{◌≡◌, ℕ, zero, suc, ◌+◌, ◌%◌, ◌<◌, ◌≤◌, List, [], ◌∷◌, ◌++◌, length, true, Some, inl, inr, refl, sym, ap, ◌∙◌, subst, arith, length-append, State, most_events, Event, Exec, MachineView, state, units_of, Applies, SameRing, unit_for, choice_of, turn_of, Turn, Choose, Share, IsServed, DeskView, IsNamed, Acts, GoesBy, TakesTurns, RunsHead}
use Rattle.threaded_runner.proofs.Turning.{exec_is_named}

-- events one after another

pub goes_on : (s : Share) (a b c : MachineView) (es fs : List Event) → GoesBy s a es b → GoesBy s b fs c → GoesBy s a (es ++ fs) c
goes_on s a b c [] fs h g = subst (λ (x : MachineView). GoesBy s x fs c) h g
goes_on s a b c (e ∷ es) fs h g = (h.0, h.1, goes_on s h.0 b c es fs h.2 g)

pub goes_by_one : (s : Share) (a b : MachineView) (e : Event) → Acts s a e b → GoesBy s a (e ∷ []) b
goes_by_one s a b e act = (b, act, refl)

-- turns one after another

pub one_turn : (s : Share) (unit : ℕ) (a b : DeskView) (e : Event) → IsServed s unit → IsNamed a.machine unit (turn_of a.machine unit) e → Applies a.machine e b.machine → SameRing a.machine b.machine → TakesTurns s 1 a b
one_turn s unit a b e served named applies same =
    (e ∷ [], goes_by_one s a.machine b.machine e (record { unit = unit; is_served = served; is_named = named; applies = applies; same_ring = same }), inl (omega arith))

pub fewer_turns : (s : Share) (n k : ℕ) (a b : DeskView) → k ≤ n → TakesTurns s n a b → TakesTurns s k a b
fewer_turns s n k a b few h = (h.0, h.1, elim h.2 [ inl enough ↦ inl (omega arith) | inr stop ↦ inr stop ])

pub more_turns : (s : Share) (n k : ℕ) (a b c : DeskView) → (b.is_stopped ≡ true → ⊥) → TakesTurns s n a b → TakesTurns s k b c → TakesTurns s (n + k) a c
more_turns s n k a b c goes h g =
    let long = length-append h.0 g.0 in (
      h.0 ++ g.0,
      goes_on s a.machine b.machine c.machine h.0 g.0 h.1 g.1,
      elim h.2 [
        | inr stop ↦ absurd (goes stop)
        | inl enough ↦ elim g.2 [ inr stop ↦ inr stop | inl more ↦ inl (omega arith) ]
      ],
    )

-- of turns of which it does not matter how many there were
pub some_turns : (s : Share) (a b c : DeskView) → TakesTurns s 0 a b → TakesTurns s 0 b c → TakesTurns s 0 a c
some_turns s a b c h g = (h.0 ++ g.0, goes_on s a.machine b.machine c.machine h.0 g.0 h.1 g.1, inl (omega arith))

-- instructions of the head

one_longer : (a b : MachineView) (e : Event) → Applies a e b → length b.history ≡ length a.history + 1
one_longer a b e h = ap (λ (x : List Event). length x) h.history ∙ length-append a.history (e ∷ [])

same_head : (a b : MachineView) → Applies a (Exec 0) b → SameRing a b → unit_for b (Exec 0) ≡ unit_for a (Exec 0)
same_head a b h same =
    ap (λ (s : State). (length s.commits + 0) % units_of b) h.next.does.is ∙ ap (λ (n : ℕ). (length (state a).commits + 0) % n) same.units

pub head_stays : (a b : MachineView) (n : ℕ) → RunsHead a n b → (unit_for b (Exec 0) ≡ unit_for a (Exec 0)) × (units_of b ≡ units_of a)
head_stays a b zero h = (ap (λ (m : MachineView). unit_for m (Exec 0)) h, ap (λ (m : MachineView). units_of m) h)
head_stays a b (suc n) h =
    let before = head_stays a h.0 n h.1 in
    (same_head h.0 b h.2 h.3 ∙ before.0, h.3.units ∙ before.1)

-- events, one more at their end
pub goes_by_runs : (s : Share) (unit : ℕ) (a b : MachineView) (n : ℕ) → 0 < units_of a → IsServed s unit → unit_for a (Exec 0) ≡ unit → length b.history ≤ most_events → RunsHead a n b → (es : List Event) × GoesBy s a es b × (length es ≡ n)
goes_by_runs s unit a b zero some served belongs room h = ([], h, refl)
goes_by_runs s unit a b (suc n) some served belongs room h =
    let mid = h.0 in
    let more = one_longer mid b (Exec 0) h.2 in
    let short : length mid.history ≤ most_events = omega arith in
    let before = goes_by_runs s unit a mid n some served belongs short h.1 in
    let stays = head_stays a mid n h.1 in
    let named = exec_is_named mid (state b) unit (subst (λ (x : ℕ). 0 < x) (sym stays.1) some) (stays.0 ∙ belongs) (omega arith) h.2.next in
    let act : Acts s mid (Exec 0) b = record { unit = unit; is_served = served; is_named = named; applies = h.2; same_ring = h.3 } in
    let long = length-append before.0 (Exec 0 ∷ []) in
    (before.0 ++ Exec 0 ∷ [], goes_on s a mid b before.0 (Exec 0 ∷ []) before.1 (goes_by_one s mid b (Exec 0) act), omega (arith, long, before.2))

pub runs_are_turns : (s : Share) (unit : ℕ) (a b : DeskView) (n : ℕ) → 0 < units_of a.machine → IsServed s unit → unit_for a.machine (Exec 0) ≡ unit → length b.machine.history ≤ most_events → RunsHead a.machine n b.machine → TakesTurns s n a b
runs_are_turns s unit a b n some served belongs room h =
    let found = goes_by_runs s unit a.machine b.machine n some served belongs room h in
    (found.0, found.1, inl (omega (arith, found.2)))

-- the event of a turn, and an instruction in place of a burst

pub choice_named : (m : MachineView) (unit answer : ℕ) (e : Event) (t : Turn) → Choose ≡ t → choice_of m.accepted.program (state m) answer ≡ Some e → IsNamed m unit t e
choice_named m unit answer e t is chosen = subst (λ (x : Turn). IsNamed m unit x e) is (answer, chosen)
