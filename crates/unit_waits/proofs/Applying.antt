-- Events applied one after the other, each allowed where it comes.
use Rattle.std.proofs.Common.{◌≡◌, ℕ, ◌+◌, ◌<◌, ◌≤◌, List, [], ◌∷◌, ◌++◌, length, take, drop, get_or, refl, sym, ap, subst, ◌∙◌, arith, add-one, append-nil, drop-cons}
use Rattle.std.proofs.Math.Seq.{take-add, take-append_seam}
use Rattle.std.proofs.lemmas.List.{take_all, take-append-drop}
use Rattle.std.proofs.lemmas.List.Sums.{fold-append}
use Rattle.task_descriptor.specs.Listing.{Listing}
use Rattle.machine_model.specs.Machine.{State}
use Rattle.machine_model.specs.Answer.{after}
use Rattle.machine_model.specs.Laws.{NextIsAfter}
use Rattle.machine_model.specs.Replay.{ReplaysFrom}
use Rattle.machine_model.specs.Step.{Next}
use Rattle.machine_model.specs.declared.event.Event.{Event}
use Rattle.mark_checker.specs.Places.{Checked}
use Rattle.sequencer.specs.Machines.{MachineView, SameRing, state, units_of}
use Rattle.unit_waits.specs.Waits.{after_all}

-- what a replay leaves
replay_leaves : NextIsAfter → (p : Listing) (units : ℕ) (s s' : State) (es : List Event) → ReplaysFrom p units s es s' → s' ≡ after_all p s es
replay_leaves law p units s s' [] h = h
replay_leaves law p units s s' (e ∷ es) h =
    replay_leaves law p units h.0 s' es h.2 ∙ ap (λ (x : State). after_all p x es) (law p units s h.0 e h.1)

-- a replay cut in two
cut_replay : (p : Listing) (units : ℕ) (s s' : State) (xs ys : List Event) → ReplaysFrom p units s (xs ++ ys) s' → (mid : State) × ReplaysFrom p units s xs mid × ReplaysFrom p units mid ys s'
cut_replay p units s s' [] ys h = (s, refl, h)
cut_replay p units s s' (x ∷ xs) ys h =
    let rest = cut_replay p units h.0 s' xs ys h.2 in
    (rest.0, (h.0, h.1, rest.1), rest.2)

-- from where an old machine stands, a machine has applied the first `done` of all events
pub record HasApplied (old : MachineView) (all : List Event) (done : ℕ) (m : MachineView) : Type 0 where
  pub kept : SameRing old m
  pub counted : length m.history ≡ length old.history + done
  pub lands : state m ≡ after_all old.accepted.program (state old) (take done all)

pub none_applied : (m : MachineView) (all : List Event) → HasApplied m all 0 m
none_applied m all = record {
  kept = record { accepted = refl; units = refl };
  counted = omega arith;
  lands = refl;
}

-- and then the next events
pub more_applied : (old m m' : MachineView) (all events rest : List Event) (done : ℕ) → HasApplied old all done m → drop done all ≡ events ++ rest
    → state m' ≡ after_all m.accepted.program (state m) events → length m'.history ≡ length m.history + length events → SameRing m m'
    → HasApplied old all (done + length events) m'
more_applied old m m' all events rest done has is applied count ring =
    let p = old.accepted.program in
    let counted = has.counted in
    let front : take (done + length events) all ≡ take done all ++ events =
    take-add done (length events) all
    ∙ ap (λ (es : List Event). take done all ++ take (length events) es) is
    ∙ ap (λ (es : List Event). take done all ++ es) (take-append_seam events rest) in
    record {
      kept = record { accepted = ring.accepted ∙ has.kept.accepted; units = ring.units ∙ has.kept.units };
      counted = omega (arith, count, counted);
      lands =
          applied
          ∙ ap (λ (c : Checked). after_all c.program (state m) events) has.kept.accepted
          ∙ ap (λ (s : State). after_all p s events) has.lands
          ∙ sym (fold-append (after p) (state old) (take done all) events)
          ∙ ap (λ (es : List Event). after_all p (state old) es) (sym front);
    }

-- where all are allowed, the next ones are
pub next_allowed : NextIsAfter → (old m : MachineView) (all events rest : List Event) (done : ℕ) → HasApplied old all done m → drop done all ≡ events ++ rest
    → (s : State) × ReplaysFrom old.accepted.program (units_of old) (state old) all s
    → (s : State) × ReplaysFrom m.accepted.program (units_of m) (state m) events s
next_allowed law old m all events rest done has is whole =
    let p = old.accepted.program in
    let units = units_of old in
    let parts : all ≡ take done all ++ (events ++ rest) =
    sym (take-append-drop done all) ∙ ap (λ (es : List Event). take done all ++ es) is in
    let front = cut_replay p units (state old) whole.0 (take done all) (events ++ rest) (subst (λ (es : List Event). ReplaysFrom p units (state old) es whole.0) parts whole.1) in
    let here : front.0 ≡ state m = replay_leaves law p units (state old) front.0 (take done all) front.1 ∙ sym has.lands in
    let behind = cut_replay p units front.0 whole.0 events rest front.2 in
    let from = subst (λ (s : State). ReplaysFrom p units s events behind.0) here behind.1 in
    let over = subst (λ (c : Checked). ReplaysFrom c.program units (state m) events behind.0) (sym has.kept.accepted) from in
    (behind.0, subst (λ (k : ℕ). ReplaysFrom m.accepted.program k (state m) events behind.0) (sym has.kept.units) over)

-- ---- one by one

next_of : (events : List Event) (i : ℕ) (e : Event) → i < length events → e ≡ get_or events i e → drop i events ≡ e ∷ drop (i + 1) events
next_of events i e within there =
    drop-cons events i e within
    ∙ ap (λ (k : ℕ). get_or events i e ∷ drop k events) (sym (add-one i))
    ∙ ap (λ (x : Event). x ∷ drop (i + 1) events) (sym there)

pub one_allowed : NextIsAfter → (old m : MachineView) (all : List Event) (i : ℕ) (e : Event) → i < length all → e ≡ get_or all i e → HasApplied old all i m
    → (s : State) × ReplaysFrom old.accepted.program (units_of old) (state old) all s
    → (s : State) × Next m.accepted.program (units_of m) (state m) e s
one_allowed law old m all i e within there has whole =
    let h = next_allowed law old m all (e ∷ []) (drop (i + 1) all) i has (next_of all i e within there) whole in
    (h.1.0, h.1.1)

-- ---- all of them

pub all_applied : (old m : MachineView) (all : List Event) (i : ℕ) → length all ≤ i → HasApplied old all i m → state m ≡ after_all old.accepted.program (state old) all
all_applied old m all i behind has =
    has.lands ∙ ap (λ (es : List Event). after_all old.accepted.program (state old) es) (take_all i all behind)

-- the rest at once
pub rest_left : (all left : List Event) (done : ℕ) → left ≡ drop done all → drop done all ≡ left ++ []
rest_left all left done is = sym is ∙ sym (append-nil left)
