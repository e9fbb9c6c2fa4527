-- A run by head events grows at its end: each event by its record, the run by induction on its events.
use Rattle.std.proofs.Common.{◌≡◌, ℕ, zero, suc, ◌+◌, ◌-◌, ◌<◌, ◌≤◌, List, [], ◌∷◌, ◌++◌, length, Some, refl, sym, ap, ◌∙◌, subst, arith, length-append, append_assoc, append-nil}
use Rattle.task_descriptor.specs.Listing.{Listing}
use Rattle.mark_checker.specs.Places.{Checked}
use Rattle.machine_model.specs.Machine.{State}
use Rattle.machine_model.specs.Step.{Next}
use Rattle.machine_model.specs.Answer.{most_events}
use Rattle.machine_model.specs.Claims.{count_h}
use Rattle.machine_model.specs.HeadEvent.{head_event, growth}
use Rattle.machine_model.specs.declared.event.Event.{Event}
use Rattle.machine_model.specs.declared.event.Refused.{Refused}
use Rattle.machine_model.specs.declared.event.Event.TheVariants.{Assign, Exec, Transfer, Drain, Squash, Retire, Fault, Drop}
use Rattle.sequencer.specs.Finish.{RunsByHead, IsHeadRefused}
use Rattle.sequencer.specs.Machines.{MachineView, Applies, SameRing, state, units_of}

-- one more head event

pub runs_more : (p : Listing) (units goal : ℕ) (es : List Event) (s mid s' : State) (e : Event) → RunsByHead p units goal s es mid → count_h mid < goal → head_event p mid ≡ Some e → Next p units mid e s' → RunsByHead p units goal s (es ++ e ∷ []) s'
runs_more p units goal [] s mid s' e h below is next =
    subst (λ (x : State). RunsByHead p units goal x (e ∷ []) s') h (s', below, is, next, refl)
runs_more p units goal (x ∷ es) s mid s' e h below is next =
    (h.0, h.1, h.2, h.3, runs_more p units goal es h.0 mid s' e h.4 below is next)

-- h grows beyond a goal by a Retire alone

abbrev pub EndsInRetire : List Event → Type 0
EndsInRetire history = (before : List Event) × (history ≡ before ++ Retire ∷ [])

retired_last : (s : State) (e : Event) (h h' goal : ℕ) (before history : List Event) → history ≡ before ++ e ∷ [] → h' ≡ h + growth s e → h < goal → goal < h' → EndsInRetire history
retired_last s (Assign t) h h' goal before history is grown below beyond = absurd (omega arith)
retired_last s (Exec zero) h h' goal before history is grown below beyond = absurd (omega arith)
retired_last s (Exec (suc k)) h h' goal before history is grown below beyond = absurd (omega arith)
retired_last s (Transfer k r) h h' goal before history is grown below beyond = absurd (omega arith)
retired_last s (Drain k r) h h' goal before history is grown below beyond = absurd (omega arith)
retired_last s (Squash k) h h' goal before history is grown below beyond = absurd (omega arith)
retired_last s Retire h h' goal before history is grown below beyond = (before, is)
retired_last s Fault h h' goal before history is grown below beyond = absurd (omega arith)
retired_last s (Drop k) h h' goal before history is grown below beyond = absurd (omega arith)

-- a machine on its way from an older one by head events, until h has grown by k

abbrev pub HasRun : (old now : MachineView) (k : ℕ) → Type 0
HasRun old now k =
    (es : List Event) × (now.history ≡ old.history ++ es)
    × RunsByHead old.accepted.program (units_of old) (count_h (state old) + k) (state old) es (state now)

pub record OnTheWay (old now : MachineView) (k : ℕ) : Type 0 where
  pub kept : SameRing old now
  pub grown : count_h (state old) ≤ count_h (state now)
  pub runs : HasRun old now k
  pub beyond : count_h (state old) + k < count_h (state now) → EndsInRetire now.history

abbrev pub HeadApplied : (mid new : MachineView) → Type 0
HeadApplied mid new =
    (e : Event) × (head_event mid.accepted.program (state mid) ≡ Some e) × Applies mid e new
    × (count_h (state new) ≡ count_h (state mid) + growth (state mid) e)

pub begins_here : (m : MachineView) (k : ℕ) → OnTheWay m m k
begins_here m k = record {
  kept = record { accepted = refl; units = refl };
  grown = omega arith;
  runs = ([], sym (append-nil m.history), refl);
  beyond = λ more. absurd (omega arith);
}

pub stays : (old mid new : MachineView) (k : ℕ) → OnTheWay old mid k → new ≡ mid → OnTheWay old new k
stays old mid new k h same = subst (λ (m : MachineView). OnTheWay old m k) (sym same) h

pub goes_on : (old mid new : MachineView) (k : ℕ) → OnTheWay old mid k → count_h (state mid) < count_h (state old) + k → SameRing mid new → HeadApplied mid new → OnTheWay old new k
goes_on old mid new k h below same head =
    let e : Event = head.0 in
    let is : head_event old.accepted.program (state mid) ≡ Some e =
    subst (λ (a : Checked). head_event a.program (state mid) ≡ Some e) h.kept.accepted head.1 in
    let on_ring : Next mid.accepted.program (units_of old) (state mid) e (state new) =
    subst (λ (n : ℕ). Next mid.accepted.program n (state mid) e (state new)) h.kept.units head.2.next in
    let next : Next old.accepted.program (units_of old) (state mid) e (state new) =
    subst (λ (a : Checked). Next a.program (units_of old) (state mid) e (state new)) h.kept.accepted on_ring in
    let before : count_h (state old) ≤ count_h (state mid) = h.grown in
    let after : count_h (state new) ≡ count_h (state mid) + growth (state mid) e = head.3 in
    record {
      kept = record { accepted = same.accepted ∙ h.kept.accepted; units = same.units ∙ h.kept.units };
      grown = omega arith;
      runs = (
        h.runs.0 ++ e ∷ [],
        head.2.history ∙ ap (λ (es : List Event). es ++ e ∷ []) h.runs.1 ∙ append_assoc old.history h.runs.0 (e ∷ []),
        runs_more old.accepted.program (units_of old) (count_h (state old) + k) h.runs.0 (state old) (state mid) (state new) e h.runs.2 below is next,
      );
      beyond = λ more. retired_last (state mid) e (count_h (state mid)) (count_h (state new)) (count_h (state old) + k) mid.history new.history head.2.history after below more;
    }

-- each event takes its part of the history's room

pub takes_room : (mid new : MachineView) → HeadApplied mid new → length new.history ≤ most_events → most_events - length new.history < most_events - length mid.history
takes_room mid new head room =
    let longer : length new.history ≡ length mid.history + 1 = ap length head.2.history ∙ length-append mid.history (head.0 ∷ []) in
    omega arith

-- what refuses the head event refuses it in the state that the refusal leaves, too
pub stops : (mid new : MachineView) (why : Refused) (goal : ℕ) → count_h (state mid) < goal → IsHeadRefused mid why → new ≡ mid → (count_h (state new) < goal) × IsHeadRefused new why
stops mid new why goal below refuses same =
    subst (λ (m : MachineView). (count_h (state m) < goal) × IsHeadRefused m why) (sym same) (below, refuses)
