-- The loops: the turns that are left lead to the step's end, and the steps so far to the run's.
use Rattle.unit_turns.proofs.Imports.{◌≡◌, ℕ, suc, ◌<◌, ◌≤◌, true, length, sym, ap, ◌∙◌, subst, Checked, Listing, MachineView, SameRing, units_of, Predictor, Course, turn, turns, step, after_steps, course}
use Rattle.unit_turns.proofs.Going.{goes, Grows, grows_on, by_turn}

pub same_ring : (old mid new : MachineView) → SameRing old mid → SameRing mid new → SameRing old new
same_ring old mid new one two = record { accepted = two.accepted ∙ one.accepted; units = two.units ∙ one.units }

-- a turn on a machine with the same program and number of units
abbrev pub TurnOf : (budget k : ℕ) (m : MachineView) → Course → Course → Type 0
TurnOf budget k m c d = d ≡ turn m.accepted.program (units_of m) budget k c

pub same_turn : (budget k : ℕ) (old mid : MachineView) (c d : Course) → SameRing old mid → TurnOf budget k mid c d → TurnOf budget k old c d
same_turn budget k old mid c d kept t =
    t
    ∙ ap (λ (n : ℕ). turn mid.accepted.program n budget k c) kept.units
    ∙ ap (λ (a : Checked). turn a.program (units_of old) budget k c) kept.accepted

-- a step: the turns of the first `left` positions are still to come
pub record Turning (budget units left : ℕ) (old : MachineView) (from : Predictor) (now : MachineView) (to : Predictor) : Type 0 where
  pub kept : SameRing old now
  pub some : 0 < left
  pub rest : turns old.accepted.program units budget left (course now to) ≡ step old.accepted.program units budget (course old from)
  pub grows : Grows budget (course old from) (course now to)

grown_by : (p : Listing) (units budget k : ℕ) (c d : Course) → d ≡ turn p units budget k c → Grows budget c d
grown_by p units budget k c d is = subst (Grows budget c) (sym is) (by_turn p budget units k c)

pub turned : (budget units k : ℕ) (old : MachineView) (from : Predictor) (mid : MachineView) (by : Predictor) (now : MachineView) (to : Predictor) → units ≡ units_of old → 0 < k → Turning budget units (suc k) old from mid by → SameRing mid now → TurnOf budget k mid (course mid by) (course now to) → Turning budget units k old from now to
turned budget units k old from mid by now to is some h kept t =
    let own = same_turn budget k old mid (course mid by) (course now to) h.kept t ∙ ap (λ (n : ℕ). turn old.accepted.program n budget k (course mid by)) (sym is) in
    record {
      kept = same_ring old mid now h.kept kept;
      some = some;
      rest = ap (turns old.accepted.program units budget k) own ∙ h.rest;
      grows = grows_on budget (course old from) (course mid by) (course now to) h.grows (grown_by old.accepted.program units budget k (course mid by) (course now to) own);
    }

-- a run: this many steps were taken
pub record Running (budget units steps : ℕ) (old : MachineView) (from : Predictor) (now : MachineView) (to : Predictor) : Type 0 where
  pub kept : SameRing old now
  pub few : steps ≤ length now.history
  pub is : course now to ≡ after_steps old.accepted.program units budget steps (course old from)
  pub went_on : (n : ℕ) → n < steps → goes budget (after_steps old.accepted.program units budget n (course old from)) ≡ true
