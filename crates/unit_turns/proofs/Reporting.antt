-- A run in steps from a machine at its start leaves what its report says.
use Rattle.unit_turns.proofs.Imports.{◌≡◌, ℕ, ◌≤◌, List, [], false, length, sym, ap, ◌∙◌, subst, ◌↔◌, ◌&&◌, nat_lt, ltb-false, Checked, opening, is_running, Event, Standing, Running, MachineView, SameRing, state, units_of, Predictor, StepsReport, Course, beginning, after_steps, Takes, course, IsStepsReportOf}
use Rattle.machine_model.specs.Replay.{Replays}
use Rattle.unit_turns.specs.declared.report.StepsEnd.TheVariants.{Ended, OutOfBudget}
use Rattle.unit_turns.proofs.Going.{goes, ran, steps_within, takes_from_start}

-- where no step follows and the machine runs, the budget is used up
used_up : (budget : ℕ) (c : Course) → goes budget c ≡ false → c.state.outcome ≡ Running → budget ≤ length c.events
used_up budget c over running =
    ltb-false (length c.events) budget (ap (λ (s : Standing). is_running s && nat_lt (length c.events) budget) (sym running) ∙ over)

pub reported : (m : MachineView) (checked : Checked) (units budget : ℕ) (from to : Predictor) (report : StepsReport)
    → m.accepted ≡ checked → units_of m ≡ units → state m ≡ opening checked.program → m.history ≡ []
    → SameRing m report.machine → course report.machine to ≡ after_steps m.accepted.program units budget report.steps (course m from)
    → Takes m.accepted.program units budget (course m from) report.steps
    → Replays report.machine.accepted.program (units_of report.machine) report.machine.history (state report.machine)
    → ((report.how ≡ Ended) ↔ ((state report.machine).outcome ≡ Running → ⊥))
    → (report.how ≡ OutOfBudget → (state report.machine).outcome ≡ Running)
    → IsStepsReportOf checked units budget from report
reported m checked units budget from to report over capacity at_start none kept is takes replay ended running =
    let p = checked.program in
    let last : Course = after_steps p units budget report.steps (beginning p from) in
    let same : course report.machine to ≡ last = ran m report.machine checked units budget report.steps from to over at_start none is in
    let taken : Takes p units budget (beginning p from) report.steps = takes_from_start m checked units budget report.steps from over at_start none takes in
    let events : report.machine.history ≡ last.events = ap (λ (x : Course). x.events) same in
    record {
      accepted = kept.accepted ∙ over;
      units = kept.units ∙ capacity;
      replay = replay;
      takes = taken;
      left = ap (λ (x : Course). x.state) same;
      events = events;
      ended = ended;
      spent = λ out. used_up budget (course report.machine to) (ap (goes budget) same ∙ taken.is_over) (running out);
      within = subst (λ (es : List Event). length es ≤ budget) (sym events) (steps_within p budget units report.steps from);
    }
