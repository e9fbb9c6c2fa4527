-- A machine on its way over the steps of a history.
use Rattle.std.proofs.Common.{◌≡◌, ℕ, suc, ◌+◌, ◌<◌, ◌≤◌, Bool, List, [], ◌++◌, length, take, drop, filter, Some, None, sym, ap, subst, ◌∙◌, arith, add-one, append_assoc, append-nil}
use Rattle.std.specs.List.{position}
use Rattle.std.proofs.lemmas.List.{drop_all, drop-drop, length-drop, length-take-le, take-append-drop}
use Rattle.std.proofs.lemmas.List.Elements.{filter-append}
use Rattle.std.proofs.lemmas.List.Quantifiers.{position-Some}
use Rattle.machine_model.specs.Machine.{State, opening}
use Rattle.machine_model.specs.Laws.{NextIsAfter}
use Rattle.machine_model.specs.Replay.{Replays, ReplaysFrom}
use Rattle.machine_model.specs.declared.event.Event.{Event}
use Rattle.machine_model.specs.declared.event.Event.TheVariants.{Retire}
use Rattle.mark_checker.specs.Places.{Checked}
use Rattle.sequencer.specs.Machines.{MachineView, SameRing, state, units_of}
use Rattle.unit_waits.specs.declared.waiting.Waiting.{Waiting}
use Rattle.unit_waits.specs.Waits.{after_all, ends_step, waits, waits_from, waits_in}
use Rattle.unit_waits.specs.Steps.{IsStepOf}
use Rattle.unit_waits.proofs.Applying.{HasApplied, all_applied, more_applied, next_allowed, none_applied, rest_left}
use Rattle.unit_waits.proofs.Walking.{none_found, step_found}

-- the machine did `start` events, and comes to the step of this number
pub record IsUnderway (a : Checked) (units : ℕ) (events : List Event) (start number : ℕ) (m : MachineView) : Type 0 where
  pub over : m.accepted ≡ a
  pub ring : units_of m ≡ units
  pub count : length m.history ≡ start
  pub within : start ≤ length events
  pub few : number ≤ start + 1
  pub first : MachineView
  pub opens : state first ≡ opening a.program
  pub applied : HasApplied first events start m
  pub replay : (s : State) × ReplaysFrom first.accepted.program (units_of first) (state first) events s

pub begins : (a : Checked) (units : ℕ) (events : List Event) (number : ℕ) (m : MachineView) → m.accepted ≡ a → units_of m ≡ units → m.history ≡ [] → state m ≡ opening a.program
    → number ≤ 1 → (s : State) × Replays a.program units events s → IsUnderway a units events 0 number m
begins a units events number m accepted ring none opens few replay =
    let from = subst (λ (s : State). ReplaysFrom a.program units s events replay.0) (sym opens) replay.1 in
    let over = subst (λ (c : Checked). ReplaysFrom c.program units (state m) events replay.0) (sym accepted) from in
    record {
      over = accepted;
      ring = ring;
      count = ap (λ (es : List Event). length es) none;
      within = omega arith;
      few = omega (arith, few);
      first = m;
      opens = opens;
      applied = none_applied m events;
      replay = (replay.0, subst (λ (k : ℕ). ReplaysFrom m.accepted.program k (state m) events replay.0) (sym ring) over);
    }

-- ---- the events of the next step

step_wide : (active : ℕ) (left events : List Event) (step : IsStepOf active left events) → length events ≡ step.last + 1
step_wide active left events step =
    let inside = position-Some (λ (e : Event). ends_step active e) left step.last Retire step.found in
    ap (λ (es : List Event). length es) step.are ∙ length-take-le (step.last + 1) left (omega (arith, inside.0))

step_parts : (active start : ℕ) (all left events : List Event) (step : IsStepOf active left events) → left ≡ drop start all → drop start all ≡ events ++ drop (step.last + 1) left
step_parts active start all left events step is =
    sym is ∙ sym (take-append-drop (step.last + 1) left) ∙ ap (λ (es : List Event). es ++ drop (step.last + 1) left) (sym step.are)

pub step_allowed : NextIsAfter → (a : Checked) (units active : ℕ) (all left events : List Event) (start number : ℕ) (m : MachineView)
    → IsUnderway a units all start number m → left ≡ drop start all → IsStepOf active left events
    → (s : State) × ReplaysFrom m.accepted.program (units_of m) (state m) events s
step_allowed law a units active all left events start number m on is step =
    next_allowed law on.first m all events (drop (step.last + 1) left) start on.applied (step_parts active start all left events step is) on.replay

pub rest_allowed : NextIsAfter → (a : Checked) (units : ℕ) (all left : List Event) (start number : ℕ) (m : MachineView)
    → IsUnderway a units all start number m → left ≡ drop start all
    → (s : State) × ReplaysFrom m.accepted.program (units_of m) (state m) left s
rest_allowed law a units all left start number m on is =
    next_allowed law on.first m all left [] start on.applied (rest_left all left start is) on.replay

pub step_on : (a : Checked) (units active : ℕ) (all left events : List Event) (start number : ℕ) (m m' : MachineView)
    → IsUnderway a units all start number m → left ≡ drop start all → IsStepOf active left events
    → 0 < length events → length events ≤ length left
    → state m' ≡ after_all m.accepted.program (state m) events → length m'.history ≡ length m.history + length events → SameRing m m'
    → IsUnderway a units all (start + length events) (number + 1) m'
step_on a units active all left events start number m m' on is step some within applied counted ring =
    let long : length left ≡ length (drop start all) = ap (λ (es : List Event). length es) is in
    let cut = length-drop start all in
    let before = on.within in
    let count = on.count in
    let few = on.few in
    record {
      over = ring.accepted ∙ on.over;
      ring = ring.units ∙ on.ring;
      count = omega (arith, counted, count);
      within = omega (arith, within, long, cut, before);
      few = omega (arith, some, few);
      first = on.first;
      opens = on.opens;
      applied = more_applied on.first m m' all events (drop (step.last + 1) left) start on.applied (step_parts active start all left events step is) applied counted ring;
      replay = on.replay;
    }

-- ---- who waited so far, and who waits in the steps that are left

found_by : (active : ℕ) (m : MachineView) (es : List Event) (last : ℕ) → active ≡ length (state m).queue → position (λ e. ends_step active e) es ≡ Some last → position (λ e. ends_step (length (state m).queue) e) es ≡ Some last
found_by active m es last same is = ap (λ (n : ℕ). position (λ e. ends_step n e) es) (sym same) ∙ is

-- the waits that are left: those of the next step, and those behind it
pub next_waits : (a : Checked) (units active : ℕ) (all left events : List Event) (start number : ℕ) (m m' : MachineView)
    → m.accepted ≡ a → left ≡ drop start all → active ≡ length (state m).queue → IsStepOf active left events
    → state m' ≡ after_all m.accepted.program (state m) events
    → waits_from a.program units number (state m) [] (drop start all)
    ≡ waits_in a.program units number (state m) events ++ waits_from a.program units (number + 1) (state m') [] (drop (start + length events) all)
next_waits a units active all left events start number m m' over is same step applied =
    let p = a.program in
    let s = state m in
    let wide : length events ≡ suc step.last = step_wide active left events step ∙ add-one step.last in
    let taken : take (suc step.last) left ≡ events = ap (λ (k : ℕ). take k left) (sym (add-one step.last)) ∙ sym step.are in
    let behind : drop (suc step.last) left ≡ drop (start + length events) all =
    ap (λ (k : ℕ). drop k left) (sym wide) ∙ ap (λ (es : List Event). drop (length events) es) is ∙ drop-drop (length events) start all in
    let now : state m' ≡ after_all p s events = applied ∙ ap (λ (c : Checked). after_all c.program s events) over in
    ap (λ (es : List Event). waits_from p units number s [] es) (sym is)
    ∙ step_found p units number s Retire step.last left (found_by active m left step.last same step.found)
    ∙ (λ j. waits_in p units number s (taken j) ++ waits_from p units (sym (add-one number) j) (after_all p s (taken j)) [] (behind j))
    ∙ (λ j. waits_in p units number s events ++ waits_from p units (number + 1) (sym now j) [] (drop (start + length events) all))

pub waits_more : (a : Checked) (units active : ℕ) (all left events : List Event) (start number : ℕ) (m m' : MachineView) (waited more whole : List Waiting)
    → m.accepted ≡ a → left ≡ drop start all → active ≡ length (state m).queue → IsStepOf active left events
    → more ≡ waits_in a.program units number (state m) events → state m' ≡ after_all m.accepted.program (state m) events
    → waited ++ waits_from a.program units number (state m) [] (drop start all) ≡ whole
    → (waited ++ more) ++ waits_from a.program units (number + 1) (state m') [] (drop (start + length events) all) ≡ whole
waits_more a units active all left events start number m m' waited more whole over is same step are applied before =
    let rest : List Waiting = waits_from a.program units (number + 1) (state m') [] (drop (start + length events) all) in
    append_assoc waited more rest
    ∙ ap (λ (ws : List Waiting). waited ++ (ws ++ rest)) are
    ∙ ap (λ (ws : List Waiting). waited ++ ws) (sym (next_waits a units active all left events start number m m' over is same step applied)) ∙ before

-- the same where only those count that pass a test
pub passed_more : (test : Waiting → Bool) (a : Checked) (units active : ℕ) (all left events : List Event) (start number : ℕ) (m m' : MachineView) (waited more whole : List Waiting)
    → m.accepted ≡ a → left ≡ drop start all → active ≡ length (state m).queue → IsStepOf active left events
    → more ≡ filter test (waits_in a.program units number (state m) events) → state m' ≡ after_all m.accepted.program (state m) events
    → waited ++ filter test (waits_from a.program units number (state m) [] (drop start all)) ≡ whole
    → (waited ++ more) ++ filter test (waits_from a.program units (number + 1) (state m') [] (drop (start + length events) all)) ≡ whole
passed_more test a units active all left events start number m m' waited more whole over is same step are applied before =
    let here : List Waiting = waits_in a.program units number (state m) events in
    let rest : List Waiting = waits_from a.program units (number + 1) (state m') [] (drop (start + length events) all) in
    append_assoc waited more (filter test rest)
    ∙ ap (λ (ws : List Waiting). waited ++ (ws ++ filter test rest)) are
    ∙ ap (λ (ws : List Waiting). waited ++ ws)
    (sym (ap (filter test) (next_waits a units active all left events start number m m' over is same step applied) ∙ filter-append test here rest)) ∙ before

none_waits : (waited left whole : List Waiting) → left ≡ [] → waited ++ left ≡ whole → waited ≡ whole
none_waits waited left whole none before = sym (append-nil waited) ∙ ap (λ (ws : List Waiting). waited ++ ws) (sym none) ∙ before

-- no step is left
pub none_left : (a : Checked) (units active : ℕ) (all left : List Event) (start number : ℕ) (m : MachineView)
    → left ≡ drop start all → active ≡ length (state m).queue → position (λ e. ends_step active e) left ≡ None
    → waits_from a.program units number (state m) [] (drop start all) ≡ []
none_left a units active all left start number m is same none =
    let found : position (λ e. ends_step (length (state m).queue) e) (drop start all) ≡ None =
    (λ j. position (λ e. ends_step (sym same j) e) (sym is j)) ∙ none in
    none_found a.program units number (state m) Retire (drop start all) found

pub waits_done : (a : Checked) (units active : ℕ) (all left : List Event) (start number : ℕ) (m : MachineView) (waited whole : List Waiting)
    → left ≡ drop start all → active ≡ length (state m).queue → position (λ e. ends_step active e) left ≡ None
    → waited ++ waits_from a.program units number (state m) [] (drop start all) ≡ whole → waited ≡ whole
waits_done a units active all left start number m waited whole is same none before =
    none_waits waited (waits_from a.program units number (state m) [] (drop start all)) whole (none_left a units active all left start number m is same none) before

pub passed_done : (test : Waiting → Bool) (a : Checked) (units active : ℕ) (all left : List Event) (start number : ℕ) (m : MachineView) (waited whole : List Waiting)
    → left ≡ drop start all → active ≡ length (state m).queue → position (λ e. ends_step active e) left ≡ None
    → waited ++ filter test (waits_from a.program units number (state m) [] (drop start all)) ≡ whole → waited ≡ whole
passed_done test a units active all left start number m waited whole is same none before =
    none_waits waited (filter test (waits_from a.program units number (state m) [] (drop start all))) whole
    (ap (filter test) (none_left a units active all left start number m is same none)) before

-- no event is left
past_end : (a : Checked) (units : ℕ) (all : List Event) (start number : ℕ) (m : MachineView)
    → length all ≤ start → waits_from a.program units number (state m) [] (drop start all) ≡ []
past_end a units all start number m past = ap (λ (es : List Event). waits_from a.program units number (state m) [] es) (drop_all start all past)

pub waits_all : (a : Checked) (units : ℕ) (all : List Event) (start number : ℕ) (m : MachineView) (waited whole : List Waiting)
    → length all ≤ start → waited ++ waits_from a.program units number (state m) [] (drop start all) ≡ whole → waited ≡ whole
waits_all a units all start number m waited whole past before =
    none_waits waited (waits_from a.program units number (state m) [] (drop start all)) whole (past_end a units all start number m past) before

pub passed_all : (test : Waiting → Bool) (a : Checked) (units : ℕ) (all : List Event) (start number : ℕ) (m : MachineView) (waited whole : List Waiting)
    → length all ≤ start → waited ++ filter test (waits_from a.program units number (state m) [] (drop start all)) ≡ whole → waited ≡ whole
passed_all test a units all start number m waited whole past before =
    none_waits waited (filter test (waits_from a.program units number (state m) [] (drop start all))) whole
    (ap (filter test) (past_end a units all start number m past)) before

-- ---- where the machine stands at the end

pub ends_at : (a : Checked) (units : ℕ) (all : List Event) (start number : ℕ) (m : MachineView)
    → IsUnderway a units all start number m → length all ≤ start → state m ≡ after_all a.program (opening a.program) all
ends_at a units all start number m on past =
    all_applied on.first m all start past on.applied
    ∙ ap (λ (c : Checked). after_all c.program (state on.first) all) (sym on.applied.kept.accepted ∙ on.over)
    ∙ ap (λ (s : State). after_all a.program s all) on.opens

pub ends_with_rest : (a : Checked) (units : ℕ) (all left : List Event) (start number : ℕ) (m m' : MachineView)
    → IsUnderway a units all start number m → left ≡ drop start all
    → state m' ≡ after_all m.accepted.program (state m) left → length m'.history ≡ length m.history + length left → SameRing m m'
    → state m' ≡ after_all a.program (opening a.program) all
ends_with_rest a units all left start number m m' on is applied counted ring =
    let has = more_applied on.first m m' all left [] start on.applied (rest_left all left start is) applied counted ring in
    let long : length left ≡ length (drop start all) = ap (λ (es : List Event). length es) is in
    let cut = length-drop start all in
    let before = on.within in
    all_applied on.first m' all (start + length left) (omega (arith, long, cut, before)) has
    ∙ ap (λ (c : Checked). after_all c.program (state on.first) all) (sym on.applied.kept.accepted ∙ on.over)
    ∙ ap (λ (s : State). after_all a.program s all) on.opens
