-- The last run is as it was or longer, and another run is put after it.
use Rattle.std.proofs.Common.{◌≡◌, ◌+◌, ◌-◌, ◌<◌, List, ◌++◌, replicate, refl, sym, ap, ◌∙◌, subst, arith, set, Vec, Global}
use Rattle.std.specs.Vec.{vec_len, vec_capacity}
use Rattle.std.proofs.lemmas.List.{set-get_or}
use Rattle.std.proofs.lemmas.List.Elements.{All-push, All-set}
use Rattle.machine_model.specs.Runs.{events_of}
use Rattle.machine_model.specs.declared.event.Event.{Event}
use Rattle.machine_model.specs.declared.event.EventRun.{EventRun}
use Rattle.sequencer.specs.Histories.{AreCounted}
use Rattle.sequencer.proofs.EventRuns.{lengthened, joined, few_runs}
use Rattle.sequencer.proofs.history.append.Goals.{in-Some+else-is_same, in_default}
use Rattle.sequencer.proofs.history.append.Goals as goal

pub returns-then-is_same-clause-events : goal.returns-then-is_same-clause-events
returns-then-is_same-clause-events c =
    let runs = c.args.runs.now.items in
    let last : EventRun = c.in-Some.last.now in
    let same : last.event ≡ c.args.event = c.is_same.ensures.0 c.if-is_same.true in
    lengthened runs (vec_len c.args.runs.now - 1) c.args.count last (omega (arith, c.args.runs.now.ok.0, c.in-Some.ensures.variant.0 refl)) c.in-Some.ensures.value
    ∙ ap (λ (e : Event). events_of runs ++ replicate c.args.count e) same

-- where the last run is not of this event, the runs are as they were
kept : (c : goal.After-push_reserved) → c.match-last_mut.runs.items ≡ c.args.runs.now.items
kept c =
    let runs = c.args.runs.now.items in
    elim c.match-last_mut.branch [
      | in-Some+else-is_same w ↦ (
          ap (λ (v : Vec EventRun Global). v.items) w.runs-is
          ∙ (ap (λ (r : EventRun). set runs (vec_len c.args.runs.now - 1) r) w.in-Some.ensures.value ∙ set-get_or runs (vec_len c.args.runs.now - 1) w.in-Some.last.now)
          )
      | in_default w ↦ ap (λ (v : Vec EventRun Global). v.items) w.runs-is
    ]

pub returns-clause-events : goal.returns-clause-events
returns-clause-events c =
    ap (λ (rs : List EventRun). events_of rs) c.push_reserved.ensures.items
    ∙ (joined c.match-last_mut.runs.items (record { event = c.args.event; count = c.args.count })
    ∙ ap (λ (rs : List EventRun). events_of rs ++ replicate c.args.count c.args.event) (kept c))

pub returns-then-is_same-clause-counted : goal.returns-then-is_same-clause-counted
returns-then-is_same-clause-counted c =
    let last : EventRun = c.in-Some.last.now in
    All-set (λ (r : EventRun). 0 < r.count) c.args.runs.now.items (vec_len c.args.runs.now - 1) (record { event = last.event; count = last.count + c.args.count }) (omega (arith, c.requires.some)) c.requires.counted

pub returns-clause-counted : goal.returns-clause-counted
returns-clause-counted c =
    subst AreCounted (sym c.push_reserved.ensures.items)
    (All-push (λ (r : EventRun). 0 < r.count) c.match-last_mut.runs.items (record { event = c.args.event; count = c.args.count }) (subst AreCounted (sym (kept c)) c.requires.counted) c.requires.some)

pub push_reserved-requires : goal.push_reserved-requires
push_reserved-requires c =
    let few = few_runs c.args.runs.now.items c.requires.counted in
    let long = c.args.runs.now.ok.0 in
    let room : vec_len c.args.runs.now < vec_capacity c.args.runs.now = omega (arith, few, long, c.requires.some, c.requires.room, c.requires.capacity) in
    elim c.match-last_mut.branch [
      | in-Some+else-is_same w ↦ subst (λ (v : Vec EventRun Global). vec_len v < vec_capacity v) (sym w.runs-is) room
      | in_default w ↦ subst (λ (v : Vec EventRun Global). vec_len v < vec_capacity v) (sym w.runs-is) room
    ]
