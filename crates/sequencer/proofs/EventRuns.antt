-- The events of runs, with one run more, or with a longer last one; and events compared.
use Rattle.std.proofs.Common.{◌≡◌, ℕ, zero, suc, ◌+◌, ◌<◌, ◌≤◌, List, [], ◌∷◌, ◌++◌, length, replicate, take, set, get_or, sym, ap, ◌∙◌, arith, append_assoc, length-append}
use Rattle.std.proofs.lemmas.Grind.{flat_map-append}
use Rattle.std.proofs.lemmas.List.{length-replicate, append-nil, set_split, set-get_or, drop_all}
use Rattle.std.proofs.lemmas.List.Concat.{flat_map-cons}
use Rattle.std.proofs.lemmas.List.Elements.{All-head, All-tail}
use Rattle.machine_model.specs.Runs.{events_of}
use Rattle.machine_model.specs.declared.event.Event.{Event}
use Rattle.machine_model.specs.declared.event.Event.TheVariants as event
use Rattle.machine_model.specs.declared.event.EventRun.{EventRun}
use Rattle.sequencer.specs.Histories.{AreCounted}

abbrev events : EventRun → List Event
events run = replicate run.count run.event

-- one run more
pub joined : (runs : List EventRun) (run : EventRun) → events_of (runs ++ run ∷ []) ≡ events_of runs ++ replicate run.count run.event
joined runs run =
    flat_map-append events runs (run ∷ [])
    ∙ ap (λ (es : List Event). events_of runs ++ es) (flat_map-cons events run [] ∙ append-nil (replicate run.count run.event))

repeated : (m n : ℕ) (e : Event) → replicate (m + n) e ≡ replicate m e ++ replicate n e
repeated zero n e = ap (λ (k : ℕ). replicate k e) (let same : 0 + n ≡ n = omega arith in same)
repeated (suc m) n e =
    ap (λ (k : ℕ). replicate k e) (let same : suc m + n ≡ suc (m + n) = omega arith in same)
    ∙ ap (λ (es : List Event). e ∷ es) (repeated m n e)

-- a longer last run
pub grown : (runs : List EventRun) (e : Event) (m n : ℕ) → events_of (runs ++ record { event = e; count = m + n } ∷ []) ≡ events_of (runs ++ record { event = e; count = m } ∷ []) ++ replicate n e
grown runs e m n =
    joined runs (record { event = e; count = m + n })
    ∙ (ap (λ (es : List Event). events_of runs ++ es) (repeated m n e)
    ∙ (sym (append_assoc (events_of runs) (replicate m e) (replicate n e))
    ∙ ap (λ (es : List Event). es ++ replicate n e) (sym (joined runs (record { event = e; count = m })))))

-- what a list has with another last run
relaid : (runs : List EventRun) (i : ℕ) (run : EventRun) → i + 1 ≡ length runs → set runs i run ≡ take i runs ++ run ∷ []
relaid runs i run last =
    set_split runs i run (omega (arith, last))
    ∙ ap (λ (rest : List EventRun). take i runs ++ run ∷ rest) (drop_all (suc i) runs (omega (arith, last)))

-- the last run made longer where it stands
pub lengthened : (runs : List EventRun) (i n : ℕ) (run : EventRun) → i + 1 ≡ length runs → run ≡ get_or runs i run → events_of (set runs i (record { event = run.event; count = run.count + n })) ≡ events_of runs ++ replicate n run.event
lengthened runs i n run last is =
    let before : take i runs ++ run ∷ [] ≡ runs =
    sym (relaid runs i run last) ∙ (ap (λ (r : EventRun). set runs i r) is ∙ set-get_or runs i run) in
    ap (λ (rs : List EventRun). events_of rs) (relaid runs i (record { event = run.event; count = run.count + n }) last)
    ∙ (grown (take i runs) run.event run.count n
    ∙ ap (λ (rs : List EventRun). events_of rs ++ replicate n run.event) before)

-- there are no more runs than events, and none is longer than all of them
pub few_runs : (runs : List EventRun) → AreCounted runs → length runs ≤ length (events_of runs)
few_runs [] all = omega arith
few_runs (run ∷ runs) all =
    let some : 0 < run.count = All-head (λ (r : EventRun). 0 < r.count) run runs all in
    let rest : length runs ≤ length (events_of runs) = few_runs runs (All-tail (λ (r : EventRun). 0 < r.count) run runs all) in
    let long : length (events_of (run ∷ runs)) ≡ length (replicate run.count run.event) + length (events_of runs) =
    ap (λ (es : List Event). length es) (flat_map-cons events run runs) ∙ length-append (replicate run.count run.event) (events_of runs) in
    omega (arith, length-replicate run.count run.event)
