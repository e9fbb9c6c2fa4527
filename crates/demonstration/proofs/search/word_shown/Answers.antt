-- A run after which the head has a wrong word shows something; else all events were looked at.
use Rattle.demonstration.proofs.Imports.{ap, subst, IfNone, IfOk, IfSome, Option, ◌≤◌, DrivenView, Event, IsRightAlone, WordsRight, each_tried, run_of, state_after}
use Rattle.std.proofs.Common.{◌≡◌, ℕ, List, [], length, take}
use Rattle.demonstration.proofs.Judging.{none_is}
use Rattle.demonstration.proofs.Searching.{alone_if, never_if}
use Rattle.demonstration.proofs.search.word_shown.Goals as goal

pub returns-in-Some-clause-none : goal.returns-in-Some-clause-none
returns-in-Some-clause-none c =
    let p = c.args.program.now in
    let held =
    subst (λ (o : Option DrivenView). IfSome o (λ few. (few.program ≡ p) × (few.units ≡ 1) × (WordsRight p (state_after p few.run) → ⊥))) c.in-Some.is c.in_ok-few.ensures.some in
    never_if p (run_of p 1 [] c.args.steps) c.in-Some.few.run c.shown_by.result c.shown_by.ensures.words held.2

pub returns-in-None-clause-none : goal.returns-in-None-clause-none
returns-in-None-clause-none c =
    let p = c.args.program.now in
    let d : DrivenView = c.in_ok-driven.driven in
    let each = none_is _ c.in_ok-few.field-0 c.in-None.is c.in_ok-few.ensures.none in
    let same : d.run ≡ run_of p 1 [] c.args.steps = ap (λ (x : DrivenView). x.run) c.in_ok-driven.ensures.run in
    subst (λ (run : List Event). IfOk c.shown_by-in-None.result (λ answer. IfNone answer (IsRightAlone p run))) same
    (alone_if p d.run c.shown_by-in-None.result c.shown_by-in-None.ensures.reads c.shown_by-in-None.ensures.words
    (subst (λ (es : List Event). (count : ℕ) → count ≤ length es → WordsRight p (state_after p (each_tried p 1 [] (take count es)))) c.events.ensures each))
