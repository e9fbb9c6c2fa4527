-- The machine has tried one event more, and the plain machine has made as many steps.
use Rattle.demonstration.proofs.Imports.{sym, subst, ap, ◌∙◌, arith, machine_state, Listing, State, Event, state, DrivenView, each_tried, state_after, tried, WordsRight, seen}
use Rattle.std.proofs.Common.{◌≡◌, ◌+◌, ◌<◌, List, [], take, length}
use Rattle.demonstration.proofs.Driving.{tried_more}
use Rattle.demonstration.proofs.Searching.{executed_is, words_at_first, words_if, words_more, wrong_if}
use Rattle.demonstration.proofs.search.until_held.Goals as goal

pub loop-event-init : goal.loop-event-init
loop-event-init c = record {
  few = c.in_ok-few.ensures;
  plain = c.in_ok-plain.ensures;
  none = words_at_first c.args.program.now c.args.events.now;
}

pub returns-then-is_some-clause-some : goal.returns-then-is_some-clause-some
returns-then-is_some-clause-some c =
    let p = c.args.program.now in
    let d = c.try_event.new.self in
    let s = state c.machine-in-loop-event.result.now in
    let program : d.program ≡ p = ap (λ (x : DrivenView). x.program) c.in_ok-try_event.ensures.run ∙ ap (λ (x : DrivenView). x.program) c.loop-event.invariant.few in
    let units : d.units ≡ 1 = ap (λ (x : DrivenView). x.units) c.in_ok-try_event.ensures.run ∙ ap (λ (x : DrivenView). x.units) c.loop-event.invariant.few in
    let stands : s ≡ state_after p d.run = c.machine-in-loop-event.ensures.state ∙ ap (λ (q : Listing). state_after q d.run) program in
    let count : c.executed-count.result ≡ length (seen s) =
    c.executed-count.ensures ∙ executed_is (state c.machine.result.now) ∙ ap (λ (x : State). length (seen x)) (c.machine.ensures.state ∙ sym c.machine-in-loop-event.ensures.state) in
    let held : WordsRight p s → ⊥ =
    wrong_if p s (machine_state c.catch_up.new.plain) c.executed-count.result c.wrong_word.result (sym c.is_some.ensures ∙ c.if-is_some.true) count
    c.in_ok-catch_up.ensures.state c.wrong_word.ensures.register c.wrong_word.ensures.wrong in
    (program, units, λ words. held (subst (WordsRight p) (sym stands) words))

pub loop-event-preserved : goal.loop-event-preserved
loop-event-preserved c =
    let p = c.args.program.now in
    let events = c.args.events.now in
    let index = c.loop-event.event-index in
    let d = c.try_event.new.self in
    let s = state c.machine-in-loop-event.result.now in
    let program : d.program ≡ p = ap (λ (x : DrivenView). x.program) c.in_ok-try_event.ensures.run ∙ ap (λ (x : DrivenView). x.program) c.loop-event.invariant.few in
    let stands : s ≡ state_after p d.run = c.machine-in-loop-event.ensures.state ∙ ap (λ (q : Listing). state_after q d.run) program in
    let count : c.executed-count.result ≡ length (seen s) =
    c.executed-count.ensures ∙ executed_is (state c.machine.result.now) ∙ ap (λ (x : State). length (seen x)) (c.machine.ensures.state ∙ sym c.machine-in-loop-event.ensures.state) in
    let words : WordsRight p s =
    words_if p s (machine_state c.catch_up.new.plain) c.executed-count.result c.wrong_word.result (sym c.is_some.ensures ∙ c.if-is_some.false) count
    c.in_ok-catch_up.ensures.state c.wrong_word.ensures.none in
    let below : index < length events = omega arith in
    let few : d ≡ record { program = p; units = 1; run = each_tried p 1 [] (take (index + 1) events) } =
    c.in_ok-try_event.ensures.run
    ∙ ap (λ (x : DrivenView). record x { run = tried x.program x.units x.run c.event-item.result }) c.loop-event.invariant.few
    ∙ ap (λ (run : List Event). record { program = p; units = 1; run = run }) (sym (tried_more p 1 [] events index c.event-item.result below c.event-item.is)) in
    record {
      few = few;
      plain = c.in_ok-catch_up.ensures;
      none = words_more p events index c.loop-event.invariant.none (subst (WordsRight p) (stands ∙ ap (λ (x : DrivenView). state_after p x.run) few) words);
    }

pub returns-clause-none : goal.returns-clause-none
returns-clause-none c = λ count few. c.loop-event.invariant.none count (omega arith)
