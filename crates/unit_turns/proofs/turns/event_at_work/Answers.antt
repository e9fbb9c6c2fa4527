use Rattle.unit_turns.proofs.Imports.{length, Some, None, true≢false, refl, sym, ◌∙◌, arith, map, Exec, Squash, Transfer, Drain, state, units_of, registers, first_allowed}
use Rattle.unit_turns.proofs.Tries.{finds_exec, finds_register}
use Rattle.unit_turns.proofs.turns.event_at_work.Goals as goal

pub returns-then-enabled-clause-event : goal.returns-then-enabled-clause-event
returns-then-enabled-clause-event c =
    let m = c.args.machine.now in
    let law = c.law_first_allowed.ensures in
    let p = m.accepted.program in
    sym (law.takes p (units_of m) (state m) (Squash c.args.position) _
    (law.unrefused p (units_of m) (state m) (length m.history) (Squash c.args.position) (c.enabled.ensures.0 c.if-enabled.true)))

pub returns-then-enabled-2-clause-event : goal.returns-then-enabled-2-clause-event
returns-then-enabled-2-clause-event c =
    let m = c.args.machine.now in
    let law = c.law_first_allowed.ensures in
    let p = m.accepted.program in
    sym (finds_exec p (units_of m) (state m) c.args.position law.takes law.skips
    (λ none. true≢false (sym (c.enabled.ensures.1 (c.law_answers.ensures.unrefused (Squash c.args.position) c.requires.running none c.requires.room)) ∙ c.if-enabled.false))
    (law.unrefused p (units_of m) (state m) (length m.history) (Exec c.args.position) (c.enabled-2.ensures.0 c.if-enabled-2.true)))

pub returns-in-Some-clause-event : goal.returns-in-Some-clause-event
returns-in-Some-clause-event c =
    let m = c.args.machine.now in
    let law = c.law_first_allowed.ensures in
    let p = m.accepted.program in
    let k = c.args.position in
    sym (finds_register p (units_of m) (state m) k law.skips law.lists (Some (Transfer k c.in-Some.register)) (first_allowed p (units_of m) (state m) (map (Drain k) registers))
    (λ none. true≢false (sym (c.enabled.ensures.1 (c.law_answers.ensures.unrefused (Squash k) c.requires.running none c.requires.room)) ∙ c.if-enabled.false))
    (λ none. true≢false (sym (c.enabled-2.ensures.1 (c.law_answers.ensures.unrefused (Exec k) c.requires.running none c.requires.room)) ∙ c.if-enabled-2.false))
    (law.least p (units_of m) (state m) (Transfer k) (Some c.in-Some.register) c.in-Some.ensures (omega (arith, c.get.ensures.value, c.get.ensures.range)))
    refl)

pub returns-in-Some-register_to_send-clause-event : goal.returns-in-Some-register_to_send-clause-event
returns-in-Some-register_to_send-clause-event c =
    let m = c.args.machine.now in
    let law = c.law_first_allowed.ensures in
    let p = m.accepted.program in
    let k = c.args.position in
    sym (finds_register p (units_of m) (state m) k law.skips law.lists None (Some (Drain k c.in-Some-register_to_send.register))
    (λ none. true≢false (sym (c.enabled.ensures.1 (c.law_answers.ensures.unrefused (Squash k) c.requires.running none c.requires.room)) ∙ c.if-enabled.false))
    (λ none. true≢false (sym (c.enabled-2.ensures.1 (c.law_answers.ensures.unrefused (Exec k) c.requires.running none c.requires.room)) ∙ c.if-enabled-2.false))
    (law.least p (units_of m) (state m) (Transfer k) None c.in_default.ensures tt)
    (law.least p (units_of m) (state m) (Drain k) (Some c.in-Some-register_to_send.register) c.in-Some-register_to_send.ensures (omega (arith, c.get-in-Some-register_to_send.ensures.value, c.get-in-Some-register_to_send.ensures.range))))

pub returns-in-None-clause-event : goal.returns-in-None-clause-event
returns-in-None-clause-event c =
    let m = c.args.machine.now in
    let law = c.law_first_allowed.ensures in
    let p = m.accepted.program in
    let k = c.args.position in
    sym (finds_register p (units_of m) (state m) k law.skips law.lists None None
    (λ none. true≢false (sym (c.enabled.ensures.1 (c.law_answers.ensures.unrefused (Squash k) c.requires.running none c.requires.room)) ∙ c.if-enabled.false))
    (λ none. true≢false (sym (c.enabled-2.ensures.1 (c.law_answers.ensures.unrefused (Exec k) c.requires.running none c.requires.room)) ∙ c.if-enabled-2.false))
    (law.least p (units_of m) (state m) (Transfer k) None c.in_default.ensures tt)
    (law.least p (units_of m) (state m) (Drain k) None c.in-None.ensures tt))
