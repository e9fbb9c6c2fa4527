use Rattle.unit_turns.proofs.Imports.{length, Some, None, true≢false, sym, ◌∙◌, arith, refusal, Squash, Transfer, Drain, state, units_of}
use Rattle.unit_turns.proofs.EventOrder.{allowed_by, least_found, finds_transfer, finds_squash, finds_drain, finds_exec, finds_nothing, runs_ahead}
use Rattle.unit_turns.proofs.deciding.event_ahead.Goals as goal

pub returns-in-Some-clause-value : goal.returns-in-Some-clause-value
returns-in-Some-clause-value c =
    let m = c.args.machine.now in
    let p = m.accepted.program in
    let k = c.args.position in
    sym (finds_transfer p (units_of m) (state m) k c.in-Some.register
    (least_found (λ r. refusal p (units_of m) (state m) (Transfer k r)) (Some c.in-Some.register) c.in-Some.ensures (omega (arith, c.get.ensures.value, c.get.ensures.range))))

pub returns-then-enabled-clause-value : goal.returns-then-enabled-clause-value
returns-then-enabled-clause-value c =
    let m = c.args.machine.now in
    let p = m.accepted.program in
    let k = c.args.position in
    sym (finds_squash p (units_of m) (state m) k
    (least_found (λ r. refusal p (units_of m) (state m) (Transfer k r)) None c.in_default.ensures tt)
    (allowed_by p (units_of m) (state m) (length m.history) (Squash k) (c.enabled.ensures.0 c.if-enabled.true)))

pub returns-in-Some-register_to_send-clause-value : goal.returns-in-Some-register_to_send-clause-value
returns-in-Some-register_to_send-clause-value c =
    let m = c.args.machine.now in
    let p = m.accepted.program in
    let k = c.args.position in
    sym (finds_drain p (units_of m) (state m) k c.in-Some-register_to_send.register
    (least_found (λ r. refusal p (units_of m) (state m) (Transfer k r)) None c.in_default.ensures tt)
    (λ none. true≢false (sym (c.enabled.ensures.1 (c.law_own_event.ensures.unrefused (Squash k) c.args.unit c.requires.running none c.requires.room c.requires.at).is_allowed) ∙ c.if-enabled.false))
    (least_found (λ r. refusal p (units_of m) (state m) (Drain k r)) (Some c.in-Some-register_to_send.register) c.in-Some-register_to_send.ensures (omega (arith, c.get-in-Some-register_to_send.ensures.value, c.get-in-Some-register_to_send.ensures.range))))

pub returns-then-can_run_ahead-clause-value : goal.returns-then-can_run_ahead-clause-value
returns-then-can_run_ahead-clause-value c =
    let m = c.args.machine.now in
    let p = m.accepted.program in
    let k = c.args.position in
    sym (finds_exec p (units_of m) (state m) k
    (least_found (λ r. refusal p (units_of m) (state m) (Transfer k r)) None c.in_default.ensures tt)
    (λ none. true≢false (sym (c.enabled.ensures.1 (c.law_own_event.ensures.unrefused (Squash k) c.args.unit c.requires.running none c.requires.room c.requires.at).is_allowed) ∙ c.if-enabled.false))
    (least_found (λ r. refusal p (units_of m) (state m) (Drain k r)) None c.in_default-register_to_send.ensures tt)
    (c.can_run_ahead.ensures.allowed c.if-can_run_ahead.true))

pub returns-clause-value : goal.returns-clause-value
returns-clause-value c =
    let m = c.args.machine.now in
    let p = m.accepted.program in
    let k = c.args.position in
    sym (finds_nothing p (units_of m) (state m) k
    (least_found (λ r. refusal p (units_of m) (state m) (Transfer k r)) None c.in_default.ensures tt)
    (λ none. true≢false (sym (c.enabled.ensures.1 (c.law_own_event.ensures.unrefused (Squash k) c.args.unit c.requires.running none c.requires.room c.requires.at).is_allowed) ∙ c.if-enabled.false))
    (least_found (λ r. refusal p (units_of m) (state m) (Drain k r)) None c.in_default-register_to_send.ensures tt)
    (λ none. true≢false (sym (c.can_run_ahead.ensures.alone.1 (runs_ahead p (units_of m) (state m) k c.requires.ahead none)) ∙ c.if-can_run_ahead.false)))
