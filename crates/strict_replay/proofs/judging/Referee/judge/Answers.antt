-- By what was made of the line; and by how the run has come at the end.
use Rattle.std.proofs.Common.{◌≡◌, ℕ, ◌+◌, length, arith, ap, ◌∙◌}
use Rattle.std.proofs.lemmas.Bool.Decides.{nat_tests}
use Rattle.std.specs.Option.{option_map}
use Rattle.event_script.specs.EventScript.{lines}
use Rattle.sequencer.specs.Machines.{MachineView, state}
use Rattle.strict_replay.specs.StrictScript.{content}
use Rattle.strict_replay.specs.StrictReplay.{departed, end_departs}
use Rattle.strict_replay.proofs.Passing.{departs_at, ends_at, passes_on, taken_err, taken_ok}
use Rattle.strict_replay.proofs.judging.Referee.judge.Goals as goal

pub returns-in-Err : goal.returns-in-Err
returns-in-Err c =
    let m = c.loop-rest.walk in
    let complete = c.args.self.now.is_complete in
    let names = c.args.self.now.names.now in
    let line = c.next_line.result.0.now in
    let number = c.loop-rest.number + 1 in
    departs_at complete m names number (lines c.loop-rest.rest.now) (lines c.next_line.result.1.now) line _ c.in-Err.why c.next_line.ensures.lines
    (taken_err (λ (it : MachineView × ℕ). it.0) _ complete names m (content line) c.in_ok-next.field-0 _ c.in-Err.is c.in_ok-next.ensures) c.loop-rest.invariant.verdict

pub loop-rest-preserved : goal.loop-rest-preserved
loop-rest-preserved c =
    let m = c.loop-rest.walk in
    let complete = c.args.self.now.is_complete in
    let names = c.args.self.now.names.now in
    let line = c.next_line.result.0.now in
    let number = c.loop-rest.number + 1 in
    record {
      verdict =
          passes_on complete m c.in-Ok.next names number (lines c.loop-rest.rest.now) (lines c.next_line.result.1.now) line _ c.next_line.ensures.lines
          (taken_ok (λ (it : MachineView × ℕ). it.0) _ complete names m (content line) c.in_ok-next.field-0 _ c.in-Ok.is c.in_ok-next.ensures) c.loop-rest.invariant.verdict;
      counted = omega (arith, c.next_line.ensures.shorter, c.loop-rest.invariant.counted);
    }

pub returns : goal.returns
returns c =
    let empty : length c.loop-rest.rest.now ≡ 0 = grind (arith, nat_tests) in
    c.at_end.ensures
    ∙ ap (λ (it : MachineView). option_map (departed (c.loop-rest.number + 1)) (end_departs c.args.self.now.is_complete (state it).outcome)) c.into_machine.ensures
    ∙ ends_at c.args.self.now.is_complete c.loop-rest.walk c.args.self.now.names.now (c.loop-rest.number + 1) c.loop-rest.rest.now _ empty c.loop-rest.invariant.verdict
