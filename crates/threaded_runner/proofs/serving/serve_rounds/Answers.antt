use Rattle.threaded_runner.proofs.Imports.{◌+◌, IsInPlace, IsMadeAway}
use Rattle.threaded_runner.proofs.RoundByRound.{one_more_round}
use Rattle.threaded_runner.proofs.serving.serve_rounds.Goals as goal

pub loop-preserved : goal.loop-preserved
loop-preserved g c =
    let before = c.loop.invariant.rounds in record {
      rounds = (
        before.0 + 1,
        one_more_round g.B.Bench.holds
            (IsMadeAway g.B.Bench.number g.B.Bench.lends g.B.Bench.lacks g.B.Bench.hands_in g.W.Watcher.is_before g.W.Watcher.is_after g.B.Bench.was_made)
            (IsInPlace g.B.Bench.number g.B.Bench.runs g.W.Watcher.is_before g.W.Watcher.is_after)
            before.0 c.args.bench.now c.loop.bench c.serve_round.new.bench c.args.watcher.now c.loop.watcher c.serve_round.new.watcher
            c.take-held.result c.loop.held c.in-Ok.found before.1 c.in-Ok.ensures.round,
      );
    }

pub returns-in-Err : goal.returns-in-Err
returns-in-Err g c =
    let before = c.loop.invariant.rounds in
    (c.take-held.result, before.0, c.loop.bench, c.loop.watcher, c.loop.held, before.1, c.in-Err.ensures.end)
