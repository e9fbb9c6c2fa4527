use Rattle.threaded_runner.proofs.Imports.{◌≡◌, true, rules}
use Rattle.threaded_runner.proofs.Filling.{filled}
use Rattle.threaded_runner.proofs.away.make_away.Goals as goal

pub unreachable-requires : goal.unreachable-requires
unreachable-requires g c =
    let is : c.lend-away.result.1 ≡ true = search rules in
    filled _ c.lend-away.new.slot (c.lend-away.ensures.lent is) c.in_default.is
