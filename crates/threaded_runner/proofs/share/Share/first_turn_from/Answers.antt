use Rattle.threaded_runner.proofs.Imports.{IfSome_then}
use Rattle.threaded_runner.proofs.Sharing.{first_high, first_low, all_between, none_then}
use Rattle.threaded_runner.proofs.share.Share.first_turn_from.Goals as goal

pub returns-in-Some-clause-first : goal.returns-in-Some-clause-first
returns-in-Some-clause-first c =
    let found = c.in-Some.ensures.first in
    (first_high c.args.machine.now c.args.self c.args.head _ c.requires.share c.requires.head found.0, found.1)

pub returns-in-None-clause-first : goal.returns-in-None-clause-first
returns-in-None-clause-first c =
    IfSome_then c.first_between-in-None.result c.first_between-in-None.ensures.first (λ found h.
    (first_low c.args.machine.now c.args.self c.args.head found.0 c.requires.share c.requires.head c.in-None.ensures.none h.0, h.1))

pub returns-in-None-clause-none : goal.returns-in-None-clause-none
returns-in-None-clause-none c =
    none_then c.first_between-in-None.result c.first_between-in-None.ensures.none (all_between c.args.machine.now c.args.self c.args.head c.in-None.ensures.none)
