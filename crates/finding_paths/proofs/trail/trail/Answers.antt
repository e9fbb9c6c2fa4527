use Rattle.std.proofs.Common.{get_or, arith}
use Rattle.std.proofs.lemmas.Option.{slice_get-get_or}
use Rattle.finding_paths.specs.declared.visits.Visit.{Visit}
use Rattle.finding_paths.proofs.Trails.{way_begins, way_goes_on, way_ends, way_is_long, earlier_number}
use Rattle.finding_paths.proofs.trail.trail.Goals as goal

pub loop-number-init : goal.loop-number-init
loop-number-init c = way_begins c.args.visits.now c.args.at c.new-path.result.items c.new-path.ensures.items c.requires.there

pub loop-number-smaller : goal.loop-number-smaller
loop-number-smaller c =
    let n = c.loop-number.number in
    let none : Visit = record { index = 0; from = 0 } in
    earlier_number c.args.visits.now n (get_or c.args.visits.now n none) c.loop-number-test.true c.requires.earlier
    (slice_get-get_or c.args.visits.now n none c.loop-number.invariant.there)

pub loop-number-preserved : goal.loop-number-preserved
loop-number-preserved c =
    let n = c.loop-number.number in
    let none : Visit = record { index = 0; from = 0 } in
    way_goes_on c.args.visits.now c.args.at n c.loop-number.path.items c.push.new.self.items (get_or c.args.visits.now n none)
    c.loop-number-test.true c.requires.earlier (slice_get-get_or c.args.visits.now n none c.loop-number.invariant.there)
    c.in_ok-push.ensures.items c.loop-number.invariant

pub returns-clause-path : goal.returns-clause-path
returns-clause-path c =
    let none : Visit = record { index = 0; from = 0 } in
    let inside = c.requires.there in
    way_ends c.args.visits.now c.args.at c.loop-number.number c.loop-number.path.items c.push-2.new.self.items c.reverse.new.self.items
    (get_or c.args.visits.now 0 none) (omega arith) (slice_get-get_or c.args.visits.now 0 none (omega arith))
    c.in_ok-push-2.ensures.items c.reverse.ensures.items c.loop-number.invariant

pub returns-clause-long : goal.returns-clause-long
returns-clause-long c =
    let none : Visit = record { index = 0; from = 0 } in
    way_is_long c.args.visits.now c.args.at c.loop-number.number c.loop-number.path.items c.push-2.new.self.items c.reverse.new.self.items
    (get_or c.args.visits.now 0 none) (omega arith) c.in_ok-push-2.ensures.items c.reverse.ensures.items c.loop-number.invariant
