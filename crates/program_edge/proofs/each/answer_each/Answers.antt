-- One program more, the one that ended it, or the sum of all.
use Rattle.std.proofs.Common.{ℕ, List, None, refl, subst}
use Rattle.program_edge.specs.Several.{EndsAt}
use Rattle.program_edge.specs.Streams.{World}
use Rattle.program_edge.proofs.SeveralLemmas.{ends_at, sums_up, turn}
use Rattle.program_edge.proofs.each.answer_each.Goals as goal

pub loop-name-preserved : goal.loop-name-preserved
loop-name-preserved g c =
    let (parts, each, tallied, all, out, err) = c.loop-name.invariant in
    let (part, of, by, written) = c.in-Ok.ensures.one in
    turn c.args.is_terminal (g.F.NamedFiles.known c.args.files.now) c.args.job.now c.args.names.now c.loop-name.name-index
    c.name-item.result c.as_str.result.now c.loop-name.tally c.count-tally.result c.in-Ok.judged
    (g.O.Write.contents c.args.output.now) (g.O.Write.contents c.loop-name.output) (g.O.Write.contents c.answer_one.new.output)
    (g.E.Write.contents c.args.errors.now) (g.E.Write.contents c.loop-name.errors) (g.E.Write.contents c.answer_one.new.errors)
    parts part c.loop-name-test.true c.name-item.is c.as_str.ensures.value each tallied all out err of by
    ((written (λ _. None)).written) ((written (λ _. None)).said) c.count-tally.ensures

pub returns-in-Err : goal.returns-in-Err
returns-in-Err g c = λ known.
    let (parts, each, tallied, all, out, err) = c.loop-name.invariant in
    let old : World = record { output = g.O.Write.contents c.args.output.now; errors = g.E.Write.contents c.args.errors.now; files = known } in
    let between : World = record { output = g.O.Write.contents c.loop-name.output; errors = g.E.Write.contents c.loop-name.errors; files = known } in
    let new : World = record { output = g.O.Write.contents c.answer_one.new.output; errors = g.E.Write.contents c.answer_one.new.errors; files = known } in
    ends_at c.args.is_terminal (g.F.NamedFiles.known c.args.files.now) c.args.job.now c.args.names.now c.loop-name.name-index
    c.name-item.result parts c.in-Err.ending old between new c.loop-name-test.true c.name-item.is each
    (record { written = out; said = err; files = λ _. refl })
    (subst (λ (l : List ℕ). EndsAt c.args.is_terminal (g.F.NamedFiles.known c.args.files.now) c.args.job.now l c.in-Err.ending between new)
    c.as_str.ensures.value (c.in-Err.ensures.end known))

pub returns : goal.returns
returns g c = λ known.
    let (parts, each, tallied, all, out, err) = c.loop-name.invariant in
    let old : World = record { output = g.O.Write.contents c.args.output.now; errors = g.E.Write.contents c.args.errors.now; files = known } in
    let between : World = record { output = g.O.Write.contents c.loop-name.output; errors = g.E.Write.contents c.loop-name.errors; files = known } in
    let new : World = record { output = g.O.Write.contents c.sum_up.new.output; errors = g.E.Write.contents c.sum_up.new.errors; files = known } in
    sums_up c.args.is_terminal (g.F.NamedFiles.known c.args.files.now) c.args.job.now c.args.names.now c.loop-name.name-index
    parts c.loop-name.tally c.sum_up.result old between new c.loop-name-test.false each tallied
    (record { written = out; said = err; files = λ _. refl }) (c.sum_up.ensures known)
