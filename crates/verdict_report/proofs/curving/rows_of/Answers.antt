-- One row more is that of the run on one unit more, with the predictor as it was at first; then one line more is
-- written. Where memory runs out, what was written so far is a beginning of all.
use Rattle.std.proofs.Common.{arith, refl, sym, subst, ◌+◌, List, ℕ}
use Rattle.unit_turns.specs.declared.predictor.Predictor.{Predictor}
use Rattle.speed_curve.specs.declared.row.Row.{Row}
use Rattle.speed_curve.specs.Curve.{AreRows, IsRowOf}
use Rattle.speed_curve.proofs.Growing.{rows_more}
use Rattle.verdict_report.specs.CurveProgress.{IsSaidIf, run_line, run_lines}
use Rattle.verdict_report.specs.RunText.{predictor_of}
use Rattle.verdict_report.proofs.CurveLemmas.{begun_so_far, lines_of_one_more, said_more}
use Rattle.verdict_report.proofs.curving.rows_of.Goals as goal

pub loop-count-preserved : goal.loop-count-preserved
loop-count-preserved g c =
    let program = c.args.accepted.now.program in
    let budget = c.get-events.result in
    let first = predictor_of c.args.predict.now in
    let count = c.loop-count.count in
    let most = c.get-last.result in
    let name = c.args.name.now in
    let right = subst (λ (p : Predictor). IsRowOf program budget p (count + 1) c.in_ok-row.row) c.in_ok-predictor.ensures c.in_ok-row.ensures in
    let rows = rows_more program budget first count (count + 1) c.loop-count.rows.items c.in_ok-row.row refl c.loop-count.invariant.0 right in
    let said = said_more c.args.asked c.loop-count.is_told c.tell-is_told.result (g.E.Write.contents c.args.errors.now)
    (g.E.Write.contents c.loop-count.errors) (g.E.Write.contents c.tell-is_told.new.errors) (run_lines name most count)
    (run_line name (count + 1) most) c.loop-count.invariant.1 c.tell-is_told.ensures in (
      subst (λ (xs : List Row). AreRows program budget first (count + 1) xs) (sym c.in_ok-push.ensures.items) rows,
      subst (λ (text : List ℕ). IsSaidIf c.args.asked c.tell-is_told.result text (g.E.Write.contents c.args.errors.now) (g.E.Write.contents c.tell-is_told.new.errors))
          (sym (lines_of_one_more name most count)) said,
    )

pub returns-in_err-predictor-clause-begun : goal.returns-in_err-predictor-clause-begun
returns-in_err-predictor-clause-begun g c = begun_so_far c.args.asked c.loop-count.is_told _ _ c.args.name.now c.get-last.result c.args.most
    c.loop-count.count c.get-last.ensures.value (omega (arith, c.loop-count-test.true)) c.loop-count.invariant.1

pub returns-in_err-row-clause-begun : goal.returns-in_err-row-clause-begun
returns-in_err-row-clause-begun g c = begun_so_far c.args.asked c.loop-count.is_told _ _ c.args.name.now c.get-last.result c.args.most
    c.loop-count.count c.get-last.ensures.value (omega (arith, c.loop-count-test.true)) c.loop-count.invariant.1

pub returns-in_err-push-clause-begun : goal.returns-in_err-push-clause-begun
returns-in_err-push-clause-begun g c = begun_so_far c.args.asked c.loop-count.is_told _ _ c.args.name.now c.get-last.result c.args.most
    c.loop-count.count c.get-last.ensures.value (omega (arith, c.loop-count-test.true)) c.loop-count.invariant.1
