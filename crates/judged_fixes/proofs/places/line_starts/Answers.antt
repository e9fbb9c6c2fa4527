-- A line feed begins a line, and no other byte does.
use Rattle.std.proofs.Common.{length}
use Rattle.std.proofs.lemmas.List.{length_push}
use Rattle.judged_fixes.proofs.Starts.{begun_feed, counted_feed, counted_other}
use Rattle.judged_fixes.proofs.places.line_starts.Goals as goal
use Rattle.judged_fixes.proofs.places.line_starts.Goals.{then-byte-eq10+in_ok-push-2, else-byte-eq10}

pub loop-index-preserved : goal.loop-index-preserved
loop-index-preserved c =
    let text = c.args.text.now in
    let starts = c.loop-index.starts.items in
    let i = c.loop-index.index in
    elim c.if-byte-eq10.branch [
      | then-byte-eq10+in_ok-push-2 w ↦ record {
        counted = rw (w.starts-is, w.in_ok-push-2.ensures.items, length_push)
            (counted_feed text i (length starts) c.loop-index-test.true w.if-byte-eq10.true c.loop-index.invariant.counted);
        begun = rw (w.starts-is, w.in_ok-push-2.ensures.items)
            (begun_feed text starts i c.loop-index-test.true w.if-byte-eq10.true c.loop-index.invariant.counted c.loop-index.invariant.begun);
      }
      | else-byte-eq10 w ↦ record {
        counted = rw w.starts-is (counted_other text i (length starts) c.loop-index-test.true w.if-byte-eq10.false c.loop-index.invariant.counted);
        begun = rw w.starts-is c.loop-index.invariant.begun;
      }
    ]
