-- One entry more stands in the list, and one line less is left.
use Rattle.std.proofs.Common.{arith}
use Rattle.std.proofs.lemmas.List.{length_push}
use Rattle.mask_certificate.specs.CertificateReading.{lines_in, entries_in}
use Rattle.mask_certificate.proofs.LineLemmas.{entries_push, left_push}
use Rattle.mask_certificate.proofs.EndLemmas.{end_again}
use Rattle.mask_certificate.proofs.reading.list_of.Goals as goal

pub loop-entry-preserved : goal.loop-entry-preserved
loop-entry-preserved c =
    let front = c.loop-entry.list.items in
    let entry = c.in-Some.entry in
    let lines = lines_in c.args.spelling c.loop-entry.rest.now in
    let after = lines_in c.args.spelling c.in-Some.after.now in
    let whole = lines_in c.args.spelling c.args.text.now in
    let longer = length_push front entry in
    rw c.in_ok-push.ensures.items (record {
      entries = entries_push front entry lines after (entries_in whole) c.in-Some.ensures.found c.loop-entry.invariant.entries;
      left = left_push front entry lines after whole c.in-Some.ensures.found c.loop-entry.invariant.left;
      shorter = omega (arith, longer, c.in-Some.ensures.shorter);
      end = end_again c.args.text.now c.loop-entry.rest.now c.in-Some.after.now c.loop-entry.invariant.end c.in-Some.ensures.end;
    })
