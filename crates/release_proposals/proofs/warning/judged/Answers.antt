-- The fix pays, whatever the notes say.
use Rattle.std.proofs.Common.{List, refl, subst}
use Rattle.diagnostics.specs.declared.diagnostic.Diagnostic.{Diagnostic}
use Rattle.release_proposals.specs.Paying.{IsPaying}
use Rattle.release_proposals.proofs.Noting.{found_pays, with_notes}
use Rattle.release_proposals.proofs.warning.judged.Goals as goal

pub returns : goal.returns
returns c = record {
  severity = c.in_ok-draft.ensures.severity;
  source = c.in_ok-draft.ensures.source;
  code = c.in_ok-draft.ensures.code;
  new = c.in-Some.new.text.items;
  pays = with_notes c.args.text.now c.in_ok-draft.draft c.in_ok-notes.notes c.in-Some.new.text.items
      (subst (λ (ds : List Diagnostic). IsPaying c.args.text.now ds c.in-Some.new.text.items) c.from_ref.ensures.value
      (found_pays c.args.text.now c.from_ref.result.now c.in_ok-new.field-0 c.in-Some.new c.args.before.now c.in_ok-new.ensures c.in-Some.is c.requires
      (c.if-not-is_faster.ensures.same refl) (c.if-not-is_faster.ensures.fewer refl)));
}
