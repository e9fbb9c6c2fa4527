-- One text after the other.
use Rattle.std.proofs.Common.{[], ◌∷◌, ◌++◌, codes}
use Rattle.std.proofs.KnownBytes.{Appends-trans}
use Rattle.std.proofs.lemmas.Result.{on_ok_weaker}
use Rattle.shown_names.specs.Shown.{shown}
use Rattle.verdict_report.proofs.BeginsLemmas.{first, next}
use Rattle.program_edge.proofs.told.write_file.Goals as goal

pub returns-in_err-write_text-clause-part : goal.returns-in_err-write_text-clause-part
returns-in_err-write_text-clause-part g c =
    first _ _ (codes "multiscalar: file ") (shown c.args.path.now ++ 10 ∷ []) c.write_text.ensures.part

pub returns-in_err-write_shown-clause-part : goal.returns-in_err-write_shown-clause-part
returns-in_err-write_shown-clause-part g c =
    next _ _ _ (codes "multiscalar: file ") (shown c.args.path.now ++ 10 ∷ []) c.in_ok-write_text.ensures.whole
    (first _ _ (shown c.args.path.now) (10 ∷ []) c.write_shown.ensures.part)

pub returns-clause-whole : goal.returns-clause-whole
returns-clause-whole g c =
    on_ok_weaker c.write_text-2.result
    (λ h. Appends-trans _ _ _ (codes "multiscalar: file ") (shown c.args.path.now ++ 10 ∷ []) c.in_ok-write_text.ensures.whole
    (Appends-trans _ _ _ (shown c.args.path.now) (10 ∷ []) c.in_ok-write_shown.ensures.whole h))
    c.write_text-2.ensures.whole

pub returns-clause-part : goal.returns-clause-part
returns-clause-part g c =
    next _ _ _ (codes "multiscalar: file ") (shown c.args.path.now ++ 10 ∷ []) c.in_ok-write_text.ensures.whole
    (next _ _ _ (shown c.args.path.now) (10 ∷ []) c.in_ok-write_shown.ensures.whole c.write_text-2.ensures.part)
