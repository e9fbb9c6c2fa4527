-- One text after the other.
use Rattle.std.proofs.Common.{[], ◌∷◌, ◌++◌, codes}
use Rattle.std.proofs.KnownBytes.{Appends-trans}
use Rattle.std.proofs.lemmas.Result.{on_ok_weaker}
use Rattle.verdict_report.proofs.BeginsLemmas.{first, next}
use Rattle.program_edge.proofs.told.write_line.Goals as goal

pub returns-in_err-write_text-clause-part : goal.returns-in_err-write_text-clause-part
returns-in_err-write_text-clause-part g c = first _ _ (codes "multiscalar: ") (c.args.name.now ++ 10 ∷ []) c.write_text.ensures.part

pub returns-in_err-write_text-2-clause-part : goal.returns-in_err-write_text-2-clause-part
returns-in_err-write_text-2-clause-part g c =
    next _ _ _ (codes "multiscalar: ") (c.args.name.now ++ 10 ∷ []) c.in_ok-write_text.ensures.whole
    (first _ _ c.args.name.now (10 ∷ []) c.write_text-2.ensures.part)

pub returns-clause-whole : goal.returns-clause-whole
returns-clause-whole g c =
    on_ok_weaker c.write_text-3.result
    (λ h. Appends-trans _ _ _ (codes "multiscalar: ") (c.args.name.now ++ 10 ∷ []) c.in_ok-write_text.ensures.whole
    (Appends-trans _ _ _ c.args.name.now (10 ∷ []) c.in_ok-write_text-2.ensures.whole h))
    c.write_text-3.ensures.whole

pub returns-clause-part : goal.returns-clause-part
returns-clause-part g c =
    next _ _ _ (codes "multiscalar: ") (c.args.name.now ++ 10 ∷ []) c.in_ok-write_text.ensures.whole
    (next _ _ _ c.args.name.now (10 ∷ []) c.in_ok-write_text-2.ensures.whole c.write_text-3.ensures.part)
