-- By whether the text was cut, and by the job.
use Rattle.std.proofs.Common.{arith, inl, inr, refl}
use Rattle.std.proofs.lemmas.Bool.{le-leb, lt-leb}
use Rattle.program_edge.proofs.ReportLemmas.{cut_alone, explained_fixed, other_alone}
use Rattle.program_edge.proofs.answer.fix.Goals as goal

pub returns-then-len-gt-MOST_PROGRAM : goal.returns-then-len-gt-MOST_PROGRAM
returns-then-len-gt-MOST_PROGRAM g c = cut_alone _ c.args.progress g.D.Folder.is_watched c.args.reader.now c.args.path c.args.job.now c.args.texts.now c.deliver.result _ _
    (lt-leb _ _ (omega (arith, c.len.ensures, c.if-len-gt-MOST_PROGRAM.true))) c.deliver.ensures

pub returns-in-Ok : goal.returns-in-Ok
returns-in-Ok g c = explained_fixed _ c.args.progress g.D.Folder.is_watched c.args.reader.now c.args.path c.args.job.now c.in-Explain.name c.in-Explain.certificate
    c.in-Explain.script c.in-Explain.warnings c.in-Explain.format c.in-Explain.colors c.args.texts.now c.hand_over.result _ _
    (le-leb _ _ (omega (arith, c.len.ensures, c.if-len-gt-MOST_PROGRAM.false))) c.in-Explain.is
    (inl (record {
      repaired = c.in-Ok.repaired;
      right = c.in-Ok.ensures;
      delivery = rw (← c.as_slice.ensures, ← c.as_slice-in-Ok.ensures.value, ← c.as_slice-in-Ok-2.ensures.value) c.hand_over.ensures;
    }))

pub returns-in-Err : goal.returns-in-Err
returns-in-Err g c = explained_fixed _ c.args.progress g.D.Folder.is_watched c.args.reader.now c.args.path c.args.job.now c.in-Explain.name c.in-Explain.certificate
    c.in-Explain.script c.in-Explain.warnings c.in-Explain.format c.in-Explain.colors c.args.texts.now c.tell.result _ _
    (le-leb _ _ (omega (arith, c.len.ensures, c.if-len-gt-MOST_PROGRAM.false))) c.in-Explain.is
    (inr (c.tell.ensures, λ _. refl))

pub returns-in_default : goal.returns-in_default
returns-in_default g c = other_alone _ c.args.progress g.D.Folder.is_watched c.args.reader.now c.args.path c.args.job.now c.args.texts.now c.deliver-in_default.result _ _
    c.in_default.not-Explain c.deliver-in_default.ensures
