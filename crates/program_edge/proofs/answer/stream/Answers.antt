-- Beside what was written on the way is told its hint alone.
use Rattle.std.proofs.Common.{inl, refl}
use Rattle.program_edge.proofs.ReportLemmas.{streamed}
use Rattle.program_edge.proofs.answer.stream.Goals as goal

pub returns-in-Ok : goal.returns-in-Ok
returns-in-Ok g c = λ watched files. inl (streamed watched c.args.reader.now c.args.job.now c.args.texts.now c.as_slice.result.now _ _ _
    c.requires c.in-Ok.ensures.done (rw c.as_slice.ensures.value c.hint_unkept-hint.ensures) c.say.ensures (λ _. refl))
