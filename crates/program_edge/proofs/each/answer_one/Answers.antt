-- What was made of the program was written, or not all of it; or there was no memory for it.
use Rattle.std.proofs.Common.{inl, refl}
use Rattle.program_edge.specs.Several.{Part}
use Rattle.program_edge.specs.Streams.{World}
use Rattle.program_edge.proofs.SeveralLemmas.{cut_at, told_memory, written_as}
use Rattle.program_edge.proofs.each.answer_one.Goals as goal

pub returns-in-Ok-write_both-clause-one : goal.returns-in-Ok-write_both-clause-one
returns-in-Ok-write_both-clause-one g c =
    let part : Part = record { output = c.in-Ok.part.output.items; errors = c.in-Ok.part.errors.items; judged = c.in-Ok.part.judged } in (
      part,
      c.in-Ok.ensures.part,
      refl,
      λ known.
          let old : World = record { output = g.O.Write.contents c.args.output.now; errors = g.E.Write.contents c.args.errors.now; files = known } in
          let new : World = record { output = g.O.Write.contents c.write_both.new.output; errors = g.E.Write.contents c.write_both.new.errors; files = known } in
          written_as c.in-Ok.part.output.items c.in-Ok.part.errors.items c.as_slice-said.result.now c.as_slice-told.result.now old new
          c.as_slice-said.ensures.value c.as_slice-told.ensures.value (c.in-Ok-write_both.ensures.whole known),
    )

pub returns-in-Ok-clause-end : goal.returns-in-Ok-clause-end
returns-in-Ok-clause-end g c = λ known.
    let part : Part = record { output = c.in-Ok.part.output.items; errors = c.in-Ok.part.errors.items; judged = c.in-Ok.part.judged } in
    let old : World = record { output = g.O.Write.contents c.args.output.now; errors = g.E.Write.contents c.args.errors.now; files = known } in
    let new : World = record { output = g.O.Write.contents c.write_both.new.output; errors = g.E.Write.contents c.write_both.new.errors; files = known } in
    cut_at c.args.is_terminal (g.F.NamedFiles.known c.args.files.now) c.args.job.now c.args.name.now part
    c.as_slice-said.result.now c.as_slice-told.result.now c.in-Err-write_both.ending old new
    c.in-Ok.ensures.part c.as_slice-said.ensures.value c.as_slice-told.ensures.value (c.in-Err-write_both.ensures.cut known)

pub returns-clause-end : goal.returns-clause-end
returns-clause-end g c = λ known.
    let old : World = record { output = g.O.Write.contents c.args.output.now; errors = g.E.Write.contents c.args.errors.now; files = known } in
    let new : World = record { output = g.O.Write.contents c.tell.new.output; errors = g.E.Write.contents c.tell.new.errors; files = known } in
    inl (told_memory c.in-Err.lack c.tell.result old new c.in-Err.ensures.memory c.tell.ensures (λ _. refl))
