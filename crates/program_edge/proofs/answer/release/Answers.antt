-- Only lack of memory keeps a report from being made.
use Rattle.std.proofs.Common.{inr, refl}
use Rattle.program_edge.specs.Streams.{World}
use Rattle.program_edge.proofs.SeveralLemmas.{told_memory}
use Rattle.program_edge.proofs.answer.release.Goals as goal

pub returns-in-Err : goal.returns-in-Err
returns-in-Err g c =
    let old : World = record { output = g.O.Write.contents c.args.output.now; errors = g.E.Write.contents c.args.errors.now; files = g.D.Folder.known c.args.folder.now } in
    let new : World = record { output = g.O.Write.contents c.tell.new.output; errors = g.E.Write.contents c.tell.new.errors; files = g.D.Folder.known c.args.folder.now } in
    inr (told_memory c.in-Err.lack c.tell.result old new c.in-Err.ensures.memory c.tell.ensures (λ _. refl))
