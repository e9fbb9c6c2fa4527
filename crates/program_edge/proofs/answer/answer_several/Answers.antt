-- There was no memory for the names.
use Rattle.std.proofs.Common.{inl, refl}
use Rattle.program_edge.specs.Streams.{World}
use Rattle.program_edge.proofs.SeveralLemmas.{ends_before}
use Rattle.program_edge.proofs.answer.answer_several.Goals as goal

pub returns : goal.returns
returns g c = λ known.
    let old : World = record { output = g.O.Write.contents c.args.output.now; errors = g.E.Write.contents c.args.errors.now; files = known } in
    let new : World = record { output = g.O.Write.contents c.tell.new.output; errors = g.E.Write.contents c.tell.new.errors; files = known } in
    ends_before c.args.is_terminal (g.F.NamedFiles.known c.args.files.now) c.args.request.job c.args.request.paths.program
    c.args.request.further.items c.tell.result old new (inl (c.tell.ensures, λ _. refl))
