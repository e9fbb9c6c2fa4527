-- The report was written while it was made, or was not made.
use Rattle.std.proofs.Common.{◌⊎◌, inr, refl, subst, sym, Option}
use Rattle.std.specs.declared.alloc.Global.{Global}
use Rattle.std.specs.declared.string.String.{String}
use Rattle.program_edge.specs.Answering.{IsDelivered, IsNotDone}
use Rattle.program_edge.specs.Streams.{World}
use Rattle.program_edge.proofs.ReportLemmas.{given_or_not, not_done}
use Rattle.program_edge.proofs.SeveralLemmas.{same_fault}
use Rattle.program_edge.proofs.answer.deliver.Goals as goal

pub returns-in-None : goal.returns-in-None
returns-in-None g c =
    let old : World = record { output = g.O.Write.contents c.args.output.now; errors = g.E.Write.contents c.args.errors.now; files = g.D.Folder.known c.args.folder.now } in
    let new : World = record { output = g.O.Write.contents c.stream.new.output; errors = g.E.Write.contents c.stream.new.errors; files = g.D.Folder.known c.args.folder.now } in
    record {
      heard = g.E.Write.contents c.args.errors.now;
      quiet = λ _. refl;
      ends = subst (λ (place : Option (String Global)). IsDelivered g.D.Folder.is_watched c.args.reader.now place c.args.job.now c.args.texts.now c.stream.result old new
          ⊎ IsNotDone c.args.job.now c.args.texts.now c.stream.result old new)
          (sym c.in-None.is) (c.stream.ensures g.D.Folder.is_watched (g.D.Folder.known c.args.folder.now));
    }

pub returns-in-Ok : goal.returns-in-Ok
returns-in-Ok g c =
    let heard : World = record { output = g.O.Write.contents c.args.output.now; errors = g.E.Write.contents c.report_heard.new.errors; files = g.D.Folder.known c.args.folder.now } in
    let new : World = record { output = g.O.Write.contents c.give.new.output; errors = g.E.Write.contents c.give.new.errors; files = g.D.Folder.known c.give.new.folder } in
    record {
      heard = g.E.Write.contents c.report_heard.new.errors;
      quiet = c.in-Ok.ensures.quiet;
      ends = given_or_not g.D.Folder.is_watched c.args.reader.now _ c.args.job.now c.args.texts.now c.in-Ok.report c.new-none.result.items
          c.give.result heard new c.new-none.ensures.items c.in-Ok.ensures.report c.give.ensures;
    }

pub returns-in-Err : goal.returns-in-Err
returns-in-Err g c =
    let heard : World = record { output = g.O.Write.contents c.args.output.now; errors = g.E.Write.contents c.report_heard.new.errors; files = g.D.Folder.known c.args.folder.now } in
    let new : World = record { output = g.O.Write.contents c.tell.new.output; errors = g.E.Write.contents c.tell.new.errors; files = g.D.Folder.known c.args.folder.now } in
    record {
      heard = g.E.Write.contents c.report_heard.new.errors;
      quiet = c.in-Err.ensures.quiet;
      ends = inr (not_done c.args.job.now c.args.texts.now c.in-Err.lack c.tell.result heard new
          (same_fault c.in-Err.lack c.in-Err.ensures.memory) c.tell.ensures (λ _. refl));
    }
