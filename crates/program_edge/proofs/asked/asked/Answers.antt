-- By what was read.
use Rattle.std.proofs.Common.{◌≡◌}
use Rattle.program_edge.proofs.AskedLemmas.{read, unread}
use Rattle.program_edge.proofs.asked.asked.Goals as goal

pub returns-in-Ok : goal.returns-in-Ok
returns-in-Ok g c =
    let same : c.as_slice.result.now ≡ c.in-Ok.words.items = c.as_slice.ensures.value in
    read (g.W.ProcessWords.known_words c.args.process.now) c.words.result _ _ c.in-Ok.is c.words.ensures (rw (← same) c.asked_by.ensures)

pub returns-in-Err : goal.returns-in-Err
returns-in-Err g c = unread (g.W.ProcessWords.known_words c.args.process.now) c.words.result _ c.in-Err.is c.words.ensures
