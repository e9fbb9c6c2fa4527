-- What was written to the empty file is what it holds.
use Rattle.std.proofs.lemmas.Result.{on_ok_weaker}
use Rattle.result_files.proofs.Written.{from_nothing}
use Rattle.result_files.proofs.replacing.fill.Goals as goal

pub returns-in-Ok-clause-ok : goal.returns-in-Ok-clause-ok
returns-in-Ok-clause-ok g c =
    on_ok_weaker c.finish.result
    (λ kept watched. from_nothing _ _ _ c.args.bytes.now (c.requires watched) c.in-Ok.ensures.bytes kept)
    c.finish.ensures.kept
