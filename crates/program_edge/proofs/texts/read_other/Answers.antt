-- A script that was not looked for may hold anything.
use Rattle.std.proofs.Common.{refl}
use Rattle.std.specs.String.{string_bytes}
use Rattle.program_edge.specs.FileTexts.{most_file}
use Rattle.program_edge.proofs.FoundLemmas.{some_found}
use Rattle.program_edge.proofs.texts.read_other.Goals as goal

pub returns-then-not-is_there : goal.returns-then-not-is_there
returns-then-not-is_there g c =
    let found = some_found (g.F.NamedFiles.known c.args.files.now (string_bytes c.args.path)) most_file in
    (found.0, found.1, rw (c.if-not-is_there.true, c.new.ensures.items) refl)
