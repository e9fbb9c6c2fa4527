-- A certificate that was not looked for may hold anything.
use Rattle.std.proofs.Common.{refl}
use Rattle.std.specs.String.{string_bytes}
use Rattle.program_edge.specs.FileTexts.{most_file}
use Rattle.program_edge.proofs.FoundLemmas.{some_found}
use Rattle.program_edge.proofs.texts.read_certificate.Goals as goal

pub returns-then-not-has_certificate : goal.returns-then-not-has_certificate
returns-then-not-has_certificate g c =
    let found = some_found (g.F.NamedFiles.known c.args.files.now (string_bytes c.args.path)) most_file in
    (found.0, found.1, rw (← c.if-not-has_certificate.ensures, c.new-then-not-has_certificate.ensures, c.new.ensures.items) refl)
