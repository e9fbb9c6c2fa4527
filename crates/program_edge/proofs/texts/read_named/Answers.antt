-- Where a file was read, memory may still run out.
use Rattle.std.proofs.Common.{Err, refl, rules}
use Rattle.program_edge.specs.declared.unread.UnreadReason.TheVariants.{OutOfMemory}
use Rattle.program_edge.specs.FileTexts.{most_program}
use Rattle.program_edge.proofs.FoundLemmas.{no_memory_found}
use Rattle.program_edge.proofs.texts.read_named.Goals as goal

pub returns-in-Err : goal.returns-in-Err
returns-in-Err g c =
    let known = g.F.NamedFiles.known c.args.files.now c.args.path.now in
    let found = no_memory_found known most_program c.in_ok-text.text.items OutOfMemory c.in_ok-text.ensures refl in
    (Err OutOfMemory, found, search rules)
