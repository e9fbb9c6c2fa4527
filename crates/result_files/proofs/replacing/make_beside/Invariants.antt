-- So far nothing was made.
use Rattle.result_files.specs.Files.{Same}
use Rattle.result_files.proofs.replacing.make_beside.Given as goal

abbrev pub invariant-loop-shift : goal.invariant-loop-shift
invariant-loop-shift g l = Same (g.F.Folder.known l.initial.folder) (g.F.Folder.known l.folder)
