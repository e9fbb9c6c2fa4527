-- The programs so far had their turn.
use Rattle.std.proofs.Common.{◌≡◌, List, take}
use Rattle.std.specs.Io.KnownBytes.{Appends}
use Rattle.program_edge.specs.Several.{ArePartsOf, Part, errors_of, outputs_of, tally_of_parts}
use Rattle.program_edge.specs.Summaries.{all_of}
use Rattle.program_edge.proofs.each.answer_each.Given as goal

abbrev pub invariant-loop-name : goal.invariant-loop-name
invariant-loop-name g l = (parts : List Part)
    × ArePartsOf l.is_terminal (g.F.NamedFiles.known l.files) l.job (take l.name-index l.names) parts
    × (l.tally ≡ tally_of_parts parts) × (all_of l.tally ≡ l.name-index)
    × Appends (g.O.Write.contents l.initial.output) (g.O.Write.contents l.output) (outputs_of parts)
    × Appends (g.E.Write.contents l.initial.errors) (g.E.Write.contents l.errors) (errors_of parts)
