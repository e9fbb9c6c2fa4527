-- The word is looked up in the rows that are left.
use Rattle.std.proofs.Common.{◌≡◌, drop, map}
use Rattle.operand_forms.specs.Shapes.{shape_in}
use Rattle.operand_forms.proofs.shape.shape_in.Given as goal

abbrev pub invariant-loop-name : goal.invariant-loop-name
invariant-loop-name l =
    shape_in l.word (map (λ row. (row.0.now, row.1)) (drop l.name-index l.rows))
    ≡ shape_in l.word (map (λ row. (row.0.now, row.1)) l.rows)
