-- The copied bytes, and the zeros that are left behind them.
use Rattle.std.proofs.Common.{sym, ◌∙◌, refl}
use Rattle.std.proofs.Math.Seq.{take-append_seam}
use Rattle.task_descriptor.specs.NameFacts.{fields_of}
use Rattle.task_descriptor.proofs.name.Name.new.Goals as goal

pub invariant_of-result : goal.invariant_of-result
invariant_of-result c =
    fields_of c.args.bytes.now c.copy_from_slice.new.self _ (sym c.is_name.ensures ∙ c.if-not-is_name.false)
    c.copy_from_slice.ensures.after refl
