-- A new list is filled up with `false`.
use Rattle.std.proofs.Common.{◌++◌, ◌-◌, take, false, ◌∙◌}
use Rattle.std.specs.Prelude.{replicate}
use Rattle.mark_checker.proofs.survey.Surveyed.new.Goals as goal

pub mark_entries-requires : goal.mark_entries-requires
mark_entries-requires c =
    c.deref_mut-2.ensures.value
    ∙ c.in_ok-resize-2.ensures.items
    ∙ (λ k. take 4097 (c.new-begins.ensures.items k) ++ replicate (4097 - c.new-begins.ensures.len k) false)
