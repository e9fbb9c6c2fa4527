-- One number more.
use Rattle.std.proofs.Common.{List, ℕ, [], ◌∷◌, ◌++◌, ◌+◌, ap, ◌∙◌}
use Rattle.run_picture.proofs.Parts.{numbers_more}
use Rattle.run_picture.proofs.events.numbers_to.Goals as goal

pub loop-number-preserved : goal.loop-number-preserved
loop-number-preserved c =
    c.in_ok-push.ensures.items
    ∙ ap (λ (xs : List ℕ). xs ++ (c.loop-number.number + 1) ∷ []) c.loop-number.invariant
    ∙ numbers_more c.loop-number.number
