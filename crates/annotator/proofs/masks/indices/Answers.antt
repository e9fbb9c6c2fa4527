use Rattle.annotator.proofs.Imports.{◌≡◌, ℕ, List, ◌++◌, ◌∷◌, [], ◌∙◌, ap, sym}
use Rattle.annotator.proofs.Spread.{range_more}
use Rattle.annotator.proofs.masks.indices.Goals as goal

pub loop-i-preserved : goal.loop-i-preserved
loop-i-preserved c =
    c.in_ok-push.ensures.items ∙ ap (λ (xs : List ℕ). xs ++ c.loop-i.i ∷ []) c.loop-i.invariant ∙ sym (range_more c.loop-i.i)
