-- The rounds of a worker, one after another.
use Rattle.threaded_runner.proofs.Imports.{ℕ, ◌+◌, sym, subst, add-one, IsRound, RoundsFor}
use Rattle.threaded_runner.specs.declared.next.NextBurst.{NextBurst}
use Rattle.threaded_runner.specs.declared.next.Then.{Then}

pub one_more_round : {B H W : Type 0} (holds : B → H → B → H → Then → Type 0) (away : B → W → H → NextBurst → B → W → H → Type 0)
    (in_place : B → W → NextBurst → B → W → Type 0) (n : ℕ) (b b1 b2 : B) (w w1 w2 : W) (h h1 h2 : H)
    → RoundsFor holds away in_place n b w h b1 w1 h1 → IsRound holds away in_place b1 w1 h1 b2 w2 h2 → RoundsFor holds away in_place (n + 1) b w h b2 w2 h2
one_more_round holds away in_place n b b1 b2 w w1 w2 h h1 h2 before round =
    subst (λ (k : ℕ). RoundsFor holds away in_place k b w h b2 w2 h2) (sym (add-one n)) (b1, w1, h1, before, round)
