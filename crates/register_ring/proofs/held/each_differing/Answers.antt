-- A register is marked where its words differ, and all are marked at the end.
use Rattle.std.proofs.Common.{◌≡◌, ℕ, ◌+◌, sym, subst, arith}
use Rattle.register_ring.proofs.DifferLemmas.{Marks, mark_differing, keep_same, marked_all}
use Rattle.register_ring.proofs.held.each_differing.Goals as goal
use Rattle.register_ring.proofs.held.each_differing.Goals.{then-words-index, else-words-index}

pub loop-index-preserved : goal.loop-index-preserved
loop-index-preserved c =
    let words = c.args.words.now in
    let others = c.args.others.now in
    let bits = c.loop-index.bits in
    let index = c.loop-index.index in
    let More : ℕ → Type 0 = λ bits. Marks bits (index + 1) words others in
    elim c.if-words-index.branch [
      | then-words-index w ↦
          subst More (sym w.bits-is) (mark_differing bits index words others (omega arith) c.loop-index.invariant w.if-words-index.true)
      | else-words-index w ↦
          subst More (sym w.bits-is) (keep_same bits index words others c.loop-index.invariant w.if-words-index.false)
    ]

pub returns : goal.returns
returns c =
    let words = c.args.words.now in
    let others = c.args.others.now in
    let last : c.loop-index.index ≡ 34 = omega arith in
    marked_all c.loop-index.bits c.in-Some.set words others (omega arith) (omega arith)
    (subst (λ (n : ℕ). Marks c.loop-index.bits n words others) last c.loop-index.invariant) c.in-Some.ensures.value
