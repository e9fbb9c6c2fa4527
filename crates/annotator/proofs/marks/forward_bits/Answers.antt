use Rattle.annotator.proofs.Imports.{◌≡◌, ℕ, ◌<◌, Bool, true, false, List, length, slice_get, Some, refl, sym, ◌∙◌, ap, subst, arith, slice_get_read, slice_get_within, Marked, is_marked, AreForwards}
use Rattle.annotator.proofs.MarkLemmas.{forwards_none, forwards_more, member_bit, other_bit}
use Rattle.annotator.proofs.Remarked.{forward_fits}
use Rattle.annotator.proofs.marks.forward_bits.Goals as goal
use Rattle.annotator.proofs.marks.forward_bits.Goals.{then-members-i, else-members-i}

pub loop-i-init : goal.loop-i-init
loop-i-init c = forwards_none c.args.program.now c.in_ok-bits.bits.items c.in_ok-bits.ensures.items

pub loop-i-preserved : goal.loop-i-preserved
loop-i-preserved c =
    let p = c.args.program.now in
    let code = c.code-code.result.now in
    let i = c.loop-i.i in
    let m = c.index-code-i.result in
    let there : slice_get p.code i ≡ Some m =
    subst (λ (xs : List Marked). slice_get xs i ≡ Some m) c.code-code.ensures.value (slice_get_read code (length code) i m refl c.loop-i-test.true c.index-code-i.is) in
    forwards_more p i c.loop-i.bits.items c.push.new.self.items c.if-members-i.bit m c.in_ok-push.ensures.items there
    (elim c.if-members-i.branch [
      | then-members-i w ↦
          member_bit p i m c.if-members-i.bit (c.requires.members.only i w.if-members-i.true) (
            λ set. (w.writes_last-bit.ensures p i w.written_behind.ensures).0 (sym w.bit-is ∙ set),
            λ last. w.bit-is ∙ (w.writes_last-bit.ensures p i w.written_behind.ensures).1 last,
          )
      | else-members-i w ↦
          other_bit p i m c.if-members-i.bit (λ member. both (is_marked c.args.members.now i) w.if-members-i.false
          (c.requires.members.reached i member (slice_get_within p.tasks member.task member.descriptor member.is_there)))
          w.bit-is (forward_fits p i m c.code-code.ensures.well_formed there)
    ]) c.loop-i.invariant
  where
    both : (b : Bool) → b ≡ false → b ≡ true → ⊥
    both b f t = cc

pub returns : goal.returns
returns c =
    let count : length c.code-code.result.now ≡ length c.args.program.now.code = ap (λ (xs : List Marked). length xs) c.code-code.ensures.value in
    let end : c.loop-i.i ≡ length c.args.program.now.code = omega arith in
    subst (λ (n : ℕ). AreForwards c.args.program.now n c.loop-i.bits.items) end c.loop-i.invariant
