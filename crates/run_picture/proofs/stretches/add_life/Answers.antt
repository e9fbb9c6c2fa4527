-- Before the first stretch and after the last one a life has no events; in between each stretch is added once.
use Rattle.std.proofs.Common.{◌+◌, List, ℕ, length, refl, sym, ap, ◌∙◌, subst, arith}
use Rattle.run_picture.proofs.Overlaps.{Added, Kept, all_counted, first_added, length-with_overlap, room_left, step_added, step_kept}
use Rattle.run_picture.proofs.stretches.add_life.Goals as goal

pub loop-stretch-init : goal.loop-stretch-init
loop-stretch-init c = record {
  same = refl;
  added = first_added c.args.span c.args.life c.args.shares.now.items c.requires.some;
  kept = λ k within above. refl;
}

pub add_overlap-requires : goal.add_overlap-requires
add_overlap-requires c =
    let l = c.loop-stretch in
    room_left c.args.span l.stretch c.args.life c.args.shares.now.items l.shares.items l.invariant.same l.invariant.added l.invariant.kept c.requires.room

pub loop-stretch-preserved : goal.loop-stretch-preserved
loop-stretch-preserved c =
    let l = c.loop-stretch in
    let old = c.args.shares.now.items in
    let new = sym c.add_overlap.ensures in
    record {
      same = ap (λ (xs : List ℕ). length xs) c.add_overlap.ensures ∙ length-with_overlap c.args.span l.stretch c.args.life l.shares.items ∙ l.invariant.same;
      added = subst (λ (xs : List ℕ). Added c.args.span (l.stretch + 1) c.args.life old xs) new
          (step_added c.args.span l.stretch c.args.life old l.shares.items l.invariant.same l.invariant.added l.invariant.kept);
      kept = subst (λ (xs : List ℕ). Kept (l.stretch + 1) old xs) new
          (step_kept c.args.span l.stretch c.args.life old l.shares.items l.invariant.kept);
    }

pub returns : goal.returns
returns c =
    let l = c.loop-stretch in
    all_counted c.args.span l.stretch c.args.life c.args.shares.now.items l.shares.items c.requires.some l.invariant.same l.invariant.added l.invariant.kept (omega arith)
