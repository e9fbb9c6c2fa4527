-- The shares of the lives so far.
use Rattle.std.proofs.Common.{◌≡◌, take}
use Rattle.run_picture.proofs.Shares.{shares}
use Rattle.run_picture.proofs.stretches.shares_of.Given as goal

abbrev pub invariant-loop-life : goal.invariant-loop-life
invariant-loop-life l = l.shares.items ≡ shares l.span (take l.life-index l.lives) l.parts
