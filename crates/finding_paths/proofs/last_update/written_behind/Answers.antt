-- The task reaches the inner successors too, so it has their masks.
use Rattle.finding_paths.proofs.LastUpdates.{reaches, behind_exact}
use Rattle.finding_paths.proofs.last_update.written_behind.Goals as goal

pub next_inside-next-requires : goal.next_inside-next-requires
next_inside-next-requires c = (reaches c.args.program.now c.args.cert.now c.args.task c.args.index c.requires.least c.requires.task c.requires.reaches).2.within

pub returns : goal.returns
returns c r =
    behind_exact c.args.program.now c.args.cert.now c.args.task c.args.index r c.next_inside-next.result c.mask_of.result c.mask_of-2.result c.union.result
    c.requires.least c.requires.task c.requires.reaches c.next_inside-next.ensures.exact (c.mask_of.ensures r) (c.mask_of-2.ensures r) (c.union.ensures.members r)
