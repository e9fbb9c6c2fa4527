use Rattle.annotator.proofs.Imports.{first_inside, second_inside, length}
use Rattle.annotator.proofs.MarkLemmas.{behind_exact}
use Rattle.annotator.proofs.marks.written_behind.Goals as goal

pub mask_of-requires : goal.mask_of-requires
mask_of-requires c =
    first_inside c.args.program.now c.args.i (length c.args.masks.now) c.next_inside-next.result c.next_inside-next.ensures.exact c.requires.masks.sized

pub mask_of-requires-2 : goal.mask_of-requires-2
mask_of-requires-2 c =
    second_inside c.args.program.now c.args.i (length c.args.masks.now) c.next_inside-next.result c.next_inside-next.ensures.exact c.requires.masks.sized

pub returns : goal.returns
returns c r =
    behind_exact c.args.program.now c.args.masks.now c.args.i r c.next_inside-next.result c.mask_of.result c.mask_of-2.result c.union.result
    c.requires.masks c.next_inside-next.ensures.exact (c.mask_of.ensures r) (c.mask_of-2.ensures r) (c.union.ensures.members r)
