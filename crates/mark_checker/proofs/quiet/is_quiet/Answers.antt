-- The place is not the task's entry, and what is looked at there tells of the instruction.
use Rattle.std.proofs.Common.{◌≡◌, false, nat_eq, refl, sym, ◌∙◌, ap}
use Rattle.std.proofs.lemmas.Bool.{ne_eqb}
use Rattle.mark_checker.proofs.PlaceLists.{there}
use Rattle.mark_checker.proofs.QuietEntries.{quiet_clean}
use Rattle.mark_checker.proofs.quiet.is_quiet.Goals as goal

pub returns-then-index-get : goal.returns-then-index-get
returns-then-index-get c quiet m is =
    let p = c.args.survey.now in
    let d = c.args.descriptor.now in
    let i = c.args.index in
    let look = c.in-Some.look.now in
    let found = c.in-Some.ensures.lookup in
    let other : nat_eq i d.entry ≡ false = ap (nat_eq i) (sym c.get-in-Some.ensures.value) ∙ ne_eqb i c.get-in-Some.result c.if-index-get.true in
    quiet_clean p d c.args.masks.now i c.args.mask m look other
    (c.looks.ensures i m look is (there c.looks.result.now c.looks.result.now i look refl found.3.0 found.3.1)) (c.is_quiet_inside.ensures quiet)
