-- A list that is right has few entries.
use Rattle.std.proofs.Common.{◌≤◌, length, arith}
use Rattle.mask_certificate.proofs.Telling.{told_few}
use Rattle.mask_certificate.proofs.reading.line_behind.Goals as goal

pub overflow_add-result-then-is_right : goal.overflow_add-result-then-is_right
overflow_add-result-then-is_right c =
    let few : length c.args.list.now.items ≤ 4096 = told_few c.args.list.now.items c.args.is_right c.requires.told c.if-is_right.true in
    omega (arith, few, c.len-entries.ensures, c.requires.few)

pub returns-then-is_right-clause-few : goal.returns-then-is_right-clause-few
returns-then-is_right-clause-few c =
    let few : length c.args.list.now.items ≤ 4096 = told_few c.args.list.now.items c.args.is_right c.requires.told c.if-is_right.true in
    omega (arith, few, c.len-entries.ensures)
