-- One number after the other.
use Rattle.std.proofs.Common.{◌≡◌, ℕ, List, OnOk, subst}
use Rattle.std.specs.String.{string_bytes}
use Rattle.task_lives.proofs.Rows.{row_written}
use Rattle.task_lives.proofs.summary.write_row.Goals as goal

pub returns : goal.returns
returns c =
    subst (λ (xs : List ℕ). OnOk c.writeln.result (string_bytes c.writeln.new.self ≡ xs))
    (row_written (string_bytes c.args.text.now) c.args.tally.now c.args.name.now _ _ _ _ _ _ _
    c.in_ok-write_number.ensures c.in_ok-write_number-2.ensures c.in_ok-write_number-3.ensures c.in_ok-write_number-4.ensures
    c.in_ok-write_number-5.ensures c.in_ok-write_number-6.ensures c.in_ok-write_number-7.ensures)
    c.writeln.ensures.bytes
