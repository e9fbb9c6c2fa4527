-- One part of the text after another, the first after nothing.
use Rattle.std.proofs.Common.{ℕ, ap, ◌∙◌, length}
use Rattle.std.specs.Global.{Vec}
use Rattle.task_lives.proofs.Rows.{long_enough, summary_written}
use Rattle.task_lives.proofs.summary.write.Goals as goal

pub write_rows-requires : goal.write_rows-requires
write_rows-requires c =
    long_enough c.in_ok-tallies.tallies.items c.deref.result.now (length c.tasks-tasks.result.now) c.args.lives.now
    c.deref.ensures.value c.in_ok-tallies.ensures

pub returns : goal.returns
returns c =
    ap (λ (v : Vec ℕ). v.items) c.into_bytes.ensures.value
    ∙ summary_written c.args.program.now c.args.lives.now c.deref.result.now c.tasks-tasks.result.now c.add_up.result _ _ _ _
    c.new-text.ensures.bytes c.in_ok-write_heading.ensures c.in_ok-write_rows.ensures c.in_ok-write_row.ensures
    c.tasks-tasks.ensures.value (c.deref.ensures.value ∙ c.in_ok-tallies.ensures) c.add_up.ensures
