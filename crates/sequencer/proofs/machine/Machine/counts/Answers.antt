-- The instructions that are counted are among the events, of which there are at most a million.
use Rattle.std.proofs.Common.{◌≡◌, ◌≤◌, Some, List, length, sym, ap, ◌∙◌, arith}
use Rattle.std.specs.Prelude.{slice_get}
use Rattle.mips_plain.specs.declared.outcome.Read.{Read}
use Rattle.unit_core.specs.Units.{active_of}
use Rattle.processor_steps.specs.Processors.{by_units}
use Rattle.sequencer.specs.Machines.{MachineView, state}
use Rattle.processor_steps.proofs.Growing.{log_within}
use Rattle.sequencer.proofs.machine.Machine.counts.Goals as goal

pub overflow_add-result : goal.overflow_add-result
overflow_add-result c =
    let s = state c.args.self.now in
    let u = active_of c.in-Some.head.now in
    let there : slice_get s.queue 0 ≡ Some u =
    sym (c.in-Some.ensures ∙ ap (λ (v : MachineView). slice_get (state v).queue 0) c.self.view_is) in
    let within : length u.log ≤ by_units s.queue = log_within s.queue 0 u there in
    let own : c.len.result ≡ length u.log = c.len.ensures ∙ ap (λ (x : List Read). length x) c.reads-in-Some.ensures in
    let retired : c.len-retired.result ≡ length s.reads =
    c.len-retired.ensures ∙ ap (λ (x : List Read). length x) c.reads.ensures ∙ ap (λ (v : MachineView). length (state v).reads) c.self.view_is in
    omega (arith, c.law_headline.ensures.claims.number, c.law_replay.ensures.executed, c.law_replay.ensures.room)
