use Rattle.demonstration.proofs.Imports.{sym, ap, ◌∙◌, slice_get, Option, Op, dests, Marked, item_there, is_written_by}
use Rattle.std.proofs.Common.{◌≡◌, Some}
use Rattle.demonstration.proofs.Judging.{fetch_found, index_within, no_fetch}
use Rattle.demonstration.proofs.last_writer.is_writer.Goals as goal

pub returns-in-None : goal.returns-in-None
returns-in-None c =
    ap (λ (o : Option Op). is_written_by o c.args.register) (sym (no_fetch c.args.program.now c.args.pc c.in-None.ensures))

pub returns-in-Some : goal.returns-in-Some
returns-in-Some c =
    let p = c.args.program.now in
    let pc = c.args.pc in
    let r = c.args.register in
    let i = c.in-Some.index in
    let m = c.index-code-index.result in
    let there : slice_get p.code i ≡ Some m = item_there p.code c.code.result.now i m c.code.ensures.value (index_within p pc i c.in-Some.ensures) c.index-code-index.is in
    c.has.ensures.member
    ∙ (c.dests.ensures r
    ∙ (ap (λ (x : Marked). dests x.op r) (sym c.index-code-index.is)
    ∙ ap (λ (o : Option Op). is_written_by o r) (sym (fetch_found p pc i m c.in-Some.ensures there))))
