-- The head has no wrong word beside the plain machine that has made as many steps as there are reads.
use Rattle.demonstration.proofs.Imports.{subst, ap, ◌∙◌, machine_state, input, state, IfOk, IsAfter, AreRight, Read}
use Rattle.std.proofs.Common.{List, length}
use Rattle.demonstration.proofs.Searching.{words_so}
use Rattle.demonstration.proofs.judge.shows.Goals as goal

pub returns-clause-words : goal.returns-clause-words
returns-clause-words c = λ asked.
    let p = c.args.program.now in
    let reads = c.deref.result.now in
    let right = subst (λ found. IfOk found (λ plain. IsAfter (input p) (length reads) plain × AreRight p reads)) c.in-Ok.is c.in_ok-plain.ensures.right in
    words_so p (state c.args.machine.now) (machine_state c.in-Ok.plain) (length reads) (ap (λ (xs : List Read). length xs) (c.deref.ensures.value ∙ c.in_ok-reads.ensures)) right.0.state
    c.in-None-wrong_word.ensures.none
