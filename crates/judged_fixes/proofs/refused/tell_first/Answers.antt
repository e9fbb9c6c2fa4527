-- It is told in words alone, and is the first that tells the fault, as it was.
use Rattle.text_diagnostics.specs.Refusals.{tells}
use Rattle.judged_fixes.proofs.Telling.{as_they_are, first_in_words, one_in_words}
use Rattle.judged_fixes.proofs.refused.tell_first.Goals as goal

pub returns-in-Some-clause-same : goal.returns-in-Some-clause-same
returns-in-Some-clause-same c =
    let errors = c.args.errors.now.items in
    rw c.tell_in_words.ensures.told (one_in_words errors errors c.args.place c.in-Some.said.now (as_they_are errors) c.in-Some.ensures.value)

pub returns-in-Some-clause-words : goal.returns-in-Some-clause-words
returns-in-Some-clause-words c =
    first_in_words (tells c.args.first c.args.token) c.args.errors.now.items c.args.place c.in-Some.said.now c.tell_in_words.new.said c.requires c.in-Some.ensures.value
    (λ passes. rw c.tell_in_words.ensures.told passes) c.tell_in_words.ensures.words
