use Rattle.threaded_runner.proofs.deeds.BrandDeeds.lend.Goals as goal

pub returns-in-Some-clause-none : goal.returns-in-Some-clause-none
returns-in-Some-clause-none c = λ fails. (c.lend.ensures.none fails).1
