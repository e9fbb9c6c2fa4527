-- What the first line is, by its name.
use Rattle.mask_certificate.proofs.NameLemmas.{end_named, end_none}
use Rattle.mask_certificate.proofs.reading.check_end.Goals as goal

pub returns-in-Some-name_of : goal.returns-in-Some-name_of
returns-in-Some-name_of c = λ spelling. end_named spelling c.args.text.now c.in-Some.first.now c.in-Some.field-0-1.now c.args.line c.in-Some.ensures.parts c.in-Some-name_of.field-0.now c.in-Some-name_of.ensures

pub returns-in-None : goal.returns-in-None
returns-in-None c = λ spelling. end_none spelling c.args.text.now c.in-Some.first.now c.in-Some.field-0-1.now c.args.line c.in-Some.ensures.parts c.in-None.ensures
