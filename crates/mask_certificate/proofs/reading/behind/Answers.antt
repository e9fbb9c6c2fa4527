-- What the first line is, by its name.
use Rattle.std.proofs.Common.{◌≡◌, true, false, sym, ◌∙◌, ap}
use Rattle.std.specs.Str.{bytes_eq}
use Rattle.std.proofs.lemmas.Bool.{not-true, not-false}
use Rattle.mask_certificate.proofs.NameLemmas.{behind_right, behind_other, behind_none}
use Rattle.mask_certificate.proofs.reading.behind.Goals as goal

pub returns-in_default-name_of-clause-lines : goal.returns-in_default-name_of-clause-lines
returns-in_default-name_of-clause-lines c =
    λ spelling. behind_none spelling c.args.text.now c.in-Some.first.now c.in-Some.rest.now c.args.line c.in-Some.ensures.parts c.args.name.now c.in_default-name_of.ensures

pub returns-then-ne-clause-lines : goal.returns-then-ne-clause-lines
returns-then-ne-clause-lines c =
    let found = c.in-Some-name_of.found.now in
    let other : bytes_eq found c.args.name.now ≡ false = ap (bytes_eq found) (sym c.bytes.ensures.bytes) ∙ not-true (bytes_eq found c.bytes.result.now) (sym c.if-ne.ensures) in
    λ spelling. behind_other spelling c.args.text.now c.in-Some.first.now c.in-Some.rest.now c.args.line c.in-Some.ensures.parts c.args.name.now found c.in-Some-name_of.ensures other

pub returns-clause-lines : goal.returns-clause-lines
returns-clause-lines c =
    let found = c.in-Some-name_of.found.now in
    let same : bytes_eq found c.args.name.now ≡ true = ap (bytes_eq found) (sym c.bytes.ensures.bytes) ∙ not-false (bytes_eq found c.bytes.result.now) (sym c.if-ne.ensures) in
    λ spelling. behind_right spelling c.args.text.now c.in-Some.first.now c.in-Some.rest.now c.args.line c.in-Some.ensures.parts c.args.name.now found c.in-Some-name_of.ensures same
