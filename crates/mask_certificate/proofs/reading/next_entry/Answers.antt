-- The parts of an entry are there, or the first line is none.
use Rattle.std.proofs.Common.{◌≡◌, ◌+◌, ◌-◌, rules, true, sym, ap, arith}
use Rattle.std.proofs.lemmas.Bool.{not-false}
use Rattle.mask_certificate.specs.CertificateText.{mask_digits}
use Rattle.mask_certificate.proofs.NextEntry.{no_index_in_front, no_newline, no_mask_there, entry_next}
use Rattle.mask_certificate.proofs.reading.next_entry.Goals as goal

pub returns-then-not-has_newline-clause-found : goal.returns-then-not-has_newline-clause-found
returns-then-not-has_newline-clause-found c =
    let space = c.in_ok-index.space in
    no_newline c.args.spelling c.args.text.now space c.in_ok-index.ensures.found.0 (space + 1 + c.mask_digits.result) (ap (λ n. space + 1 + n) c.mask_digits.ensures.digits)
    (λ both.
    let yes : c.has_newline.result ≡ true = c.has_newline.ensures.1 both in
    let no = c.if-not-has_newline.true in
    absurd (cc))

pub returns-in_err-index-clause-found : goal.returns-in_err-index-clause-found
returns-in_err-index-clause-found c = rw c.from_residual.ensures (no_index_in_front c.args.spelling c.args.text.now c.in_err-index.ensures.none)

pub returns-in_err-mask-clause-found : goal.returns-in_err-mask-clause-found
returns-in_err-mask-clause-found c =
    let space = c.in_ok-index.space in
    let digits = c.mask_digits.ensures.digits in
    let size : space + 1 + c.mask_digits.result - (space + 1) ≡ mask_digits c.args.spelling = omega (arith, digits) in
    rw c.from_residual-in_err-mask.ensures
    (no_mask_there c.args.spelling c.args.text.now space c.in_ok-index.ensures.found.0 (space + 1 + c.mask_digits.result - (space + 1)) size (sym c.in_err-mask.ensures))

pub returns-clause-found : goal.returns-clause-found
returns-clause-found c =
    let space = c.in_ok-index.space in
    let digits = c.mask_digits.ensures.digits in
    let end = space + 1 + c.mask_digits.result in
    let size : end - (space + 1) ≡ mask_digits c.args.spelling = omega (arith, digits) in
    let said = c.if-not-has_newline.false in
    let yes : c.has_newline.result ≡ true = first_of (cc said, search (rules, not-false)) in
    let found = c.has_newline.ensures.0 yes in
    entry_next c.args.spelling c.args.text.now space c.in_ok-index.ensures.found.0 end (end - (space + 1)) c.in_ok-index.index c.in_ok-mask.mask
    (ap (λ n. space + 1 + n) digits) size found.0 found.1 c.in_ok-index.ensures.found.1 (sym c.in_ok-mask.ensures)
