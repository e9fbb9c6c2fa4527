-- What is shown is UTF-8.
use Rattle.std.proofs.Common.{rules}
use Rattle.std.specs.Str.{IsUtf8}
use Rattle.diagnostics.proofs.Readable.{shown_utf8}
use Rattle.diagnostics.proofs.excerpt.shown_text.Goals as goal

pub unreachable-requires : goal.unreachable-requires
unreachable-requires c =
    let u : IsUtf8 c.in_ok-shown.field-0.items = rw (c.in_ok-shown.ensures, c.is_readable.ensures) (shown_utf8 c.args.part.now) in
    search (rules, c.from_utf8.ensures.succeeds u)
