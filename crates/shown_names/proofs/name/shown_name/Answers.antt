-- What is shown is UTF-8.
use Rattle.std.proofs.Common.{rules}
use Rattle.std.specs.Str.{IsUtf8}
use Rattle.shown_names.proofs.Readable.{shown_utf8}
use Rattle.shown_names.proofs.name.shown_name.Goals as goal

pub unreachable-requires : goal.unreachable-requires
unreachable-requires c =
    let u : IsUtf8 c.in_ok-shown_as.field-0.items = rw (c.in_ok-shown_as.ensures, c.is_readable.ensures) (shown_utf8 c.as_bytes-bytes.result.now) in
    search (rules, c.from_utf8.ensures.succeeds u)
