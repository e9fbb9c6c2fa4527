-- What is quoted is UTF-8.
use Rattle.std.proofs.Common.{rules}
use Rattle.std.specs.Str.{IsUtf8}
use Rattle.shown_names.proofs.Readable.{quoted_utf8}
use Rattle.shown_names.proofs.shell.as_word.Goals as goal

pub unreachable-requires : goal.unreachable-requires
unreachable-requires c =
    let u : IsUtf8 c.in_ok-quoted_word.field-0.items = rw c.in_ok-quoted_word.ensures (quoted_utf8 c.as_bytes-2.result.now c.as_bytes-2.ensures.utf8) in
    search (rules, c.from_utf8.ensures.succeeds u)
