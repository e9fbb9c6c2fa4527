-- A name is ASCII, so it is text.
use Rattle.std.proofs.Common.{sym, subst}
use Rattle.std.specs.Str.{IsUtf8}
use Rattle.task_descriptor.proofs.NameText.{name_is_text}
use Rattle.task_descriptor.proofs.name.Name.as_str.Goals as goal

pub unreachable-requires : goal.unreachable-requires
unreachable-requires c =
    c.in-Err.ensures.cases.0 (subst IsUtf8 (sym c.bytes.ensures.bytes) (name_is_text c.args.self.now c.bytes.ensures.name))
