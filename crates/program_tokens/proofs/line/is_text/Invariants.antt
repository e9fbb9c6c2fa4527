-- So far each byte is one that a line may have, or one was not.
use Rattle.std.proofs.Common.{◌≡◌, take}
use Rattle.std.specs.List.{list_all}
use Rattle.program_tokens.specs.Grammar.{is_text_byte}
use Rattle.program_tokens.proofs.line.is_text.Given as goal

abbrev pub invariant-loop-byte : goal.invariant-loop-byte
invariant-loop-byte l = l.all ≡ list_all is_text_byte (take l.byte-index l.bytes)
