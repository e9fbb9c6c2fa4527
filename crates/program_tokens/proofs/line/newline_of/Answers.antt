-- The first place of a byte is what the search finds.
use Rattle.program_tokens.proofs.Newlines.{first_newline}
use Rattle.program_tokens.proofs.line.newline_of.Goals as goal

pub returns : goal.returns
returns c = first_newline c.args.text.now c.memchr.result c.memchr.ensures
