-- The text that `get_one` reads of an id is that of its row.
use Rattle.std.proofs.Common.{◌∙◌, ap, option_and_then}
use Rattle.std.specs.Prelude.{Option}
use Rattle.std.specs.Str.Parse.{ParsesUnsigned, ExplainsUnsignedError, HasUnsignedDigitsIfOk}
use Rattle.clap.specs.Words.{Text, found_of, one_text}
use Rattle.clap.proofs.WalkLemmas.{one_text-rows}
use Rattle.command_line.specs.Asked.{number_of}
use Rattle.command_line.proofs.ClapReads.{reads_number}
use Rattle.command_line.proofs.values.Values.number.Goals as goal

pub returns : goal.returns
returns c =
    reads_number _ (λ bs r. ParsesUnsigned 32 10 bs r × ExplainsUnsignedError 10 bs r × HasUnsignedDigitsIfOk bs r)
    (one_text (found_of c.args.self.now.matches.now) c.args.id.now) c.get_one.result (λ t x g. g.0)
    c.get_one.ensures.none c.get_one.ensures.value
    ∙ ap (λ (o : Option Text). option_and_then number_of o) (one_text-rows (found_of c.args.self.now.matches.now) c.args.id.now)
