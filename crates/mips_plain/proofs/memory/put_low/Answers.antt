use Rattle.std.proofs.Common.{rules}
use Rattle.mips_plain.proofs.ByteLemmas.{put_low_bytes}
use Rattle.mips_plain.proofs.memory.put_low.Goals as goal

pub returns-clause-bytes : goal.returns-clause-bytes
returns-clause-bytes c =
    put_low_bytes c.args.size c.args.word c.args.at c.args.bytes.now.items c.write_at.new.bytes.items c.to_le_bytes.result
    c.requires.size (search rules) c.to_le_bytes.ensures c.write_at.ensures.items
