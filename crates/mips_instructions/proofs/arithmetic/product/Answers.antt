use Rattle.std.specs.Int.{w64, cast_unsigned}
use Rattle.std.proofs.Common.{ap, ◌∙◌, rules}
use Rattle.mips_instructions.proofs.ProductLemmas.{signed_product}
use Rattle.mips_instructions.proofs.arithmetic.product.Goals as goal

pub returns-in-Mult : goal.returns-in-Mult
returns-in-Mult c =
    let e =
    signed_product c.args.a c.args.b c.cast_signed.result c.cast_signed-in-Mult.result c.from.result c.from-in-Mult.result
    (search rules) (search rules) c.cast_signed.ensures c.cast_signed-in-Mult.ensures c.from.ensures c.from-in-Mult.ensures in
    rw c.in-Mult.is (c.cast_unsigned.ensures ∙ ap (cast_unsigned w64) e)
