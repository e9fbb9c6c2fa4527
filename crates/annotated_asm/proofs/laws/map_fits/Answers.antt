use Rattle.annotated_asm.proofs.Fitting.{text_fits}
use Rattle.annotated_asm.proofs.laws.map_fits.Goals as goal

pub returns : goal.returns
returns c = text_fits
