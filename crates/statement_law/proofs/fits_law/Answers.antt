use Rattle.statement_law.proofs.Works.{fits_law}
use Rattle.statement_law.proofs.fits_law.Goals as goal

pub returns : goal.returns
returns c = fits_law
