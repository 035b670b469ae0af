use Rattle.tw_resolve.proofs.Fitting.{fits}
use Rattle.tw_resolve.proofs.laws.resolved_fits.Goals as goal

pub returns : goal.returns
returns c = fits
