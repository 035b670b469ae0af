use Rattle.tw_approx.proofs.Objects.{fits_objects}
use Rattle.tw_approx.proofs.laws.what_fits_is_of_objects.Goals as goal

pub returns : goal.returns
returns c = fits_objects
