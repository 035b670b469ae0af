use Rattle.lf_unification.proofs.OfferForm.{offer_form}
use Rattle.lf_unification.proofs.offer_keeps_form.Goals as goal

pub returns : goal.returns
returns c = offer_form
