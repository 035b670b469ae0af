use Rattle.lf_search.proofs.HolesStay.{child_holes, root_holes}
use Rattle.lf_search.proofs.holes_stay_open.Goals as goal

pub returns : goal.returns
returns c = λ sg ok. (root_holes sg ok, λ node g gs D a T h A s n is e d w o. child_holes sg ok node g gs D a T h A s n is e d w o)
