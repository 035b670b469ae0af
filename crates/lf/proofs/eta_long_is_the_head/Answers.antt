use Rattle.lf.proofs.Eta.{reduction_eta, single_eta}
use Rattle.lf.proofs.AtOnce.{eta_long_has_skeleton}
use Rattle.lf.proofs.eta_long_is_the_head.Goals as goal

pub returns : goal.returns
returns c = λ κ a Δ. (eta_long_has_skeleton κ Δ a, reduction_eta κ a Δ, single_eta κ a Δ)
