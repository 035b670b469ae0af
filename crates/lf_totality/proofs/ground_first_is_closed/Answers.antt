use Rattle.lf_cases.proofs.GroundTypes.{first_closed}
use Rattle.lf.specs.Variables.{target, nothing}
use Rattle.lf_checks.proofs.Marks.{sound_inputs}
use Rattle.lf_totality.proofs.ground_first_is_closed.Goals as goal

pub returns : goal.returns
returns c = λ Σ ok m c o t h u. let (K, e, s) = h.0 in first_closed Σ ok m c K o t e (sound_inputs nothing (m (target c.type)) K s h.1) u
