use Rattle.std.specs.Prelude.{◌≡◌, true}
use Rattle.lf_checks.proofs.Numbered.{walked}
use Rattle.lf_checks.proofs.ground_is_walked.Goals as goal

pub returns : goal.returns
returns c = λ V m k p q. walked V m k (λ U A. p U A ≡ true) (λ U. q U ≡ true)
