-- A metavariable of a base type is a pattern on no argument.
use Rattle.std.proofs.Common.{ℕ, []}
use Rattle.lf.specs.Syntax.{base}
use Rattle.lf_unification.specs.Inversion.{IsPattern}

pub no_argument_of : (a : ℕ) → IsPattern [] (base a) []
no_argument_of a = record { places = λ Γ. tt; distinct = λ i j e. e }
