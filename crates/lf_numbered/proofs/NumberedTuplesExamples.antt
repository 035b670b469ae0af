-- Worked stores of a case by number and a constant's pattern.
use Rattle.std.proofs.Common.{◌≡◌, ℕ, refl, arith}
use Rattle.lf_unification.specs.Steps.{constants_differ, no_step}
use Rattle.lf_numbered.specs.NumberedTuplesExamples.{CopiesAreApart}

differ : ◌≡◌ {A = ℕ} 4 2 → ⊥
differ e = omega (arith, e)

pub copies_are_apart : CopiesAreApart
copies_are_apart = (record { reached = _; run = no_step; refuted = constants_differ differ }, refl)
