-- Sound marks without `*`.
use Rattle.std.proofs.Common.{ℕ, List, [], ◌∷◌}
use Rattle.std.specs.Prelude.{Bool}
use Rattle.lf.specs.Syntax.{Kind, kind_pi, star}
use Rattle.lf.specs.Variables.{under, hide}
use Rattle.lf_checks.specs.Marks.{Mark, input, output, free, input_places, AreSound, NoneFree, MentionChosenOnly}

-- sound marks without `*`: so the input places do
pub sound_inputs : (V : ℕ → Bool) (m : List Mark) (K : Kind) → AreSound V m K → NoneFree m → MentionChosenOnly V (input_places m) K
sound_inputs V (input ∷ m) (kind_pi A K) s n = (s.0, sound_inputs (under V) m K s.1 n)
sound_inputs V (output ∷ m) (kind_pi A K) s n = sound_inputs (hide V) m K s n
sound_inputs V (free ∷ m) (kind_pi A K) s n = absurd n
sound_inputs V [] (kind_pi A K) s n = s
sound_inputs V [] star s n = s
sound_inputs V (b ∷ m) star s n = absurd s
