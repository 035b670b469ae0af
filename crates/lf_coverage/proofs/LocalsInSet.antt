-- Covered places and local types whose families are in a set.
use Rattle.std.proofs.Common.{ℕ, List, [], ◌∷◌, length, sym, ap, ◌∙◌}
use Rattle.std.specs.Prelude.{Bool, true, false}
use Rattle.lf.specs.AtOnce.{lift_renaming_by}
use Rattle.lf.specs.Substitution.{Image, reduce}
use Rattle.lf.specs.Syntax.{LfType, Kind, kind_pi, star}
use Rattle.lf.specs.Variables.{KindFamiliesIn}
use Rattle.lf.specs.Worlds.{lift_over, instance}
use Rattle.lf.proofs.Strength.{families_renamed, families_substituted}
use Rattle.lf.proofs.Target.{target_of, target_renamed}
use Rattle.lf_cases.specs.OutputGoal.{renumber}
use Rattle.lf_coverage.specs.Calls.{LocalsIn, PlacesIn}
use Rattle.lf_coverage.specs.SplitStore.{AllFamiliesIn}

module _ (S : ℕ → Bool) where
  -- where all their families are
  pub places_in : (bs : List Bool) (K : Kind) → KindFamiliesIn S K → PlacesIn S bs K
  places_in [] K k = tt
  places_in (b ∷ bs) star k = tt
  places_in (true ∷ bs) (kind_pi A K) (a, k) = (a, places_in bs K k)
  places_in (false ∷ bs) (kind_pi A K) (a, k) = places_in bs K k

  pub locals_in : (D : List LfType) → AllFamiliesIn S D → LocalsIn S D
  locals_in [] d = tt
  locals_in (A ∷ D) (a, d) = ((λ s. a), locals_in D d)

  -- where values are put in, and renumbered
  pub locals_put : (L : List LfType) (σ : ℕ → Image) → LocalsIn S L → LocalsIn S (instance L σ)
  locals_put [] σ l = tt
  locals_put (A ∷ L) σ (a, l) = ((λ s. families_substituted S reduce (lift_over L σ) A (a (ap S (sym (target_of reduce (lift_over L σ) A)) ∙ s))), locals_put L σ l)

  pub locals_moved : (ρ : ℕ → ℕ) (L : List LfType) → LocalsIn S L → LocalsIn S (renumber ρ L)
  locals_moved ρ [] l = tt
  locals_moved ρ (A ∷ L) (a, l) = ((λ s. families_renamed S (lift_renaming_by (length L) ρ) A (a (ap S (sym (target_renamed (lift_renaming_by (length L) ρ) A)) ∙ s))), locals_moved ρ L l)
