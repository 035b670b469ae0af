-- Outputs raised over local variables: those whose families are below their own, and those that their types mention.
use Rattle.std.specs.Prelude.{◌≡◌, ℕ, zero, suc, List, [], ◌∷◌, Bool, true, false, cond, Some}
use Rattle.lf.specs.Syntax.{Head, variable, Spine, nil, app, LfType, Kind, pi, kind_pi, star, skeleton, rename_spine, rename_type}
use Rattle.lf.specs.Substitution.{Image, substitute_type, reduce}
use Rattle.lf.specs.Typing.{Signature, SpineFitsKind, instantiate_kind, IsContext}
use Rattle.lf.specs.Eta.{add_last, eta_long}
use Rattle.lf.specs.Variables.{target, target_arguments, binders, Uses, Values, FamiliesIn, at_variable}
use Rattle.lf.specs.Subordination.{Block, IsDeclared}
use Rattle.lf.specs.Worlds.{World}
use Rattle.lf.specs.Extension.{Extends}
use Rattle.lf_unification.specs.Search.{occurs_type}
use Rattle.lf_checks.specs.Tests.{either}
use Rattle.lf_checks.specs.Clause.{Clause, scope}
use Rattle.lf_checks.specs.Marks.{Mark, input_places, output_places, SamePlaces}
use Rattle.lf_cases.specs.Cover.{Offered, AgreesOutside, AreTerms, OutputsCovered}

-- B, over the local context D, with a quantifier for each local variable that the mask chooses, one truth value for each, the newest in front.
-- The others are left out.
abbrev pub raise_by : List Bool → List LfType → LfType → LfType
raise_by ks [] B = B
raise_by [] (A ∷ D) B = B
raise_by (true ∷ ks) (A ∷ D) B = raise_by ks D (pi A B)
raise_by (false ∷ ks) (A ∷ D) B = raise_by ks D (rename_type (at_variable zero) B)

-- the local variables chosen, each eta-long, the oldest first
abbrev pub locals_by : List Bool → List LfType → Spine
locals_by ks [] = nil
locals_by [] (A ∷ D) = nil
locals_by (true ∷ ks) (A ∷ D) = add_last (rename_spine suc (locals_by ks D)) (eta_long (skeleton A) (variable zero))
locals_by (false ∷ ks) (A ∷ D) = rename_spine suc (locals_by ks D)

-- The local variables over which B is raised: those whose families are in T, and those that occur in B or in the type of a newer one over
-- which it is raised. For each of these B has got a quantifier. So nothing that is left out occurs in what is kept: subordination doesn't
-- look at the types of `some` variables, so a variable may occur in a type though its family isn't below.
abbrev pub raised_over : (ℕ → Bool) → List LfType → LfType → List Bool
raised_over T [] B = []
raised_over T (A ∷ D) B = either (T (target A)) (occurs_type zero B) ∷ raised_over T D (cond (either (T (target A)) (occurs_type zero B)) (pi A B) (rename_type (at_variable zero) B))

-- the first of several masks, and the others
abbrev pub first_mask : List (List Bool) → List Bool
first_mask [] = []
first_mask (k ∷ ks) = k

abbrev pub other_masks : List (List Bool) → List (List Bool)
other_masks [] = []
other_masks (k ∷ ks) = ks

-- the local variables whose families are in T, and all that stands outside
abbrev pub low : (ℕ → Bool) → List LfType → ℕ → Bool
low T [] i = true
low T (A ∷ D) zero = T (target A)
low T (A ∷ D) (suc i) = low T D i

-- each chosen argument uses only local variables whose families are below that of its place
abbrev pub LowPlaces : (ℕ → ℕ → Bool) → List LfType → List Bool → Spine → Kind → Type 0
LowPlaces below D [] S K = Unit {0}
LowPlaces below D (b ∷ m) nil K = Unit {0}
LowPlaces below D (b ∷ m) (app M S) star = Unit {0}
LowPlaces below D (true ∷ m) (app M S) (kind_pi A K) = Uses (low (below (target A)) D) M × LowPlaces below D m S (instantiate_kind A M K)
LowPlaces below D (false ∷ m) (app M S) (kind_pi A K) = LowPlaces below D m S (instantiate_kind A M K)

-- each place's family is declared and below a, and the families in its type are below that
abbrev pub PlacesBelow : Signature → (ℕ → ℕ → Bool) → ℕ → Kind → Type 0
PlacesBelow Σ below a (kind_pi A K) = IsDeclared Σ (target A) × (below a (target A) ≡ true) × FamiliesIn (below (target A)) A × PlacesBelow Σ below a K
PlacesBelow Σ below a star = Unit {0}

-- Covered outputs, asked only of tuples under a typed local context whose outputs use local variables of lower families: raised variables stand
-- for these.
abbrev pub CoveredLowOutputs : Signature → (ℕ → ℕ → Bool) → (ℕ → List Mark) → List Block → (ℕ → Bool) → Clause → (ℕ → Bool) → LfType → Type 0
CoveredLowOutputs Σ below m W S c U A = (Σ' : Signature) → Extends S Σ Σ' → (G : List LfType) (w : World Σ' W S G) (h : Head) (θ : ℕ → Image) → Offered w h c θ → (σ : ℕ → Image) → Values Σ' U (scope c) G σ → AgreesOutside c σ θ → AreTerms c U σ → (T : Spine) (K : Kind) → Σ'.kinds (target A) ≡ Some K → SamePlaces (input_places (m (target A))) (target_arguments (substitute_type reduce σ A)) T → SpineFitsKind Σ' (binders G (substitute_type reduce σ A)) T K → IsContext Σ' (binders G (substitute_type reduce σ A)) → LowPlaces below (binders [] (substitute_type reduce σ A)) (output_places (m (target A))) T K → OutputsCovered Σ' m c U A G σ T
