-- The variables that are ground by the covered places hold those in their types.
use Rattle.std.proofs.Common.{◌≡◌, ℕ, List, [], ◌∷◌, inl, inr, refl, sym, ap, ◌∙◌, subst}
use Rattle.std.specs.Prelude.{Bool, true, false, ◌⊎◌, Some}
use Rattle.lf.specs.Syntax.{LfType, Kind}
use Rattle.lf.specs.Typing.{Signature, TypeAt, IsContext, IsType, IsSignature}
use Rattle.lf.specs.Variables.{target, target_arguments, UsesType, everything, nothing}
use Rattle.lf.proofs.Agreement.{uses_type_within}
use Rattle.lf.proofs.Partial.{uses_type_all}
use Rattle.lf_checks.specs.Clause.{Clause, scope, variables, outside}
use Rattle.lf_checks.specs.Ground.{ground_by, ground_after}
use Rattle.lf_checks.specs.Marks.{Mark, input, output, input_places, output_places, MentionChosenOnly, UsesPlaces}
use Rattle.lf_checks.specs.Strict.{strict_goal}
use Rattle.lf_checks.specs.Tests.{both, either}
use Rattle.lf_checks.proofs.StrictTypes.{either_cases}
use Rattle.lf_cases.specs.Pattern.{is_given, ground_in}
use Rattle.lf_cases.proofs.GroundTypes.{clause_typed, either_left, outside_types, first_closed, after_closed}
use Rattle.lf_totality.proofs.OutputCases.{either_in}
use Rattle.lf_coverage.specs.Matching.{HoldsTypes}
use Rattle.lf_coverage.specs.MatchingLaws.{HeadGroundHoldsTypes, GoalGroundHoldsTypes}
use mathlib.Core.Path.{fun_ext}

-- marks of which the inputs, or the outputs, are these places
abbrev inputs_at : List Bool → List Mark
inputs_at [] = []
inputs_at (true ∷ m) = input ∷ inputs_at m
inputs_at (false ∷ m) = output ∷ inputs_at m

inputs_are : (m : List Bool) → input_places (inputs_at m) ≡ m
inputs_are [] = refl
inputs_are (true ∷ m) = ap (λ b. true ∷ b) (inputs_are m)
inputs_are (false ∷ m) = ap (λ b. false ∷ b) (inputs_are m)

abbrev pub outputs_at : List Bool → List Mark
outputs_at [] = []
outputs_at (true ∷ m) = output ∷ outputs_at m
outputs_at (false ∷ m) = input ∷ outputs_at m

pub outputs_are : (m : List Bool) → output_places (outputs_at m) ≡ m
outputs_are [] = refl
outputs_are (true ∷ m) = ap (λ b. true ∷ b) (outputs_are m)
outputs_are (false ∷ m) = ap (λ b. false ∷ b) (outputs_are m)

-- what the covered places of the head of a typed clause make ground holds the variables in its types
pub typed_ground_holds : (Σ : Signature) → IsSignature Σ → (c : Clause) → IsContext Σ c.outer → IsType Σ c.outer c.type → (K : Kind) → Σ.kinds (target c.type) ≡ Some K → (m : List Bool) → MentionChosenOnly nothing m K → UsesPlaces (ground_by everything m c) m (target_arguments c.type) → HoldsTypes (ground_by everything m c) (scope c)
typed_ground_holds Σ ok c o t K k m v u =
    subst (λ b. UsesPlaces (ground_by everything b c) b (target_arguments c.type) → HoldsTypes (ground_by everything b c) (scope c)) (inputs_are m)
    (λ w. first_closed Σ ok (λ a. inputs_at m) c K o t k (subst (λ b. MentionChosenOnly nothing b K) (sym (inputs_are m)) v) w)
    u

pub head_ground_holds_types : HeadGroundHoldsTypes
head_ground_holds_types Σ ok W typed c i K k m v u = let (o, t) = clause_typed Σ ok W typed c i in typed_ground_holds Σ ok c o t K k m v u

pub either_three : (a b d : Bool) → either (either a b) d ≡ either a (either b d)
either_three true b d = refl
either_three false b d = refl

pub goal_ground_holds_types : GoalGroundHoldsTypes
goal_ground_holds_types Σ ok p tp m Ms h u =
    let c : Clause = p.clause in
    let U : ℕ → Bool = λ i. either (is_given Ms i) (outside p.clause.type everything i) in
    let e : (λ i. either (either (is_given Ms i) (outside p.clause.type everything i)) (both (variables p.clause i) (strict_goal m nothing (outside p.clause.type p.clause.fixed) i p.type))) ≡ ground_in p m Ms = fun_ext (λ i. either_three (is_given Ms i) (outside p.clause.type everything i) (both (variables p.clause i) (strict_goal m nothing (outside p.clause.type p.clause.fixed) i p.type))) in
    let q : ground_after (λ a. outputs_at m) p.clause p.type U ≡ ground_in p m Ms = ap (λ b i. either (U i) (both (variables p.clause i) (strict_goal b nothing (outside p.clause.type p.clause.fixed) i p.type))) (outputs_are m) ∙ e in
    subst (λ V. UsesType V p.type → HoldsTypes V (scope p.clause)) q
    (λ w. after_closed Σ ok (λ a. outputs_at m) p.clause U p.type tp.clause_typed tp.type_typed (λ i o. either_in (is_given Ms i) o) (λ i X g z. by i X g (either_cases (is_given Ms i) (outside p.clause.type everything i) z)) w)
    u
  where
    by : (i : ℕ) (X : LfType) → TypeAt (scope p.clause) i X → (is_given Ms i ≡ true) ⊎ (outside p.clause.type everything i ≡ true) → UsesType (λ j. either (is_given Ms j) (outside p.clause.type everything j)) X
    by i X g (inl z) = uses_type_within (is_given Ms) (λ j. either (is_given Ms j) (outside p.clause.type everything j)) X (λ j y. either_left (outside p.clause.type everything j) y) (h i X g z)
    by i X g (inr z) = uses_type_within (outside p.clause.type everything) (λ j. either (is_given Ms j) (outside p.clause.type everything j)) X (λ j y. either_in (is_given Ms j) y) (outside_types p.clause.type p.clause.outer everything (λ j Y y w. uses_type_all everything Y (λ l. refl)) i X g z)
