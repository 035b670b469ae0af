-- Where the goal of output coverage of a constant's subgoal is covered, so are its outputs.
use Rattle.std.proofs.Common.{◌≡◌, ℕ, List, [], refl, sym, ◌∙◌, ◌∷◌}
use Rattle.std.specs.Prelude.{Bool, Some, None}
use Rattle.lf.specs.Syntax.{LfType, Kind}
use Rattle.lf.specs.Substitution.{Image}
use Rattle.lf.specs.Typing.{Signature, IsContext, IsSignature}
use Rattle.lf.specs.Variables.{target, binders, everything, Within}
use Rattle.lf.specs.Subordination.{Block, AreTypedBlocks}
use Rattle.lf.specs.Worlds.{World}
use Rattle.lf_checks.specs.Clause.{Clause, scope, IsSubgoal, constant_clause, outside}
use Rattle.lf_checks.specs.Marks.{Mark, input_places, NoneFree}
use Rattle.lf_checks.specs.Ground.{UsesGoal}
use Rattle.lf_checks.specs.Worlded.{IsSequence}
use Rattle.lf_checks.specs.Below.{IsSubordination}
use Rattle.lf_cases.specs.Cover.{CoveredOutputs}
use Rattle.lf_cases.specs.Raised.{PlacesBelow, CoveredLowOutputs}
use Rattle.lf_cases.specs.Pattern.{Origin, of_constant, subgoal_pattern, IsCoveredCase}
use Rattle.lf_cases.specs.OutputGoal.{output_goal, goal_masks, closed_over}
use Rattle.lf_cases.proofs.Assemble.{binders_typed}
use Rattle.lf_totality.proofs.GoalHolds.{goal_gives, goal_holds, places_of_goal, HoldsOutside}
use Rattle.lf_cases.proofs.KeptItems.{behind}
use Rattle.lf_totality.proofs.OutputCases.{held_is_covered}
use Rattle.lf_totality.proofs.RaisedOutputs.{low_cover}

some_same : {K L : Kind} → Some K ≡ Some L → K ≡ L
some_same e = cc

-- nothing stands outside a constant
pub nothing_outside : (V : LfType) (U : ℕ → Bool) {Σ : Signature} {W : List Block} {S : ℕ → Bool} {G : List LfType} (w : World Σ W S G) (σ : ℕ → Image) → HoldsOutside (of_constant V) U w None σ
nothing_outside V U w σ = record {
  values = behind (binders [] V) σ;
  is_ground = tt;
  first = tt;
  gives = record { fits = λ i t g. absurd g; same = λ i u. refl; skeletons = λ i t g u. absurd g };
}

pub constant_goal_covers : (Σ : Signature) → IsSignature Σ → (W : List Block) → AreTypedBlocks Σ W → (below : ℕ → ℕ → Bool) → IsSubordination Σ W below → (m : ℕ → List Mark) (f k : ℕ) (V : LfType) → Σ.types k ≡ Some V → (U : ℕ → Bool) → Within (outside V everything) U → (i : ℕ) (A : LfType) → IsSubgoal (constant_clause V) i A → IsSequence Σ W (scope (constant_clause V)) (binders [] A) → NoneFree (m (target A)) → UsesGoal U (input_places (m (target A))) A → (K : Kind) → Σ.kinds (target A) ≡ Some K → PlacesBelow Σ below f K → IsCoveredCase Σ W (below f) (subgoal_pattern (constant_clause V) (of_constant V) A ∷ []) (output_goal below m (of_constant V) U A K) → CoveredOutputs Σ m W (below f) (constant_clause V) U A
constant_goal_covers Σ ok W typed below s m f k V e U all_out i A sub seq none needs K ek low cover =
    let c : Clause = constant_clause V in
    let o : Origin c = of_constant V in
    let ct : IsContext Σ (scope c) = binders_typed Σ ok V [] tt (ok.types_ok k V e) in
    let raised : CoveredLowOutputs Σ below m W (below f) c U A = λ Σ' x G w h θ off σ v out ts T K' e' p fit cg r.
    let q : K' ≡ K = some_same (sym e' ∙ x.kinds_stay (target A) K ek) in
    held_is_covered Σ ok W m (below f) c o U i A all_out ct sub none needs (output_goal below m o U A K) (goal_gives below m o U A K) cover Σ' x G w None θ σ tt v out ts T (places_of_goal Σ' _ (goal_masks below m o (closed_over (binders [] c.type) U) A K) (binders [] A) (m (target A)) _ T K p (Rattle.std.proofs.Common.subst (Rattle.lf.specs.Typing.SpineFitsKind Σ' _ T) q fit)) p (goal_holds Σ ok W below m (below f) c o U i A ct sub none needs K ek Σ' x G w None σ v ts (nothing_outside V U w σ) T p (Rattle.std.proofs.Common.subst (Rattle.lf.specs.Typing.SpineFitsKind Σ' _ T) q fit) cg (Rattle.std.proofs.Common.subst (Rattle.lf_cases.specs.Raised.LowPlaces below (binders [] (Rattle.lf.specs.Substitution.substitute_type Rattle.lf.specs.Substitution.reduce σ A)) (Rattle.lf_checks.specs.Marks.output_places (m (target A))) T) q r)) in
    low_cover Σ ok W below s m f typed c U i A ct sub seq needs (λ L l. Rattle.std.proofs.Common.subst (PlacesBelow Σ below f) (some_same (sym ek ∙ l)) low) raised
