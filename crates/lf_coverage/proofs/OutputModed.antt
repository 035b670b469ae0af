-- Goals of outputs of a well-moded clause.
use Rattle.std.proofs.Common.{◌≡◌, ◌<◌, ℕ, zero, suc, List, [], refl, sym, ap, subst, arith}
use Rattle.std.specs.Prelude.{Bool, true, false, Option, Some, None}
use Rattle.lf.specs.Syntax.{LfType}
use Rattle.lf.specs.Typing.{Signature, TypeAt, IsContext, IsSignature}
use Rattle.lf.specs.Variables.{target, target_arguments, everything, nothing, UsesType, Within}
use Rattle.lf.proofs.Weakening.{declared_is_type}
use Rattle.lf_checks.specs.Tests.{both, either}
use Rattle.lf_checks.specs.Clause.{Clause, scope, variables, outside, IsSubgoal, constant_clause}
use Rattle.lf_checks.specs.Ground.{UsesGoal, ground_after, ground_first}
use Rattle.lf_checks.specs.GroundUntil.{ground_until, ground_past}
use Rattle.lf_checks.specs.Marks.{Mark, HasSoundMarks, input_places, output_places}
use Rattle.lf_checks.specs.Modes.{AllGround, EachHypothesis, WellModed, WellModedTo}
use Rattle.lf_checks.specs.Parts.{type_at}
use Rattle.lf_checks.specs.Strict.{strict_at, strict_goal}
use Rattle.lf_checks.proofs.Marks.{sound_inputs}
use Rattle.lf_checks.proofs.Numbered.{type_both, past_variable, past_subgoal, walked}
use Rattle.lf_cases.proofs.Assemble.{binders_typed}
use Rattle.lf_cases.proofs.GroundTypes.{first_closed, after_closed}
use Rattle.lf_coverage.specs.OutputLaws.{ModedGoalsAreTyped, StrictGoalsAreTyped}
use Rattle.lf_coverage.proofs.OutputBeside.{output_goal_is_typed}
use Rattle.lf_coverage.proofs.OutputTyped.{output_goal_is_typed_case}

-- what the checks of modes give of a subgoal
pub subgoal_passes : (Σ : Signature) (m : ℕ → List Mark) (moded : ℕ → Bool) (c : Clause) → WellModed Σ m moded c → (i : ℕ) (A : LfType) → IsSubgoal c i A → HasSoundMarks Σ (target A) (m (target A)) × UsesGoal (ground_until everything m c i) (input_places (m (target A))) A
subgoal_passes Σ m moded c w i A s = let (marks, needs, hs) = ((walked everything m c (λ U B. HasSoundMarks Σ (target B) (m (target B)) × UsesGoal U (input_places (m (target B))) B × EachHypothesis (WellModedTo 0 Σ m moded) moded (scope c) (outside c.type c.fixed) U B) (λ U. AllGround m c U)).0 (w 1).1).0 i A s in (marks, needs)

pub moded_goals_are_typed : ModedGoalsAreTyped
moded_goals_are_typed Σ ok W typed below m moded c d w i A s none K e =
    let (marks, needs) = subgoal_passes Σ m moded c w i A s in
    output_goal_is_typed_case Σ ok W typed below m c d (ground_until everything m c i) i A s needs marks none K e

-- what stands outside is ground
pub starts : (m : ℕ → List Mark) (c : Clause) (l : ℕ) → outside c.type everything l ≡ true → ground_first m c l ≡ true
starts m c l v = ap (λ b. either b (both (variables c l) (strict_at (input_places (m (target c.type))) nothing (outside c.type c.fixed) l (target_arguments c.type)))) v

-- what is ground stays so
pub stays : (m : ℕ → List Mark) (c : Clause) (A : LfType) (U : ℕ → Bool) (l : ℕ) → U l ≡ true → ground_after m c A U l ≡ true
stays m c A U l u = ap (λ b. either b (both (variables c l) (strict_goal (output_places (m (target A))) nothing (outside c.type c.fixed) l A))) u

-- What is ground holds the variables in its types.
abbrev pub HoldsTypes : Clause → (ℕ → Bool) → Type 0
HoldsTypes c U = (l : ℕ) (X : LfType) → TypeAt (scope c) l X → U l ≡ true → UsesType U X

module _ (Σ : Signature) (ok : IsSignature Σ) (m : ℕ → List Mark) (c : Clause) (ct : IsContext Σ (scope c)) (first : HoldsTypes c (ground_first m c)) where
  pub closed_until : (i : ℕ) → ((j : ℕ) (B : LfType) → j < i → IsSubgoal c j B → UsesType (ground_until everything m c (suc j)) B) → Within (outside c.type everything) (ground_until everything m c i) × HoldsTypes c (ground_until everything m c i)
  closed_until zero h = ((λ l v. starts m c l v), first)
  closed_until (suc i) h = by (variables c i) refl (type_at (scope c) i) refl (closed_until i (λ j B l s. h j B (omega arith) s))
    where
      set_past : Bool → Option LfType → ℕ → Bool
      set_past b o = ground_past m c b o (ground_until everything m c i)

      by : (b : Bool) → variables c i ≡ b → (o : Option LfType) → type_at (scope c) i ≡ o → Within (outside c.type everything) (ground_until everything m c i) × HoldsTypes c (ground_until everything m c i) → Within (outside c.type everything) (ground_until everything m c (suc i)) × HoldsTypes c (ground_until everything m c (suc i))
      by true v o t k = subst (λ U. Within (outside c.type everything) U × HoldsTypes c U) (sym (past_variable everything m c i v)) k
      by false v None t k = subst (λ b. Within (outside c.type everything) (set_past b (type_at (scope c) i)) × HoldsTypes c (set_past b (type_at (scope c) i))) (sym v) (subst (λ o. Within (outside c.type everything) (set_past false o) × HoldsTypes c (set_past false o)) (sym t) k)
      by false v (Some A) t (w, k) =
          let at : TypeAt (scope c) i A = (type_both (scope c) i A).1 t in
          let q : ground_until everything m c (suc i) ≡ ground_after m c A (ground_until everything m c i) = past_subgoal everything m c i A v at in
          let uses : UsesType (ground_after m c A (ground_until everything m c i)) A = subst (λ U. UsesType U A) q (h i A (omega arith) (v, at)) in
          subst (λ U. Within (outside c.type everything) U × HoldsTypes c U) (sym q) ((λ l x. stays m c A (ground_until everything m c i) l (w l x)), after_closed Σ ok m c (ground_until everything m c i) A ct (declared_is_type Σ ok (scope c) i A ct at) w k uses)

pub strict_goals_are_typed : StrictGoalsAreTyped
strict_goals_are_typed Σ ok W typed below m moded k T there w first inputs i A s strict none K e =
    let c : Clause = constant_clause T in
    let (marks, needs) = subgoal_passes Σ m moded c w i A s in
    let ct : IsContext Σ (scope c) = binders_typed Σ ok T [] tt (ok.types_ok k T there) in
    let (X, x, sound) = (w 1).0 in
    let start : HoldsTypes c (ground_first m c) = first_closed Σ ok m c X tt (ok.types_ok k T there) x (sound_inputs nothing (m (target T)) X sound first) inputs in
    output_goal_is_typed Σ ok W typed below m k T there (ground_until everything m c i) (closed_until Σ ok m c ct start i strict).1 i A s needs marks none K e
