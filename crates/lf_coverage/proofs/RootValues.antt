-- Values in the empty world, and roots under the lambdas of a typed value.
use Rattle.std.proofs.Common.{◌≡◌, ℕ, zero, suc, List, [], ◌∷◌, length, Some, refl, sym, ap, ◌∙◌, subst, arith}
use Rattle.std.specs.Prelude.{Bool, ◌<◌}
use Rattle.lf.specs.Syntax.{Head, Term, Spine, lambda, root, LfType, atom, Skeleton, skeleton, weaken}
use Rattle.lf.specs.Substitution.{Image, put, substitute_type, reduce}
use Rattle.lf.specs.AtOnce.{in_front}
use Rattle.lf.specs.Eta.{lambdas}
use Rattle.lf.specs.SkeletonTyping.{HeadSkeletons, SkeletonAt, SubstitutionBySkeletons}
use Rattle.lf.specs.Skeletons.{context_skeletons}
use Rattle.lf.specs.Typing.{Signature, TypeAt, HasType, IsContext}
use Rattle.lf.specs.Variables.{target, target_arguments, onto, binders, nothing}
use Rattle.lf.specs.Subordination.{Block}
use Rattle.lf.specs.Worlds.{World, no_variables, single_variable, lift_over}
use Rattle.lf.proofs.SkeletonTyping.{lift_by_skeletons}
use Rattle.lf.proofs.TypeLaws.{skeleton_renamed, substitute_renamed_type}
use Rattle.lf_cases.specs.Case.{IsGroundInstance}
use Rattle.lf_cases.specs.OutputGoal.{free_variables}
use Rattle.lf_coverage.proofs.Forms.{form}
use Rattle.lf_coverage.proofs.Parts.{some_same}
use mathlib.Core.Path.{fun_ext}

-- A context is one of the empty world, beside no family.
pub alone : (Σ : Signature) (F : List LfType) → IsContext Σ F → World Σ [] nothing F
alone Σ [] c = no_variables
alone Σ (A ∷ F) (c, t) = single_variable (alone Σ F c) t refl

pub front_is : (σ : ℕ → Image) (x : Image) → σ zero ≡ x → σ ≡ in_front x (λ i. σ (suc i))
front_is σ x e = fun_ext by
  where
    by : (i : ℕ) → σ i ≡ in_front x (λ j. σ (suc j)) i
    by zero = e
    by (suc i) = refl

pub ground_of : {Σ : Signature} {W : List Block} {S : ℕ → Bool} {G : List LfType} (w : World Σ W S G) (O : List LfType) (σ : ℕ → Image) → ((i : ℕ) (A : LfType) → TypeAt O i A → (N : Term) × (σ i ≡ put (skeleton A) N) × HasType Σ G N (substitute_type reduce σ A)) → IsGroundInstance w (free_variables O) σ
ground_of w [] σ f = tt
ground_of {Σ} {G = G} w (A ∷ O) σ f =
    let (N, e, n) = f zero (weaken A) refl in
    (N, (λ i. σ (suc i)), ground_of w O (λ i. σ (suc i)) (λ i B g. let (M, p, m) = f (suc i) (weaken B) (B, g, refl) in (M, p ∙ ap (λ a. put a M) (skeleton_renamed suc B), subst (HasType Σ G M) (substitute_renamed_type reduce σ suc B) m)), subst (HasType Σ G N) (substitute_renamed_type reduce σ suc A) n, front_is σ (put (skeleton A) N) (e ∙ ap (λ a. put a N) (skeleton_renamed suc A)))

pub lambdas_same : (k : ℕ) (M N : Term) → lambdas k M ≡ lambdas k N → M ≡ N
lambdas_same zero M N e = e
lambdas_same (suc k) M N e = lambdas_same k M N (inside e)
  where
    inside : lambda (lambdas k M) ≡ lambda (lambdas k N) → lambdas k M ≡ lambdas k N
    inside e = cc

pub pair_second : {x y : ℕ × ℕ} → Some x ≡ Some y → x.1 ≡ y.1
pair_second e = ap (λ (z : ℕ × ℕ). z.1) (some_same e)

pub near_skeleton : (E G : List LfType) (j : ℕ) (Z : LfType) → j < length E → TypeAt (onto E G) j Z → SkeletonAt (context_skeletons E) j (skeleton Z)
near_skeleton [] G j Z l g = absurd (omega (arith, l))
near_skeleton (A ∷ E) G zero Z l g = sym (ap skeleton g ∙ skeleton_renamed suc A)
near_skeleton (A ∷ E) G (suc j) Z l (Y, g, e) = subst (SkeletonAt (context_skeletons E) j) (sym (ap skeleton e ∙ skeleton_renamed suc Y)) (near_skeleton E G j Y (omega (arith, l)) g)

pub same_at : (Γ : List Skeleton) (i : ℕ) (t u : Skeleton) → SkeletonAt Γ i t → SkeletonAt Γ i u → t ≡ u
same_at [] i t u g h = absurd g
same_at (a ∷ Γ) zero t u g h = sym g ∙ h
same_at (a ∷ Γ) (suc i) t u g h = same_at Γ i t u g h

pub over_fits : (κ : HeadSkeletons) (D G F : List LfType) (ρ : ℕ → Image) → SubstitutionBySkeletons κ (context_skeletons G) (context_skeletons F) ρ → SubstitutionBySkeletons κ (context_skeletons (onto D G)) (context_skeletons (onto D F)) (lift_over D ρ)
over_fits κ [] G F ρ s = s
over_fits κ (A ∷ D) G F ρ s = lift_by_skeletons κ (skeleton A) (context_skeletons (onto D G)) (context_skeletons (onto D F)) (lift_over D ρ) (over_fits κ D G F ρ s)

-- A typed value with these lambdas
pub root_of : (Σ : Signature) (G : List LfType) (Y : LfType) (n : ℕ) (h : Head) (T : Spine) → length (binders [] Y) ≡ n → HasType Σ G (lambdas n (root h T)) Y → HasType Σ (binders G Y) (root h T) (atom (target Y) (target_arguments Y))
root_of Σ G Y n h T l m =
    let (k, R, e, t) = form Σ Y G (lambdas n (root h T)) m in
    subst (λ M. HasType Σ (binders G Y) M (atom (target Y) (target_arguments Y))) (sym (lambdas_same n (root h T) (root k R) (e ∙ ap (λ i. lambdas i (root k R)) l))) t
