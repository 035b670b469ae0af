-- A ground instance has the skeletons of its items.
use Rattle.std.proofs.Common.{ℕ, zero, suc, List, [], ◌∷◌, refl, sym, ◌∙◌, subst}
use Rattle.std.specs.Prelude.{Bool}
use Rattle.lf.specs.Syntax.{LfType, Skeleton, skeleton}
use Rattle.lf.specs.Substitution.{Image, substitute_type, reduce}
use Rattle.lf.specs.SkeletonTyping.{TermSkeleton, SubstitutionBySkeletons}
use Rattle.lf.specs.Skeletons.{constant_skeletons, context_skeletons}
use Rattle.lf.specs.Typing.{Signature, IsSignature}
use Rattle.lf.specs.Variables.{onto}
use Rattle.lf.specs.Subordination.{Block}
use Rattle.lf.specs.Worlds.{World, lift_over, instance}
use Rattle.lf.proofs.Substitution.{typed_substitution_by_skeletons}
use Rattle.lf.proofs.ToSkeletons.{typed_has_skeleton}
use Rattle.lf.proofs.TypeLaws.{skeleton_substituted}
use Rattle.lf_cases.specs.Case.{Item, free_variable, block_variable, items_context, entries_in_front, IsGroundInstance}
use Rattle.lf_cases.proofs.Instances.{instance_typed}
use Rattle.lf_cases.proofs.OutputItems.{in_front_fits}

front_fits : (Σ : Signature) (ds O C : List LfType) (Δ : List Skeleton) (υ θ τ : ℕ → Image) → SubstitutionBySkeletons (constant_skeletons Σ) (context_skeletons (onto ds O)) Δ θ → SubstitutionBySkeletons (constant_skeletons Σ) (context_skeletons C) Δ τ → SubstitutionBySkeletons (constant_skeletons Σ) (context_skeletons (onto (instance ds υ) C)) Δ (entries_in_front ds θ τ)
front_fits Σ [] O C Δ υ θ τ t s i u g = s i u g
front_fits Σ (D ∷ ds) O C Δ υ θ τ t s zero u g = t zero u (sym (skeleton_substituted reduce (lift_over ds υ) D) ∙ g)
front_fits Σ (D ∷ ds) O C Δ υ θ τ t s (suc i) u g = front_fits Σ ds O C Δ υ (λ j. θ (suc j)) τ (λ j. t (suc j)) s i u g

pub ground_fits : (Σ : Signature) (ok : IsSignature Σ) {W : List Block} {S : ℕ → Bool} {G : List LfType} (w : World Σ W S G) (I : List Item) (σ : ℕ → Image) → IsGroundInstance w I σ → SubstitutionBySkeletons (constant_skeletons Σ) (context_skeletons (items_context I)) (context_skeletons G) σ
ground_fits Σ ok w [] σ g = λ i t h. absurd h
ground_fits Σ ok {G = G} w (free_variable A ∷ I) σ (N, τ, g, n, e) = subst (SubstitutionBySkeletons (constant_skeletons Σ) (skeleton A ∷ context_skeletons (items_context I)) (context_skeletons G)) (sym e) (in_front_fits (constant_skeletons Σ) (context_skeletons (items_context I)) (context_skeletons G) (skeleton A) N τ (subst (TermSkeleton (constant_skeletons Σ) (context_skeletons G) N) (skeleton_substituted reduce τ A) (typed_has_skeleton Σ G N (substitute_type reduce τ A) n)) (ground_fits Σ ok w I τ g))
ground_fits Σ ok {G = G} w (block_variable B υ ∷ I) σ (θ, τ, g, i, s, e) = subst (SubstitutionBySkeletons (constant_skeletons Σ) (context_skeletons (onto (instance B.entries υ) (items_context I))) (context_skeletons G)) (sym e) (front_fits Σ B.entries B.some (items_context I) (context_skeletons G) υ θ τ (typed_substitution_by_skeletons Σ ok (onto B.entries B.some) G θ (λ k X h. (instance_typed Σ ok w B θ i).typed.typed k X h refl)) (ground_fits Σ ok w I τ g))
