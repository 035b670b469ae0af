-- Values that are the same, as terms, on what a pattern uses make the same of it; and values of one part of a context put into those of another.
use Rattle.std.proofs.Common.{◌≡◌, ℕ, zero, suc, List, [], ◌∷◌, refl, sym, ap, ◌∙◌, subst}
use Rattle.std.specs.Prelude.{Bool, true, false}
use Rattle.lf.specs.Syntax.{Spine, nil, app, LfType, Kind, kind_pi, star, pi, atom, Skeleton, skeleton, rename}
use Rattle.lf.specs.Substitution.{Image, keep, put, lift, rename_image, substitute_spine, substitute_type, reduce}
use Rattle.lf.specs.SkeletonTyping.{ImageSkeleton, TermSkeleton, SubstitutionBySkeletons}
use Rattle.lf.specs.Skeletons.{constant_skeletons, context_skeletons}
use Rattle.lf.specs.Typing.{Signature, TypeAt, ImageHasType, SpineFitsKind, IsTypedSubstitution, IsType, IsContext, IsSignature, instantiate_kind}
use Rattle.lf.specs.Variables.{target_arguments, under, UsesType, Values}
use Rattle.lf.proofs.Agreement.{agree_on_type, uses_type_within}
use Rattle.lf.proofs.Patch.{pick}
use Rattle.lf.proofs.Substitution.{typed_substitution_by_skeletons}
use Rattle.lf.proofs.SkeletonTyping.{lift_by_skeletons}
use Rattle.lf.proofs.ToSkeletons.{typed_has_skeleton, variable_has_skeleton, skeleton_has_variable}
use Rattle.lf.proofs.TypeLaws.{skeleton_renamed, skeleton_substituted}
use Rattle.lf.proofs.Weakening.{declared_is_type}
use Rattle.lf_checks.specs.Ground.{UsesGoal}
use Rattle.lf_checks.specs.Marks.{SamePlaces, UsesPlaces}
use Rattle.lf_checks.specs.Tests.{either}
use Rattle.lf_cases.specs.Case.{as_term}
use Rattle.lf_coverage.proofs.Carried.{like_term, like_type}
use Rattle.lf_coverage.proofs.InstanceOfItself.{moved_term}

pub image_fits : (Σ : Signature) (G : List LfType) (x : Image) (A : LfType) → ImageHasType Σ G x A → ImageSkeleton (constant_skeletons Σ) (context_skeletons G) x (skeleton A)
image_fits Σ G (keep j) A h = variable_has_skeleton G j A h
image_fits Σ G (put a N) A (e, n) = (sym e, subst (TermSkeleton (constant_skeletons Σ) (context_skeletons G) N) e (typed_has_skeleton Σ G N A n))

-- Values that are the same on U, as terms
abbrev pub Alike : List LfType → (ℕ → Bool) → (ℕ → Image) → (ℕ → Image) → Type 0
Alike O U ω v = (i : ℕ) (X : LfType) → TypeAt O i X → U i ≡ true → as_term (skeleton X) (ω i) ≡ as_term (skeleton X) (v i)

alike_under : (O : List LfType) (U : ℕ → Bool) (ω v : ℕ → Image) (A : LfType) → Alike O U ω v → Alike (A ∷ O) (under U) (lift ω) (lift v)
alike_under O U ω v A h zero X g u = refl
alike_under O U ω v A h (suc i) X (Y, g, e) u =
    ap (λ a. as_term a (rename_image suc (ω i))) (ap skeleton e ∙ skeleton_renamed suc Y)
    ∙ moved_term suc (skeleton Y) (ω i)
    ∙ ap (rename suc) (h i Y g u)
    ∙ sym (moved_term suc (skeleton Y) (v i))
    ∙ ap (λ a. as_term a (rename_image suc (v i))) (sym (ap skeleton e ∙ skeleton_renamed suc Y))

module _ (Σ : Signature) where
  like_places : (O : List LfType) (Δ : List Skeleton) (U : ℕ → Bool) (ω v : ℕ → Image) → SubstitutionBySkeletons (constant_skeletons Σ) (context_skeletons O) Δ ω → SubstitutionBySkeletons (constant_skeletons Σ) (context_skeletons O) Δ v → Alike O U ω v → (b : List Bool) (S T : Spine) (K : Kind) → SpineFitsKind Σ O S K → UsesPlaces U b S → SamePlaces b T (substitute_spine reduce ω S) → SamePlaces b T (substitute_spine reduce v S)
  like_places O Δ U ω v f g h [] nil nil K k u s = tt
  like_places O Δ U ω v f g h [] nil (app N T) K k u s = absurd s
  like_places O Δ U ω v f g h [] (app M S) nil K k u s = absurd s
  like_places O Δ U ω v f g h [] (app M S) (app N T) K k u s = absurd s
  like_places O Δ U ω v f g h (x ∷ b) nil nil K k u s = absurd s
  like_places O Δ U ω v f g h (x ∷ b) (app M S) nil K k u s = absurd s
  like_places O Δ U ω v f g h (x ∷ b) nil (app N T) K k u s = absurd s
  like_places O Δ U ω v f g h (x ∷ b) (app M S) (app N T) star k u s = absurd k
  like_places O Δ U ω v f g h (true ∷ b) (app M S) (app N T) (kind_pi A K) (m, k) (n, u) (e, s) = (e ∙ like_term Σ O Δ U ω v f g h M (skeleton A) (typed_has_skeleton Σ O M A m) n, like_places O Δ U ω v f g h b S T (instantiate_kind A M K) k u s)
  like_places O Δ U ω v f g h (false ∷ b) (app M S) (app N T) (kind_pi A K) (m, k) u s = like_places O Δ U ω v f g h b S T (instantiate_kind A M K) k u s

  pub like_goal : (O : List LfType) (Δ : List Skeleton) (U : ℕ → Bool) (ω v : ℕ → Image) → SubstitutionBySkeletons (constant_skeletons Σ) (context_skeletons O) Δ ω → SubstitutionBySkeletons (constant_skeletons Σ) (context_skeletons O) Δ v → Alike O U ω v → (b : List Bool) (P : LfType) (T : Spine) → IsType Σ O P → UsesGoal U b P → SamePlaces b T (target_arguments (substitute_type reduce ω P)) → SamePlaces b T (target_arguments (substitute_type reduce v P))
  like_goal O Δ U ω v f g h b (atom a S) T (K, e, k) u s = like_places O Δ U ω v f g h b S T K k u s
  like_goal O Δ U ω v f g h b (pi A B) T (ta, tb) (ua, ub) s = like_goal (A ∷ O) (skeleton A ∷ Δ) (under U) (lift ω) (lift v) (lift_by_skeletons (constant_skeletons Σ) (skeleton A) (context_skeletons O) Δ ω f) (lift_by_skeletons (constant_skeletons Σ) (skeleton A) (context_skeletons O) Δ v g) (alike_under O U ω v A h) b B T tb ub s

-- Typed values ω of a context, of which those in the set U count, and typed values v of the set K, which are the same where both are meant.
module _ (Σ : Signature) (ok : IsSignature Σ) (O G : List LfType) (co : IsContext Σ O) (ω : ℕ → Image) (tω : IsTypedSubstitution Σ O G ω) (U : ℕ → Bool) (closed : (i : ℕ) (A : LfType) → TypeAt O i A → U i ≡ true → UsesType U A) (K : ℕ → Bool) (v : ℕ → Image) (tv : Values Σ K O G v) (alike : (i : ℕ) (X : LfType) → TypeAt O i X → U i ≡ true → K i ≡ true → as_term (skeleton X) (ω i) ≡ as_term (skeleton X) (v i)) where
  abbrev pub mixed : ℕ → Image
  mixed i = pick (K i) (v i) (ω i)

  pub mixed_known : (i : ℕ) → K i ≡ true → mixed i ≡ v i
  mixed_known i e = ap (λ b. pick b (v i) (ω i)) e

  mixed_other : (i : ℕ) → K i ≡ false → mixed i ≡ ω i
  mixed_other i e = ap (λ b. pick b (v i) (ω i)) e

  ω_fits : SubstitutionBySkeletons (constant_skeletons Σ) (context_skeletons O) (context_skeletons G) ω
  ω_fits = typed_substitution_by_skeletons Σ ok O G ω tω

  mixed_fits : SubstitutionBySkeletons (constant_skeletons Σ) (context_skeletons O) (context_skeletons G) mixed
  mixed_fits i t s = by (K i) refl
    where
      by : (b : Bool) → K i ≡ b → ImageSkeleton (constant_skeletons Σ) (context_skeletons G) (mixed i) t
      by true e = let (A, h, q) = skeleton_has_variable O i t s in subst (λ y. ImageSkeleton (constant_skeletons Σ) (context_skeletons G) y t) (sym (mixed_known i e)) (subst (ImageSkeleton (constant_skeletons Σ) (context_skeletons G) (v i)) (skeleton_substituted reduce v A ∙ q) (image_fits Σ G (v i) (substitute_type reduce v A) (tv.typed i A h e)))
      by false e = subst (λ y. ImageSkeleton (constant_skeletons Σ) (context_skeletons G) y t) (sym (mixed_other i e)) (ω_fits i t s)

  pub mixed_alike : Alike O U ω mixed
  mixed_alike i X h u = by (K i) refl
    where
      by : (b : Bool) → K i ≡ b → as_term (skeleton X) (ω i) ≡ as_term (skeleton X) (mixed i)
      by true e = alike i X h u e ∙ ap (as_term (skeleton X)) (sym (mixed_known i e))
      by false e = ap (as_term (skeleton X)) (sym (mixed_other i e))

  in_either : (a b : Bool) → either a b ≡ true → a ≡ false → b ≡ true
  in_either true b e f = absurd cc
  in_either false b e f = e

  left_either : (a b : Bool) → a ≡ true → either a b ≡ true
  left_either true b e = refl
  left_either false b e = absurd cc

  right_either : (a b : Bool) → b ≡ true → either a b ≡ true
  right_either true b e = refl
  right_either false b e = e

  pub mixed_typed : Values Σ (λ i. either (K i) (U i)) O G mixed
  mixed_typed = record { typed = λ i A h u. by i A h u (K i) refl; closed = λ i A h u. uses i A h u (K i) refl }
    where
      by : (i : ℕ) (A : LfType) → TypeAt O i A → either (K i) (U i) ≡ true → (b : Bool) → K i ≡ b → ImageHasType Σ G (mixed i) (substitute_type reduce mixed A)
      by i A h u true e = subst (λ y. ImageHasType Σ G y (substitute_type reduce mixed A)) (sym (mixed_known i e)) (subst (ImageHasType Σ G (v i)) (agree_on_type reduce K v mixed A (λ j k. sym (mixed_known j k)) (tv.closed i A h e)) (tv.typed i A h e))
      by i A h u false e = subst (λ y. ImageHasType Σ G y (substitute_type reduce mixed A)) (sym (mixed_other i e)) (subst (ImageHasType Σ G (ω i)) (like_type Σ O (context_skeletons G) U ω mixed ω_fits mixed_fits mixed_alike A (declared_is_type Σ ok O i A co h) (closed i A h (in_either (K i) (U i) u e))) (tω i A h))

      uses : (i : ℕ) (A : LfType) → TypeAt O i A → either (K i) (U i) ≡ true → (b : Bool) → K i ≡ b → UsesType (λ j. either (K j) (U j)) A
      uses i A h u true e = uses_type_within K (λ j. either (K j) (U j)) A (λ j k. left_either (K j) (U j) k) (tv.closed i A h e)
      uses i A h u false e = uses_type_within U (λ j. either (K j) (U j)) A (λ j k. right_either (K j) (U j) k) (closed i A h (in_either (K i) (U i) u e))

  pub mixed_goal : (b : List Bool) (P : LfType) (T : Spine) → IsType Σ O P → UsesGoal U b P → SamePlaces b T (target_arguments (substitute_type reduce ω P)) → SamePlaces b T (target_arguments (substitute_type reduce mixed P))
  mixed_goal b P T t u s = like_goal Σ O (context_skeletons G) U ω mixed ω_fits mixed_fits mixed_alike b P T t u s
