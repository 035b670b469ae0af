-- The inputs of a call: they don't depend on what stands at other places, and only the input places need to have values.
use Rattle.lf.specs.AtOnce.{in_front}
use Rattle.lf_checks.specs.Marks.{SamePlaces, TypedPlaces, TypedPlacesFrom, UsesPlaces}
use Rattle.std.proofs.Common.{◌≡◌, ℕ, zero, suc, List, [], ◌∷◌, refl, sym, ap, ◌∙◌, subst}
use Rattle.std.specs.Prelude.{Bool, true, false}
use Rattle.lf_checks.specs.Marks.{MentionChosenOnly}
use Rattle.lf.specs.Syntax.{Term, Spine, nil, app, LfType, Kind, kind_pi, star, Skeleton, skeleton}
use Rattle.lf.specs.Substitution.{Image, keep, put, rename_image, lift, single, substitute, substitute_spine, substitute_type, substitute_kind, reduce, substitute_image, after}
use Rattle.lf.specs.SkeletonTyping.{TermSkeleton}
use Rattle.lf.specs.Typing.{Signature, instantiate_kind, HasType, SpineFitsKind, IsType, IsKind, IsContext, IsSignature, ImageHasType}
use Rattle.lf.specs.Variables.{under, SameOn, everything, nothing, hide}
use Rattle.lf.proofs.Renaming.{substitute_weakened}
use Rattle.lf.proofs.TypeLaws.{skeleton_substituted, substitute_renamed_type, substitute_identity_kind}
use Rattle.lf.specs.Skeletons.{constant_skeletons, family_skeletons}
use Rattle.lf.proofs.SkeletonTypes.{substitutions_compose_type, substitutions_compose_kind}
use Rattle.lf.proofs.SkeletonTyping.{lift_by_skeletons, single_by_skeletons}
use Rattle.lf.proofs.Agreement.{agree_on_type}
use Rattle.lf.proofs.Partial.{skeletons_beside, PartialSubstitution, typed_has_skeleton_beside, type_by_skeletons_beside, kind_by_skeletons_beside, partial_substitution_keeps_typing, partial_substitution_keeps_types, skeleton_context_of_beside, uses_type_all}
use Rattle.lf_cases.proofs.Assemble.{AllTyped, AllTyped-has_skeleton}
use mathlib.Core.Path.{fun_ext}

-- what stands at other places is of no meaning
same_hidden : (V : ℕ → Bool) (x y : Image) (θ τ : ℕ → Image) → SameOn V θ τ → SameOn (hide V) (in_front x θ) (in_front y τ)
same_hidden V x y θ τ h zero e = absurd cc
same_hidden V x y θ τ h (suc i) e = h i e

same_cons : (V : ℕ → Bool) (x y : Image) (θ τ : ℕ → Image) → x ≡ y → SameOn V θ τ → SameOn (under V) (in_front x θ) (in_front y τ)
same_cons V x y θ τ q h zero e = q
same_cons V x y θ τ q h (suc i) e = h i e

pub inputs_same : (Σ : Signature) (V : ℕ → Bool) (m : List Bool) (G : List LfType) (θ τ : ℕ → Image) (S T : Spine) (K : Kind) → MentionChosenOnly V m K → SameOn V θ τ → SamePlaces m S T → TypedPlacesFrom Σ m G θ S K → TypedPlacesFrom Σ m G τ T K
inputs_same Σ V [] G θ τ nil nil star v h p i = tt
inputs_same Σ V [] G θ τ nil nil (kind_pi A K) v h p i = absurd v
inputs_same Σ V [] G θ τ nil (app N T) K v h p i = absurd p
inputs_same Σ V [] G θ τ (app M S) T K v h p i = absurd p
inputs_same Σ V (b ∷ m) G θ τ nil T K v h p i = absurd p
inputs_same Σ V (b ∷ m) G θ τ (app M S) nil K v h p i = absurd p
inputs_same Σ V (b ∷ m) G θ τ (app M S) (app N T) star v h p i = absurd v
inputs_same Σ V (true ∷ m) G θ τ (app M S) (app N T) (kind_pi A K) v h p i = (subst (λ X. HasType Σ G N X) (agree_on_type reduce V θ τ A h v.0) (subst (λ X. HasType Σ G X (substitute_type reduce θ A)) p.0 i.0), inputs_same Σ (under V) m G (in_front (put (skeleton A) M) θ) (in_front (put (skeleton A) N) τ) S T K v.1 (same_cons V (put (skeleton A) M) (put (skeleton A) N) θ τ (ap (put (skeleton A)) p.0) h) p.1 i.1)
inputs_same Σ V (false ∷ m) G θ τ (app M S) (app N T) (kind_pi A K) v h p i = inputs_same Σ (hide V) m G (in_front (put (skeleton A) M) θ) (in_front (put (skeleton A) N) τ) S T K v (same_hidden V (put (skeleton A) M) (put (skeleton A) N) θ τ h) p i

SamePlus-self : (m : List Bool) (S T : Spine) (K : Kind) (Σ : Signature) (G : List LfType) (θ : ℕ → Image) → TypedPlacesFrom Σ m G θ S K → SamePlaces m S S
SamePlus-self [] nil T K Σ G θ i = tt
SamePlus-self [] (app M S) T K Σ G θ i = absurd i
SamePlus-self (b ∷ m) nil T K Σ G θ i = absurd i
SamePlus-self (b ∷ m) (app M S) T star Σ G θ i = absurd i
SamePlus-self (true ∷ m) (app M S) T (kind_pi A K) Σ G θ i = (refl, SamePlus-self m S T K Σ G (in_front (put (skeleton A) M) θ) i.1)
SamePlus-self (false ∷ m) (app M S) T (kind_pi A K) Σ G θ i = SamePlus-self m S T K Σ G (in_front (put (skeleton A) M) θ) i

module _ (Σ : Signature) (ok : IsSignature Σ) where
  -- one more place
  around : (a : Skeleton) (N : Term) (x : Image) → substitute_image (single a N) (rename_image suc x) ≡ x
  around a N (keep k) = refl
  around a N (put b P) = ap (put b) (substitute_weakened reduce a N P)

  after_cons : (a : Skeleton) (N : Term) (θ : ℕ → Image) (i : ℕ) → after (single a N) (lift θ) i ≡ in_front (put a N) θ i
  after_cons a N θ zero = refl
  after_cons a N θ (suc i) = around a N (θ i)

  pub instance_cons : (X C : List LfType) (θ : ℕ → Image) (A : LfType) (M : Term) (K : Kind) → AllTyped Σ ok X C θ → IsType Σ X A → IsKind Σ (A ∷ X) K → HasType Σ C M (substitute_type reduce θ A) → instantiate_kind (substitute_type reduce θ A) M (substitute_kind reduce (lift θ) K) ≡ substitute_kind reduce (in_front (put (skeleton A) M) θ) K
  instance_cons X C θ A M K w a k m =
      let s : Skeleton = skeleton A in
      let p : skeleton (substitute_type reduce θ A) ≡ s = skeleton_substituted reduce θ A in
      ap (λ t. substitute_kind reduce (single t M) (substitute_kind reduce (lift θ) K)) p ∙ substitutions_compose_kind (family_skeletons Σ) (constant_skeletons Σ) (s ∷ skeletons_beside [] X) (s ∷ skeletons_beside [] C) (skeletons_beside [] C) (lift θ) (single s M) K (lift_by_skeletons (constant_skeletons Σ) s (skeletons_beside [] X) (skeletons_beside [] C) θ (AllTyped-has_skeleton Σ ok [] X C θ w)) (single_by_skeletons (constant_skeletons Σ) s (skeletons_beside [] C) M (subst (TermSkeleton (constant_skeletons Σ) (skeletons_beside [] C) M) p (typed_has_skeleton_beside Σ [] C M (substitute_type reduce θ A) m))) (kind_by_skeletons_beside Σ [] (A ∷ X) K k) ∙ ap (λ f. substitute_kind reduce f K) (fun_ext (after_cons s M θ))

  pub typed_cons : (X C : List LfType) (θ : ℕ → Image) (A : LfType) (M : Term) → AllTyped Σ ok X C θ → HasType Σ C M (substitute_type reduce θ A) → AllTyped Σ ok (A ∷ X) C (in_front (put (skeleton A) M) θ)
  typed_cons X C θ A M w m zero B e =
      let q : substitute_type reduce (in_front (put (skeleton A) M) θ) B ≡ substitute_type reduce θ A = ap (substitute_type reduce (in_front (put (skeleton A) M) θ)) e ∙ substitute_renamed_type reduce (in_front (put (skeleton A) M) θ) suc A in
      (ap skeleton q ∙ skeleton_substituted reduce θ A, subst (HasType Σ C M) (sym q) m)
  typed_cons X C θ A M w m (suc i) B (D, g, e) = subst (ImageHasType Σ C (θ i)) (sym (ap (substitute_type reduce (in_front (put (skeleton A) M) θ)) e ∙ substitute_renamed_type reduce (in_front (put (skeleton A) M) θ) suc D)) (w i D g)

  cons_after : (σ θ : ℕ → Image) (a : Skeleton) (M : Term) (i : ℕ) → after σ (in_front (put a M) θ) i ≡ in_front (put a (substitute reduce σ M)) (after σ θ) i
  cons_after σ θ a M zero = refl
  cons_after σ θ a M (suc i) = refl

  inputs_at : (P : List Skeleton) (U : ℕ → Bool) (C D X : List LfType) (σ θ : ℕ → Image) (V : ℕ → Bool) (m : List Bool) (S : Spine) (K : Kind) → PartialSubstitution Σ ok [] P U C D σ → IsContext Σ X → AllTyped Σ ok X C θ → IsKind Σ X K → MentionChosenOnly V m K → UsesPlaces U m S → SpineFitsKind Σ C S (substitute_kind reduce θ K) → TypedPlacesFrom Σ m D (after σ θ) (substitute_spine reduce σ S) K
  inputs_at P U C D X σ θ V m nil (kind_pi A K) w c t k v u s = absurd s
  inputs_at P U C D X σ θ V [] nil star w c t k v u s = tt
  inputs_at P U C D X σ θ V (b ∷ m) nil star w c t k v u s = absurd v
  inputs_at P U C D X σ θ V m (app M S) star w c t k v u s = absurd s
  inputs_at P U C D X σ θ V [] (app M S) (kind_pi A K) w c t k v u s = absurd v
  inputs_at P U C D X σ θ V (true ∷ m) (app M S) (kind_pi A K) w c t (a, k) v u (n, s) =
      let pt : PartialSubstitution Σ ok [] [] everything X C θ = record { typed = λ i B g e. t i B g; sk = AllTyped-has_skeleton Σ ok [] X C θ t; source_skeletons = skeleton_context_of_beside Σ ok [] X c; target_skeletons = w.source_skeletons } in
      let ty : IsType Σ C (substitute_type reduce θ A) = partial_substitution_keeps_types Σ ok [] [] everything X C θ A pt (uses_type_all everything A (λ i. refl)) a in
      let e : substitute_type reduce σ (substitute_type reduce θ A) ≡ substitute_type reduce (after σ θ) A = substitutions_compose_type (family_skeletons Σ) (constant_skeletons Σ) (skeletons_beside [] X) (skeletons_beside [] C) (skeletons_beside P D) θ σ A pt.sk w.sk (type_by_skeletons_beside Σ [] X A a) in (
        subst (HasType Σ D (substitute reduce σ M)) e (partial_substitution_keeps_typing Σ ok P [] U C D σ M (substitute_type reduce θ A) w (type_by_skeletons_beside Σ [] C (substitute_type reduce θ A) ty) u.0 n),
        subst (λ f. TypedPlacesFrom Σ m D f (substitute_spine reduce σ S) K) (fun_ext (cons_after σ θ (skeleton A) M)) (inputs_at P U C D (A ∷ X) σ (in_front (put (skeleton A) M) θ) (under V) m S K w (c, a) (typed_cons X C θ A M t n) k v.1 u.1 (subst (SpineFitsKind Σ C S) (instance_cons X C θ A M K t a k n) s)),
      )
  inputs_at P U C D X σ θ V (false ∷ m) (app M S) (kind_pi A K) w c t (a, k) v u (n, s) =
      subst (λ f. TypedPlacesFrom Σ m D f (substitute_spine reduce σ S) K) (fun_ext (cons_after σ θ (skeleton A) M)) (inputs_at P U C D (A ∷ X) σ (in_front (put (skeleton A) M) θ) (hide V) m S K w (c, a) (typed_cons X C θ A M t n) k v u (subst (SpineFitsKind Σ C S) (instance_cons X C θ A M K t a k n) s))

  -- The lemma on calls
  pub inputs_part : (P : List Skeleton) (U : ℕ → Bool) (C D : List LfType) (σ : ℕ → Image) (m : List Bool) (S : Spine) (K : Kind) → PartialSubstitution Σ ok [] P U C D σ → IsKind Σ [] K → MentionChosenOnly nothing m K → UsesPlaces U m S → SpineFitsKind Σ C S K → TypedPlaces Σ m D (substitute_spine reduce σ S) K
  inputs_part P U C D σ m S K w k v u s =
      let i : TypedPlacesFrom Σ m D (after σ keep) (substitute_spine reduce σ S) K = inputs_at P U C D [] σ keep nothing m S K w tt (λ i A g. absurd g) k v u (subst (SpineFitsKind Σ C S) (sym (substitute_identity_kind reduce K)) s) in
      inputs_same Σ nothing m D (after σ keep) keep (substitute_spine reduce σ S) (substitute_spine reduce σ S) K v (λ j e. absurd cc) (SamePlus-self m (substitute_spine reduce σ S) nil K Σ D (after σ keep) i) i
