-- A tuple that is typed at the chosen places stays so where typed values are put in. What stands at the other places needn't be typed.
use Rattle.std.proofs.Common.{◌≡◌, ℕ, zero, suc, List, [], ◌∷◌, refl, sym, ap, ◌∙◌, subst}
use Rattle.std.specs.Prelude.{Bool, true, false, Option, Some, None}
use Rattle.lf.specs.Syntax.{Term, Spine, nil, app, LfType, Kind, kind_pi, star, Skeleton, skeleton}
use Rattle.lf.specs.Substitution.{Image, keep, put, substitute, substitute_spine, substitute_type, substitute_image, reduce, after}
use Rattle.lf.specs.AtOnce.{in_front}
use Rattle.lf.specs.Skeletons.{constant_skeletons, family_skeletons}
use Rattle.lf.specs.Typing.{Signature, TypeAt, HasType, ImageHasType, IsType, IsKind, IsContext, IsSignature, IsTypedSubstitution}
use Rattle.lf.specs.Variables.{UsesType, Values, under, hide, everything, nothing}
use Rattle.lf.proofs.Agreement.{agree_on_type}
use Rattle.lf.proofs.Growth.{growth_keeps_typing}
use Rattle.lf.proofs.Partial.{skeletons_beside, PartialSubstitution, partial_substitution_keeps_typing, partial_substitution_keeps_types, type_by_skeletons_beside, uses_all}
use Rattle.lf.proofs.Patch.{patch, patch_same, patched}
use Rattle.lf.proofs.SkeletonTypes.{substitutions_compose_type}
use Rattle.lf.proofs.TypeLaws.{skeleton_substituted, substitute_renamed_type}
use Rattle.lf.proofs.Uses.{uses_type_renamed}
use Rattle.lf_checks.specs.Marks.{MentionChosenOnly, SamePlaces, TypedPlaces, TypedPlacesFrom}
use Rattle.lf_cases.specs.Missing.{put_in}
use Rattle.lf_cases.proofs.Calls.{inputs_same}
use Rattle.lf_coverage.specs.Matching.{ArePlaces}
use Rattle.lf_coverage.proofs.Carried.{carried, carry}
use Rattle.lf_coverage.proofs.InstancesCompose.{front_after}
use mathlib.Core.Path.{fun_ext}

-- a tuple has its own terms at the chosen places
same_tuple : (Σ : Signature) (G : List LfType) (m : List Bool) (θ : ℕ → Image) (T : Spine) (K : Kind) → TypedPlacesFrom Σ m G θ T K → SamePlaces m T T
same_tuple Σ G [] θ nil K i = tt
same_tuple Σ G [] θ (app M T) K i = absurd i
same_tuple Σ G (b ∷ m) θ nil K i = absurd i
same_tuple Σ G (b ∷ m) θ (app M T) star i = absurd i
same_tuple Σ G (true ∷ m) θ (app M T) (kind_pi A K) i = (refl, same_tuple Σ G m (in_front (put (skeleton A) M) θ) T K i.1)
same_tuple Σ G (false ∷ m) θ (app M T) (kind_pi A K) i = same_tuple Σ G m (in_front (put (skeleton A) M) θ) T K i

-- over a signature with more constants
pub places_more : (Σ Σ' : Signature) → ((c : ℕ) (A : LfType) → Σ.types c ≡ Some A → Σ'.types c ≡ Some A) → ((a : ℕ) (K : Kind) → Σ.kinds a ≡ Some K → Σ'.kinds a ≡ Some K) → (G : List LfType) (m : List Bool) (θ : ℕ → Image) (T : Spine) (K : Kind) → TypedPlacesFrom Σ m G θ T K → TypedPlacesFrom Σ' m G θ T K
places_more Σ Σ' t k G [] θ nil star i = i
places_more Σ Σ' t k G [] θ nil (kind_pi A K) i = absurd i
places_more Σ Σ' t k G [] θ (app M T) K i = absurd i
places_more Σ Σ' t k G (b ∷ m) θ nil K i = absurd i
places_more Σ Σ' t k G (b ∷ m) θ (app M T) star i = absurd i
places_more Σ Σ' t k G (true ∷ m) θ (app M T) (kind_pi A K) (n, i) = (growth_keeps_typing Σ Σ' t k G M (substitute_type reduce θ A) n, places_more Σ Σ' t k G m (in_front (put (skeleton A) M) θ) T K i)
places_more Σ Σ' t k G (false ∷ m) θ (app M T) (kind_pi A K) i = places_more Σ Σ' t k G m (in_front (put (skeleton A) M) θ) T K i

pub places_put : (υ : ℕ → Image) (Ms : List (Option Term)) (T : Spine) → ArePlaces Ms T → ArePlaces (put_in υ Ms) (substitute_spine reduce υ T)
places_put υ [] nil h = h
places_put υ [] (app N T) h = absurd h
places_put υ (Some M ∷ Ms) nil h = absurd h
places_put υ (None ∷ Ms) nil h = absurd h
places_put υ (Some M ∷ Ms) (app N T) (e, h) = (ap (substitute reduce υ) e, places_put υ Ms T h)
places_put υ (None ∷ Ms) (app N T) h = places_put υ Ms T h

module _ (Σ : Signature) (ok : IsSignature Σ) (G Y : List LfType) (υ : ℕ → Image) (g : IsContext Σ G) (y : IsContext Σ Y) (t : IsTypedSubstitution Σ G Y υ) where
  abbrev σ : ℕ → Image
  σ = carry G Y υ

  -- one more place, chosen or not
  values_chosen : (V : ℕ → Bool) (X : List LfType) (θ : ℕ → Image) (A : LfType) (M : Term) → Values Σ V X G θ → UsesType V A → HasType Σ G M (substitute_type reduce θ A) → Values Σ (under V) (A ∷ X) G (in_front (put (skeleton A) M) θ)
  values_chosen V X θ A M v u m = record { typed = typed; closed = closed }
    where
      typed : (i : ℕ) (B : LfType) → TypeAt (A ∷ X) i B → under V i ≡ true → ImageHasType Σ G (in_front (put (skeleton A) M) θ i) (substitute_type reduce (in_front (put (skeleton A) M) θ) B)
      typed zero B e w =
          let q : substitute_type reduce (in_front (put (skeleton A) M) θ) B ≡ substitute_type reduce θ A = ap (substitute_type reduce (in_front (put (skeleton A) M) θ)) e ∙ substitute_renamed_type reduce (in_front (put (skeleton A) M) θ) suc A in
          (ap skeleton q ∙ skeleton_substituted reduce θ A, subst (HasType Σ G M) (sym q) m)
      typed (suc i) B (D, h, e) w = subst (ImageHasType Σ G (θ i)) (sym (ap (substitute_type reduce (in_front (put (skeleton A) M) θ)) e ∙ substitute_renamed_type reduce (in_front (put (skeleton A) M) θ) suc D)) (v.typed i D h w)

      closed : (i : ℕ) (B : LfType) → TypeAt (A ∷ X) i B → under V i ≡ true → UsesType (under V) B
      closed zero B e w = subst (UsesType (under V)) (sym e) (uses_type_renamed V (under V) suc A (λ j z. z) u)
      closed (suc i) B (D, h, e) w = subst (UsesType (under V)) (sym e) (uses_type_renamed V (under V) suc D (λ j z. z) (v.closed i D h w))

  values_other : (V : ℕ → Bool) (X : List LfType) (θ : ℕ → Image) (A : LfType) (M : Term) → Values Σ V X G θ → Values Σ (hide V) (A ∷ X) G (in_front (put (skeleton A) M) θ)
  values_other V X θ A M v = record { typed = typed; closed = closed }
    where
      typed : (i : ℕ) (B : LfType) → TypeAt (A ∷ X) i B → hide V i ≡ true → ImageHasType Σ G (in_front (put (skeleton A) M) θ i) (substitute_type reduce (in_front (put (skeleton A) M) θ) B)
      typed zero B e w = absurd cc
      typed (suc i) B (D, h, e) w = subst (ImageHasType Σ G (θ i)) (sym (ap (substitute_type reduce (in_front (put (skeleton A) M) θ)) e ∙ substitute_renamed_type reduce (in_front (put (skeleton A) M) θ) suc D)) (v.typed i D h w)

      closed : (i : ℕ) (B : LfType) → TypeAt (A ∷ X) i B → hide V i ≡ true → UsesType (hide V) B
      closed zero B e w = absurd cc
      closed (suc i) B (D, h, e) w = subst (UsesType (hide V)) (sym e) (uses_type_renamed V (hide V) suc D (λ j z. z) (v.closed i D h w))

  -- the term at a chosen place
  place_put : (V : ℕ → Bool) (X : List LfType) (θ : ℕ → Image) (A : LfType) (M : Term) → IsContext Σ X → IsType Σ X A → Values Σ V X G θ → UsesType V A → HasType Σ G M (substitute_type reduce θ A) → HasType Σ Y (substitute reduce σ M) (substitute_type reduce (after σ θ) A)
  place_put V X θ A M x a v u m =
      let P : List Skeleton = skeletons_beside [] X in
      let τ : ℕ → Image = patch V G θ in
      let pt : PartialSubstitution Σ ok [] (skeletons_beside [] X) V X G (patch V G θ) = patched Σ ok V X G θ x g v in
      let same : substitute_type reduce θ A ≡ substitute_type reduce (patch V G θ) A = agree_on_type reduce V θ (patch V G θ) A (patch_same V G θ) u in
      let ty : IsType Σ G (substitute_type reduce θ A) = subst (IsType Σ G) (sym same) (partial_substitution_keeps_types Σ ok (skeletons_beside [] X) [] V X G (patch V G θ) A pt u a) in
      let twice : substitute_type reduce σ (substitute_type reduce θ A) ≡ substitute_type reduce (after σ θ) A =
      ap (substitute_type reduce σ) same
      ∙ substitutions_compose_type (family_skeletons Σ) (constant_skeletons Σ) (skeletons_beside [] X) (skeletons_beside P G) (skeletons_beside P Y) τ σ A pt.sk (carried Σ ok P G Y υ g y t).sk (type_by_skeletons_beside Σ [] X A a)
      ∙ agree_on_type reduce V (after σ τ) (after σ θ) A (λ i e. ap (substitute_image σ) (sym (patch_same V G θ i e))) u in
      subst (HasType Σ Y (substitute reduce σ M)) twice (partial_substitution_keeps_typing Σ ok [] [] everything G Y σ M (substitute_type reduce θ A) (carried Σ ok [] G Y υ g y t) (type_by_skeletons_beside Σ [] G (substitute_type reduce θ A) ty) (uses_all everything M (λ i. refl)) m)

  places_at : (V : ℕ → Bool) (m : List Bool) (X : List LfType) (θ : ℕ → Image) (T : Spine) (K : Kind) → IsContext Σ X → IsKind Σ X K → MentionChosenOnly V m K → Values Σ V X G θ → TypedPlacesFrom Σ m G θ T K → TypedPlacesFrom Σ m Y (after σ θ) (substitute_spine reduce σ T) K
  places_at V [] X θ nil star x k w v i = tt
  places_at V [] X θ nil (kind_pi A K) x k w v i = absurd i
  places_at V [] X θ (app M T) K x k w v i = absurd i
  places_at V (b ∷ m) X θ nil K x k w v i = absurd i
  places_at V (b ∷ m) X θ (app M T) star x k w v i = absurd i
  places_at V (true ∷ m) X θ (app M T) (kind_pi A K) x (a, k) (u, w) v (n, i) = (
    place_put V X θ A M x a v u n,
    subst (λ f. TypedPlacesFrom Σ m Y f (substitute_spine reduce σ T) K) (fun_ext (front_after (put (skeleton A) M) θ σ)) (places_at (under V) m (A ∷ X) (in_front (put (skeleton A) M) θ) T K (x, a) k w (values_chosen V X θ A M v u n) i),
  )
  places_at V (false ∷ m) X θ (app M T) (kind_pi A K) x (a, k) w v i = subst (λ f. TypedPlacesFrom Σ m Y f (substitute_spine reduce σ T) K) (fun_ext (front_after (put (skeleton A) M) θ σ)) (places_at (hide V) m (A ∷ X) (in_front (put (skeleton A) M) θ) T K (x, a) k w (values_other V X θ A M v) i)

  -- The lemma
  pub typed_places_put : (m : List Bool) (T : Spine) (K : Kind) → IsKind Σ [] K → MentionChosenOnly nothing m K → TypedPlaces Σ m G T K → TypedPlaces Σ m Y (substitute_spine reduce (carry G Y υ) T) K
  typed_places_put m T K k w i =
      let j : TypedPlacesFrom Σ m Y (after σ keep) (substitute_spine reduce σ T) K = places_at nothing m [] keep T K tt k w (record { typed = λ l A h e. absurd h; closed = λ l A h e. absurd h }) i in
      inputs_same Σ nothing m Y (after σ keep) keep (substitute_spine reduce σ T) (substitute_spine reduce σ T) K w (λ l e. absurd cc) (same_tuple Σ Y m (after σ keep) (substitute_spine reduce σ T) K j) j
