-- Typed terms for the variables after a split by a head on terms, which make the variable this head, are a typed unifier of its store.
use Rattle.std.proofs.Common.{◌≡◌, ℕ, zero, List, [], ◌+◌, length, inl, refl, sym, ap, ◌∙◌, subst}
use Rattle.std.specs.Prelude.{Bool, Option, Some, None}
use Rattle.lf.specs.Syntax.{Head, variable, Term, Spine, LfType, atom, Kind, Skeleton, skeleton, rename_type, nil}
use Rattle.lf.specs.Substitution.{Image, put, substitute, substitute_type, reduce}
use Rattle.lf.specs.SkeletonTyping.{HeadSkeletons, SkeletonAt, ImageSkeleton, TermSkeleton, TypeBySkeletons, SubstitutionBySkeletons}
use Rattle.lf.specs.Skeletons.{constant_skeletons, family_skeletons, context_skeletons}
use Rattle.lf.specs.AtOnce.{shift_by}
use Rattle.lf.specs.Eta.{eta_long}
use Rattle.lf.specs.Typing.{Signature, TypeAt, HasType, ImageHasType, IsTypedSubstitution, IsType, IsContext, IsSignature}
use Rattle.lf.specs.Variables.{target, target_arguments}
use Rattle.lf.proofs.Eta.{eta_expand_has_skeleton}
use Rattle.lf.proofs.Substitution.{typed_substitution_by_skeletons}
use Rattle.lf.proofs.Target.{target_renamed}
use Rattle.lf.proofs.ToSkeletons.{type_by_skeletons, variable_has_skeleton, skeleton_has_variable}
use Rattle.lf.proofs.TypeLaws.{skeleton_renamed}
use Rattle.lf.proofs.Weakening.{declared_is_type}
use Rattle.lf_unification.specs.Filling.{fill, fill_spine, fill_type}
use Rattle.lf_unification.specs.Offering.{pi_over}
use Rattle.lf_unification.specs.OpenTyping.{IsInstance, ValueHasType, skeletons_of, under_locals, fill_locals}
use Rattle.lf_unification.specs.Skeletons.{skeleton_or_default}
use Rattle.lf_unification.specs.Unifiers.{Solution}
use Rattle.lf_unification.proofs.EquationLemmas.{spine_solves}
use Rattle.lf_unification.proofs.Raise.{fill_pis}
use Rattle.lf_cases.specs.Case.{Item, items_context, as_term}
use Rattle.lf_cases.specs.Reached.{arguments_count, head_masks, taken, split_items}
use Rattle.lf_coverage.specs.Heads.{result_type, term_type}
use Rattle.lf_coverage.specs.AppliedStore.{applied_term, applied_store}
use Rattle.lf_coverage.specs.SplitStore.{open_term, open_spine, open_type, open_locals, type_in, open_some, context_metavariables}
use Rattle.lf_coverage.proofs.Forms.{as_pis}
use Rattle.lf_coverage.proofs.HeadTerm.{taken_length}
use Rattle.lf_coverage.proofs.OpenTerms.{AllStand, FitsImage, fill_open, fill_open_type}
use Rattle.lf_coverage.proofs.ResultType.{result_atom}
use Rattle.lf_coverage.proofs.StoreSolution.{looked_up, found_type, skeleton_open, open_pis, pis_same, atom_same, value_at}

-- the value of a variable
abbrev pub value_of : Option LfType → Image → Option Term
value_of None x = None
value_of (Some A) x = Some (as_term (skeleton A) x)

-- what the values φ give the metavariables of a context
abbrev pub context_filling : List LfType → (ℕ → Image) → ℕ → Option Term
context_filling C φ i = value_of (type_in C i) (φ i)

module _ (Σ : Signature) (ok : IsSignature Σ) (C F : List LfType) (cc0 : IsContext Σ C) (cf : IsContext Σ F) (φ : ℕ → Image) (typed : IsTypedSubstitution Σ C F φ) (terms : (i : ℕ) (A : LfType) → TypeAt C i A → (N : Term) × (φ i ≡ put (skeleton A) N)) where
  abbrev β : ℕ → Option Term
  β = context_filling C φ

  abbrev μ : ℕ → Skeleton
  μ = skeletons_of (context_metavariables C)

  abbrev κ : HeadSkeletons
  κ = constant_skeletons Σ

  pub filling_is : (i : ℕ) (A : LfType) (N : Term) → TypeAt C i A → φ i ≡ put (skeleton A) N → context_filling C φ i ≡ Some N
  filling_is i A N k e = ap (λ y. value_of y (φ i)) (looked_up C i A k) ∙ ap (λ y. Some (as_term (skeleton A) y)) e

  skeleton_is : (i : ℕ) (A : LfType) → TypeAt C i A → μ i ≡ skeleton A
  skeleton_is i A k = ap (λ y. skeleton_or_default (open_some y)) (looked_up C i A k) ∙ skeleton_open zero A

  stand : AllStand Σ μ zero (context_skeletons C) φ β
  stand i t k =
      let (A, h, e) = skeleton_has_variable C i t k in
      let (N, q) = terms i A h in
      inl (i, refl, skeleton_is i A h ∙ e, filling_is i A N h q ∙ ap Some (ap (as_term t) (sym q)), subst (FitsImage t) (sym q) e)

  pub fits : SubstitutionBySkeletons (constant_skeletons Σ) (context_skeletons C) (context_skeletons F) φ
  fits = typed_substitution_by_skeletons Σ ok C F φ typed

  type_filled : (A : LfType) → TypeBySkeletons (family_skeletons Σ) κ (context_skeletons C) A → fill_type μ β (open_type zero A) ≡ substitute_type reduce φ A
  type_filled A k = fill_open_type Σ μ (family_skeletons Σ) zero (context_skeletons C) (context_skeletons F) φ β stand fits A k

  term_filled : (M : Term) (t : Skeleton) → TermSkeleton κ (context_skeletons C) M t → fill μ β (open_term zero M) ≡ substitute reduce φ M
  term_filled M t k = fill_open Σ μ zero (context_skeletons C) (context_skeletons F) φ β stand fits M t k

  instance_typed : (m : ℕ) → ValueHasType Σ F μ β (context_metavariables C m) (β m)
  instance_typed m = by (type_in C m) refl
    where
      by : (y : Option LfType) → type_in C m ≡ y → ValueHasType Σ F μ β (open_some y) (value_of y (φ m))
      by None e = tt
      by (Some A) e =
          let k : TypeAt C m A = found_type C m A e in
          let (N, q) = terms m A k in
          let t : (skeleton (substitute_type reduce φ A) ≡ skeleton A) × HasType Σ F N (substitute_type reduce φ A) = subst (λ y. ImageHasType Σ F y (substitute_type reduce φ A)) q (typed m A k) in
          subst (HasType Σ F (as_term (skeleton A) (φ m))) (sym (type_filled A (type_by_skeletons Σ C A (declared_is_type Σ ok C m A cc0 k)))) (subst (λ y. HasType Σ F (as_term (skeleton A) y) (substitute_type reduce φ A)) (sym q) t.1)

  is_instance : IsInstance Σ [] (context_metavariables C) F β
  is_instance = record { context = cf; outer = λ i A k. absurd k; typed = instance_typed }

module _ (Σ : Signature) (ok : IsSignature Σ) (below : ℕ → ℕ → Bool) (x : ℕ) (X : LfType) (I : List Item) (h : Head) (U : Spine) (A : LfType) (K : Kind) (F : List LfType) (cc0 : IsContext Σ (items_context (split_items below X I 0 A))) (cf : IsContext Σ F) (φ : ℕ → Image) (typed : IsTypedSubstitution Σ (items_context (split_items below X I 0 A)) F φ) (terms : (i : ℕ) (B : LfType) → TypeAt (items_context (split_items below X I 0 A)) i B → (N : Term) × (φ i ≡ put (skeleton B) N)) (at : TypeAt (items_context (split_items below X I 0 A)) (x + (0 + arguments_count A)) (rename_type (shift_by (0 + arguments_count A)) X)) (mt : TermSkeleton (constant_skeletons Σ) (context_skeletons (items_context (split_items below X I 0 A))) (applied_term below (taken (rename_type (shift_by 0) X)) h U A) (skeleton X)) (tt0 : IsType Σ (items_context (split_items below X I 0 A)) (term_type below X 0 A)) (same_target : target A ≡ target X) (same : as_term (skeleton X) (φ (x + (0 + arguments_count A))) ≡ substitute reduce φ (applied_term below (taken (rename_type (shift_by 0) X)) h U A)) (same_type : substitute_type reduce φ (rename_type (shift_by (0 + arguments_count A)) X) ≡ substitute_type reduce φ (term_type below X 0 A)) where
  pub applied_solution : Solution Σ [] (applied_store below x X I 0 h U A K) F (context_filling (items_context (split_items below X I 0 A)) φ)
  applied_solution =
      let c : ℕ = arguments_count A in
      let C : List LfType = items_context (split_items below X I 0 A) in
      let x' : ℕ = x + (0 + c) in
      let X' : LfType = rename_type (shift_by (0 + c)) X in
      let D : List LfType = taken X' in
      let M : Term = applied_term below (taken (rename_type (shift_by 0) X)) h U A in
      let β : ℕ → Option Term = context_filling C φ in
      let ν : ℕ → Skeleton = skeletons_of (context_metavariables C) in
      let κ : HeadSkeletons = constant_skeletons Σ in
      let lt : TermSkeleton κ (context_skeletons C) (eta_long (skeleton X) (variable x')) (skeleton X) = eta_expand_has_skeleton κ (skeleton X) (skeleton X) (context_skeletons C) (variable x') nil (subst (SkeletonAt (context_skeletons C) x') (skeleton_renamed (shift_by (0 + c)) X) (variable_has_skeleton C x' X' at)) refl in
      let ks : List (List Bool) = head_masks below (taken (rename_type (shift_by 0) X)) c A in
      let R : LfType = result_type ks (taken (rename_type (shift_by 0) X)) c A in
      let fa : R ≡ atom (target A) (target_arguments R) = result_atom Σ ks c (taken (rename_type (shift_by 0) X)) A refl in
      let ft : R ≡ atom (target X') (target_arguments R) = fa ∙ ap (λ b. atom b (target_arguments R)) (same_target ∙ sym (target_renamed (shift_by (0 + c)) X)) in
      let kx : TypeBySkeletons (family_skeletons Σ) κ (context_skeletons C) X' = type_by_skeletons Σ C X' (declared_is_type Σ ok C x' X' cc0 at) in
      let kt : TypeBySkeletons (family_skeletons Σ) κ (context_skeletons C) (term_type below X 0 A) = type_by_skeletons Σ C (term_type below X 0 A) tt0 in
      let image : ImageSkeleton κ (context_skeletons F) (φ x') (skeleton X) = fits Σ ok C F cc0 cf φ typed terms x' (skeleton X) (subst (SkeletonAt (context_skeletons C) x') (skeleton_renamed (shift_by (0 + c)) X) (variable_has_skeleton C x' X' at)) in
      let first : fill ν β (open_term zero (eta_long (skeleton X) (variable x'))) ≡ fill ν β (open_term zero M) =
      term_filled Σ ok C F cc0 cf φ typed terms (eta_long (skeleton X) (variable x')) (skeleton X) lt
      ∙ value_at κ (context_skeletons F) (skeleton X) φ x' image ∙ same
      ∙ sym (term_filled Σ ok C F cc0 cf φ typed terms M (skeleton X) mt) in
      let types : fill_type ν β (open_type zero X') ≡ fill_type ν β (open_type zero (term_type below X 0 A)) = type_filled Σ ok C F cc0 cf φ typed terms X' kx ∙ same_type ∙ sym (type_filled Σ ok C F cc0 cf φ typed terms (term_type below X 0 A) kt) in
      let left : fill_type ν β (open_type zero X') ≡ pi_over (fill_locals ν β (open_locals D)) (atom (target X') (fill_spine ν (under_locals (open_locals D) β) (open_spine (length D) (target_arguments X')))) = ap (λ Y. fill_type ν β (open_type zero Y)) (as_pis X' []) ∙ ap (fill_type ν β) (open_pis D (target X') (target_arguments X')) ∙ fill_pis ν β (open_locals D) (atom (target X') (open_spine (length D) (target_arguments X'))) in
      let right : fill_type ν β (open_type zero (term_type below X 0 A)) ≡ pi_over (fill_locals ν β (open_locals D)) (atom (target X') (fill_spine ν (under_locals (open_locals D) β) (open_spine (length D) (target_arguments R)))) = ap (λ Y. fill_type ν β (open_type zero (pi_over D Y))) ft ∙ ap (fill_type ν β) (open_pis D (target X') (target_arguments R)) ∙ fill_pis ν β (open_locals D) (atom (target X') (open_spine (length D) (target_arguments R))) in
      let indices : fill_spine ν (under_locals (open_locals D) β) (open_spine (length D) (target_arguments X')) ≡ fill_spine ν (under_locals (open_locals D) β) (open_spine (length D) (target_arguments R)) = atom_same (target X') (fill_spine ν (under_locals (open_locals D) β) (open_spine (length D) (target_arguments X'))) (fill_spine ν (under_locals (open_locals D) β) (open_spine (length D) (target_arguments R))) (pis_same (fill_locals ν β (open_locals D)) (atom (target X') (fill_spine ν (under_locals (open_locals D) β) (open_spine (length D) (target_arguments X')))) (atom (target X') (fill_spine ν (under_locals (open_locals D) β) (open_spine (length D) (target_arguments R)))) (sym left ∙ types ∙ right)) in
      let ld : length D ≡ length (taken X) = taken_length (shift_by (0 + c)) X [] [] refl in
      (is_instance Σ ok C F cc0 cf φ typed terms, (tt, (first, spine_solves ν β (open_locals D) K (open_spine (length (taken X)) (target_arguments X')) (open_spine (length (taken X)) (target_arguments R)) (subst (λ l. fill_spine ν (under_locals (open_locals D) β) (open_spine l (target_arguments X')) ≡ fill_spine ν (under_locals (open_locals D) β) (open_spine l (target_arguments R))) ld indices))))
