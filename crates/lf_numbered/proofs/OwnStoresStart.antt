-- The store of a typed case by number and a head that is offered is well formed, and each filling of it puts it on own terms.
use Rattle.std.proofs.Common.{◌≡◌, ℕ, zero, List, [], length, ◌+◌, Option, Some, None, ◌⊎◌, inl, inr, refl, sym, ap, ◌∙◌, subst, arith}
use Rattle.std.specs.Prelude.{Bool}
use Rattle.lf.specs.Syntax.{Head, constant, variable, metavariable, Term, Spine, root, nil, app, LfType, Kind, Skeleton, base, skeleton, kind_skeleton, rename_head, rename_spine, rename_type}
use Rattle.lf.specs.SkeletonTyping.{SpineSkeleton}
use Rattle.lf.specs.AtOnce.{shift_by, lift_renaming_by}
use Rattle.lf.specs.Eta.{append, eta_long}
use Rattle.lf.specs.Typing.{Signature, TypeAt, IsContext, IsSignature}
use Rattle.lf.specs.Variables.{target, target_arguments}
use Rattle.lf.specs.Subordination.{Block, AreTypedBlocks}
use Rattle.lf.proofs.ToSkeletons.{type_by_skeletons}
use Rattle.lf_unification.specs.Patterns.{local_skeletons}
use Rattle.lf_unification.specs.Solving.{IsWellFormed}
use Rattle.lf_unification.specs.OpenTyping.{under_locals}
use Rattle.lf_cases.specs.Case.{Item, items_context}
use Rattle.lf_cases.specs.OutputGoal.{free_variables}
use Rattle.lf_cases.specs.Reached.{arguments_count, head_masks, head_spine, taken, split_items}
use Rattle.lf_coverage.specs.Heads.{result_type}
use Rattle.lf_coverage.specs.AppliedStore.{applied_term}
use Rattle.lf_coverage.specs.SplitStore.{context_metavariables, open_locals, open_some, open_spine, type_in}
use Rattle.lf_coverage.specs.StoreSkeletons.{declared_in, StoreHasSkeletons}
use Rattle.lf_coverage.proofs.Forms.{no_shift_type}
use Rattle.lf_coverage.proofs.HeadTerm.{taken_length}
use Rattle.lf_coverage.proofs.AppliedHead.{applied_context}
use Rattle.lf_coverage.proofs.AppliedReady.{applied_fits, applied_length, applied_ready, applied_type, applied_under}
use Rattle.lf_coverage.proofs.StoreSkeletons.{kind_has, locals_have, spine_has, spine_have, type_has}
use Rattle.lf_coverage.proofs.StoreSolution.{found_type}
use Rattle.lf_coverage.proofs.ResultType.{result_atom}
use Rattle.lf_coverage.proofs.SolvedCase.{free_context_is}
use Rattle.lf_numbered.specs.EntryConstants.{with_entries, IsFreeFrom}
use Rattle.lf_numbered.specs.NumberedCase.{NumberedCase, AreTypedVariables}
use Rattle.lf_numbered.specs.OwnStores.{numbered_store, IsNumberedOffer, NumberedStoreIsReady, NumberedStoreHasSkeletons}
use Rattle.lf_numbered.specs.OwnTerms.{blocks_of, own_terms, BeginsWith, OnOwnTerms, SpineOnOwnTerms, TypeOnOwnTerms}
use Rattle.lf_numbered.specs.TypedNumbered.{own_over}
use Rattle.lf_numbered.proofs.OwnLong.{variable_own as own_long}
use Rattle.lf_numbered.proofs.OwnStoresEntry.{ok₁}
use Rattle.lf_numbered.proofs.OwnStoresHeads.{HeadOwn, arguments_own, head_own, over_renamed}
use Rattle.lf_numbered.proofs.OwnStoresOffers.{HeadOnOwn, Offered, binders_own, items_typed, offered}
use Rattle.lf_numbered.proofs.OwnStoresOpened.{equations_owned, filled_over, filled_own, lambdas_owned, opened, over_length, spine_opened, type_opened}
use Rattle.lf_numbered.proofs.OwnStoresSteps.{StoreOwned}
use Rattle.lf_numbered.proofs.OwnStoresTerms.{SpineOwned, TypeOwned}
use Rattle.lf_numbered.proofs.OwnTerms.{rename_own, spine_renamed, type_renamed}

append_own : (o : ℕ → Option Spine) (U S : Spine) → SpineOnOwnTerms o U → SpineOnOwnTerms o S → SpineOnOwnTerms o (append U S)
append_own o nil S u s = s
append_own o (app M U) S (m, u) s = (m, append_own o U S u s)

-- a head on own terms, renamed, before further arguments
root_own : (o p : ℕ → Option Spine) (l : ℕ → ℕ) (h : Head) (U S : Spine) → ((c : ℕ) → p c ≡ rename_own l (o c)) → HeadOnOwn o h U → SpineOnOwnTerms o U → SpineOnOwnTerms p S → OnOwnTerms p (root (rename_head l h) (append (rename_spine l U) S))
root_own o p l (constant c) U S e h u s = (begins h, append_own p (rename_spine l U) S (spine_renamed o p l U e u) s)
  where
    begins : (o c ≡ None) ⊎ (o c ≡ Some U) → BeginsWith (p c) (append (rename_spine l U) S)
    begins (inl q) = subst (λ z. BeginsWith z (append (rename_spine l U) S)) (sym (e c ∙ ap (rename_own l) q)) tt
    begins (inr q) = subst (λ z. BeginsWith z (append (rename_spine l U) S)) (sym (e c ∙ ap (rename_own l) q)) (S, refl)
root_own o p l (variable i) U S e h u s = append_own p (rename_spine l U) S (spine_renamed o p l U e u) s
root_own o p l (metavariable m) U S e h u s = absurd h

module _ (Σ : Signature) (ok : IsSignature Σ) (W : List Block) (typed : AreTypedBlocks Σ W) (first : ℕ) (free : IsFreeFrom Σ first) (below : ℕ → ℕ → Bool) (C : NumberedCase) (tv : AreTypedVariables Σ first W C) (x : ℕ) (X : LfType) (at : TypeAt C.variables x X) (h : Head) (U : Spine) (A : LfType) (offer : IsNumberedOffer Σ first C X h U A) (K : Kind) (of_family : Σ.kinds (target X) ≡ Some K) where
  abbrev Σ₁ : Signature
  Σ₁ = with_entries Σ first (blocks_of C.blocks)

  abbrev I : List Item
  I = free_variables C.variables

  abbrev D0 : List LfType
  D0 = taken (rename_type (shift_by zero) X)

  abbrev k : ℕ
  k = arguments_count A

  abbrev Cc : List LfType
  Cc = items_context (split_items below X (free_variables C.variables) zero A)

  known : Offered Σ ok W typed first free C tv x X at h U A
  known = offered Σ ok W typed first free C tv x X at h U A offer

  no_blocks : AreTypedBlocks Σ₁ []
  no_blocks B m = absurd m

  -- The lemma
  pub numbered_ready : IsWellFormed (with_entries Σ first (blocks_of C.blocks)) (numbered_store below C x X h U A K)
  numbered_ready = applied_ready Σ₁ (ok₁ Σ ok W typed first free C tv) [] no_blocks below x X I zero h U A (items_typed Σ ok W typed first free C tv x X at) known.place known.type known.same_target known.applied K of_family

  pub numbered_context : IsContext (with_entries Σ first (blocks_of C.blocks)) (items_context (split_items below X (free_variables C.variables) zero A))
  numbered_context = applied_context Σ₁ (ok₁ Σ ok W typed first free C tv) [] no_blocks below x X I zero h U A (items_typed Σ ok W typed first free C tv x X at) known.place known.type known.same_target known.applied

  -- skeletons type what its equations stand in
  pub numbered_has_skeletons : StoreHasSkeletons (with_entries Σ first (blocks_of C.blocks)) (numbered_store below C x X h U A K)
  numbered_has_skeletons =
      let okE : IsSignature Σ₁ = ok₁ Σ ok W typed first free C tv in
      let Y : LfType = rename_type (shift_by (zero + arguments_count A)) X in
      let E : List LfType = taken Y in (
        (tt, type_has Σ₁ okE Cc numbered_context [] Y (type_by_skeletons Σ₁ Cc Y (applied_type Σ₁ (ok₁ Σ ok W typed first free C tv) [] no_blocks below x X I zero h U A (items_typed Σ ok W typed first free C tv x X at) known.place known.type known.same_target known.applied K of_family))),
        spine_have Σ₁ (context_metavariables Cc) (open_locals E) (locals_have Σ₁ okE Cc numbered_context E (applied_under Σ₁ (ok₁ Σ ok W typed first free C tv) [] no_blocks below x X I zero h U A (items_typed Σ ok W typed first free C tv x X at) known.place known.type known.same_target known.applied K of_family)) K (open_spine (length (taken X)) (target_arguments Y)) _ (kind_has Σ₁ okE Cc numbered_context E (target X) K of_family) (subst (λ m. SpineSkeleton (declared_in Σ₁ (context_metavariables Cc)) (local_skeletons (open_locals E) []) (open_spine m (target_arguments Y)) (kind_skeleton 0 K) (base 0)) (applied_length Σ₁ (ok₁ Σ ok W typed first free C tv) [] no_blocks below x X I zero h U A (items_typed Σ ok W typed first free C tv x X at) known.place known.type known.same_target known.applied K of_family) (spine_has Σ₁ okE Cc numbered_context E (target_arguments Y) K (applied_fits Σ₁ (ok₁ Σ ok W typed first free C tv) [] no_blocks below x X I zero h U A (items_typed Σ ok W typed first free C tv x X at) known.place known.type known.same_target known.applied K of_family))),
      )

  -- own terms, with their variables behind those of the head
  abbrev oC : ℕ → Option Spine
  oC = own_terms first C.blocks

  abbrev oP : ℕ → Option Spine
  oP c = rename_own (shift_by k) (oC c)

  variables_own : (i : ℕ) (Y : LfType) → TypeAt (items_context I) i Y → TypeOnOwnTerms oC Y
  variables_own i Y g = tv.on_own_terms i Y (subst (λ L. TypeAt L i Y) (free_context_is C.variables) g)

  own_x : TypeOnOwnTerms oC (rename_type (shift_by zero) X)
  own_x = subst (TypeOnOwnTerms oC) (sym (no_shift_type X)) (tv.on_own_terms x X at)

  made : HeadOwn below k D0 A I oC
  made = head_own below k D0 A I oC variables_own (binders_own oC [] (rename_type (shift_by zero) X) tt own_x).0 known.type_own refl

  abbrev X2 : LfType
  X2 = rename_type (shift_by (zero + arguments_count A)) X

  abbrev D2 : List LfType
  D2 = taken (rename_type (shift_by (zero + arguments_count A)) X)

  abbrev R : LfType
  R = result_type (head_masks below D0 k A) D0 k A

  pub no_more : (n : ℕ) → zero + n ≡ n
  no_more n = omega arith

  own_x2 : TypeOnOwnTerms oP X2
  own_x2 = type_renamed oC oP (shift_by (zero + k)) X (λ c. ap (λ n. rename_own (shift_by n) (oC c)) (sym (no_more k))) (tv.on_own_terms x X at)

  -- the head's term
  term_own : OnOwnTerms oP (applied_term below D0 h U A)
  term_own =
      let l : ℕ → ℕ = lift_renaming_by (length D0) (shift_by k) in
      let S : Spine = head_spine (head_masks below D0 k A) D0 A in
      lambdas_owned D0 oP (root (rename_head l h) (append (rename_spine l U) S)) (root_own (own_over D0 oC) (own_over D0 oP) l h U S (over_renamed D0 (shift_by k) oC) known.head_own known.terms_own (arguments_own (head_masks below D0 k A) D0 A oP))

  first_own : SpineOnOwnTerms (own_over D2 oP) (target_arguments X2)
  first_own = (binders_own oP [] X2 tt own_x2).1

  second_own : SpineOnOwnTerms (own_over D2 oP) (target_arguments R)
  second_own =
      let s : SpineOnOwnTerms (own_over D0 oP) (target_arguments R) = subst (TypeOnOwnTerms (own_over D0 oP)) (result_atom Σ₁ (head_masks below D0 k A) k D0 A refl) made.result in
      subst (λ f. SpineOnOwnTerms f (target_arguments R)) (over_length D0 D2 oP (taken_length (shift_by zero) X [] [] refl ∙ sym (taken_length (shift_by (zero + k)) X [] [] refl))) s

  module _ (μ : ℕ → Skeleton) (β : ℕ → Option Term) (p : ℕ → Option Spine) (fill : (c : ℕ) → p c ≡ filled_own μ β zero (rename_own (shift_by (arguments_count A)) (own_terms first C.blocks c))) where
    indices_owned : (S : Spine) → SpineOnOwnTerms (own_over D2 oP) S → SpineOwned μ (own_over (open_locals D2) p) (under_locals (open_locals D2) β) (open_spine (length (taken X)) S)
    indices_owned S s = subst (λ n. SpineOwned μ (own_over (open_locals D2) p) (under_locals (open_locals D2) β) (open_spine n S)) (taken_length (shift_by (zero + k)) X [] [] refl) (spine_opened μ (length D2) (own_over D2 oP) (own_over (open_locals D2) p) (under_locals (open_locals D2) β) S (filled_over μ D2 oP p β fill) s)

    type_owned : (m : ℕ) (Y : LfType) (y : Option LfType) → type_in Cc m ≡ y → open_some y ≡ Some Y → TypeOwned μ p β Y
    type_owned m Y None q e = absurd cc
    type_owned m Y (Some Z) q e = subst (TypeOwned μ p β) (same e) (type_opened μ zero oP p β Z fill (made.items m Z (found_type Cc m Z q)))
      where
        same : {P Q : LfType} → Some P ≡ Some Q → P ≡ Q
        same e = cc

    -- The lemma
    pub numbered_owned : StoreOwned μ p β (numbered_store below C x X h U A K)
    numbered_owned = record {
      bindings = λ b i. absurd i;
      sides = (
        (opened μ zero oP p β (eta_long (skeleton X) (variable (x + (zero + k)))) fill (own_long oP (skeleton X) (x + (zero + k)) nil tt), opened μ zero oP p β (applied_term below D0 h U A) fill term_own),
        equations_owned μ (open_locals D2) p β K (open_spine (length (taken X)) (target_arguments X2)) (open_spine (length (taken X)) (target_arguments R)) (indices_owned (target_arguments X2) first_own) (indices_owned (target_arguments R) second_own),
      );
      types = λ m Y e. type_owned m Y (type_in Cc m) refl e;
    }

pub numbered_store_is_ready : NumberedStoreIsReady
numbered_store_is_ready Σ ok W typed first free below C tc x X at h U A offer K f = numbered_ready Σ ok W typed first free below C tc.variables x X at h U A offer K f

pub numbered_store_has_skeletons : NumberedStoreHasSkeletons
numbered_store_has_skeletons Σ ok W typed first free below C tc x X at h U A offer K f = numbered_has_skeletons Σ ok W typed first free below C tc.variables x X at h U A offer K f
