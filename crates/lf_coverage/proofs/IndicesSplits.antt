-- The heads of a split have patterns, where the types of the constants have, and those of the items.
use Rattle.std.proofs.Common.{◌≡◌, ℕ, zero, suc, List, [], ◌∷◌, length, refl, sym, ap, ◌∙◌, subst}
use Rattle.std.specs.Prelude.{◌++◌, Bool, true, false}
use Rattle.lf.specs.AtOnce.{shift_by}
use Rattle.lf.specs.SkeletonTyping.{TypeBySkeletons}
use Rattle.lf.specs.Skeletons.{constant_skeletons, context_skeletons, family_skeletons}
use Rattle.lf.specs.Subordination.{Block, AreTypedBlocks}
use Rattle.lf.specs.Syntax.{Head, LfType, skeleton, rename_type}
use Rattle.lf.specs.Typing.{Signature, TypeAt, IsSignature, IsContext}
use Rattle.lf.specs.Variables.{everything, onto}
use Rattle.lf.proofs.Closed.{closed_type_renamed}
use Rattle.lf.proofs.ToSkeletons.{type_by_skeletons}
use Rattle.lf_cases.specs.Case.{Item, items_context}
use Rattle.lf_cases.specs.Missing.{AreTypedItems}
use Rattle.lf_cases.specs.Reached.{SplitHead, constant_head, bound_head, entry_head, new_entry_head, arguments_count, head_masks, split_items, taken}
use Rattle.lf_cases.specs.Split.{HasNoBlockVariable}
use Rattle.lf_totality.proofs.RaisedOutputs.{binders_over}
use Rattle.lf_coverage.specs.Heads.{result_type}
use Rattle.lf_coverage.specs.Indices.{ConstantsHavePatterns, head_has_patterns}
use Rattle.lf_coverage.specs.PatternSplits.{HeadHasPatterns}
use Rattle.lf_coverage.specs.PatternStores.{IsPatternType}
use Rattle.lf_coverage.specs.SplitStore.{AllFamiliesIn, context_metavariables, open_type}
use Rattle.lf_coverage.specs.TermMatching.{over}
use Rattle.lf_coverage.proofs.Forms.{no_shift_type}
use Rattle.lf_coverage.proofs.IndicesFamilies.{target_in}
use Rattle.lf_coverage.proofs.StoreSolution.{families_at}
use Rattle.lf_coverage.proofs.IndicesHeads.{AllItemsHave, LocalsHave, binders_have, head_items_have, item_at, local_at, outside_is_existential, within}
use Rattle.lf_coverage.proofs.IndicesRenamed.{Renames, head_renames}
use Rattle.lf_coverage.proofs.IndicesTyped.{head_on_patterns, items_on_patterns}
use Rattle.lf_coverage.proofs.ItemsContext.{items_are_context}
use Rattle.lf_coverage.proofs.PatternDistinct.{length_context}
use Rattle.lf_coverage.proofs.PatternSplits.{taken_same}
use Rattle.lf_coverage.proofs.ResultType.{result_by_skeletons}
use Rattle.lf_coverage.proofs.SolvedCase.{all_free, head_typed}
use Rattle.lf_coverage.proofs.SplitReady.{split_items_typed}

skeletons_onto : (D G : List LfType) → context_skeletons (onto D G) ≡ context_skeletons D ++ context_skeletons G
skeletons_onto [] G = refl
skeletons_onto (A ∷ D) G = ap (λ Γ. skeleton A ∷ Γ) (skeletons_onto D G)

over_outside : (n j : ℕ) → within n (over n j) ≡ true
over_outside zero j = refl
over_outside (suc n) j = over_outside n j

closed_renames : (n : ℕ) → Renames everything (within n) (shift_by n)
closed_renames n = record { kind = λ i. outside_is_existential n i; apart = λ i j e f q. absurd (no e); order = λ i j e f l. absurd (no f) }
  where
    no : true ≡ false → ⊥
    no e = cc

module _ (Σ : Signature) (ok : IsSignature Σ) (T : ℕ → Bool) (constants : ConstantsHavePatterns Σ T) (W : List Block) (typed : AreTypedBlocks Σ W) (below : ℕ → ℕ → Bool) (I : List Item) (ti : AreTypedItems Σ W I) (items : AllItemsHave (items_context I)) (families : AllFamiliesIn T (items_context I)) where
  -- what the variable takes
  taken_have : (x : ℕ) (X : LfType) → TypeAt (items_context I) x X → LocalsHave (taken (rename_type (shift_by zero) X))
  taken_have x X at = subst (λ Y. LocalsHave (taken Y)) (sym (no_shift_type X)) (binders_have [] X tt (item_at (items_context I) items x X at))

  same_taken : (X : LfType) → length (taken (rename_type (shift_by zero) X)) ≡ length (taken X)
  same_taken X = ap (λ Y. length (taken Y)) (no_shift_type X)

  -- the type of a head
  head_has : (x : ℕ) (X : LfType) → TypeAt (items_context I) x X → {J : List Item} {n : ℕ} {h : Head} {A : LfType} → SplitHead Σ W I X J n h A → HasNoBlockVariable J → (J ≡ I) × (n ≡ zero) × (head_has_patterns (within (length (taken (rename_type (shift_by n) X)))) A ≡ true)
  head_has x X at (constant_head k U e q) b =
      let m : ℕ = length (taken (rename_type (shift_by zero) X)) in
      (refl, refl, subst (λ Z. head_has_patterns (within m) Z ≡ true) (closed_type_renamed Σ (shift_by m) U (ok.types_ok k U e)) (head_renames everything (within m) (shift_by m) (closed_renames m) U (constants k U e (subst (λ z. T z ≡ true) (sym q) (target_in T X (families_at T (items_context I) families x X at))))))
  head_has x X at (bound_head j A l g q) b = (
    refl,
    refl,
    subst (λ Y. head_has_patterns (within (length (taken Y))) A ≡ true) (sym (no_shift_type X)) (local_at (taken X) (items_context I) (binders_have [] X tt (item_at (items_context I) items x X at)) j A l (subst (λ L. TypeAt L j A) (binders_over [] X (items_context I)) g)),
  )
  head_has x X at (entry_head j A g f q) b = absurd (no (sym (all_free I b j A g) ∙ f))
    where
      no : true ≡ false → ⊥
      no e = cc
  head_has x X at (new_entry_head B j A m l g q) b = absurd b

  module _ (x : ℕ) (X : LfType) (at : TypeAt (items_context I) x X) (h : Head) (A : LfType) (sh : SplitHead Σ W I X I zero h A) (b : HasNoBlockVariable I) where
    abbrev D : List LfType
    D = taken (rename_type (shift_by zero) X)

    abbrev P : List Item
    P = split_items below X I zero A

    abbrev R : LfType
    R = result_type (head_masks below (taken (rename_type (shift_by zero) X)) (arguments_count A) A) (taken (rename_type (shift_by zero) X)) (arguments_count A) A

    is_typed : TypeBySkeletons (family_skeletons Σ) (constant_skeletons Σ) (context_skeletons (onto D (items_context I))) A
    is_typed = type_by_skeletons Σ (onto D (items_context I)) A (head_typed Σ ok W typed I ti x X at I zero h A sh).2

    all_have : AllItemsHave (items_context P) × (head_has_patterns (within (length D)) R ≡ true)
    all_have = head_items_have Σ below (arguments_count A) D A I (taken_have x X at) items is_typed (head_has x X at sh b).2

    context_of : IsContext Σ (items_context P)
    context_of = items_are_context Σ ok W typed P (split_items_typed Σ ok W typed below I ti x X at I zero h A sh)

    pub new_items_have : AllItemsHave (items_context P)
    new_items_have = (head_items_have Σ below (arguments_count A) D A I (taken_have x X at) items is_typed (head_has x X at sh b).2).0

    pub plain_head_has_patterns : HeadHasPatterns Σ below X I zero A
    plain_head_has_patterns =
        let r : TypeBySkeletons (family_skeletons Σ) (constant_skeletons Σ) (context_skeletons (onto D (items_context P))) R = result_by_skeletons Σ (head_masks below D (arguments_count A) A) (arguments_count A) D A I is_typed in
        let r' : TypeBySkeletons (family_skeletons Σ) (constant_skeletons Σ) (context_skeletons D ++ context_skeletons (items_context P)) R = subst (λ Γ. TypeBySkeletons (family_skeletons Σ) (constant_skeletons Σ) Γ R) (skeletons_onto D (items_context P)) r in
        let o : (j : ℕ) → within (length D) (over (length (context_skeletons D)) j) ≡ true = λ j. subst (λ n. within (length D) (over n j) ≡ true) (sym (length_context D)) (over_outside (length D) j) in
        let p : IsPatternType Σ (context_metavariables (items_context P)) (context_skeletons D) (open_type (length (context_skeletons D)) R) = head_on_patterns Σ (items_context P) (context_skeletons D) (within (length D)) o R r' all_have.1 in
        record {
          declared = items_on_patterns Σ ok (items_context P) context_of all_have.0;
          result = subst (λ k. IsPatternType Σ (context_metavariables (items_context P)) (context_skeletons (taken X)) (open_type k R)) (length_context D ∙ same_taken X) (subst (λ Γ. IsPatternType Σ (context_metavariables (items_context P)) Γ (open_type (length (context_skeletons D)) R)) (taken_same zero X) p);
        }

  -- with its items
  pub head_of_split_has_patterns : (x : ℕ) (X : LfType) → TypeAt (items_context I) x X → (J : List Item) (n : ℕ) (h : Head) (A : LfType) → SplitHead Σ W I X J n h A → HasNoBlockVariable J → HeadHasPatterns Σ below X J n A × AllItemsHave (items_context (split_items below X J n A))
  head_of_split_has_patterns x X at J n h A sh b = by J n (head_has x X at sh b).0 (head_has x X at sh b).1 sh b
    where
      by : (J : List Item) (n : ℕ) → J ≡ I → n ≡ zero → SplitHead Σ W I X J n h A → HasNoBlockVariable J → HeadHasPatterns Σ below X J n A × AllItemsHave (items_context (split_items below X J n A))
      by J n e q sh b = subst (λ (z : List Item). SplitHead Σ W I X z n h A → HasNoBlockVariable z → HeadHasPatterns Σ below X z n A × AllItemsHave (items_context (split_items below X z n A))) (sym e) (subst (λ (k : ℕ). SplitHead Σ W I X I k h A → HasNoBlockVariable I → HeadHasPatterns Σ below X I k A × AllItemsHave (items_context (split_items below X I k A))) (sym q) (λ s c. (plain_head_has_patterns x X at h A s c, new_items_have x X at h A s c))) sh b
