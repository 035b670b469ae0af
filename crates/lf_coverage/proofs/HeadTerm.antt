-- The term that a head makes is typed by skeletons.
use Rattle.std.proofs.Common.{◌≡◌, ℕ, zero, suc, List, [], ◌∷◌, ◌+◌, ◌<◌, length, refl, sym, ap, ◌∙◌, subst, arith}
use Rattle.std.specs.Prelude.{Bool}
use Rattle.lf.specs.Syntax.{Head, Term, lambda, root, LfType, pi, atom, Skeleton, base, skeleton, rename_head, rename_type}
use Rattle.lf.specs.SkeletonTyping.{HeadSkeletons, SkeletonAt, HeadSkeleton, TermSkeleton, SpineSkeleton}
use Rattle.lf.specs.Skeletons.{constant_skeletons, context_skeletons, type_skeleton}
use Rattle.lf.specs.AtOnce.{shift_by, lift_renaming_by}
use Rattle.lf.specs.Eta.{lambdas}
use Rattle.lf.specs.Typing.{Signature, TypeAt}
use Rattle.lf.specs.Variables.{target, target_arguments, onto, binders}
use Rattle.lf.specs.Subordination.{Block}
use Rattle.lf.proofs.Target.{target_renamed}
use Rattle.lf.proofs.ToSkeletons.{variable_has_skeleton}
use Rattle.lf.proofs.TypeLaws.{skeleton_renamed}
use Rattle.lf_unification.specs.Offering.{pi_over}
use Rattle.lf_cases.specs.Case.{Item, items_context}
use Rattle.lf_cases.specs.Reached.{arguments_count, head_masks, head_spine, head_term, with_block, taken, SplitHead, constant_head, bound_head, entry_head, new_entry_head, split_items}
use Rattle.lf_totality.proofs.RaisedOutputs.{binders_over}
use Rattle.lf_coverage.proofs.Forms.{renaming_near, renaming_far, as_pis, no_shift_type}
use Rattle.lf_coverage.proofs.ResultType.{spine_fits}
use Rattle.lf_coverage.proofs.Transfer.{behind_head, onto_skeleton}

lambda_inside : (n : ℕ) (M : Term) → lambda (lambdas n M) ≡ lambdas n (lambda M)
lambda_inside zero M = refl
lambda_inside (suc n) M = ap lambda (lambda_inside n M)

lambdas_fit : (κ : HeadSkeletons) (C D : List LfType) (M : Term) (P : LfType) → TermSkeleton κ (context_skeletons (onto D C)) M (skeleton P) → TermSkeleton κ (context_skeletons C) (lambdas (length D) M) (skeleton (pi_over D P))
lambdas_fit κ C [] M P m = m
lambdas_fit κ C (A ∷ D) M P m = subst (λ N. TermSkeleton κ (context_skeletons C) N (skeleton (pi_over D (pi A P)))) (sym (lambda_inside (length D) M)) (lambdas_fit κ C D (lambda M) (pi A P) m)

-- a local variable has its skeleton whatever stands outside
near_skeleton : (D O O' : List LfType) (j : ℕ) (t : Skeleton) → j < length D → SkeletonAt (context_skeletons (onto D O)) j t → SkeletonAt (context_skeletons (onto D O')) j t
near_skeleton [] O O' j t l g = absurd (none l)
  where
    none : j < 0 → ⊥
    none l = omega arith
near_skeleton (A ∷ D) O O' zero t l g = g
near_skeleton (A ∷ D) O O' (suc j) t l g = near_skeleton D O O' j t (less l) g
  where
    less : suc j < suc (length D) → j < length D
    less l = omega arith

-- how many variables a moved type takes
pub taken_length : (ρ : ℕ → ℕ) (X : LfType) (Y Z : List LfType) → length Y ≡ length Z → length (binders Y (rename_type ρ X)) ≡ length (binders Z X)
taken_length ρ (pi A B) Y Z e = taken_length (Rattle.lf.specs.Syntax.lift_renaming ρ) B (rename_type ρ A ∷ Y) (A ∷ Z) (ap suc e)
taken_length ρ (atom a S) Y Z e = e

module _ (Σ : Signature) (W : List Block) (below : ℕ → ℕ → Bool) (I : List Item) (X : LfType) where
  -- an entry has the skeleton of its type behind the items of a head
  far_entry : (J : List Item) (n j : ℕ) (B : LfType) → TypeAt (items_context J) j B → length (taken (rename_type (shift_by n) X)) ≡ length (taken X) → SkeletonAt (context_skeletons (onto (taken (rename_type (shift_by n) X)) (items_context (split_items below X J n (rename_type (shift_by (length (taken X))) B))))) (lift_renaming_by (length (taken (rename_type (shift_by n) X))) (shift_by (arguments_count (rename_type (shift_by (length (taken X))) B))) (j + length (taken X))) (skeleton (rename_type (shift_by (length (taken X))) B))
  far_entry J n j B k e =
      let A : LfType = rename_type (shift_by (length (taken X))) B in
      let D : List LfType = taken (rename_type (shift_by n) X) in
      let c : ℕ = arguments_count A in
      let O : List LfType = items_context (split_items below X J n A) in
      let g : SkeletonAt (context_skeletons O) (j + c) (skeleton A) = behind_head (head_masks below D c A) D c A J refl j (skeleton A) (subst (SkeletonAt (context_skeletons (items_context J)) j) (sym (skeleton_renamed (shift_by (length (taken X))) B)) (variable_has_skeleton (items_context J) j B k)) in
      subst (λ i. SkeletonAt (context_skeletons (onto D O)) i (skeleton A)) (sym (ap (λ m. lift_renaming_by (length D) (shift_by c) (j + m)) (sym e) ∙ renaming_far (length D) (shift_by c) j)) (onto_skeleton D O (j + c) (skeleton A) g)

  -- the head has the skeleton of its type
  head_fits : (J : List Item) (n : ℕ) (h : Head) (A : LfType) → SplitHead Σ W I X J n h A → HeadSkeleton (constant_skeletons Σ) (context_skeletons (onto (taken (rename_type (shift_by n) X)) (items_context (split_items below X J n A)))) (rename_head (lift_renaming_by (length (taken (rename_type (shift_by n) X))) (shift_by (arguments_count A))) h) (skeleton A)
  head_fits J n h A (constant_head k U e t) = ap type_skeleton e
  head_fits J n h A (bound_head j B l k t) =
      let C : List LfType = items_context I in
      let D : List LfType = taken (rename_type (shift_by 0) X) in
      let q : taken X ≡ D = ap taken (sym (no_shift_type X)) in
      let l' : j < length D = subst (λ L. j < length L) q l in
      let g : SkeletonAt (context_skeletons (onto (taken X) C)) j (skeleton B) = variable_has_skeleton (onto (taken X) C) j B (subst (λ L. TypeAt L j B) (binders_over [] X C) k) in
      let O : List LfType = items_context (split_items below X I 0 B) in
      subst (λ i. SkeletonAt (context_skeletons (onto D O)) i (skeleton B)) (sym (renaming_near (length D) (shift_by (arguments_count B)) j l')) (near_skeleton D C O j (skeleton B) l' (subst (λ L. SkeletonAt (context_skeletons (onto L C)) j (skeleton B)) q g))
  head_fits J n h A (entry_head j B k f t) = far_entry I 0 j B k (taken_length (shift_by 0) X [] [] refl)
  head_fits J n h A (new_entry_head B j C m l k t) = far_entry (with_block B I) (length B.some + length B.entries) j C k (taken_length (shift_by (length B.some + length B.entries)) X [] [] refl)

  -- its target is that of the variable
  pub head_target : (J : List Item) (n : ℕ) (h : Head) (A : LfType) → SplitHead Σ W I X J n h A → target A ≡ target X
  head_target J n h A (constant_head k U e t) = t
  head_target J n h A (bound_head j B l k t) = t
  head_target J n h A (entry_head j B k f t) = target_renamed (shift_by (length (taken X))) B ∙ t
  head_target J n h A (new_entry_head B j C m l k t) = target_renamed (shift_by (length (taken X))) C ∙ t

  pub term_fits : (J : List Item) (n : ℕ) (h : Head) (A : LfType) → SplitHead Σ W I X J n h A → TermSkeleton (constant_skeletons Σ) (context_skeletons (items_context (split_items below X J n A))) (head_term below (taken (rename_type (shift_by n) X)) h A) (skeleton X)
  term_fits J n h A s =
      let X' : LfType = rename_type (shift_by n) X in
      let D : List LfType = taken X' in
      let C : List LfType = items_context (split_items below X J n A) in
      let t : target A ≡ target X' = head_target J n h A s ∙ sym (target_renamed (shift_by n) X) in
      let r : TermSkeleton (constant_skeletons Σ) (context_skeletons (onto D C)) (root (rename_head (lift_renaming_by (length D) (shift_by (arguments_count A))) h) (head_spine (head_masks below D (arguments_count A) A) D A)) (base (target X')) = (skeleton A, head_fits J n h A s, subst (λ b. SpineSkeleton (constant_skeletons Σ) (context_skeletons (onto D C)) (head_spine (head_masks below D (arguments_count A) A) D A) (skeleton A) (base b)) t (spine_fits Σ (head_masks below D (arguments_count A) A) (arguments_count A) D A J refl)) in
      subst (TermSkeleton (constant_skeletons Σ) (context_skeletons C) (head_term below D h A)) (ap skeleton (sym (as_pis X' [])) ∙ skeleton_renamed (shift_by n) X) (lambdas_fit (constant_skeletons Σ) C D (root (rename_head (lift_renaming_by (length D) (shift_by (arguments_count A))) h) (head_spine (head_masks below D (arguments_count A) A) D A)) (atom (target X') (target_arguments X')) r)
