-- The term of a head is a pattern.
use Rattle.std.proofs.Common.{◌≡◌, ℕ, zero, suc, List, [], ◌∷◌, length, refl, sym, ap, ◌∙◌, subst, arith}
use Rattle.std.specs.Prelude.{◌+◌, ◌++◌, ◌<◌, Bool, true, false, Option}
use Rattle.lf.specs.AtOnce.{lift_renaming_by, shift_by}
use Rattle.lf.specs.Eta.{arity, lambdas}
use Rattle.lf.specs.SkeletonTyping.{SkeletonAt}
use Rattle.lf.specs.Skeletons.{context_skeletons, type_skeleton}
use Rattle.lf.specs.Subordination.{Block}
use Rattle.lf.specs.Syntax.{Head, variable, Term, Spine, root, LfType, pi, atom, Skeleton, base, arrow, skeleton, rename_head, rename_type}
use Rattle.lf.specs.Typing.{Signature}
use Rattle.lf.specs.Variables.{binders, target}
use Rattle.lf.proofs.ToSkeletons.{variable_has_skeleton}
use Rattle.lf.proofs.TypeLaws.{skeleton_renamed}
use Rattle.lf_unification.specs.Patterns.{context_under, skeleton_target}
use Rattle.lf_cases.specs.Case.{Item, items_context}
use Rattle.lf_cases.specs.Reached.{SplitHead, constant_head, bound_head, entry_head, new_entry_head, arguments_count, head_masks, head_spine, split_items, taken}
use Rattle.lf_cases.specs.Split.{HasNoBlockVariable}
use Rattle.lf_coverage.specs.PatternHeads.{HeadTermIsPattern}
use Rattle.lf_coverage.specs.PatternStores.{ArePatternArguments, IsPatternTerm}
use Rattle.lf_coverage.specs.SplitStore.{context_metavariables, open_spine, open_term, open_variable}
use Rattle.lf_coverage.proofs.PatternEta.{same_lambdas}
use Rattle.lf_coverage.proofs.PatternSides.{closed}
use Rattle.lf_coverage.proofs.PatternValues.{bound_stays, open_lambdas_of}
use Rattle.lf_coverage.proofs.SolvedCase.{all_free}
use Rattle.lf_coverage.proofs.PatternDistinct.{length_under, length_context}
use Rattle.lf_coverage.proofs.PatternHeads.{head_arguments_are_patterns}

-- the variables that a variable takes
pub under_binders : (G : List LfType) (X : LfType) → context_under (skeleton X) (context_skeletons G) ≡ context_skeletons (binders G X)
under_binders G (pi A B) = under_binders (A ∷ G) B
under_binders G (atom a S) = refl

pub target_is : (X : LfType) → skeleton_target (skeleton X) ≡ target X
target_is (pi A B) = target_is B
target_is (atom a S) = refl

pub lift_low : (n : ℕ) (ρ : ℕ → ℕ) (j : ℕ) → j < n → lift_renaming_by n ρ j ≡ j
lift_low zero ρ j l = absurd (omega (arith, l))
lift_low (suc n) ρ zero l = refl
lift_low (suc n) ρ (suc j) l = ap suc (lift_low n ρ j (omega (arith, l)))

in_first : (Γ Δ : List Skeleton) (j : ℕ) (u : Skeleton) → j < length Γ → SkeletonAt (Γ ++ Δ) j u → SkeletonAt Γ j u
in_first [] Δ j u l h = absurd (omega (arith, l))
in_first (a ∷ Γ) Δ zero u l h = h
in_first (a ∷ Γ) Δ (suc j) u l h = in_first Γ Δ j u (omega (arith, l)) h

in_under : (t : Skeleton) (Γ Δ : List Skeleton) (j : ℕ) (u : Skeleton) → j < length (context_under t Γ) → SkeletonAt (context_under t (Γ ++ Δ)) j u → SkeletonAt (context_under t Γ) j u
in_under (base c) Γ Δ j u l h = in_first Γ Δ j u l h
in_under (arrow a b) Γ Δ j u l h = in_under b (a ∷ Γ) Δ j u l h

module _ (Σ : Signature) (Φ : ℕ → Option LfType) (X : LfType) (S : Spine) where
  -- a root under the variables that are taken, closed
  closed_over : (t : Skeleton) (D : List LfType) (M : Term) → context_under t [] ≡ context_skeletons D → IsPatternTerm Σ Φ (context_skeletons D) (open_term (length D) M) (base (skeleton_target t)) → IsPatternTerm Σ Φ [] (open_term zero (lambdas (length D) M)) t
  closed_over t D M e p =
      let l : length (context_under t []) ≡ length D = ap length e ∙ length_context D in
      let n : arity t ≡ length D = none (arity t) ∙ sym (length_under t []) ∙ l in
      subst (λ N. IsPatternTerm Σ Φ [] N t) (sym (ap (λ k. open_term zero (lambdas k M)) (sym n) ∙ ap (open_term zero) (same_lambdas t M) ∙ open_lambdas_of t [] M)) (closed Σ Φ t [] (open_term (length (context_under t [])) M) (subst (λ Γ. IsPatternTerm Σ Φ Γ (open_term (length (context_under t [])) M) (base (skeleton_target t))) (sym e) (subst (λ k. IsPatternTerm Σ Φ (context_skeletons D) (open_term k M) (base (skeleton_target t))) (sym l) p)))
    where
      none : (n : ℕ) → n ≡ zero + n
      none n = omega arith

module _ (Σ : Signature) (W : List Block) (below : ℕ → ℕ → Bool) (I : List Item) (X : LfType) where
  abbrev D0 : ℕ → List LfType
  D0 n = taken (rename_type (shift_by n) X)

  abbrev Φ0 : List Item → ℕ → LfType → ℕ → Option LfType
  Φ0 J n A = context_metavariables (items_context (split_items below X J n A))

  taken_is : (n : ℕ) → context_under (skeleton X) [] ≡ context_skeletons (D0 n)
  taken_is n = ap (λ t. context_under t []) (sym (skeleton_renamed (shift_by n) X)) ∙ under_binders [] (rename_type (shift_by n) X)

  head_root : {J : List Item} {n : ℕ} {h : Head} {A : LfType} → SplitHead Σ W I X J n h A → HasNoBlockVariable J → ArePatternArguments Σ (Φ0 J n A) (context_skeletons (D0 n)) (open_spine (length (D0 n)) (head_spine (head_masks below (D0 n) (arguments_count A) A) (D0 n) A)) (skeleton A) (base (target A)) → (target A ≡ target X) × IsPatternTerm Σ (Φ0 J n A) (context_skeletons (D0 n)) (open_term (length (D0 n)) (root (rename_head (lift_renaming_by (length (D0 n)) (shift_by (arguments_count A))) h) (head_spine (head_masks below (D0 n) (arguments_count A) A) (D0 n) A))) (base (target A))
  head_root (constant_head k U e q) b s = (q, (skeleton U, ap type_skeleton e, s))
  head_root (bound_head j A l g q) b s =
      let D : List LfType = D0 zero in
      let t : Skeleton = skeleton X in
      let m : length (context_under t []) ≡ length D = ap length (taken_is zero) ∙ length_context D in
      let m' : length (context_under t []) ≡ length (taken X) = ap length (under_binders [] X) ∙ length_context (taken X) in
      let at : SkeletonAt (context_skeletons D) j (skeleton A) = subst (λ Γ. SkeletonAt Γ j (skeleton A)) (taken_is zero) (in_under t [] (context_skeletons (items_context I)) j (skeleton A) (subst (λ n. j < n) (sym m') l) (subst (λ Γ. SkeletonAt Γ j (skeleton A)) (sym (under_binders (items_context I) X)) (variable_has_skeleton (binders (items_context I) X) j A g))) in
      let stays : open_variable (length D) (lift_renaming_by (length D) (shift_by (arguments_count A)) j) ≡ variable j = ap (open_variable (length D)) (lift_low (length D) (shift_by (arguments_count A)) j (subst (λ n. j < n) (sym m' ∙ m) l)) ∙ ap (λ n. open_variable n j) (sym (length_context D)) ∙ bound_stays (context_skeletons D) j (skeleton A) at in
      (q, subst (λ h. IsPatternTerm Σ (Φ0 I zero A) (context_skeletons D) (root h (open_spine (length D) (head_spine (head_masks below D (arguments_count A) A) D A))) (base (target A))) (sym stays) (skeleton A, at, s))
  head_root (entry_head j A g f q) b s = absurd (no (sym (all_free I b j A g) ∙ f))
    where
      no : true ≡ false → ⊥
      no e = cc
  head_root (new_entry_head B j A m l g q) b s = absurd b

pub head_term_is_pattern : HeadTermIsPattern
head_term_is_pattern Σ W below I J X n h A sh b =
    let D : List LfType = D0 Σ W below I X n in
    let (q, p) = head_root Σ W below I X sh b (head_arguments_are_patterns Σ (head_masks below D (arguments_count A) A) D (arguments_count A) A J refl) in
    let S : Spine = head_spine (head_masks below D (arguments_count A) A) D A in
    closed_over Σ (Φ0 Σ W below I X J n A) X S (skeleton X) D (root (rename_head (lift_renaming_by (length D) (shift_by (arguments_count A))) h) S) (taken_is Σ W below I X n) (subst (λ a. IsPatternTerm Σ (Φ0 Σ W below I X J n A) (context_skeletons D) (open_term (length D) (root (rename_head (lift_renaming_by (length D) (shift_by (arguments_count A))) h) S)) (base a)) (q ∙ sym (target_is X)) p)
