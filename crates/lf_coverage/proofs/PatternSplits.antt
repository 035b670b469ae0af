-- The sides of the equations of a split store have patterns, where the head's types do.
use Rattle.std.proofs.Common.{◌≡◌, ℕ, zero, suc, ◌+◌, List, [], ◌∷◌, length, refl, sym, ap, ap₂, ◌∙◌, subst, arith}
use Rattle.std.specs.Prelude.{Bool, Option, Some}
use Rattle.lf.specs.AtOnce.{shift_by}
use Rattle.lf.specs.Eta.{eta_long}
use Rattle.lf.specs.Skeletons.{context_skeletons, family_skeleton, family_skeletons}
use Rattle.lf.specs.Subordination.{Block}
use Rattle.lf.specs.Substitution.{single, reduce}
use Rattle.lf.specs.Syntax.{Head, variable, Spine, nil, app, LfType, pi, atom, Kind, kind_pi, star, Skeleton, base, skeleton, kind_skeleton, rename_type}
use Rattle.lf.specs.Typing.{Signature, TypeAt, instantiate_kind}
use Rattle.lf.specs.Variables.{binders, target, target_arguments}
use Rattle.lf.proofs.Target.{target_renamed}
use Rattle.lf.proofs.ToSkeletons.{kind_skeleton_substituted}
use Rattle.lf.proofs.TypeLaws.{skeleton_renamed}
use Rattle.lf_unification.specs.Offering.{spine_equations}
use Rattle.lf_unification.specs.Patterns.{context_under, local_skeletons}
use Rattle.lf_cases.specs.Case.{Item, items_context}
use Rattle.lf_cases.specs.Reached.{SplitHead, constant_head, bound_head, entry_head, new_entry_head, arguments_count, head_masks, head_term, split_items, taken}
use Rattle.lf_cases.specs.Split.{HasNoBlockVariable}
use Rattle.lf_coverage.specs.Heads.{result_type}
use Rattle.lf_coverage.specs.PatternSplits.{SplitCaseIsPattern, SplitStoreIsPattern}
use Rattle.lf_coverage.specs.PatternStores.{ArePatternArguments, IsPatternTerm, IsPatternType, SidesArePatterns}
use Rattle.lf_coverage.specs.SplitStore.{context_metavariables, open_locals, open_some, open_spine, open_term, open_type}
use Rattle.lf_coverage.proofs.HeadTerm.{head_target, taken_length}
use Rattle.lf_coverage.proofs.PatternCases.{solved_case_is_pattern}
use Rattle.lf_coverage.proofs.PatternHeads.{variables_are_patterns}
use Rattle.lf_coverage.proofs.PatternHeadTerm.{head_term_is_pattern, under_binders}
use Rattle.lf_coverage.proofs.ResultType.{result_atom}
use Rattle.lf_coverage.proofs.SolvedCase.{behind_types}
use Rattle.lf_coverage.proofs.StoreSolution.{looked_up, skeleton_open}

module _ (Σ : Signature) (Ψ : ℕ → Option LfType) where
  spine_sides : (D : List LfType) (a : ℕ) (K : Kind) (S T : Spine) → ArePatternArguments Σ Ψ (local_skeletons D []) S (kind_skeleton a K) (base a) → ArePatternArguments Σ Ψ (local_skeletons D []) T (kind_skeleton a K) (base a) → SidesArePatterns Σ Ψ (spine_equations D K S T)
  spine_sides D a star S T s t = tt
  spine_sides D a (kind_pi A K) nil T s t = tt
  spine_sides D a (kind_pi A K) (app M S) nil s t = tt
  spine_sides D a (kind_pi A K) (app M S) (app N T) (m, s) (n, t) =
      let q : kind_skeleton a K ≡ kind_skeleton a (instantiate_kind A M K) = sym (kind_skeleton_substituted a reduce (single (skeleton A) M) K) in
      ((m, n), spine_sides D a (instantiate_kind A M K) S T (subst (λ u. ArePatternArguments Σ Ψ (local_skeletons D []) S u (base a)) q s) (subst (λ u. ArePatternArguments Σ Ψ (local_skeletons D []) T u (base a)) q t))

  -- the indices of a type of patterns
  type_end : (G : List LfType) (A : LfType) → IsPatternType Σ Ψ (context_skeletons G) (open_type (length G) A) → (t : Skeleton) × (family_skeletons Σ (target A) ≡ Some t) × ArePatternArguments Σ Ψ (context_skeletons (binders G A)) (open_spine (length (binders G A)) (target_arguments A)) t (base (target A))
  type_end G (pi A B) (a, b) = type_end (A ∷ G) B (subst (λ u. IsPatternType Σ Ψ (u ∷ context_skeletons G) (open_type (suc (length G)) B)) (skeleton_open (length G) A) b)
  type_end G (atom a S) p = p

pub locals_open : (D : List LfType) → local_skeletons (open_locals D) [] ≡ context_skeletons D
locals_open [] = refl
locals_open (A ∷ D) = ap₂ ◌∷◌ (skeleton_open (length D) A) (locals_open D)

pub taken_same : (c : ℕ) (X : LfType) → context_skeletons (taken (rename_type (shift_by c) X)) ≡ context_skeletons (taken X)
taken_same c X = sym (under_binders [] (rename_type (shift_by c) X)) ∙ ap (λ t. context_under t []) (skeleton_renamed (shift_by c) X) ∙ under_binders [] X

-- the variable's own place behind the new ones
place_behind : (Σ : Signature) (W : List Block) (below : ℕ → ℕ → Bool) (I J : List Item) (X : LfType) (n : ℕ) (h : Head) (A : LfType) → SplitHead Σ W I X J n h A → HasNoBlockVariable J → (i : ℕ) (B : LfType) → TypeAt (items_context I) i B → TypeAt (items_context (split_items below X J n A)) (i + (n + arguments_count A)) (rename_type (shift_by (n + arguments_count A)) B)
place_behind Σ W below I J X n h A sh b i B g = by sh b
  where
    none : (c : ℕ) → c ≡ zero + c
    none c = omega arith

    at : (A : LfType) → TypeAt (items_context (split_items below X I zero A)) (i + (zero + arguments_count A)) (rename_type (shift_by (zero + arguments_count A)) B)
    at A = subst (λ c. TypeAt (items_context (split_items below X I zero A)) (i + c) (rename_type (shift_by c) B)) (none (arguments_count A)) (behind_types (head_masks below (taken (rename_type (shift_by zero) X)) (arguments_count A) A) (taken (rename_type (shift_by zero) X)) (arguments_count A) A I refl i B g)

    by : {J : List Item} {n : ℕ} {h : Head} {A : LfType} → SplitHead Σ W I X J n h A → HasNoBlockVariable J → TypeAt (items_context (split_items below X J n A)) (i + (n + arguments_count A)) (rename_type (shift_by (n + arguments_count A)) B)
    by {A = A} (constant_head k U e q) b = at A
    by {A = A} (bound_head j C l k q) b = at A
    by {A = A} (entry_head j C k f q) b = at A
    by (new_entry_head D j E m l k q) b = absurd b

pub split_store_is_pattern : SplitStoreIsPattern
split_store_is_pattern Σ W below I J x X at n h A sh nb K e hp =
    let c : ℕ = n + arguments_count A in
    let G : List LfType = items_context (split_items below X J n A) in
    let Φ : ℕ → Option LfType = context_metavariables G in
    let X2 : LfType = rename_type (shift_by c) X in
    let D : List LfType = taken X2 in
    let E : List LfType = open_locals D in
    let ks : List (List Bool) = head_masks below (taken (rename_type (shift_by n) X)) (arguments_count A) A in
    let R : LfType = result_type ks (taken (rename_type (shift_by n) X)) (arguments_count A) A in
    let g : TypeAt G (x + c) X2 = place_behind Σ W below I J X n h A sh nb x X at in
    let s : skeleton X ≡ skeleton (open_type zero X2) = sym (skeleton_open zero X2 ∙ skeleton_renamed (shift_by c) X) in
    let left : IsPatternTerm Σ Φ [] (open_term zero (eta_long (skeleton X) (variable (x + c)))) (skeleton (open_type zero X2)) =
    subst (IsPatternTerm Σ Φ [] _) s (subst (λ t. IsPatternTerm Σ Φ [] (open_term zero (eta_long t (variable (x + c)))) t) (skeleton_renamed (shift_by c) X) (variables_are_patterns Σ G (x + c) X2 g)) in
    let right : IsPatternTerm Σ Φ [] (open_term zero (head_term below (taken (rename_type (shift_by n) X)) h A)) (skeleton (open_type zero X2)) = subst (IsPatternTerm Σ Φ [] _) s (head_term_is_pattern Σ W below I J X n h A sh nb) in
    let px : IsPatternType Σ Φ [] (open_type zero X2) = hp.declared (x + c) (open_type zero X2) (ap open_some (looked_up G (x + c) X2 g)) in
    let l : local_skeletons E [] ≡ context_skeletons (taken X) = locals_open D ∙ taken_same c X in
    let len : length D ≡ length (taken X) = taken_length (shift_by c) X [] [] refl in
    let t : Skeleton = kind_skeleton (target X) K in
    let (t1, e1, s1) = type_end Σ Φ [] X2 px in
    let s1' : ArePatternArguments Σ Φ (context_skeletons D) (open_spine (length D) (target_arguments X2)) t (base (target X)) = ends Σ K (target X2) (target X) t1 (target_renamed (shift_by c) X) e e1 (λ u a. ArePatternArguments Σ Φ (context_skeletons D) (open_spine (length D) (target_arguments X2)) u (base a)) s1 in
    let s1'' : ArePatternArguments Σ Φ (local_skeletons E []) (open_spine (length (taken X)) (target_arguments X2)) t (base (target X)) = subst (λ Γ. ArePatternArguments Σ Φ Γ (open_spine (length (taken X)) (target_arguments X2)) t (base (target X))) (sym (locals_open D)) (subst (λ k. ArePatternArguments Σ Φ (context_skeletons D) (open_spine k (target_arguments X2)) t (base (target X))) len s1') in
    let (t2, e2, s2) = subst (λ Z. IsPatternType Σ Φ (context_skeletons (taken X)) (open_type (length (taken X)) Z)) (result_atom Σ ks (arguments_count A) (taken (rename_type (shift_by n) X)) A refl) hp.result in
    let s2' : ArePatternArguments Σ Φ (context_skeletons (taken X)) (open_spine (length (taken X)) (target_arguments R)) t (base (target X)) = ends Σ K (target A) (target X) t2 (head_target Σ W below I X J n h A sh) e e2 (λ u a. ArePatternArguments Σ Φ (context_skeletons (taken X)) (open_spine (length (taken X)) (target_arguments R)) u (base a)) s2 in
    let s2'' : ArePatternArguments Σ Φ (local_skeletons E []) (open_spine (length (taken X)) (target_arguments R)) t (base (target X)) = subst (λ Γ. ArePatternArguments Σ Φ Γ (open_spine (length (taken X)) (target_arguments R)) t (base (target X))) (sym l) s2' in
    record { bindings = tt; sides = ((left, right), spine_sides Σ Φ E (target X) K (open_spine (length (taken X)) (target_arguments X2)) (open_spine (length (taken X)) (target_arguments R)) s1'' s2'') }
  where
    some_one : {u t : Skeleton} → Some u ≡ Some t → u ≡ t
    some_one e = cc

    ends : (Σ : Signature) (K : Kind) (a b : ℕ) (u : Skeleton) → a ≡ b → Σ.kinds b ≡ Some K → family_skeletons Σ a ≡ Some u → (P : Skeleton → ℕ → Type 0) → P u a → P (kind_skeleton b K) b
    ends Σ K a b u q e f P p = subst (λ v. P v b) (some_one (sym f ∙ ap (family_skeletons Σ) q ∙ ap (family_skeleton b) e)) (subst (P u) q p)

pub split_case_is_pattern : SplitCaseIsPattern
split_case_is_pattern Σ ok W below C tc p x X at J n h A sh nb K e hp after s = solved_case_is_pattern Σ ok W below C tc p x X at J n h A sh nb K (split_store_is_pattern Σ W below C.items J x X at n h A sh nb K e hp) hp.declared after s
