-- What is read off a solved store of patterns is a case of patterns.
use Rattle.std.proofs.Common.{◌≡◌, ℕ, zero, ◌+◌, List, [], ◌∷◌, inl, inr, refl, sym, ap, ◌∙◌, subst, arith}
use Rattle.std.specs.Prelude.{Bool, Option, Some, None}
use Rattle.lf.specs.AtOnce.{shift_by}
use Rattle.lf.specs.SkeletonTyping.{TermSkeleton, SubstitutionBySkeletons}
use Rattle.lf.specs.Skeletons.{constant_skeletons, context_skeletons}
use Rattle.lf.specs.Subordination.{Block, Member}
use Rattle.lf.specs.Substitution.{Image, put, substitute, reduce}
use Rattle.lf.specs.Syntax.{Head, constant, variable, metavariable, Term, Spine, lambda, root, nil, app, LfType, Skeleton, skeleton, rename_type}
use Rattle.lf.specs.Typing.{Signature, TypeAt, IsSignature}
use Rattle.lf.specs.Variables.{onto}
use Rattle.lf.specs.Worlds.{instance, lift_over}
use Rattle.lf.proofs.ToSkeletons.{skeleton_has_variable, typed_has_skeleton}
use Rattle.lf.proofs.TypeLaws.{skeleton_renamed}
use Rattle.lf_unification.specs.Dependency.{IsDependencyOrder, ListedMetavariable, free_context, values}
use Rattle.lf_unification.specs.Filling.{fill_type}
use Rattle.lf_unification.specs.OpenTyping.{MetavariablesIn, MetavariablesInSpine, skeletons_of}
use Rattle.lf_unification.specs.PartialInstance.{IsFilling}
use Rattle.lf_unification.specs.Skeletons.{as_head_skeletons, skeleton_or_default, total_skeletons}
use Rattle.lf_unification.specs.Solving.{Solved, ValuesAreBindings}
use Rattle.lf_unification.specs.Unifiers.{Binding, Store}
use Rattle.lf_unification.proofs.Filling.{skeleton_fill}
use Rattle.lf_unification.proofs.Solving.{well_formed_answer}
use Rattle.lf_unification.proofs.StepLemmas.{value_of}
use Rattle.lf_cases.specs.Case.{Item, Case, as_term, items_context}
use Rattle.lf_cases.specs.Missing.{put_in}
use Rattle.lf_cases.specs.Reached.{SplitHead, constant_head, bound_head, entry_head, new_entry_head, arguments_count, head_masks, split_items, taken}
use Rattle.lf_cases.specs.Split.{HasNoBlockVariable}
use Rattle.lf_coverage.specs.Heads.{HaveSkeletons}
use Rattle.lf_coverage.specs.PatternCases.{ArgumentsArePatterns, IsPatternCase, SolvedCaseIsPattern}
use Rattle.lf_coverage.specs.PatternStores.{BindingsArePatterns, IsPatternStore, IsPatternTerm, TypesArePatterns}
use Rattle.lf_coverage.specs.SplitStore.{answer_image, answer_values, context_metavariables, open_some, open_term, open_type, solved_case, split_store, type_in}
use Rattle.lf_coverage.proofs.OpenTerms.{AllStand, FitsImage, fill_open}
use Rattle.lf_coverage.proofs.PatternSteps.{run_keeps}
use Rattle.lf_coverage.proofs.PatternValues.{ValuesArePatterns, filled_closed, have_all, types_read}
use Rattle.lf_coverage.proofs.SolvedCase.{behind_types, free_context_is}
use Rattle.lf_coverage.proofs.StoreSolution.{found_type, looked_up, skeleton_open}

-- the values of an order are its bindings
pub values_bound : (Σ : Signature) (ok : IsSignature Σ) (Ψ : ℕ → Option LfType) (U : (ℕ → Option Term) → Type 0) (order : List ListedMetavariable) (io : IsDependencyOrder Σ Ψ U order) (bs : List Binding) → BindingsArePatterns Σ Ψ bs → (is : List ListedMetavariable) → IsDependencyOrder Σ Ψ U is → ValuesAreBindings bs is → ValuesArePatterns Σ ok Ψ U order io is
values_bound Σ ok Ψ U order io bs h [] o v = tt
values_bound Σ ok Ψ U order io bs h (it ∷ is) o (v, w) = ((λ N e. at N bs h (v N e)), values_bound Σ ok Ψ U order io bs h is o.0 w)
  where
    some_same : {X Y : LfType} → Some X ≡ Some Y → X ≡ Y
    some_same e = cc

    at : (N : Term) (bs : List Binding) → BindingsArePatterns Σ Ψ bs → Member (record { of = it.of; value = N }) bs → IsPatternTerm Σ Ψ [] N (skeleton it.of_type)
    at N [] h m = absurd m
    at N (b ∷ bs) ((A, e, p), h) (inl q) =
        let of : it.of ≡ b.of = ap (λ (y : Binding). y.of) q in
        let value : N ≡ b.value = ap (λ (y : Binding). y.value) q in
        subst (λ M. IsPatternTerm Σ Ψ [] M (skeleton it.of_type)) (sym value) (subst (λ X. IsPatternTerm Σ Ψ [] b.value (skeleton X)) (some_same (sym e ∙ ap Ψ (sym of) ∙ o.1)) p)
    at N (b ∷ bs) (x, h) (inr m) = at N bs h m

-- the items of the case stand behind those of a head
no_block_behind : (below : ℕ → ℕ → Bool) (I : List Item) (X A : LfType) (i : ℕ) (B : LfType) → TypeAt (items_context I) i B → (B' : LfType) × TypeAt (items_context (split_items below X I zero A)) (i + (zero + arguments_count A)) B' × (skeleton B' ≡ skeleton B)
no_block_behind below I X A i B g = (rename_type (shift_by (arguments_count A)) B, subst (λ c. TypeAt (items_context (split_items below X I zero A)) (i + c) (rename_type (shift_by (arguments_count A)) B)) (none (arguments_count A)) (behind_types (head_masks below (taken (rename_type (shift_by zero) X)) (arguments_count A) A) (taken (rename_type (shift_by zero) X)) (arguments_count A) A I refl i B g), skeleton_renamed (shift_by (arguments_count A)) B)
  where
    none : (c : ℕ) → c ≡ zero + c
    none c = omega arith

pub behind_head : (Σ : Signature) (W : List Block) (below : ℕ → ℕ → Bool) (I J : List Item) (X : LfType) (n : ℕ) (h : Head) (A : LfType) → SplitHead Σ W I X J n h A → HasNoBlockVariable J → (i : ℕ) (B : LfType) → TypeAt (items_context I) i B → (B' : LfType) × TypeAt (items_context (split_items below X J n A)) (i + (n + arguments_count A)) B' × (skeleton B' ≡ skeleton B)
behind_head Σ W below I _ X _ _ A (constant_head k U e q) b i B g = no_block_behind below I X A i B g
behind_head Σ W below I _ X _ _ A (bound_head j C l k q) b i B g = no_block_behind below I X A i B g
behind_head Σ W below I _ X _ _ A (entry_head j C k f q) b i B g = no_block_behind below I X A i B g
behind_head Σ W below I _ X _ _ A (new_entry_head D j E m l k q) b i B g = absurd b

module _ (Σ : Signature) (ok : IsSignature Σ) (C : Case) (after : Store) (k : ℕ) (before : Store) (s : Solved Σ before after) (store : IsPatternStore Σ before) (types : TypesArePatterns Σ before.metavariables) (behind : (i : ℕ) (B : LfType) → TypeAt (items_context C.items) i B → (A : LfType) × (before.metavariables (i + k) ≡ Some A) × (skeleton A ≡ skeleton B)) where
  abbrev Ψ : ℕ → Option LfType
  Ψ = after.metavariables

  abbrev order : List ListedMetavariable
  order = s.well_formed.order

  abbrev O : List LfType
  O = free_context (skeletons_of after.metavariables) s.well_formed.order

  abbrev γ : ℕ → Option Term
  γ = values (skeletons_of after.metavariables) s.well_formed.order

  kept : IsPatternStore Σ after × TypesArePatterns Σ after.metavariables
  kept = run_keeps Σ s.run store types

  read_values : ValuesArePatterns Σ ok Ψ (IsFilling Σ [] after) order s.well_formed.is_order order
  read_values = values_bound Σ ok Ψ (IsFilling Σ [] after) order s.well_formed.is_order after.bindings kept.0.bindings order s.well_formed.is_order s.well_formed.values_bound

  pub read_types : TypesArePatterns Σ (context_metavariables O)
  read_types = types_read Σ ok Ψ (IsFilling Σ [] after) order s.well_formed.is_order read_values kept.1

  -- what stands for a variable of the case
  value : (i : ℕ) (B : LfType) → TypeAt (items_context C.items) i B → (N : Term) × (γ (i + k) ≡ Some N) × (skeletons_of Ψ (i + k) ≡ skeleton B) × TermSkeleton (constant_skeletons Σ) (context_skeletons O) N (skeleton B) × IsPatternTerm Σ (context_metavariables O) [] (open_term zero N) (skeleton B)
  value i B g =
      let (A, e, t) = behind i B g in
      let f : Ψ (i + k) ≡ Some A = s.keeps.grows (i + k) A e in
      let (N, q, p) = have_all Σ ok Ψ (IsFilling Σ [] after) order s.well_formed.is_order read_values (i + k) A (s.well_formed.all_listed (i + k) A f) f in
      let (N', q', h) = value_of Σ [] Ψ O γ (well_formed_answer Σ ok after s.well_formed s.none_left).0 (i + k) A f in
      let m : TermSkeleton (constant_skeletons Σ) (context_skeletons O) N' (skeleton B) = subst (TermSkeleton (constant_skeletons Σ) (context_skeletons O) N') (skeleton_fill (skeletons_of Ψ) γ A ∙ t) (typed_has_skeleton Σ O N' (fill_type (skeletons_of Ψ) γ A) h) in
      (N, q, ap skeleton_or_default f ∙ t, subst (λ X. TermSkeleton (constant_skeletons Σ) (context_skeletons O) X (skeleton B)) (term_one (sym q' ∙ q)) m, subst (IsPatternTerm Σ (context_metavariables O) [] (open_term zero N)) t p)
    where
      term_one : {X Y : Term} → Some X ≡ Some Y → X ≡ Y
      term_one e = cc

  abbrev σ : ℕ → Image
  σ = λ i. answer_values after s.well_formed.order (i + k)

  abbrev δ : ℕ → Option Term
  δ = λ i. values (skeletons_of after.metavariables) s.well_formed.order (i + k)

  value_is : (i : ℕ) (B : LfType) (g : TypeAt (items_context C.items) i B) → σ i ≡ put (skeleton B) (value i B g).0
  value_is i B g = ap (answer_image (skeletons_of Ψ (i + k))) (value i B g).1 ∙ ap (λ a. put a (value i B g).0) (value i B g).2

  declared : (i : ℕ) (B : LfType) → TypeAt (items_context C.items) i B → context_metavariables (items_context C.items) i ≡ Some (open_type zero B)
  declared i B g = ap open_some (looked_up (items_context C.items) i B g)

  stand : AllStand Σ (skeletons_of (context_metavariables (items_context C.items))) zero (context_skeletons (items_context C.items)) σ δ
  stand i t g =
      let (B, b, e) = skeleton_has_variable (items_context C.items) i t g in
      inl (i, refl, ap skeleton_or_default (declared i B b) ∙ skeleton_open zero B ∙ e, (value i B b).1 ∙ ap Some (ap (as_term t) (sym (value_is i B b))), subst (FitsImage t) (sym (value_is i B b)) e)

  fits : SubstitutionBySkeletons (constant_skeletons Σ) (context_skeletons (items_context C.items)) (context_skeletons O) σ
  fits i t g =
      let (B, b, e) = skeleton_has_variable (items_context C.items) i t g in
      subst (λ y. Rattle.lf.specs.SkeletonTyping.ImageSkeleton (constant_skeletons Σ) (context_skeletons O) y t) (sym (value_is i B b)) (e, (value i B b).3)

  some_same : {X Y : LfType} → Some X ≡ Some Y → X ≡ Y
  some_same e = cc

  variable_at : (i : ℕ) (A : LfType) → context_metavariables (items_context C.items) i ≡ Some A → (B : LfType) × TypeAt (items_context C.items) i B × (skeleton A ≡ skeleton B)
  variable_at i A e = by (type_in (items_context C.items) i) refl e
    where
      by : (y : Option LfType) → type_in (items_context C.items) i ≡ y → open_some y ≡ Some A → (B : LfType) × TypeAt (items_context C.items) i B × (skeleton A ≡ skeleton B)
      by None q e = absurd cc
      by (Some X) q e = (X, found_type (items_context C.items) i X q, ap skeleton (sym (some_same e)) ∙ skeleton_open zero X)

  mutual
    all_in : (M : Term) → MetavariablesIn (λ m. Unit {0}) M
    all_in (lambda M) = all_in M
    all_in (root (constant c) S) = all_in_spine S
    all_in (root (variable c) S) = all_in_spine S
    all_in (root (metavariable c) S) = (tt, all_in_spine S)

    all_in_spine : (S : Spine) → MetavariablesInSpine (λ m. Unit {0}) S
    all_in_spine nil = tt
    all_in_spine (app M S) = (all_in M, all_in_spine S)

  -- a term of the case, with the answer put in
  read_term : (M : Term) (a t : Skeleton) → TermSkeleton (constant_skeletons Σ) (context_skeletons (items_context C.items)) M a → IsPatternTerm Σ (context_metavariables (items_context C.items)) [] (open_term zero M) t → IsPatternTerm Σ (context_metavariables O) [] (open_term zero (substitute reduce σ M)) t
  read_term M a t m p = subst (λ X. IsPatternTerm Σ (context_metavariables O) [] (open_term zero X) t) (fill_open Σ (skeletons_of (context_metavariables (items_context C.items))) zero (context_skeletons (items_context C.items)) (context_skeletons O) σ δ stand fits M a m) (filled_closed Σ (context_metavariables (items_context C.items)) (context_metavariables O) (context_skeletons O) δ (total_skeletons Σ (skeletons_of Ψ)) (λ m. Unit {0}) typed have (open_term zero M) t (all_in (open_term zero M)) p)
    where
      term_one : {X Y : Term} → Some X ≡ Some Y → X ≡ Y
      term_one e = cc

      typed : (i : ℕ) (A : LfType) (N : Term) → Unit {0} → context_metavariables (items_context C.items) i ≡ Some A → values (skeletons_of after.metavariables) s.well_formed.order (i + k) ≡ Some N → TermSkeleton (as_head_skeletons (total_skeletons Σ (skeletons_of after.metavariables))) (context_skeletons (free_context (skeletons_of after.metavariables) s.well_formed.order)) N (skeleton A)
      typed i A N v e f =
          let (B, g, q) = variable_at i A e in
          let (X, x, y) = behind i B g in
          let z : after.metavariables (i + k) ≡ Some X = s.keeps.grows (i + k) X x in
          let (N', q', h) = value_of Σ [] after.metavariables (free_context (skeletons_of after.metavariables) s.well_formed.order) (values (skeletons_of after.metavariables) s.well_formed.order) (well_formed_answer Σ ok after s.well_formed s.none_left).0 (i + k) X z in
          subst (λ W. TermSkeleton (as_head_skeletons (total_skeletons Σ (skeletons_of after.metavariables))) (context_skeletons (free_context (skeletons_of after.metavariables) s.well_formed.order)) W (skeleton A)) (term_one (sym q' ∙ f)) (subst (TermSkeleton (as_head_skeletons (total_skeletons Σ (skeletons_of after.metavariables))) (context_skeletons (free_context (skeletons_of after.metavariables) s.well_formed.order)) N') (skeleton_fill (skeletons_of after.metavariables) (values (skeletons_of after.metavariables) s.well_formed.order) X ∙ y ∙ sym q) (Rattle.lf_unification.proofs.ToSkeletons.typed_has_skeleton Σ (skeletons_of after.metavariables) (free_context (skeletons_of after.metavariables) s.well_formed.order) N' (fill_type (skeletons_of after.metavariables) (values (skeletons_of after.metavariables) s.well_formed.order) X) h))

      have : (i : ℕ) (A : LfType) → Unit {0} → context_metavariables (items_context C.items) i ≡ Some A → (N : Term) × (values (skeletons_of after.metavariables) s.well_formed.order (i + k) ≡ Some N) × IsPatternTerm Σ (context_metavariables (free_context (skeletons_of after.metavariables) s.well_formed.order)) [] (open_term zero N) (skeleton A)
      have i A v e =
          let (B, g, q) = variable_at i A e in
          ((value i B g).0, (value i B g).1, subst (IsPatternTerm Σ (context_metavariables (free_context (skeletons_of after.metavariables) s.well_formed.order)) [] (open_term zero (value i B g).0)) (sym q) (value i B g).4)

  read_arguments : (Ms : List (Option Term)) → HaveSkeletons (constant_skeletons Σ) (context_skeletons (items_context C.items)) Ms → ArgumentsArePatterns Σ (context_metavariables (items_context C.items)) Ms → ArgumentsArePatterns Σ (context_metavariables O) (put_in σ Ms)
  read_arguments [] h p = tt
  read_arguments (Some M ∷ Ms) ((a, m), h) ((t, q), p) = ((t, read_term M a t m q), read_arguments Ms h p)
  read_arguments (None ∷ Ms) h p = read_arguments Ms h p

  pub read_case : HaveSkeletons (constant_skeletons Σ) (context_skeletons (onto C.local (items_context C.items))) C.arguments → IsPatternCase Σ C → IsPatternCase Σ (solved_case C k after s.well_formed.order)
  read_case h p = record {
    no_local = ap (λ L. instance L σ) p.no_local;
    types = subst (λ X. TypesArePatterns Σ (context_metavariables X)) (sym (free_context_is O)) read_types;
    arguments = subst (λ X. ArgumentsArePatterns Σ (context_metavariables X) (put_in (lift_over C.local σ) C.arguments)) (sym (free_context_is O)) (subst (λ τ. ArgumentsArePatterns Σ (context_metavariables O) (put_in τ C.arguments)) (ap (λ L. lift_over L σ) (sym p.no_local)) (read_arguments C.arguments (subst (λ L. HaveSkeletons (constant_skeletons Σ) (context_skeletons (onto L (items_context C.items))) C.arguments) p.no_local h) p.arguments));
  }

pub solved_case_is_pattern : SolvedCaseIsPattern
solved_case_is_pattern Σ ok W below C tc p x X at J n h A sh nj K store types after s = read_case Σ ok C after (n + arguments_count A) (split_store below x X J n h A K) s store types behind tc.arguments p
  where
    behind : (i : ℕ) (B : LfType) → TypeAt (items_context C.items) i B → (Y : LfType) × (context_metavariables (items_context (split_items below X J n A)) (i + (n + arguments_count A)) ≡ Some Y) × (skeleton Y ≡ skeleton B)
    behind i B g =
        let (B', k, e) = behind_head Σ W below C.items J X n h A sh nj i B g in
        (open_type zero B', ap open_some (looked_up (items_context (split_items below X J n A)) (i + (n + arguments_count A)) B' k), skeleton_open zero B' ∙ e)
