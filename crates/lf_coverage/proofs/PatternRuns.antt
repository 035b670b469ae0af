-- Runs over families without indices keep patterns.
use Rattle.std.proofs.Common.{◌≡◌, ℕ, zero, suc, ◌+◌, List, [], ◌∷◌, refl, sym, ap, ◌∙◌, subst, arith}
use Rattle.std.specs.Prelude.{Bool, true, false, Option, Some, None}
use Rattle.lf.specs.AtOnce.{shift_by}
use Rattle.lf.specs.Skeletons.{family_skeleton}
use Rattle.lf.specs.Subordination.{Block, Member, AreTypedBlocks, IsBelowTest, SelfContained}
use Rattle.lf.specs.Syntax.{Head, Spine, nil, app, LfType, pi, atom, Kind, kind_pi, star, Skeleton, base, skeleton, lift_renaming, rename_type, weaken}
use Rattle.lf.specs.Typing.{Signature, TypeAt, IsType, IsContext, IsSignature, SpineFitsKind}
use Rattle.lf.specs.Variables.{FamiliesIn, nothing, target}
use Rattle.lf.proofs.TypeLaws.{skeleton_renamed}
use Rattle.lf.proofs.Weakening.{declared_is_type}
use Rattle.lf_checks.specs.Marks.{MentionChosenOnly}
use Rattle.lf_cases.specs.Case.{Item, Case, chosen_count, free_variable, goal_arguments, goal_items, input_goal, items_context, past_place}
use Rattle.lf_cases.specs.Reached.{SplitHead, arguments_count, split_items}
use Rattle.lf_cases.specs.Split.{HasNoBlockVariable}
use Rattle.lf_unification.specs.Dependency.{free_context}
use Rattle.lf_unification.specs.OpenTyping.{skeletons_of}
use Rattle.lf_coverage.specs.HeadOrder.{Offer}
use Rattle.lf_coverage.specs.Heads.{IsTypedCase}
use Rattle.lf_coverage.specs.PatternCases.{ArgumentsArePatterns, IsPatternCase}
use Rattle.lf_coverage.specs.PatternRuns.{HaveNoIndices, InputRunHasPatterns, RunKeepsPatterns}
use Rattle.lf_coverage.specs.PatternStores.{IsPatternStore, IsPatternTerm, IsPatternType, TypesArePatterns}
use Rattle.lf_coverage.specs.SplitStore.{AllFamiliesIn, context_metavariables, open_some, open_type, split_store, type_in}
use Rattle.lf_coverage.specs.Subordinate.{AllQuantifiersAreBelow}
use Rattle.lf_coverage.specs.SubordinateRuns.{ComesBy, comes_itself, comes_by_split}
use Rattle.lf_coverage.specs.UnifiedSplit.{HeadIsAnswered, AnswersEachHead}
use Rattle.lf_coverage.proofs.Families.{solved_keeps_families, split_items_keep_families, store_families}
use Rattle.lf_coverage.proofs.Listed.{offer_of_case}
use Rattle.lf_coverage.proofs.InputTyped.{goal_behind}
use Rattle.lf_coverage.proofs.ItemsContext.{items_are_context}
use Rattle.lf_coverage.proofs.PatternCases.{behind_head, solved_case_is_pattern}
use Rattle.lf_coverage.proofs.PatternCaseTests.{pattern_case_has_patterns}
use Rattle.lf_coverage.proofs.PatternHeads.{variables_are_patterns}
use Rattle.lf_coverage.proofs.PatternHeadTerm.{head_term_is_pattern}
use Rattle.lf_coverage.proofs.SolvedCase.{free_without}
use Rattle.lf_coverage.proofs.SplitReady.{split_items_typed}
use Rattle.lf_coverage.proofs.StoreSolution.{families_at, found_type, skeleton_open}
use Rattle.lf_coverage.proofs.Subordinate.{inputs_quantify_below}
use Rattle.lf_coverage.proofs.SubordinateRuns.{run_quantifies_below}
use Rattle.lf_coverage.proofs.TypedCases.{input_goal_is_typed_case}

pub kind_one : {J K : Kind} → Some J ≡ Some K → J ≡ K
kind_one e = cc

some_one : {A B : LfType} → Some A ≡ Some B → A ≡ B
some_one e = cc

module _ (Σ : Signature) (S : ℕ → Bool) (none : HaveNoIndices Σ S) where
  -- a type of such families
  plain_type : (Φ : ℕ → Option LfType) (Γ : List Skeleton) (k : ℕ) (G : List LfType) (A : LfType) → IsType Σ G A → FamiliesIn S A → IsPatternType Σ Φ Γ (open_type k A)
  plain_type Φ Γ k G (pi A B) (a, b) (f, g) = (plain_type Φ Γ k G A a f, plain_type Φ (skeleton (open_type k A) ∷ Γ) (suc k) (A ∷ G) B b g)
  plain_type Φ Γ k G (atom a T) (K, e, s) f = by T (subst (SpineFitsKind Σ G T) (kind_one (sym e ∙ none a f)) s)
    where
      by : (T : Spine) → SpineFitsKind Σ G T star → IsPatternType Σ Φ Γ (open_type k (atom a T))
      by nil s = (base a, ap (family_skeleton a) (none a f), refl)
      by (app M T) s = absurd s

  pub plain_types : (G : List LfType) → IsSignature Σ → IsContext Σ G → AllFamiliesIn S G → TypesArePatterns Σ (context_metavariables G)
  plain_types G ok c f m A e = by (type_in G m) refl e
    where
      by : (y : Option LfType) → type_in G m ≡ y → open_some y ≡ Some A → IsPatternType Σ (context_metavariables G) [] A
      by None q e = absurd cc
      by (Some X) q e = let g : TypeAt G m X = found_type G m X q in subst (IsPatternType Σ (context_metavariables G) []) (some_one e) (plain_type (context_metavariables G) [] zero G X (declared_is_type Σ ok G m X c g) (families_at S G f m X g))

module _ (Σ : Signature) (ok : IsSignature Σ) (W : List Block) (typed : AreTypedBlocks Σ W) (below : ℕ → ℕ → Bool) (S : ℕ → Bool) (sc : SelfContained Σ W S) (none : HaveNoIndices Σ S) where
  abbrev Kept : Case → Type 0
  Kept C = AllFamiliesIn S (items_context C.items) × HasNoBlockVariable C.items × IsPatternCase Σ C

  pub target_in : (X : LfType) → FamiliesIn S X → S (target X) ≡ true
  target_in (pi A B) (a, b) = target_in B b
  target_in (atom a T) f = f

  -- the split store
  pub split_store_is_pattern : (C : Case) → IsTypedCase Σ W C → (x : ℕ) (X : LfType) → TypeAt (items_context C.items) x X → (J : List Item) (n : ℕ) (h : Head) (A : LfType) → SplitHead Σ W C.items X J n h A → HasNoBlockVariable J → (K : Kind) → K ≡ star → IsPatternStore Σ (split_store below x X J n h A K)
  split_store_is_pattern C tc x X at J n h A sh nj K e =
      let c : ℕ = n + arguments_count A in
      let G : List LfType = items_context (split_items below X J n A) in
      let (B, g, q) = behind_head Σ W below C.items J X n h A sh nj x X at in
      let s : skeleton X ≡ skeleton (open_type zero (rename_type (shift_by c) X)) = sym (skeleton_open zero (rename_type (shift_by c) X) ∙ skeleton_renamed (shift_by c) X) in
      subst (λ L. IsPatternStore Σ (split_store below x X J n h A L)) (sym e) (record {
        bindings = tt;
        sides = (
          (
            subst (IsPatternTerm Σ (context_metavariables G) [] _) s (subst (λ t. IsPatternTerm Σ (context_metavariables G) [] (Rattle.lf_coverage.specs.SplitStore.open_term zero (Rattle.lf.specs.Eta.eta_long t (Rattle.lf.specs.Syntax.variable (x + c)))) t) q (variables_are_patterns Σ G (x + c) B g)),
            subst (IsPatternTerm Σ (context_metavariables G) [] _) s (head_term_is_pattern Σ W below C.items J X n h A sh nj),
          ),
          tt,
        );
      })

  split_kept : (C D : Case) (Cs : List Case) → IsTypedCase Σ W C → Kept C → AnswersEachHead Σ W below C Cs → Member D Cs → Kept D
  split_kept C D Cs tc (f, nb, p) (x, sp) m = let (h, k, a) = offer_of_case sp.listed D m in by h (sp.are_offers.each h k) a
    where
      by : (h : Offer) → SplitHead Σ W C.items sp.type h.items h.moved h.head h.type → HeadIsAnswered Σ below C x sp.type h (Some D) → Kept D
      by h sh a =
          let (after, s, e) = a.finds in
          let P : List Item = split_items below sp.type h.items h.moved h.type in
          let fx : FamiliesIn S sp.type = families_at S (items_context C.items) f x sp.type sp.at in
          let star_is : a.kind ≡ star = kind_one (sym a.of_family ∙ none (target sp.type) (target_in sp.type fx)) in
          let fp : AllFamiliesIn S (items_context P) = split_items_keep_families Σ W S sc below C.items f x sp.type sp.at h.items h.moved h.head h.type sh a.no_block in
          let cp : IsContext Σ (items_context P) = items_are_context Σ ok W typed P (split_items_typed Σ ok W typed below C.items tc.items x sp.type sp.at h.items h.moved h.head h.type sh) in
          let st : IsPatternStore Σ (split_store below x sp.type h.items h.moved h.head h.type a.kind) = split_store_is_pattern C tc x sp.type sp.at h.items h.moved h.head h.type sh a.no_block a.kind star_is in
          let q : IsPatternCase Σ _ = solved_case_is_pattern Σ ok W below C tc p x sp.type sp.at h.items h.moved h.head h.type sh a.no_block a.kind st (plain_types Σ S none (items_context P) ok cp fp) after s in
          let fd : AllFamiliesIn S _ = solved_keeps_families Σ S (split_store below x sp.type h.items h.moved h.head h.type a.kind) after (store_families S (items_context P) fp) s C (h.moved + arguments_count h.type) in
          subst Kept (sym e) (fd, free_without (free_context (skeletons_of after.metavariables) s.well_formed.order), q)

module _ (Σ : Signature) (ok : IsSignature Σ) (W : List Block) (typed : AreTypedBlocks Σ W) (below : ℕ → ℕ → Bool) (test : (f : ℕ) → IsBelowTest Σ W (below f) f) (S : ℕ → Bool) (sc : SelfContained Σ W S) (none : HaveNoIndices Σ S) (goal : Case) (tg : IsTypedCase Σ W goal) (qg : AllQuantifiersAreBelow below (items_context goal.items)) where
  comes_kept : (D : Case) → Kept Σ ok W typed below S sc none goal → ComesBy (AnswersEachHead Σ W below) goal D → Kept Σ ok W typed below S sc none D
  comes_kept D k comes_itself = k
  comes_kept D k (comes_by_split {C = C} Cs r s m) = split_kept Σ ok W typed below S sc none C D Cs (run_quantifies_below Σ ok W typed below test goal tg qg C r).0 (comes_kept C k r) s m

pub run_keeps_patterns : RunKeepsPatterns
run_keeps_patterns Σ ok W typed below test S sc none goal tg qg f nb p D r = (comes_kept Σ ok W typed below test S sc none goal tg qg D (f, nb, p) r).2

module _ (Σ : Signature) (ok : IsSignature Σ) (W : List Block) (typed : AreTypedBlocks Σ W) where
  pub goal_patterns : (b : List Bool) (K : Kind) (ρ : ℕ → ℕ) (I : List Item) → ArgumentsArePatterns Σ (context_metavariables (items_context (goal_items b K ρ I))) (goal_arguments b K)
  goal_patterns [] K ρ I = tt
  goal_patterns (b ∷ bs) star ρ I = tt
  goal_patterns (true ∷ bs) (kind_pi A K) ρ I =
      let n : ℕ = chosen_count bs K in
      let J : List Item = goal_items bs K (lift_renaming ρ) (free_variable (rename_type ρ A) ∷ I) in
      let Y : LfType = rename_type (shift_by n) (weaken (rename_type ρ A)) in
      let at : TypeAt (items_context J) n Y = subst (λ j. TypeAt (items_context J) j Y) (none n) (goal_behind Σ ok W typed bs K (lift_renaming ρ) (free_variable (rename_type ρ A) ∷ I) zero (weaken (rename_type ρ A)) refl) in
      let s : skeleton Y ≡ skeleton A = skeleton_renamed (shift_by n) (weaken (rename_type ρ A)) ∙ skeleton_renamed suc (rename_type ρ A) ∙ skeleton_renamed ρ A in
      ((skeleton A, subst (λ t. IsPatternTerm Σ (context_metavariables (items_context J)) [] (Rattle.lf_coverage.specs.SplitStore.open_term zero (Rattle.lf.specs.Eta.eta_long t (Rattle.lf.specs.Syntax.variable n))) t) s (variables_are_patterns Σ (items_context J) n Y at)), goal_patterns bs K (lift_renaming ρ) (free_variable (rename_type ρ A) ∷ I))
    where
      none : (n : ℕ) → 0 + n ≡ n
      none n = omega arith
  goal_patterns (false ∷ bs) (kind_pi A K) ρ I = goal_patterns bs K (past_place ρ) I

-- What is kept along a run from the goal of inputs.
pub input_run_kept : (Σ : Signature) → IsSignature Σ → (W : List Block) → AreTypedBlocks Σ W → (below : ℕ → ℕ → Bool) → ((f : ℕ) → IsBelowTest Σ W (below f) f) → (S : ℕ → Bool) → SelfContained Σ W S → HaveNoIndices Σ S → (a : ℕ) (m : List Bool) (K : Kind) → Σ.kinds a ≡ Some K → MentionChosenOnly nothing m K → AllFamiliesIn S (items_context (input_goal a m K).items) → (D : Case) → ComesBy (AnswersEachHead Σ W below) (input_goal a m K) D → IsTypedCase Σ W D × (AllFamiliesIn S (items_context D.items) × HasNoBlockVariable D.items × IsPatternCase Σ D)
input_run_kept Σ ok W typed below test S sc none a m K e c f D r =
    let goal : Case = input_goal a m K in
    let (tg, hl, nb) = input_goal_is_typed_case Σ ok W typed a m K e c in
    let qg : AllQuantifiersAreBelow below (items_context goal.items) = inputs_quantify_below Σ W below test a m K e in
    let p : IsPatternCase Σ goal = record { no_local = refl; types = plain_types Σ S none (items_context goal.items) ok (items_are_context Σ ok W typed goal.items tg.items) f; arguments = goal_patterns Σ ok W typed m K (λ i. i) [] } in
    ((run_quantifies_below Σ ok W typed below test goal tg qg D r).0, comes_kept Σ ok W typed below test S sc none goal tg qg D (f, nb, p) r)

pub input_run_has_patterns : InputRunHasPatterns
input_run_has_patterns Σ ok W typed below test S sc none a m K e c f D r = let (td, (fd, nd, pd)) = input_run_kept Σ ok W typed below test S sc none a m K e c f D r in pattern_case_has_patterns Σ W D nd td pd
