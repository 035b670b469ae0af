-- Runs by unification over families with indices, where the types of the constants have patterns: each split keeps patterns.
use Rattle.std.proofs.Common.{◌≡◌, ℕ, zero, suc, ◌⊎◌, List, [], ◌∷◌, inl, inr, refl, sym, ap, subst, arith}
use Rattle.std.specs.Prelude.{◌+◌, Bool, true, false, Option, Some, None}
use Rattle.lf.specs.Subordination.{Block, Member, AreTypedBlocks, IsBelowTest, SelfContained}
use Rattle.lf.specs.Syntax.{LfType, Kind, kind_pi, star, lift_renaming, rename_type, weaken}
use Rattle.lf.specs.Typing.{Signature, TypeAt, IsSignature}
use Rattle.lf.specs.Variables.{everything, nothing}
use Rattle.lf_checks.specs.Marks.{input_places}
use Rattle.lf_checks.proofs.EtaTest.{both_l, both_r}
use Rattle.lf_cases.specs.Case.{Item, Case, free_variable, goal_items, input_goal, items_context, past_place}
use Rattle.lf_cases.specs.Reached.{SplitHead, arguments_count, split_items}
use Rattle.lf_cases.specs.Split.{HasNoBlockVariable}
use Rattle.lf_unification.specs.Dependency.{free_context}
use Rattle.lf_unification.specs.OpenTyping.{skeletons_of}
use Rattle.lf_unification.specs.PartialInstance.{IsFilling}
use Rattle.lf_unification.specs.Solving.{Solved}
use Rattle.lf_unification.specs.Unifiers.{Store}
use Rattle.lf_coverage.specs.HeadOrder.{Offer}
use Rattle.lf_coverage.specs.Heads.{IsTypedCase}
use Rattle.lf_coverage.specs.Indices.{ConstantsHavePatterns, item_has_patterns, kind_has_patterns}
use Rattle.lf_coverage.specs.IndicesRuns.{IndexedRunHasPatterns, IndexedRunIsNeverStuck, IndexedRunProceeds, IndexedRunSplitsByPatterns}
use Rattle.lf_coverage.specs.PatternCases.{IsPatternCase}
use Rattle.lf_coverage.specs.PatternHeadRuns.{SplitsByPatterns}
use Rattle.lf_coverage.specs.PatternSplits.{HeadHasPatterns}
use Rattle.lf_coverage.specs.PatternStores.{IsPatternStore, TypesArePatterns}
use Rattle.lf_coverage.specs.SplitStore.{AllFamiliesIn, context_metavariables, open_some, open_type, solved_case, split_store, type_in}
use Rattle.lf_coverage.specs.Subordinate.{AllQuantifiersAreBelow}
use Rattle.lf_coverage.specs.SubordinateRuns.{ComesBy, comes_itself, comes_by_split}
use Rattle.lf_coverage.specs.UnifiedSplit.{AnswersEachHead, HeadIsAnswered, IsAnsweredSplit}
use Rattle.lf_coverage.proofs.Listed.{answer_of, offer_of_case}
use Rattle.lf_coverage.proofs.IndicesFamilies.{split_families}
use Rattle.lf_coverage.proofs.IndicesHeads.{AllItemsHave, item_at, outer_renames}
use Rattle.lf_coverage.proofs.IndicesOpened.{item_open, item_opened, outer_opens}
use Rattle.lf_coverage.proofs.IndicesRenamed.{Returns, item_renames, item_returns}
use Rattle.lf_coverage.proofs.IndicesSplits.{head_of_split_has_patterns}
use Rattle.lf_coverage.proofs.IndicesSteps.{TypesHave, run_has}
use Rattle.lf_coverage.proofs.IndicesTyped.{items_on_patterns}
use Rattle.lf_coverage.proofs.IndicesValues.{types_read_have}
use Rattle.lf_coverage.proofs.ItemsContext.{items_are_context}
use Rattle.lf_coverage.proofs.PatternCases.{values_bound}
use Rattle.lf_coverage.proofs.PatternCaseTests.{pattern_case_has_patterns}
use Rattle.lf_coverage.proofs.PatternRuns.{goal_patterns}
use Rattle.lf_coverage.proofs.PatternSplits.{split_case_is_pattern, split_store_is_pattern}
use Rattle.lf_coverage.proofs.PatternSteps.{run_keeps}
use Rattle.lf_coverage.proofs.SolvedCase.{free_context_is, free_without}
use Rattle.lf_coverage.proofs.StoreSolution.{found_type, looked_up}
use Rattle.lf_coverage.proofs.StuckRuns.{input_run_is_never_stuck, input_run_proceeds}
use Rattle.lf_coverage.proofs.Subordinate.{inputs_quantify_below}
use Rattle.lf_coverage.proofs.SubordinateRuns.{run_quantifies_below}
use Rattle.lf_coverage.proofs.TypedCases.{input_goal_is_typed_case}

-- items as metavariables, and back
one : {X Y : LfType} → Some X ≡ Some Y → X ≡ Y
one e = cc

opened_have : (G : List LfType) → AllItemsHave G → TypesHave (context_metavariables G)
opened_have G h m A e = by (type_in G m) refl e
  where
    by : (y : Option LfType) → type_in G m ≡ y → open_some y ≡ Some A → item_has_patterns nothing A ≡ true
    by None q e = absurd cc
    by (Some X) q e = subst (λ Z. item_has_patterns nothing Z ≡ true) (one e) (item_open zero everything nothing outer_opens X (item_at G h m X (found_type G m X q)))

outer_returns : Returns everything everything suc
outer_returns = record { kind = λ i. refl; distinct = λ i j e. omega (arith, e); order = λ i j e f n. absurd (no f) }
  where
    no : true ≡ false → ⊥
    no e = cc

each_has : (G : List LfType) → ((i : ℕ) (X : LfType) → TypeAt G i X → item_has_patterns everything X ≡ true) → AllItemsHave G
each_has [] h = tt
each_has (A ∷ G) h = (item_returns everything everything suc outer_returns A (h zero (weaken A) refl), each_has G (λ i X g. item_returns everything everything suc outer_returns X (h (suc i) (weaken X) (X, g, refl))))

read_have : (G : List LfType) → TypesHave (context_metavariables G) → AllItemsHave G
read_have G h = each_has G (λ i X g. item_opened zero everything nothing outer_opens X (h i (open_type zero X) (ap open_some (looked_up G i X g))))

-- the case that is read off
solved_items_have : (Σ : Signature) → IsSignature Σ → (before after : Store) (s : Solved Σ before after) → IsPatternStore Σ before → TypesArePatterns Σ before.metavariables → TypesHave before.metavariables → (C : Case) (k : ℕ) → AllItemsHave (items_context (solved_case C k after s.well_formed.order).items)
solved_items_have Σ ok before after s p t h C k =
    let (q, u) = run_keeps Σ s.run p t in
    let x : TypesHave after.metavariables = run_has Σ s.run p t h in
    let vs = values_bound Σ ok after.metavariables (IsFilling Σ [] after) s.well_formed.order s.well_formed.is_order after.bindings q.bindings s.well_formed.order s.well_formed.is_order s.well_formed.values_bound in
    subst AllItemsHave (sym (free_context_is (free_context (skeletons_of after.metavariables) s.well_formed.order))) (read_have (free_context (skeletons_of after.metavariables) s.well_formed.order) (types_read_have Σ ok after.metavariables (IsFilling Σ [] after) s.well_formed.order s.well_formed.is_order vs u x))

-- the goal of inputs
goal_items_have : (m : List Bool) (K : Kind) (ρ : ℕ → ℕ) (I : List Item) → AllItemsHave (items_context I) → kind_has_patterns m K ≡ true → AllItemsHave (items_context (goal_items m K ρ I))
goal_items_have [] K ρ I i e = i
goal_items_have (b ∷ m) star ρ I i e = i
goal_items_have (true ∷ m) (kind_pi A K) ρ I i e = goal_items_have m K (lift_renaming ρ) (free_variable (rename_type ρ A) ∷ I) (item_renames everything everything ρ (outer_renames ρ) A (both_l (item_has_patterns everything A) (kind_has_patterns m K) e), i) (both_r (item_has_patterns everything A) (kind_has_patterns m K) e)
goal_items_have (false ∷ m) (kind_pi A K) ρ I i e = goal_items_have m K (past_place ρ) I i e

module _ (Σ : Signature) (ok : IsSignature Σ) (T : ℕ → Bool) (constants : ConstantsHavePatterns Σ T) (W : List Block) (typed : AreTypedBlocks Σ W) (sc : SelfContained Σ W T) (below : ℕ → ℕ → Bool) (test : (f : ℕ) → IsBelowTest Σ W (below f) f) where
  abbrev Kept : Case → Type 0
  Kept C = HasNoBlockVariable C.items × IsPatternCase Σ C × AllItemsHave (items_context C.items) × AllFamiliesIn T (items_context C.items)

  module _ (C : Case) (Cs : List Case) (tc : IsTypedCase Σ W C) (k : Kept C) (x : ℕ) (sp : IsAnsweredSplit Σ W below C x Cs) where
    -- no head has a new block variable
    no_block : (h : Offer) → Member h sp.offers → HasNoBlockVariable h.items
    no_block h m = by (answer_of sp.listed h m)
      where
        by : ((D : Case) × Member D Cs × HeadIsAnswered Σ below C x sp.type h (Some D)) ⊎ HeadIsAnswered Σ below C x sp.type h None → HasNoBlockVariable h.items
        by (inl (D, m, a)) = a.no_block
        by (inr a) = a.no_block

    heads_have : (h : Offer) → Member h sp.offers → HeadHasPatterns Σ below sp.type h.items h.moved h.type × AllItemsHave (items_context (split_items below sp.type h.items h.moved h.type))
    heads_have h m = head_of_split_has_patterns Σ ok T constants W typed below C.items tc.items k.2 k.3 x sp.type sp.at h.items h.moved h.head h.type (sp.are_offers.each h m) (no_block h m)

    by_patterns : SplitsByPatterns Σ W below C Cs
    by_patterns = (x, sp, λ h m. (heads_have h m).0)

    case_kept : (D : Case) → Member D Cs → Kept D
    case_kept D m = let (h, o, a) = offer_of_case sp.listed D m in by h (sp.are_offers.each h o) (heads_have h o) a (split_families Σ W below T sc C D Cs k.3 (x, sp) m)
      where
        by : (h : Offer) → SplitHead Σ W C.items sp.type h.items h.moved h.head h.type → HeadHasPatterns Σ below sp.type h.items h.moved h.type × AllItemsHave (items_context (split_items below sp.type h.items h.moved h.type)) → HeadIsAnswered Σ below C x sp.type h (Some D) → AllFamiliesIn T (items_context D.items) → Kept D
        by h sh (hp, ai) a f =
            let (after, s, e) = a.finds in
            let before : Store = split_store below x sp.type h.items h.moved h.head h.type a.kind in
            let p : IsPatternStore Σ before = split_store_is_pattern Σ W below C.items h.items x sp.type sp.at h.moved h.head h.type sh a.no_block a.kind a.of_family hp in
            subst Kept (sym e) (
              free_without (free_context (skeletons_of after.metavariables) s.well_formed.order),
              split_case_is_pattern Σ ok W below C tc k.1 x sp.type sp.at h.items h.moved h.head h.type sh a.no_block a.kind a.of_family hp after s,
              solved_items_have Σ ok before after s p hp.declared (opened_have (items_context (split_items below sp.type h.items h.moved h.type)) ai) C (h.moved + arguments_count h.type),
              subst (λ (E : Case). AllFamiliesIn T (items_context E.items)) e f,
            )

  split_kept : (C : Case) (Cs : List Case) → IsTypedCase Σ W C → Kept C → AnswersEachHead Σ W below C Cs → SplitsByPatterns Σ W below C Cs × ((D : Case) → Member D Cs → Kept D)
  split_kept C Cs tc k (x, sp) = (by_patterns C Cs tc k x sp, case_kept C Cs tc k x sp)

  module _ (goal : Case) (tg : IsTypedCase Σ W goal) (qg : AllQuantifiersAreBelow below (items_context goal.items)) (kg : Kept goal) where
    comes_kept : (D : Case) → ComesBy (AnswersEachHead Σ W below) goal D → ComesBy (SplitsByPatterns Σ W below) goal D × Kept D
    comes_kept D comes_itself = (comes_itself, kg)
    comes_kept D (comes_by_split {C = C} Cs r s m) = by (comes_kept C r)
      where
        by : ComesBy (SplitsByPatterns Σ W below) goal C × Kept C → ComesBy (SplitsByPatterns Σ W below) goal D × Kept D
        by (q, k) = let (p, f) = split_kept C Cs (run_quantifies_below Σ ok W typed below test goal tg qg C r).0 k s in (comes_by_split Cs q p m, f D m)

  module _ (a : ℕ) (m : List Bool) (K : Kind) (e : Σ.kinds a ≡ Some K) (c : Rattle.lf_checks.specs.Marks.MentionChosenOnly nothing m K) (h : kind_has_patterns m K ≡ true) (f : AllFamiliesIn T (items_context (input_goal a m K).items)) where
    input_goal_kept : Kept (input_goal a m K)
    input_goal_kept =
        let (tg, hl, nb) = input_goal_is_typed_case Σ ok W typed a m K e c in
        let i : AllItemsHave (items_context (input_goal a m K).items) = goal_items_have m K (λ i. i) [] tt h in
        (nb, record { no_local = refl; types = items_on_patterns Σ ok (items_context (input_goal a m K).items) (items_are_context Σ ok W typed (input_goal a m K).items tg.items) i; arguments = goal_patterns Σ ok W typed m K (λ i. i) [] }, i, f)

    pub input_run_kept : (D : Case) → ComesBy (AnswersEachHead Σ W below) (input_goal a m K) D → ComesBy (SplitsByPatterns Σ W below) (input_goal a m K) D × Kept D
    input_run_kept D r = comes_kept (input_goal a m K) (input_goal_is_typed_case Σ ok W typed a m K e c).0 (inputs_quantify_below Σ W below test a m K e) input_goal_kept D r

pub indexed_run_splits_by_patterns : IndexedRunSplitsByPatterns
indexed_run_splits_by_patterns Σ ok T constants W typed sc below test a m K e c h f D r = (input_run_kept Σ ok T constants W typed sc below test a m K e c h f D r).0

pub indexed_run_has_patterns : IndexedRunHasPatterns
indexed_run_has_patterns Σ ok T constants W typed sc below test a m K e c h f D r =
    let (q, (nb, p, i, fd)) = input_run_kept Σ ok T constants W typed sc below test a m K e c h f D r in
    (p, pattern_case_has_patterns Σ W D nb (run_quantifies_below Σ ok W typed below test (input_goal a m K) (input_goal_is_typed_case Σ ok W typed a m K e c).0 (inputs_quantify_below Σ W below test a m K e) D r).0 p)

pub indexed_run_is_never_stuck : IndexedRunIsNeverStuck
indexed_run_is_never_stuck Σ ok T constants sc below test m a K e c h f ps hs D r = input_run_is_never_stuck Σ ok below test m a K e c ps hs D r (indexed_run_has_patterns Σ ok T constants [] (λ B k. absurd k) sc below test a (input_places (m a)) K e c h f D r).1

pub indexed_run_proceeds : IndexedRunProceeds
indexed_run_proceeds Σ ok T constants sc below test m a K e c h f ps hs D r = input_run_proceeds Σ ok below test m a K e c ps hs D r (indexed_run_has_patterns Σ ok T constants [] (λ B k. absurd k) sc below test a (input_places (m a)) K e c h f D r).1
