-- What a run by unification keeps of subordination, and what it then covers.
use Rattle.std.proofs.Common.{◌≡◌, ℕ, ◌+◌, ◌⊎◌, List, [], ◌∷◌, inl, inr, sym, subst}
use Rattle.std.specs.Prelude.{Bool, true, Some, None}
use Rattle.std.specs.List.{AllByRecursion}
use Rattle.lf.specs.Syntax.{Head, LfType}
use Rattle.lf.specs.Typing.{Signature, IsSignature}
use Rattle.lf.specs.Subordination.{Block, Member, AreTypedBlocks, IsBelowTest, SelfContained}
use Rattle.lf_unification.specs.Dependency.{free_context}
use Rattle.lf_unification.specs.OpenTyping.{skeletons_of}
use Rattle.lf_cases.specs.Case.{Item, Case, items_context, input_goal}
use Rattle.lf_cases.specs.OutputGoal.{free_variables}
use Rattle.lf_cases.specs.Reached.{SplitHead, arguments_count, split_items}
use Rattle.lf_cases.specs.Split.{HasNoBlockVariable}
use Rattle.lf_cases.proofs.Subordinate.{below_is_subordination}
use Rattle.lf_coverage.specs.HeadOrder.{Offer}
use Rattle.lf_coverage.specs.Heads.{ArgumentsAreBelow, IsTypedCase}
use Rattle.lf_coverage.specs.SplitStore.{AllFamiliesIn, split_store}
use Rattle.lf_coverage.specs.Subordinate.{AllQuantifiersAreBelow}
use Rattle.lf_coverage.specs.SubordinateRuns.{ComesBy, comes_itself, comes_by_split, SolvedQuantifiesBelow, AnsweredSplitIsSolved, AnsweredSplitIsAnswer, RunQuantifiesBelow, InputRunQuantifiesBelow, AnsweredRunCovers, AnsweredRunCoversInputs}
use Rattle.lf_coverage.specs.UnifiedSplit.{HeadIsAnswered, IsAnsweredSplit, AnswersEachHead, IsSolvedSplit, SolvesEachHead}
use Rattle.lf_coverage.proofs.CasesOf.{is_unified, cases_of, solved_run_covers, solved_run_covers_inputs}
use Rattle.lf_coverage.proofs.Everywhere.{of_families, free_has, metavariables_have, run_has}
use Rattle.lf_coverage.proofs.HeadSplit.{split_cases_typed}
use Rattle.lf_coverage.proofs.Listed.{answer_of, offer_of_case}
use Rattle.lf_coverage.proofs.ItemsContext.{items_are_context}
use Rattle.lf_coverage.proofs.NoCase.{families, all_declared, context_declared}
use Rattle.lf_coverage.proofs.Runs.{other_run}
use Rattle.lf_coverage.proofs.Subordinate.{BelowEverywhere, arguments_below, as_everywhere, from_everywhere, below_at, heads_quantify_below, inputs_quantify_below}
use Rattle.lf_coverage.proofs.SubordinateItems.{split_items_quantify_below}
use Rattle.lf_coverage.proofs.TypedCases.{input_goal_is_typed_case}
use Rattle.lf_coverage.proofs.Unified.{unified_split}

-- contexts and items
module _ (below : ℕ → ℕ → Bool) where
  pub all_everywhere : (G : List LfType) → AllQuantifiersAreBelow below G → AllByRecursion (BelowEverywhere below) G
  all_everywhere [] h = tt
  all_everywhere (A ∷ G) (a, h) = (as_everywhere below A a, all_everywhere G h)

  free_items_below : (O : List LfType) → AllByRecursion (BelowEverywhere below) O → AllQuantifiersAreBelow below (items_context (free_variables O))
  free_items_below [] h = tt
  free_items_below (A ∷ O) (a, h) = (from_everywhere below A a, free_items_below O h)

pub solved_quantifies_below : SolvedQuantifiesBelow
solved_quantifies_below Σ below before after h s C k =
    let R : ℕ → ℕ → Type 0 = λ b a. below b a ≡ true in
    free_items_below below (free_context (skeletons_of after.metavariables) s.well_formed.order) (free_has R (λ a. Unit {0}) Σ (skeletons_of after.metavariables) after.metavariables _ (run_has R (λ a. Unit {0}) s.run (λ m A e. as_everywhere below A (h m A e))) s.well_formed.order s.well_formed.is_order)

module _ (Σ : Signature) (ok : IsSignature Σ) (W : List Block) (typed : AreTypedBlocks Σ W) (below : ℕ → ℕ → Bool) (test : (f : ℕ) → IsBelowTest Σ W (below f) f) where
  module _ (C : Case) (tc : IsTypedCase Σ W C) (q : AllQuantifiersAreBelow below (items_context C.items)) (x : ℕ) (Cs : List Case) (sp : IsAnsweredSplit Σ W below C x Cs) where
    -- each head is answered, so there is no new block variable
    no_block : (J : List Item) (n : ℕ) (h : Head) (A : LfType) → SplitHead Σ W C.items sp.type J n h A → HasNoBlockVariable J
    no_block J n h A sh = by (answer_of sp.listed o (sp.are_offers.every J n h A sh))
      where
        o : Offer
        o = record { items = J; moved = n; head = h; type = A }

        by : ((D : Case) × Member D Cs × HeadIsAnswered Σ below C x sp.type o (Some D)) ⊎ HeadIsAnswered Σ below C x sp.type o None → HasNoBlockVariable J
        by (inl (D, m, a)) = a.no_block
        by (inr a) = a.no_block

    is_solved : IsSolvedSplit Σ W below C x Cs
    is_solved = record {
      answered = sp;
      takes_below = arguments_below below Σ W (below_is_subordination Σ ok W typed below test) sp.type (below_at below (items_context C.items) q x sp.type sp.at);
      arguments_below = λ J n h A sh. arguments_below below Σ W (below_is_subordination Σ ok W typed below test) A (heads_quantify_below Σ W below test C.items q x sp.type sp.at J n h A sh (no_block J n h A sh));
    }

    -- the families in the types of what the variable and the heads take
    pub answered_arguments_below : ArgumentsAreBelow below sp.type × ((J : List Item) (n : ℕ) (h : Head) (A : LfType) → SplitHead Σ W C.items sp.type J n h A → ArgumentsAreBelow below A)
    unfolding is_solved
    answered_arguments_below = (is_solved.takes_below, is_solved.arguments_below)

    cases_below : (D : Case) → Member D Cs → AllQuantifiersAreBelow below (items_context D.items)
    cases_below D m = let (h, k, a) = offer_of_case sp.listed D m in by h (sp.are_offers.each h k) a
      where
        by : (h : Offer) → SplitHead Σ W C.items sp.type h.items h.moved h.head h.type → HeadIsAnswered Σ below C x sp.type h (Some D) → AllQuantifiersAreBelow below (items_context D.items)
        by h sh a =
            let (after, s, e) = a.finds in
            let G : List LfType = items_context (split_items below sp.type h.items h.moved h.type) in
            let g : AllQuantifiersAreBelow below G = split_items_quantify_below Σ ok W typed below test C.items tc.items q x sp.type sp.at h.items h.moved h.head h.type sh a.no_block in
            subst (λ E. AllQuantifiersAreBelow below (items_context E.items)) (sym e) (solved_quantifies_below Σ below (split_store below x sp.type h.items h.moved h.head h.type a.kind) after (λ m A z. from_everywhere below A (metavariables_have (BelowEverywhere below) (of_families (λ b a. below b a ≡ true) (λ a. Unit {0})) G (all_everywhere below G g) m A z)) s C (h.moved + arguments_count h.type))

    -- and its cases are typed
    cases_typed : (D : Case) → Member D Cs → IsTypedCase Σ W D
    cases_typed D m =
        let S : ℕ → Bool = families Σ ok in
        let sc : SelfContained Σ W S = all_declared Σ ok W typed in
        let fam : AllFamiliesIn S (items_context C.items) = context_declared Σ ok (items_context C.items) (items_are_context Σ ok W typed C.items tc.items) in
        split_cases_typed Σ ok W S below C tc x Cs (unified_split Σ ok W typed below S sc C tc x Cs (is_unified Σ ok W typed below C tc x Cs is_solved S sc fam)) D m

  abbrev Kept : Case → Type 0
  Kept D = IsTypedCase Σ W D × AllQuantifiersAreBelow below (items_context D.items)

  split_kept : (C : Case) (Cs : List Case) → Kept C → AnswersEachHead Σ W below C Cs → SolvesEachHead Σ W below C Cs × ((D : Case) → Member D Cs → Kept D)
  split_kept C Cs (t, q) (x, sp) = ((x, is_solved C t q x Cs sp), λ D m. (cases_typed C t q x Cs sp D m, cases_below C t q x Cs sp D m))

  comes_kept : (goal D : Case) → Kept goal → ComesBy (AnswersEachHead Σ W below) goal D → Kept D
  comes_kept goal D k comes_itself = k
  comes_kept goal D k (comes_by_split {C = C} Cs r s m) = (split_kept C Cs (comes_kept goal C k r) s).1 D m

pub answered_split_is_solved : AnsweredSplitIsSolved
answered_split_is_solved Σ ok W typed below test C tc q x Cs sp = (is_solved Σ ok W typed below test C tc q x Cs sp, cases_below Σ ok W typed below test C tc q x Cs sp)

pub answered_split_is_answer : AnsweredSplitIsAnswer
answered_split_is_answer Σ ok W typed below test C tc q x Cs sp = cases_of Σ ok W typed below C tc x Cs (is_solved Σ ok W typed below test C tc q x Cs sp) (below_is_subordination Σ ok W typed below test)

pub run_quantifies_below : RunQuantifiesBelow
run_quantifies_below Σ ok W typed below test goal t q D r = comes_kept Σ ok W typed below test goal D (t, q) r

pub input_run_quantifies_below : InputRunQuantifiesBelow
input_run_quantifies_below Σ ok W typed below test a m K e c D r = comes_kept Σ ok W typed below test (input_goal a m K) D ((input_goal_is_typed_case Σ ok W typed a m K e c).0, inputs_quantify_below Σ W below test a m K e) r

pub answered_run_covers : AnsweredRunCovers
answered_run_covers Σ ok W typed below test ps goal n t q fam r = solved_run_covers Σ ok W typed below (below_is_subordination Σ ok W typed below test) ps goal n t fam (other_run {Kept = Kept Σ ok W typed below test} (λ D k l. l) (split_kept Σ ok W typed below test) (t, q) r)

pub answered_run_covers_inputs : AnsweredRunCoversInputs
answered_run_covers_inputs Σ ok W typed below test ps a m K e c r = solved_run_covers_inputs Σ ok W typed below (below_is_subordination Σ ok W typed below test) ps a m K e c (other_run {Kept = Kept Σ ok W typed below test} (λ D k l. l) (split_kept Σ ok W typed below test) ((input_goal_is_typed_case Σ ok W typed a m K e c).0, inputs_quantify_below Σ W below test a m K e) r)
