-- The families in the types of the free variables, along a run by number.
use Rattle.std.proofs.Common.{◌≡◌, ℕ, zero, suc, List, [], ◌∷◌, length, sym, ap, ◌∙◌, subst, Some}
use Rattle.std.specs.Prelude.{Bool, true, false, cond}
use Rattle.std.specs.List.{AllByRecursion}
use Rattle.lf.specs.Syntax.{Head, Spine, nil, app, LfType, Kind, pi, atom, kind_pi, star, skeleton, lift_renaming, rename_spine, rename_type, rename_kind}
use Rattle.lf.specs.Substitution.{Image, keep, single, substitute_type, reduce}
use Rattle.lf.specs.AtOnce.{shift_by, lift_renaming_by}
use Rattle.lf.specs.Typing.{Signature, TypeAt, IsSignature, instantiate_kind}
use Rattle.lf.specs.Variables.{target, target_arguments, binders, everything, onto, FamiliesIn, KindFamiliesIn}
use Rattle.lf.specs.Subordination.{Block, AreTypedBlocks, IsBelowTest, Member, SelfContained}
use Rattle.lf.proofs.Strength.{families_renamed, families_substituted, family_target}
use Rattle.lf.proofs.Target.{target_of}
use Rattle.lf_unification.specs.Dependency.{free_context}
use Rattle.lf_unification.specs.Offering.{pi_over, local_arguments}
use Rattle.lf_unification.specs.OpenTyping.{skeletons_of}
use Rattle.lf_checks.specs.Clause.{Clause, IsClause, from_constant, from_entry, IsSubgoal}
use Rattle.lf_checks.specs.Marks.{Mark, output_places}
use Rattle.lf_cases.specs.Case.{Item, free_variable, block_variable, covered_places, goal_arguments, items_context, input_goal}
use Rattle.lf_cases.specs.OutputGoal.{closed_over, free_variables, goal_masks, goal_number, kept_items, kept_number, output_goal, output_items, outside_items, outside_number, over_item, raised_variable, renumber}
use Rattle.lf_cases.specs.Pattern.{origin}
use Rattle.lf_cases.specs.Raised.{raise_by, first_mask, other_masks}
use Rattle.lf_cases.specs.Reached.{arguments_count, head_masks, split_items, taken}
use Rattle.lf.specs.Worlds.{instance}
use Rattle.lf_cases.proofs.Subordinate.{below_is_subordination}
use Rattle.lf_coverage.specs.Calls.{PlacesIn}
use Rattle.lf_numbered.specs.EntryConstants.{IsFreeFrom, entry_images, with_entries}
use Rattle.lf_cases.specs.Split.{Ends}
use Rattle.lf_coverage.specs.SplitStore.{AllFamiliesIn}
use Rattle.lf_coverage.proofs.CasesOf.{goal_families}
use Rattle.lf_coverage.proofs.Everywhere.{free_has, run_has}
use Rattle.lf_coverage.proofs.Families.{InEverywhere, all_binders, all_onto, all_renumbered, as_everywhere, from_everywhere, head_families, raised_families, store_families}
use Rattle.lf_coverage.proofs.Forms.{far_type}
use Rattle.lf_coverage.proofs.GoalItems.{one_without}
use Rattle.lf_coverage.proofs.Listed.{offer_of_case}
use Rattle.lf_coverage.proofs.OutputRuns.{clause_families, kind_renamed}
use Rattle.lf_coverage.proofs.Parts.{some_same}
use Rattle.lf_coverage.proofs.Runs.{other_run}
use Rattle.lf_coverage.proofs.SolvedCase.{free_context_is}
use Rattle.lf_coverage.proofs.StoreSolution.{families_at}
use Rattle.lf_coverage.proofs.Strip.{kind_substituted}
use Rattle.lf_coverage.proofs.TypedCases.{input_goal_is_typed_case}
use Rattle.lf_numbered.specs.NewBlock.{with_new_block}
use Rattle.lf_numbered.specs.NumberedBeside.{AllTakeBelow, IsUnifiedByNumber, TakesIn, WorldsTakeBelow}
use Rattle.lf_numbered.specs.NumberedBesideFamilies.{WorldsAreIn, WorldsWithoutSome, FreeAreIn, UnifiedByNumberKeepsFamilies, UnifiesEachByNumber, UnifiedEachIsAnswer, UnifiedEachCoversInputs, UnifiedEachGivesOutputs}
use Rattle.lf_numbered.specs.NumberedBesideRuns.{UnifiesByNumber}
use Rattle.lf_numbered.specs.NumberedCase.{NumberedCase}
use Rattle.lf_numbered.specs.NumberedSplits.{NumberedOffer, IsOfferTo, of_case, of_new_block, NumberedUnifierFinds}
use Rattle.lf_numbered.specs.Numbering.{numbering}
use Rattle.lf_numbered.specs.OwnStores.{IsNumberedOffer, offer_signature, offer_taken, offer_entry, left_type}
use Rattle.lf_numbered.specs.OwnTerms.{blocks_of}
use Rattle.lf_numbered.specs.TypedNumbered.{IsTypedNumberedCase}
use Rattle.lf_numbered.proofs.EntryPatternsOutputs.{numbered_output_goal_is_typed}
use Rattle.lf_numbered.proofs.NumberedBeside.{EntryOf, entry_of, unified_by_number_is_answered}
use Rattle.lf_numbered.proofs.NumberedBesideGoals.{inputs_take_below, numbered_takes_below, outputs_take_below, subgoal_has}
use Rattle.lf_numbered.proofs.NumberedBesideRuns.{unified_run}
use Rattle.lf_numbered.proofs.NumberedCandidatesTypes.{families_take}
use Rattle.lf_numbered.proofs.NumberedHeads.{target_over}
use Rattle.lf_numbered.proofs.NumberedSplitsRuns.{answered_by_number_covers_case, answered_by_number_gives_outputs, answered_by_number_stays_typed}
use Rattle.lf_numbered.proofs.OwnStoresNewBlock.{new_block_stays_typed}
use Rattle.lf_numbered.proofs.TypedNumbered.{numbered_case_is_typed}

pub worlds_without_some : WorldsWithoutSome
worlds_without_some W none = ((λ S B m. subst (AllFamiliesIn S) (sym (none B m)) tt), (λ below B m. subst (AllTakeBelow below) (sym (none B m)) tt))

module _ (S : ℕ → Bool) where
  -- a type closed over a context, and what is left of a type
  families_over : (O : List LfType) (T : LfType) → AllFamiliesIn S O → FamiliesIn S T → FamiliesIn S (pi_over O T)
  families_over [] T o t = t
  families_over (A ∷ O) T (a, o) t = families_over O (pi A T) o (a, t)

  families_left : (U : Spine) (A : LfType) → FamiliesIn S A → FamiliesIn S (left_type U A)
  families_left nil A a = a
  families_left (app M U) (pi A B) (a, b) = families_left U _ (families_substituted S reduce (single (skeleton A) M) B b)
  families_left (app M U) (atom a T) h = h

  as_context : (O : List LfType) → AllByRecursion (InEverywhere S) O → AllFamiliesIn S O
  as_context [] h = tt
  as_context (A ∷ O) (a, h) = (from_everywhere S A a, as_context O h)

  -- The items that a goal keeps are of families in the set.
  kept_in : (V : ℕ → Bool) (D : List LfType) (ρ : ℕ → ℕ) (I : List Item) → AllFamiliesIn S D → FreeAreIn S I → FreeAreIn S (kept_items V D ρ I)
  kept_in V [] ρ I d i = i
  kept_in V (A ∷ D) ρ I (a, d) i = by (V zero) (kept_in (λ j. V (suc j)) D ρ I d i)
    where
      by : (b : Bool) → FreeAreIn S (kept_items (λ j. V (suc j)) D ρ I) → FreeAreIn S (cond b (free_variable (rename_type (kept_number (λ j. V (suc j)) D ρ) A) ∷ kept_items (λ j. V (suc j)) D ρ I) (kept_items (λ j. V (suc j)) D ρ I))
      by true h = (families_renamed S (kept_number (λ j. V (suc j)) D ρ) A a, h)
      by false h = h

  outputs_in : (ks : List (List Bool)) (D : List LfType) (b : List Bool) (T : Spine) (K : Kind) (I : List Item) → AllFamiliesIn S D → KindFamiliesIn S K → FreeAreIn S I → FreeAreIn S (output_items ks D b T K I)
  outputs_in ks D [] T K I d k i = i
  outputs_in ks D (b ∷ m) nil K I d k i = i
  outputs_in ks D (b ∷ m) (app M T) star I d k i = i
  outputs_in ks D (false ∷ m) (app M T) (kind_pi A K) I d (a, k) i = outputs_in ks D m T (instantiate_kind A M K) I d (kind_substituted S A M K k) i
  outputs_in ks D (true ∷ m) (app M T) (kind_pi A K) I d (a, k) i =
      let K1 : Kind = rename_kind (lift_renaming (over_item D)) K in
      outputs_in (other_masks ks) (renumber suc D) m (rename_spine (over_item D) T) (instantiate_kind A (raised_variable (first_mask ks) D A zero) K1) (free_variable (raise_by (first_mask ks) D A) ∷ I) (all_renumbered S suc D d) (kind_substituted S A (raised_variable (first_mask ks) D A zero) K1 (kind_renamed S (lift_renaming (over_item D)) K k)) (raised_families S (first_mask ks) D A d a, i)

  free_in : (G : List LfType) → AllFamiliesIn S G → FreeAreIn S (free_variables G)
  free_in [] h = tt
  free_in (A ∷ G) (a, h) = (a, free_in G h)

  behind_in : (D G : List LfType) → AllFamiliesIn S (onto D G) → AllFamiliesIn S G
  behind_in [] G h = h
  behind_in (A ∷ D) G (a, h) = behind_in D G h

  items_in : (I : List Item) → AllFamiliesIn S (items_context I) → FreeAreIn S I
  items_in [] h = tt
  items_in (free_variable A ∷ I) (a, h) = (a, items_in I h)
  items_in (block_variable B υ ∷ I) h = items_in I (behind_in (instance B.entries υ) (items_context I) h)

  numbering_in : (first : ℕ) (I : List Item) → FreeAreIn S I → AllFamiliesIn S (numbering first I).variables
  numbering_in first [] h = tt
  numbering_in first (free_variable A ∷ I) (a, h) = (families_substituted S reduce (numbering first I).images A a, numbering_in first I h)
  numbering_in first (block_variable B υ ∷ I) h = numbering_in first I h

module _ (Σ : Signature) (W : List Block) (S : ℕ → Bool) (sc : SelfContained Σ W S) (worlds : WorldsAreIn S W) where
  outside_in : (c : Clause) (d : IsClause Σ W c) → FreeAreIn S (outside_items (origin d))
  outside_in c (from_constant k U e) = tt
  outside_in c (from_entry B later E es i e) = free_in S B.some (worlds B i)

  goal_in : (below : ℕ → ℕ → Bool) (m : ℕ → List Mark) (c : Clause) (d : IsClause Σ W c) → S (target c.type) ≡ true → (U : ℕ → Bool) (i : ℕ) (A : LfType) → IsSubgoal c i A → (K : Kind) → Σ.kinds (target A) ≡ Some K → FreeAreIn S (output_goal below m (origin d) U A K).items
  goal_in below m c d t U i A (v, g) K f =
      let V : ℕ → Bool = closed_over (binders [] c.type) U in
      let q : FamiliesIn S c.type = clause_families Σ W S sc d t in
      let a : FamiliesIn S A = subgoal_has (FamiliesIn S) (families_renamed S suc) (λ Y B h. h) everything c.outer c.type i A (λ j B e h. absurd cc) q v g in
      let r : ℕ → ℕ = goal_number (origin d) V in
      outputs_in S (goal_masks below m (origin d) V A K) (renumber r (binders [] A)) (output_places (m (target A))) (rename_spine (lift_renaming_by (length (binders [] A)) r) (target_arguments A)) K (kept_items V (binders [] c.type) (outside_number (origin d)) (outside_items (origin d)))
      (all_renumbered S r (binders [] A) (all_binders S [] A tt a))
      (sc.kinds_in (target A) K f (family_target S A a))
      (kept_in S V (binders [] c.type) (outside_number (origin d)) (outside_items (origin d)) (all_binders S [] c.type tt q) (outside_in c d))

  module _ (below : ℕ → ℕ → Bool) (first : ℕ) (free : IsFreeFrom Σ first) (C : NumberedCase) (tc : IsTypedNumberedCase Σ first W C) (fs : AllFamiliesIn S C.variables) (x : ℕ) (X : LfType) (at : TypeAt C.variables x X) where
    fx : FamiliesIn S X
    fx = families_at S C.variables fs x X at

    offer_in : (h : Head) (U : Spine) (A : LfType) → IsNumberedOffer Σ first C X h U A → FamiliesIn S A
    offer_in h U A (offer_signature k V e t) = sc.types_in k V e (subst (λ a. S a ≡ true) (sym t) (family_target S X fx))
    offer_in h U A (offer_taken j B l g t) = families_at S (binders C.variables X) (all_binders S C.variables X fs fx) j B g
    offer_in h U A (offer_entry c R V q e t) =
        let k : EntryOf Σ W first free C tc c R V = entry_of Σ W first free C tc c R V q e in
        let ι : ℕ → Image = entry_images k.from (local_arguments k.block.some) k.before keep in
        let T : LfType = substitute_type reduce ι k.entry in
        let same : target k.entry ≡ target X = sym (target_of reduce ι k.entry) ∙ sym (target_over k.block.some T) ∙ ap target k.type ∙ t in
        let fe : FamiliesIn S k.entry = sc.entries_in k.block k.entry k.of_worlds k.among (subst (λ a. S a ≡ true) (sym same) (family_target S X fx)) in
        families_renamed S (shift_by (length (taken X))) (left_type R V) (families_left S R V (subst (FamiliesIn S) k.type (families_over S k.block.some T (worlds k.block k.of_worlds) (families_substituted S reduce ι k.entry fe))))

    case_in : (h : Head) (U : Spine) (A : LfType) → IsNumberedOffer Σ first C X h U A → (K : Kind) (D : NumberedCase) → NumberedUnifierFinds Σ first below (record { case = C; variable = x; type = X; head = h; terms = U; left = A }) K (Some D) → AllFamiliesIn S D.variables
    case_in h U A f K D (after, s, e) =
        let R : ℕ → ℕ → Type 0 = λ b a. Unit {0} in
        let Q : ℕ → Type 0 = λ a. S a ≡ true in
        let Y : LfType = rename_type (shift_by zero) X in
        let G : List LfType = items_context (split_items below X (free_variables C.variables) zero A) in
        let g : AllFamiliesIn S G = head_families S (head_masks below (taken Y) (arguments_count A) A) (taken Y) (arguments_count A) A (free_variables C.variables) (all_binders S [] Y tt (families_renamed S (shift_by zero) X fx)) (offer_in h U A f) (subst (AllFamiliesIn S) (sym (free_context_is C.variables)) fs) in
        subst (λ (E : NumberedCase). AllFamiliesIn S E.variables) (sym e) (as_context S (free_context (skeletons_of after.metavariables) s.well_formed.order)
        (free_has R Q (with_entries Σ first (blocks_of C.blocks)) (skeletons_of after.metavariables) after.metavariables _ (run_has R Q s.run (λ m B z. as_everywhere S B (store_families S G g m B z))) s.well_formed.order s.well_formed.is_order))

module _ (Σ : Signature) (ok : IsSignature Σ) (W : List Block) (typed : AreTypedBlocks Σ W) (below : ℕ → ℕ → Bool) (S : ℕ → Bool) (sc : SelfContained Σ W S) (worlds : WorldsAreIn S W) (first : ℕ) (free : IsFreeFrom Σ first) where
  pub keeps_families : (C : NumberedCase) → IsTypedNumberedCase Σ first W C → AllFamiliesIn S C.variables → (x : ℕ) (Cs : List NumberedCase) (sp : IsUnifiedByNumber Σ first W below C x Cs) → FamiliesIn S sp.type × ((D : NumberedCase) → Member D Cs → AllFamiliesIn S D.variables)
  keeps_families C tc fs x Cs sp = (families_at S C.variables fs x sp.type sp.at, λ D m. let (o, k, a) = offer_of_case sp.listed D m in by o (sp.each o k) a.kind D a.finds)
    where
      by : (o : NumberedOffer) → IsOfferTo Σ first W C x sp.type o → (K : Kind) (D : NumberedCase) → NumberedUnifierFinds Σ first below o K (Some D) → AllFamiliesIn S D.variables
      by o (of_case h U A f) K D u = case_in Σ W S sc worlds below first free C tc fs x sp.type sp.at h U A f K D u
      by o (of_new_block B c U A b n f) K D u = case_in Σ W S sc worlds below first free (with_new_block B C) (new_block_stays_typed Σ ok W typed first free C tc B b) (all_onto S B.some C.variables (worlds B b) fs) o.variable o.type (far_type B.some C.variables x sp.type sp.at) o.head U A f K D u

  -- a run in which no family is looked at is one of splits at variables of families in S
  module _ (test : (f : ℕ) → IsBelowTest Σ W (below f) f) (takes : WorldsTakeBelow below W) (Leaf : NumberedCase → Type 0) where
    abbrev Kept : NumberedCase → Type 0
    Kept C = IsTypedNumberedCase Σ first W C × AllTakeBelow below C.variables × AllFamiliesIn S C.variables

    split_kept : (C : NumberedCase) (Cs : List NumberedCase) → Kept C → UnifiesEachByNumber Σ first W below C Cs → UnifiesByNumber Σ first W below S C Cs × ((D : NumberedCase) → Member D Cs → Kept D)
    split_kept C Cs (t, q, fs) (x, sp) =
        let ((an, e), k) = unified_by_number_is_answered Σ ok W typed below test takes first free C t q x Cs sp in
        let (f, ks) = keeps_families C t fs x Cs sp in
        ((x, sp, families_take S sp.type f), λ D m. (answered_by_number_stays_typed Σ ok W typed below first free C t x Cs an D m, k D m, ks D m))

    pub each_run : {C : NumberedCase} → IsTypedNumberedCase Σ first W C × AllTakeBelow below C.variables × AllFamiliesIn S C.variables → Ends Leaf (UnifiesEachByNumber Σ first W below) C → Ends Leaf (UnifiesByNumber Σ first W below S) C
    each_run k r = other_run {Kept = Kept} (λ C k l. l) split_kept k r

pub unified_by_number_keeps_families : UnifiedByNumberKeepsFamilies
unified_by_number_keeps_families Σ ok W typed below S sc worlds first free C tc fs x Cs sp = keeps_families Σ ok W typed below S sc worlds first free C tc fs x Cs sp

pub unified_each_is_answer : UnifiedEachIsAnswer
unified_each_is_answer Σ ok W typed below test takes first free ps goal n t l q known r = λ S b.
    let tn : IsTypedNumberedCase Σ first W (Rattle.lf_numbered.specs.Numbering.numbered first goal) = numbered_case_is_typed Σ ok W typed first free goal t l in
    let qn : AllTakeBelow below (numbering first goal.items).variables = numbered_takes_below below first goal q in
    let (ws, fs) = known S b in
    answered_by_number_covers_case Σ ok W typed below (below_is_subordination Σ ok W typed below test) S b.self_contained first free ps goal n t l (unified_run Σ ok W typed below test takes first free (TakesIn S) _ (tn, qn) (each_run Σ ok W typed below S b.self_contained ws first free test takes _ (tn, qn, numbering_in S first goal.items fs) r))

pub unified_each_covers_inputs : UnifiedEachCoversInputs
unified_each_covers_inputs Σ ok W typed below test takes first free ps a m K e c known r =
    let (t, l, n) = input_goal_is_typed_case Σ ok W typed a m K e c in
    unified_each_is_answer Σ ok W typed below test takes first free ps (input_goal a m K) (one_without (input_goal a m K).items n) t l (inputs_take_below Σ W below test a m K e)
    (λ S b. (known S b, items_in S (input_goal a m K).items (goal_families S m K (λ i. i) [] (subst (PlacesIn S (covered_places (goal_arguments m K))) (some_same (sym b.of_family ∙ e)) b.places) tt))) r

pub unified_each_gives_outputs : UnifiedEachGivesOutputs
unified_each_gives_outputs Σ ok W typed first free below test takes m f df worlds c d t U all_out i A sub seq needs sound none K e low runs =
    let s = below_is_subordination Σ ok W typed below test in
    answered_by_number_gives_outputs Σ ok W typed first free below s m f df c d t U all_out i A sub seq needs sound none K e low
    (λ b.
    let tn : IsTypedNumberedCase Σ first W (Rattle.lf_numbered.specs.Numbering.numbered first (output_goal below m (origin b) U A K)) = (numbered_output_goal_is_typed Σ ok W typed first free below m c b U i A sub needs sound none K e).0 in
    let qn = numbered_takes_below below first (output_goal below m (origin b) U A K) (outputs_take_below Σ W below test takes m c b U i A sub K e) in
    let fn = numbering_in (below f) first (output_goal below m (origin b) U A K).items (goal_in Σ W (below f) (s.self_contained f df) worlds below m c b t U i A sub K e) in
    unified_run Σ ok W typed below test takes first free (TakesIn (below f)) _ (tn, qn) (each_run Σ ok W typed below (below f) (s.self_contained f df) worlds first free test takes _ (tn, qn, fn) (runs b)))
