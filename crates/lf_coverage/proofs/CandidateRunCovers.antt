-- Runs that split at candidates cover: the families of each variable that is split are in the set.
use Rattle.std.proofs.Common.{◌≡◌, ℕ, zero, suc, ◌+◌, List, [], ◌∷◌, length, inl, inr, refl, sym, ap, ◌∙◌, subst}
use Rattle.std.specs.Prelude.{Bool, true, false, cond, Some}
use Rattle.lf.specs.AtOnce.{shift_by}
use Rattle.lf.specs.Syntax.{Head, Term, LfType, Kind, pi, atom, skeleton, lift_renaming, rename_type}
use Rattle.lf.specs.Substitution.{single, reduce}
use Rattle.lf.specs.Typing.{Signature, TypeAt, IsSignature, instantiate_type}
use Rattle.lf.specs.Variables.{target, binders, FamiliesIn}
use Rattle.lf.specs.Subordination.{Block, Member, AreTypedBlocks, IsBelowTest, SelfContained}
use Rattle.lf.proofs.Strength.{families_renamed, families_substituted, family_target}
use Rattle.lf_unification.specs.Dependency.{free_context}
use Rattle.lf_unification.specs.OpenTyping.{skeletons_of}
use Rattle.lf_cases.specs.Case.{Item, free_variable, Case, items_context}
use Rattle.lf_cases.specs.OutputGoal.{output_goal, renumber, over_item, raised_variable}
use Rattle.lf_cases.specs.Pattern.{Pattern, IsCoveredCase, of_constant, subgoal_pattern}
use Rattle.lf_checks.specs.Clause.{Clause, IsClause, IsSubgoal, constant_clause, from_constant, scope}
use Rattle.lf_checks.specs.Ground.{UsesGoal}
use Rattle.lf_checks.specs.Marks.{Mark, HasSoundMarks, NoneFree, input_places}
use Rattle.lf_cases.specs.Raised.{raise_by, first_mask, other_masks}
use Rattle.lf_cases.specs.Reached.{SplitHead, constant_head, bound_head, entry_head, new_entry_head, arguments_count, head_items, head_masks, taken, split_items}
use Rattle.lf_cases.specs.Split.{Ends, HasNoBlockVariable, IsSplit}
use Rattle.lf_cases.proofs.Subordinate.{below_is_subordination}
use Rattle.lf_coverage.specs.Calls.{IsBeside, LocalsIn, PlacesIn}
use Rattle.lf_coverage.specs.CandidateRuns.{within, RefutesCandidate, CandidateRunCoversBeside, CandidateRunCoversClosed, CandidateRunCovers, ClosedSetsAreWithin, CandidateRunCoversOutputs, CandidateRunAnswersOutputs}
use Rattle.lf_coverage.specs.HeadOrder.{Offer}
use Rattle.lf_coverage.specs.Heads.{IsTypedCase, IsHeadSplit, SplitsByHeads}
use Rattle.lf_coverage.specs.Leaf.{IsInstanceLeaf, IsTypedPattern}
use Rattle.lf_coverage.specs.Matching.{HoldsTypes}
use Rattle.lf_coverage.specs.SplitStore.{AllFamiliesIn, split_store, answer_values}
use Rattle.lf_coverage.specs.Subordinate.{QuantifiersAreBelow, AllQuantifiersAreBelow}
use Rattle.lf_coverage.specs.TypedCase.{IsTypedBeside}
use Rattle.lf_coverage.specs.UnifiedSplit.{HeadIsAnswered}
use Rattle.lf_coverage.proofs.CandidateRuns.{candidate_is_in_set}
use Rattle.lf_coverage.proofs.Everywhere.{of_families, metavariables_have}
use Rattle.lf_coverage.proofs.Families.{all_binders, all_renumbered, raised_families}
use Rattle.lf_coverage.proofs.GoalItems.{one_without}
use Rattle.lf_coverage.proofs.HeadSplit.{heads_split, split_cases_typed}
use Rattle.lf_coverage.proofs.Listed.{offer_of_case}
use Rattle.lf_coverage.proofs.Leaves.{leaf_is_instance, subgoal_is_typed}
use Rattle.lf_coverage.proofs.LocalsInSet.{locals_put}
use Rattle.lf_coverage.proofs.OutputBeside.{output_goal_is_typed}
use Rattle.lf_coverage.proofs.OutputTyped.{output_goal_is_typed_case}
use Rattle.lf_coverage.proofs.SubordinateItems.{outputs_quantify_below}
use Rattle.lf_coverage.proofs.RefutedSplits.{head_split}
use Rattle.lf_coverage.proofs.Runs.{head_splits_cover, other_run}
use Rattle.lf_coverage.proofs.SolvedCase.{free_without}
use Rattle.lf_coverage.proofs.Subordinate.{BelowEverywhere, from_everywhere, below_at, below_binders}
use Rattle.lf_coverage.proofs.SubordinateRuns.{all_everywhere, answered_split_is_solved, solved_quantifies_below}
use Rattle.lf_coverage.proofs.TypedCases.{split_cases_stay_typed}

-- a type whose own family is in the set
module _ (S : ℕ → Bool) where
  chosen : (b c : Bool) → cond b c true ≡ true → b ≡ true → c ≡ true
  chosen true c e f = e
  chosen false c e f = absurd cc

  either_way : (b c : Bool) → c ≡ true → cond b c true ≡ true
  either_way true c e = e
  either_way false c e = refl

  families_of_within : (A : LfType) → QuantifiersAreBelow (within S) A → S (target A) ≡ true → FamiliesIn S A
  families_of_within (pi A B) (q, a, b) s = (families_of_within A a (chosen (S (target B)) (S (target A)) q s), families_of_within B b s)
  families_of_within (atom a T) q s = s

  within_of_families : (A : LfType) → FamiliesIn S A → QuantifiersAreBelow (within S) A
  within_of_families (pi A B) (a, b) = (either_way (S (target B)) (S (target A)) (family_target S A a), within_of_families A a, within_of_families B b)
  within_of_families (atom a T) h = tt

  head_within : (ks : List (List Bool)) (D : List LfType) (n : ℕ) (A : LfType) (I : List Item) → AllFamiliesIn S D → FamiliesIn S A → AllQuantifiersAreBelow (within S) (items_context I) → AllQuantifiersAreBelow (within S) (items_context (head_items ks D n A I))
  head_within ks D zero A I d a i = i
  head_within ks D (suc n) (atom a T) I d h i = i
  head_within ks D (suc n) (pi A B) I d (a, b) i =
      let N : Term = raised_variable (first_mask ks) D A zero in
      let ρ : ℕ → ℕ = lift_renaming (over_item D) in
      let X : LfType = raise_by (first_mask ks) D A in
      head_within (other_masks ks) (renumber suc D) n (instantiate_type A N (rename_type ρ B)) (free_variable X ∷ I) (all_renumbered S suc D d) (families_substituted S reduce (single (skeleton A) N) (rename_type ρ B) (families_renamed S ρ B b)) (within_of_families X (raised_families S (first_mask ks) D A d a), i)

  module _ (Σ : Signature) (W : List Block) (sc : SelfContained Σ W S) (I : List Item) (q : AllQuantifiersAreBelow (within S) (items_context I)) (x : ℕ) (X : LfType) (at : TypeAt (items_context I) x X) (fx : FamiliesIn S X) where
    head_type : (J : List Item) (n : ℕ) (h : Head) (A : LfType) → SplitHead Σ W I X J n h A → HasNoBlockVariable J → FamiliesIn S A × AllQuantifiersAreBelow (within S) (items_context J)
    head_type _ _ _ A (constant_head k U e t) n = (sc.types_in k U e (ap S t ∙ family_target S X fx), q)
    head_type _ _ _ A (bound_head j B l k t) n = (families_of_within B (below_at (within S) (binders (items_context I) X) (below_binders (within S) (items_context I) X q (within_of_families X fx)) j B k) (ap S t ∙ family_target S X fx), q)
    head_type _ _ _ A (entry_head j B k f t) n = (families_renamed S (shift_by (length (taken X))) B (families_of_within B (below_at (within S) (items_context I) q j B k) (ap S t ∙ family_target S X fx)), q)
    head_type _ _ _ A (new_entry_head B j E m l k t) n = absurd n

    split_within : (below : ℕ → ℕ → Bool) (J : List Item) (n : ℕ) (h : Head) (A : LfType) → SplitHead Σ W I X J n h A → HasNoBlockVariable J → AllQuantifiersAreBelow (within S) (items_context (split_items below X J n A))
    split_within below J n h A sh nj =
        let (a, j) = head_type J n h A sh nj in
        let Y : LfType = rename_type (shift_by n) X in
        head_within (head_masks below (taken Y) (arguments_count A) A) (taken Y) (arguments_count A) A J (all_binders S [] Y tt (families_renamed S (shift_by n) X fx)) a j

-- what a run keeps, beside a set
record Kept (Σ : Signature) (W : List Block) (below : ℕ → ℕ → Bool) (ps : List Pattern) (S : ℕ → Bool) (C : Case) : Type 0 where
  no_block : HasNoBlockVariable C.items
  is_typed : IsTypedCase Σ W C
  typed_beside : (p : Pattern) → Member p ps → IsTypedBeside Σ W C p
  are_below : AllQuantifiersAreBelow below (items_context C.items)
  are_within : AllQuantifiersAreBelow (within S) (items_context C.items)
  is_beside : IsBeside Σ W S C

module _ (Σ : Signature) (ok : IsSignature Σ) (W : List Block) (typed : AreTypedBlocks Σ W) (below : ℕ → ℕ → Bool) (test : (f : ℕ) → IsBelowTest Σ W (below f) f) (ps : List Pattern) (patterns : (p : Pattern) → Member p ps → IsTypedPattern Σ p) (S : ℕ → Bool) where
  split_kept : (C : Case) (Cs : List Case) → Kept Σ W below ps S C → RefutesCandidate Σ W below ps C Cs → SplitsByHeads Σ W S below C Cs × ((D : Case) → Member D Cs → Kept Σ W below ps S D)
  split_kept C Cs k (x, p, m, c, sp) = ((x, hs), λ D d. kept D d)
    where
      at : TypeAt (items_context C.items) x sp.answered.type
      at = sp.answered.at

      fx : FamiliesIn S sp.answered.type
      fx = families_of_within S sp.answered.type (below_at (within S) (items_context C.items) k.are_within x sp.answered.type at) (candidate_is_in_set Σ W S C p (k.typed_beside p m) k.no_block k.is_beside x c sp.answered.type at)

      hs : IsHeadSplit Σ W S below C x Cs
      hs = head_split Σ ok W typed below test C k.is_typed k.are_below x Cs sp S fx

      is_split : IsSplit Σ W S C Cs
      is_split = heads_split Σ ok W typed below (below_is_subordination Σ ok W typed below test) S k.is_beside.self_contained C k.is_typed x Cs hs

      of_solved : (D : Case) → Member D Cs → HasNoBlockVariable D.items × AllQuantifiersAreBelow (within S) (items_context D.items) × LocalsIn S D.local
      of_solved D d = let (h, i, a) = offer_of_case sp.answered.listed D d in by h (sp.answered.are_offers.each h i) a
        where
          by : (h : Offer) → SplitHead Σ W C.items sp.answered.type h.items h.moved h.head h.type → HeadIsAnswered Σ below C x sp.answered.type h (Some D) → HasNoBlockVariable D.items × AllQuantifiersAreBelow (within S) (items_context D.items) × LocalsIn S D.local
          by h sh a =
              let (after, s, e) = a.finds in
              let G : List LfType = items_context (split_items below sp.answered.type h.items h.moved h.type) in
              let g : AllQuantifiersAreBelow (within S) G = split_within S Σ W k.is_beside.self_contained C.items k.are_within x sp.answered.type at fx below h.items h.moved h.head h.type sh a.no_block in
              let n : ℕ = h.moved + arguments_count h.type in
              subst (λ E. HasNoBlockVariable E.items × AllQuantifiersAreBelow (within S) (items_context E.items) × LocalsIn S E.local) (sym e)
              (free_without (free_context (skeletons_of after.metavariables) s.well_formed.order), solved_quantifies_below Σ (within S) (split_store below x sp.answered.type h.items h.moved h.head h.type a.kind) after (λ j A z. from_everywhere (within S) A (metavariables_have (BelowEverywhere (within S)) (of_families (λ b a. within S b a ≡ true) (λ a. Unit {0})) G (all_everywhere (within S) G g) j A z)) s C n, locals_put S C.local (λ i. answer_values after s.well_formed.order (i + n)) k.is_beside.locals)

      kept : (D : Case) → Member D Cs → Kept Σ W below ps S D
      kept D d =
          let (n, w, l) = of_solved D d in
          let like = is_split.like D d in
          record {
            no_block = n;
            is_typed = split_cases_typed Σ ok W S below C k.is_typed x Cs hs D d;
            typed_beside = λ r i. split_cases_stay_typed Σ ok W typed below S C r (patterns r i) (k.typed_beside r i) k.no_block x Cs hs D d;
            are_below = (answered_split_is_solved Σ ok W typed below test C k.is_typed k.are_below x Cs sp.answered).1 D d;
            are_within = w;
            is_beside = record {
              self_contained = k.is_beside.self_contained;
              kind = k.is_beside.kind;
              of_family = ap Σ.kinds like.family ∙ k.is_beside.of_family;
              places = subst (λ b. PlacesIn S b k.is_beside.kind) (sym like.places) k.is_beside.places;
              locals = l;
            };
          }

pub candidate_run_covers_beside : CandidateRunCoversBeside
candidate_run_covers_beside Σ ok W typed below test ps patterns goal n t tb q S b w r =
    head_splits_cover Σ ok W typed below (below_is_subordination Σ ok W typed below test) S b.self_contained ps goal (one_without goal.items n) t
    (other_run {Kept = Kept Σ W below ps S} (λ D k l. leaf_is_instance Σ ok W typed S ps D l) (split_kept Σ ok W typed below test ps patterns S) (record { no_block = n; is_typed = t; typed_beside = tb; are_below = q; are_within = w; is_beside = b }) r)

-- sets that hold what is below
module _ (below : ℕ → ℕ → Bool) (S : ℕ → Bool) (holds : (a b : ℕ) → below a b ≡ true → S a ≡ true → S b ≡ true) where
  by_value : (b c : Bool) → (b ≡ true → c ≡ true) → cond b c true ≡ true
  by_value true c f = f refl
  by_value false c f = refl

  type_within : (A : LfType) → QuantifiersAreBelow below A → QuantifiersAreBelow (within S) A
  type_within (pi A B) (q, a, b) = (by_value (S (target B)) (S (target A)) (holds (target B) (target A) q), type_within A a, type_within B b)
  type_within (atom a T) q = tt

  context_within : (G : List LfType) → AllQuantifiersAreBelow below G → AllQuantifiersAreBelow (within S) G
  context_within [] g = tt
  context_within (A ∷ G) (a, g) = (type_within A a, context_within G g)

pub closed_sets_are_within : ClosedSetsAreWithin
closed_sets_are_within below S holds G g = context_within below S holds G g

pub candidate_run_covers_closed : CandidateRunCoversClosed
candidate_run_covers_closed Σ ok W typed below test ps patterns goal n t tb q S holds b r =
    candidate_run_covers_beside Σ ok W typed below test ps patterns goal n t tb q S b (closed_sets_are_within below S holds (items_context goal.items) q) r

pub candidate_run_covers : CandidateRunCovers
candidate_run_covers Σ ok W typed below test ps patterns goal n t tb q fam r S b =
    candidate_run_covers_beside Σ ok W typed below test ps patterns goal n t tb q S b (fam S b) r

-- the goal of a constant's subgoal
outputs_beside : (Σ : Signature) → IsSignature Σ → (W : List Block) → AreTypedBlocks Σ W → (below : ℕ → ℕ → Bool) → ((f : ℕ) → IsBelowTest Σ W (below f) f) → (m : ℕ → List Mark) (k : ℕ) (T : LfType) → Σ.types k ≡ Some T → (U : ℕ → Bool) → HoldsTypes U (scope (constant_clause T)) → (i : ℕ) (A : LfType) → IsSubgoal (constant_clause T) i A → UsesGoal U (input_places (m (target A))) A → HasSoundMarks Σ (target A) (m (target A)) → NoneFree (m (target A)) → (K : Kind) → Σ.kinds (target A) ≡ Some K → (S : ℕ → Bool) → IsBeside Σ W S (output_goal below m (of_constant T) U A K) → (AllQuantifiersAreBelow below (items_context (output_goal below m (of_constant T) U A K).items) → AllQuantifiersAreBelow (within S) (items_context (output_goal below m (of_constant T) U A K).items)) → Ends (IsInstanceLeaf Σ W (subgoal_pattern (constant_clause T) (of_constant T) A ∷ [])) (RefutesCandidate Σ W below (subgoal_pattern (constant_clause T) (of_constant T) A ∷ [])) (output_goal below m (of_constant T) U A K) → IsCoveredCase Σ W S (subgoal_pattern (constant_clause T) (of_constant T) A ∷ []) (output_goal below m (of_constant T) U A K)
outputs_beside Σ ok W typed below test m k T there U closed i A sub needs sound none K e S b w r =
    let c : Clause = constant_clause T in
    let d : IsClause Σ W c = from_constant k T there in
    let p : Pattern = subgoal_pattern c (of_constant T) A in
    let tc : IsTypedCase Σ W (output_goal below m (of_constant T) U A K) = (output_goal_is_typed_case Σ ok W typed below m c d U i A sub needs sound none K e).0 in
    let (tb, n) = output_goal_is_typed Σ ok W typed below m k T there U closed i A sub needs sound none K e in
    let q : AllQuantifiersAreBelow below (items_context (output_goal below m (of_constant T) U A K).items) = outputs_quantify_below Σ ok W typed below test k T there m U i A sub K e tc.items in
    candidate_run_covers_beside Σ ok W typed below test (p ∷ []) (one p (subgoal_is_typed Σ ok W typed c d i A sub)) (output_goal below m (of_constant T) U A K) n tc (also p tb) q S b (w q) r
  where
    one : (p : Pattern) → IsTypedPattern Σ p → (q : Pattern) → Member q (p ∷ []) → IsTypedPattern Σ q
    one p t q (inl e) = subst (IsTypedPattern Σ) (sym e) t
    one p t q (inr z) = absurd z

    also : {C : Case} (p : Pattern) → IsTypedBeside Σ W C p → (q : Pattern) → Member q (p ∷ []) → IsTypedBeside Σ W C q
    also {C = C} p t q (inl e) = subst (IsTypedBeside Σ W C) (sym e) t
    also p t q (inr z) = absurd z

pub candidate_run_covers_outputs : CandidateRunCoversOutputs
candidate_run_covers_outputs Σ ok W typed below test m k T there U closed i A sub needs sound none K e S holds b r =
    outputs_beside Σ ok W typed below test m k T there U closed i A sub needs sound none K e S b (λ q. closed_sets_are_within below S holds (items_context (output_goal below m (of_constant T) U A K).items) q) r

pub candidate_run_answers_outputs : CandidateRunAnswersOutputs
candidate_run_answers_outputs Σ ok W typed below test m k T there U closed i A sub needs sound none K e fam r S b =
    outputs_beside Σ ok W typed below test m k T there U closed i A sub needs sound none K e S b (λ q. fam S b) r
