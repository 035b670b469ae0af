-- A case of inputs that shares an instance with a head and has no candidate with it is an instance of it.
use Rattle.std.proofs.Common.{◌≡◌, ℕ, zero, List, [], ◌∷◌, length, refl, sym, ap, ◌∙◌, subst, true≢false}
use Rattle.std.specs.Prelude.{◌≤◌, Bool, true, Option, Some, None}
use Rattle.lf.specs.Syntax.{Term, Spine, LfType, atom, Skeleton, skeleton, app, nil}
use Rattle.lf.specs.Substitution.{Image, keep, put, substitute_type, reduce}
use Rattle.lf.specs.SkeletonTyping.{SkeletonAt, SubstitutionBySkeletons}
use Rattle.lf.specs.Skeletons.{constant_skeletons, family_skeletons, context_skeletons}
use Rattle.lf.specs.Subordination.{IsBelowTest, below_in_constant}
use Rattle.lf.specs.Typing.{Signature, TypeAt, SpineFitsKind, IsType, IsSignature}
use Rattle.lf.specs.Variables.{binders, onto, target, target_arguments, nothing, everything}
use Rattle.lf.specs.Worlds.{lift_over}
use Rattle.lf.proofs.Kept.{typed_uses_type}
use Rattle.lf.proofs.Partial.{uses_all}
use Rattle.lf.proofs.Patch.{pick}
use Rattle.lf.proofs.ToSkeletons.{type_by_skeletons, variable_has_skeleton}
use Rattle.lf.proofs.Checker.{both_of}
use Rattle.lf_checks.specs.Clause.{constant_clause, from_constant, outside}
use Rattle.lf_checks.specs.Ground.{UsesGoal}
use Rattle.lf_checks.specs.Marks.{Mark, MentionChosenOnly, input_places}
use Rattle.lf_checks.specs.Tests.{both}
use Rattle.lf_checks.specs.Worlded.{IsTerm}
use Rattle.lf_checks.proofs.EtaTest.{both_l, both_r}
use Rattle.lf_cases.specs.Candidates.{case_candidates, free_among, given_images, with_given}
use Rattle.lf_cases.specs.Case.{Case, items_context, as_term, HasArguments, covered_places}
use Rattle.lf_cases.specs.Full.{IsLinear, IsFull, occurrences_at}
use Rattle.lf_cases.specs.Missing.{CommonInstance}
use Rattle.lf_cases.specs.Pattern.{Pattern, given_at, head_pattern, is_given, of_constant, ground_in}
use Rattle.lf_cases.specs.Reached.{IsInstanceOf}
use Rattle.lf_cases.proofs.LongValues.{long_at, long_fits, long_same}
use Rattle.lf_cases.proofs.Raised.{rename_identity}
use Rattle.lf_totality.proofs.OutputCases.{in_context, in_covers, in_type}
use Rattle.lf_coverage.specs.FullMatching.{PlacesHavePatterns, PlacesMatch}
use Rattle.lf_coverage.specs.Heads.{HaveSkeletons}
use Rattle.lf_coverage.specs.Leaf.{IsTypedPattern}
use Rattle.lf_coverage.specs.OrElse.{or_else}
use Rattle.lf_coverage.specs.Matching.{ArePlaces, MatchesByTerms, found_goal, found_term, found_values}
use Rattle.lf_coverage.specs.Stuck.{IsStrategyCase, NoCandidateMatches, NoCandidateIsInstance}
use Rattle.lf_coverage.specs.Subordinate.{AllQuantifiersAreBelow}
use Rattle.lf_coverage.specs.TypedCase.{IsTypedBeside, TypedArguments}
use Rattle.lf_coverage.proofs.FullPlaces.{full_places_match}
use Rattle.lf_coverage.proofs.GivenValues.{given_fits}
use Rattle.lf_coverage.proofs.HeadMatching.{head_matching_decides}
use Rattle.lf_coverage.proofs.InputsMatching.{all_free, head_is_full, no_candidates, some_kind, target_fits}
use Rattle.lf_coverage.proofs.Leaves.{head_is_typed}
use Rattle.lf_coverage.proofs.Matched.{goal_part, goal_third, own_type}
use Rattle.lf_coverage.proofs.Matching.{found_is, goal_agrees, ground_is_strict, is_own, none_fixed}
use Rattle.lf_coverage.proofs.MeetReady.{given_near}
use Rattle.lf_coverage.proofs.HeadVariables.{once_in_head}
use Rattle.lf_coverage.proofs.ReadOff.{goal_read}
use Rattle.lf_coverage.proofs.RunTyped.{empty_world_has_no_block}
use Rattle.lf_coverage.proofs.StoreSolution.{long_at_is}
use Rattle.lf_coverage.proofs.StrictHeads.{heads_are_strict}
use Rattle.lf_coverage.proofs.Subordinate.{below_binders, quantified}
use Rattle.lf_coverage.proofs.Transfer.{same_in}

-- both contexts quantify only over what is below
onto_below : (below : ℕ → ℕ → Bool) (G O : List LfType) → AllQuantifiersAreBelow below G → AllQuantifiersAreBelow below O → AllQuantifiersAreBelow below (onto G O)
onto_below below [] O g o = o
onto_below below (A ∷ G) O (a, g) o = (a, onto_below below G O g o)

-- Values that agree on the variables of the items give the arguments the same.
arguments_agree : (Σ : Signature) (Γ : List Skeleton) (σ τ : ℕ → Image) → ((i : ℕ) (t : Skeleton) → SkeletonAt Γ i t → σ i ≡ τ i) → (Ms : List (Option Term)) (T : Spine) → HaveSkeletons (constant_skeletons Σ) Γ Ms → HasArguments σ Ms T → HasArguments τ Ms T
arguments_agree Σ Γ σ τ h [] nil k a = tt
arguments_agree Σ Γ σ τ h [] (app N T) k a = a
arguments_agree Σ Γ σ τ h (M ∷ Ms) nil k a = absurd a
arguments_agree Σ Γ σ τ h (Some M ∷ Ms) (app N T) ((t, k), ks) (a, r) = (a ∙ same_in (constant_skeletons Σ) Γ σ τ h M t k, arguments_agree Σ Γ σ τ h Ms T ks r)
arguments_agree Σ Γ σ τ h (None ∷ Ms) (app N T) k a = arguments_agree Σ Γ σ τ h Ms T k a

term_there : (y : Image) (a : Skeleton) (N : Term) → y ≡ put a N → IsTerm y
term_there y a N e = subst IsTerm (sym e) tt

module _ (Σ : Signature) (ok : IsSignature Σ) (below : ℕ → ℕ → Bool) (test : (f : ℕ) → IsBelowTest Σ [] (below f) f) (m : ℕ → List Mark) (C : Case) (sc : IsStrategyCase below m C) (k : ℕ) (U : LfType) (eu : Σ.types k ≡ Some U) (fam : target U ≡ C.family) (hn : PlacesHavePatterns nothing everything (input_places (m C.family)) (target_arguments U)) (lin : IsLinear m (constant_clause U)) (full : IsFull Σ below m (constant_clause U)) (tb : IsTypedBeside Σ [] C (head_pattern (constant_clause U) (of_constant U))) where
  abbrev p : Pattern
  p = head_pattern (constant_clause U) (of_constant U)

  abbrev G : List LfType
  G = items_context C.items

  abbrev O : List LfType
  O = binders [] U

  abbrev X : List LfType
  X = onto (items_context C.items) (binders [] U)

  abbrev T : Spine
  T = target_arguments U

  abbrev b : List Bool
  b = covered_places C.arguments

  abbrev θ : ℕ → Image
  θ = given_images (binders [] U) C.given (length (items_context C.items))

  typed : IsType Σ [] U
  typed = ok.types_ok k U eu

  tp : IsTypedPattern Σ (head_pattern (constant_clause U) (of_constant U))
  tp = head_is_typed Σ ok [] (λ B z. absurd z) (constant_clause U) (from_constant k U eu)

  no_local : C.local ≡ []
  no_local = tb.local

  patterns : PlacesHavePatterns nothing everything (covered_places C.arguments) (target_arguments U)
  patterns = subst (λ c. PlacesHavePatterns nothing everything c (target_arguments U)) (sym sc.inputs) hn

  kind_is : Σ.kinds (target U) ≡ Some tb.kind
  kind_is = ap Σ.kinds fam ∙ tb.of_family

  near : SubstitutionBySkeletons (constant_skeletons Σ) (context_skeletons (binders [] U)) (context_skeletons (onto (items_context C.items) (binders [] U))) (given_images (binders [] U) C.given (length (items_context C.items)))
  near = given_fits Σ G O C.given (given_near Σ ok [] (λ B z. absurd z) C p tp tb)

  -- Values that make the inputs of the head those of the case have skeletons over the items, with the clause's variables behind them.
  match : (s : CommonInstance Σ [] C (head_pattern (constant_clause U) (of_constant U))) → case_candidates C (head_pattern (constant_clause U) (of_constant U)) ≡ [] → PlacesMatch Σ (onto (items_context C.items) (binders [] U)) (binders [] U) everything zero (given_images (binders [] U) C.given (length (items_context C.items))) C.arguments (target_arguments U)
  match s none =
      let F : ℕ → Bool = free_among C.items in
      let σ : ℕ → Image = λ i. pick (F i) (s.case_values i) (keep i) in
      let places : covered_places C.arguments ≡ input_places (m (target U)) = sc.inputs ∙ ap (λ a. input_places (m a)) (sym fam) in
      let (L, el, fits) = target_fits Σ [] U typed in
      let nb = empty_world_has_no_block Σ C.items tb.by_skeletons.items in
      full_places_match Σ ok [] (λ B z. absurd z) below test O X [] [] F everything σ s.clause_values θ
      (λ i u g e. (i, ap (λ c. pick c (s.case_values i) (keep i)) e))
      (λ i u g e. absurd (true≢false e))
      (λ i j l x y z v. absurd (true≢false y))
      (λ x u g e. absurd (true≢false e))
      C.family tb.kind tb.of_family C.arguments T (with_given C (constant_clause U) [] T) s.tuple refl
      (onto_below below G O sc.quantifies_below (below_binders below [] U tt (quantified below U (λ c d q. (test d c).1 (below_in_constant k U eu q)))))
      (subst (λ L. TypedArguments Σ (onto L X) C.arguments (with_given C (constant_clause U) [] T) tb.kind) no_local tb.arguments)
      (subst (SpineFitsKind Σ O T) (some_kind (sym el ∙ kind_is)) fits)
      sc.patterns
      patterns
      (λ x q. subst (λ c. occurrences_at c x T ≤ 1) (sym places) (once_in_head Σ U typed m lin x))
      (head_is_full Σ U typed below m full tb.kind kind_is b places)
      (arguments_agree Σ (context_skeletons G) s.case_values σ (λ i t g. sym (ap (λ c. pick c (s.case_values i) (keep i)) (all_free C.items nb i t g))) C.arguments s.tuple (subst (λ L. HaveSkeletons (constant_skeletons Σ) (context_skeletons (onto L G)) C.arguments) no_local tb.by_skeletons.arguments) (subst (λ L. HasArguments (lift_over L s.case_values) C.arguments s.tuple) no_local s.of_case))
      s.of_clause
      (no_candidates C U sc.none_given none)

  strict_head : UsesGoal (ground_in (head_pattern (constant_clause U) (of_constant U)) (covered_places C.arguments) C.given) (covered_places C.arguments) (atom (target U) (target_arguments U))
  strict_head = heads_are_strict Σ U typed b C.given patterns

  module _ (r : PlacesMatch Σ (onto (items_context C.items) (binders [] U)) (binders [] U) everything zero (given_images (binders [] U) C.given (length (items_context C.items))) C.arguments (target_arguments U)) where
    -- the values as terms
    abbrev τ : ℕ → Image
    τ = long_at (binders [] U) r.values

    fits : SubstitutionBySkeletons (constant_skeletons Σ) (context_skeletons (binders [] U)) (context_skeletons (onto (items_context C.items) (binders [] U))) r.values
    fits = r.skeletons near

    long : SubstitutionBySkeletons (constant_skeletons Σ) (context_skeletons (binders [] U)) (context_skeletons (onto (items_context C.items) (binders [] U))) (long_at (binders [] U) r.values)
    long = long_fits (constant_skeletons Σ) [] O (context_skeletons X) r.values fits

    same : ArePlaces C.arguments (target_arguments (substitute_type reduce (long_at (binders [] U) r.values) (atom (target U) (target_arguments U))))
    same = subst (λ A. ArePlaces C.arguments (target_arguments A)) (sym (long_same (constant_skeletons Σ) (family_skeletons Σ) [] O (context_skeletons X) r.values (atom (target U) T) fits (type_by_skeletons Σ O (atom (target U) T) tp.type_typed))) r.same

    -- each that is ground is the one that is found
    value_is : (i : ℕ) (A : LfType) → TypeAt (binders [] U) i A → ground_in (head_pattern (constant_clause U) (of_constant U)) (covered_places C.arguments) C.given i ≡ true → found_values C (head_pattern (constant_clause U) (of_constant U)) i ≡ put (skeleton A) (as_term (skeleton A) (r.values i))
    value_is i A g z =
        let N : Term = as_term (skeleton A) (r.values i) in
        let read : found_goal nothing (outside U nothing) zero i (atom (target U) T) C.arguments ≡ Some N = goal_read Σ ok nothing (outside U nothing) everything zero O (context_skeletons X) τ i (skeleton A) N (atom (target U) T) C.arguments tp.clause_typed tp.type_typed long (λ j c. absurd cc) (λ j c. absurd (none_fixed (of_constant U) tt j c)) (λ j v c. cc) (λ j c. cc) (long_at_is O r.values i A g) (uses_all everything N (λ j. refl)) (variable_has_skeleton O i A g) (ground_is_strict p b C.given i (ap (λ Ms. is_given Ms i) sc.none_given) (is_own (of_constant U) tt i A g) z) same ∙ ap Some (rename_identity N) in
        found_is i O A (found_term C p i) N g (ap (λ Ms. or_else (given_at Ms i) (found_goal nothing (outside U nothing) zero i (atom (target U) T) C.arguments)) sc.none_given ∙ read)

    -- The lemma
    by_terms : MatchesByTerms C (head_pattern (constant_clause U) (of_constant U))
    by_terms =
        let V : ℕ → Bool = ground_in p b C.given in
        let Y : ℕ → Bool = λ i. both (V i) (in_context O i) in
        let on : (i : ℕ) → Y i ≡ true → τ i ≡ found_values C p i = λ i y. let (A, g) = in_type O i (both_r (V i) (in_context O i) y) in long_at_is O r.values i A g ∙ sym (value_is i A g (both_l (V i) (in_context O i) y)) in (
          strict_head,
          λ i o v. let (A, g) = own_type (constant_clause U) i o in term_there (found_values C p i) (skeleton A) (as_term (skeleton A) (r.values i)) (value_is i A g v),
          goal_agrees Y τ (found_values C p) on C.arguments (atom (target U) T) (goal_third V (in_context O) Y (λ i u v. both_of (V i) (in_context O i) u v) b (atom (target U) T) strict_head (goal_part (in_context O) b (atom (target U) T) (typed_uses_type Σ O (in_context O) (atom (target U) T) (in_covers O) tp.type_typed))) same,
        )

pub no_candidate_matches : NoCandidateMatches
no_candidate_matches Σ ok below test m C sc p h tb s none =
    let U : LfType = h.type in
    let q : Pattern = head_pattern (constant_clause U) (of_constant U) in
    let tb' : IsTypedBeside Σ [] C q = subst (IsTypedBeside Σ [] C) h.is_head tb in
    let r = match Σ ok below test m C sc h.constant U h.declared h.of_family h.patterns h.linear h.full tb' (subst (CommonInstance Σ [] C) h.is_head s) (sym (ap (case_candidates C) h.is_head) ∙ none) in
    subst (MatchesByTerms C) (sym h.is_head) (by_terms Σ ok below test m C sc h.constant U h.declared h.of_family h.patterns h.linear h.full tb' r)

pub no_candidate_is_instance : NoCandidateIsInstance
no_candidate_is_instance Σ ok below test m C sc K ek v p h tb s none =
    let U : LfType = h.type in
    let tb' : IsTypedBeside Σ [] C (head_pattern (constant_clause U) (of_constant U)) = subst (IsTypedBeside Σ [] C) h.is_head tb in
    let mt : MatchesByTerms C (head_pattern (constant_clause U) (of_constant U)) = subst (MatchesByTerms C) h.is_head (no_candidate_matches Σ ok below test m C sc p h tb s none) in
    subst (IsInstanceOf Σ [] C) (sym h.is_head) ((head_matching_decides Σ ok [] (λ B z. absurd z) C (constant_clause U) (from_constant h.constant U h.declared) tt tb' sc.none_given K (ap Σ.kinds h.of_family ∙ ek) (subst (λ c. MentionChosenOnly nothing c K) (sym sc.inputs) v)).0.1 mt)
