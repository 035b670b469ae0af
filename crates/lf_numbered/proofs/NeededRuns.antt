-- Runs of the strategy by number, where what `cover` needs is so.
use Rattle.std.proofs.Common.{◌≡◌, ℕ, List, [], ◌∷◌, length, inl, inr, refl, sym, ap, ap₂, ◌∙◌, subst}
use Rattle.std.specs.Prelude.{true, false, ◌⊎◌, Option, Some, None}
use Rattle.lf.specs.Syntax.{Spine, LfType, atom, Kind, kind_pi, star, base, kind_skeleton, rename}
use Rattle.lf.specs.Substitution.{Image, keep, substitute_spine, reduce}
use Rattle.lf.specs.SkeletonTyping.{SpineSkeleton}
use Rattle.lf.specs.Skeletons.{constant_skeletons, context_skeletons}
use Rattle.lf.specs.Typing.{Signature, IsType, IsContext, IsSignature, IsTypedRenaming, SpineFitsKind}
use Rattle.lf.specs.Variables.{target, target_arguments, binders, nothing, onto, Values}
use Rattle.lf.specs.Subordination.{Block, Member}
use Rattle.lf.proofs.Growth.{growth_keeps_types}
use Rattle.lf.proofs.SkeletonTyping.{substitution_keeps_spine_skeletons}
use Rattle.lf.proofs.ToSkeletons.{kind_spine_has_skeleton}
use Rattle.lf.proofs.TypeLaws.{substitute_identity_kind}
use Rattle.lf_unification.specs.Offering.{pi_over}
use Rattle.lf_checks.specs.Clause.{constant_clause, scope}
use Rattle.lf_cases.specs.Candidates.{given_images}
use Rattle.lf_cases.specs.Case.{items_context}
use Rattle.lf_cases.specs.OutputGoal.{free_variables}
use Rattle.lf_cases.specs.Pattern.{Pattern, head_pattern, is_given}
use Rattle.lf_cases.specs.Split.{Ends}
use Rattle.lf_cases.proofs.Raised.{rename_identity}
use Rattle.lf_totality.proofs.After.{Extends-self}
use Rattle.lf_coverage.specs.Heads.{HaveSkeletons}
use Rattle.lf_coverage.specs.Leaf.{IsTypedPattern}
use Rattle.lf_coverage.specs.TypedCase.{TypedArguments}
use Rattle.lf_coverage.proofs.GivenValues.{given_fits, near_renames, values_near}
use Rattle.lf_coverage.proofs.Parts.{some_same}
use Rattle.lf_coverage.proofs.SolvedCase.{free_context_is, free_typed}
use Rattle.lf_numbered.specs.EntryConstants.{with_entries}
use Rattle.lf_numbered.specs.EntryPatternsRuns.{IsNumberedLeaf}
use Rattle.lf_numbered.specs.EntryTermsInputs.{closed_head}
use Rattle.lf_numbered.specs.NeededRuns.{HeadIsBesideClosed, NeededStrategyRunIsCovered}
use Rattle.lf_numbered.specs.NewBlock.{rename_all}
use Rattle.lf_numbered.specs.NumberedBesideGiven.{IsTypedBesideByNumber, given_over}
use Rattle.lf_numbered.specs.NumberedCalls.{IsHeadFor, IsSubgoalFor, NumberedCoverIs, NumberedMatchedNeeds, all_covered}
use Rattle.lf_numbered.specs.NumberedCandidatesRuns.{AnswersFirst}
use Rattle.lf_numbered.specs.NumberedCase.{NumberedCase}
use Rattle.lf_numbered.specs.NumberedInstance.{move_all, move_types}
use Rattle.lf_numbered.specs.OwnTerms.{blocks_of}
use Rattle.lf_numbered.specs.TypedNumbered.{IsTypedNumberedCase}
use Rattle.lf_numbered.specs.WritingRoom.{move_kind}
use Rattle.lf_numbered.proofs.EntryPatternsMatching.{entries_signature}
use Rattle.lf_numbered.proofs.EntrySignature.{closed_over, entries_kept}
use Rattle.lf_numbered.proofs.EntryTermsHeads.{type_of_head}
use Rattle.lf_numbered.proofs.EntryTermsInputs.{closed_is_typed, none_fit, none_given}
use Rattle.lf_numbered.proofs.MeetsReadyArguments.{turned_arguments}
use Rattle.lf_numbered.proofs.NumberedCallsOwn.{unmoved_all, unmoved_type, unmoved_types}
use Rattle.lf_numbered.proofs.NumberedCandidatesGoals.{some_pattern}
use Rattle.lf_numbered.proofs.NumberedCandidatesRuns.{numbered_strategy_run_covers, strategy_run}
use Rattle.lf_numbered.proofs.NumberedHeads.{target_over}
use Rattle.lf_numbered.proofs.NumberedNeedsLaws.{leaves_of}
use Rattle.lf_numbered.proofs.NumberedSplitCases.{unified_case}

-- Constants that don't move leave kinds, and variables that stay leave arguments.
unmoved_kind : (K : Kind) → move_kind (λ c. c) K ≡ K
unmoved_kind star = refl
unmoved_kind (kind_pi A K) = ap₂ kind_pi (unmoved_type A) (unmoved_kind K)

unrenamed_all : (Ms : List (Option Rattle.lf.specs.Syntax.Term)) → rename_all (λ i. i) Ms ≡ Ms
unrenamed_all [] = refl
unrenamed_all (Some M ∷ Ms) = ap₂ (λ N Ns. Some N ∷ Ns) (rename_identity M) (unrenamed_all Ms)
unrenamed_all (None ∷ Ms) = ap (λ Ns. None ∷ Ns) (unrenamed_all Ms)

module _ (Σ : Signature) (first : ℕ) (W : List Block) (C : NumberedCase) (p : Pattern) (n : NumberedMatchedNeeds Σ first W C p) (h : IsHeadFor Σ first C p) where
  abbrev Σ₁ : Signature
  Σ₁ = with_entries Σ first (blocks_of C.blocks)

  abbrev pub U : LfType
  U = pi_over p.clause.outer p.clause.type

  abbrev O : List LfType
  O = scope (constant_clause U)

  abbrev Y : List LfType
  Y = items_context (free_variables C.variables)

  abbrev θ : ℕ → Image
  θ = given_images O (given_over (binders [] U) [] []) (length Y)

  abbrev S : Spine
  S = substitute_spine reduce θ (target_arguments U)

  pub closed : IsType Σ [] U
  closed =
      let t : IsTypedPattern Σ (head_pattern p.clause p.origin) = subst (IsTypedPattern Σ) h.is_head n.pattern.typed in
      closed_over Σ p.clause.outer p.clause.type n.pattern.typed.outer_typed (type_of_head Σ p.clause.type p.clause.outer t.clause_typed t.type_typed)

  ok₁ : IsSignature Σ₁
  ok₁ = entries_signature Σ n.setting.signature W n.setting.blocks first n.setting.free C n.case

  same_family : target U ≡ C.family
  same_family = target_over p.clause.outer p.clause.type ∙ sym (ap (λ (r : Pattern). target r.type) h.is_head) ∙ n.pattern.same_family

  values : Values Σ₁ (is_given (given_over (binders [] U) [] [])) O Y θ
  values = record { typed = λ i A g u. absurd (no (sym (none_given (binders [] U) i) ∙ u)); closed = λ i A g u. absurd (no (sym (none_given (binders [] U) i) ∙ u)) }
    where
      no : false ≡ true → ⊥
      no e = cc

  fits : SpineSkeleton (constant_skeletons Σ₁) (context_skeletons (onto Y O)) S (kind_skeleton 0 h.kind) (base 0)
  fits = by (closed_is_typed Σ₁ ok₁ U (growth_keeps_types Σ Σ₁ (entries_kept Σ first (blocks_of C.blocks)) (λ b K q. q) [] U closed)).type_typed
    where
      by : IsType Σ₁ O (atom (target U) (target_arguments U)) → SpineSkeleton (constant_skeletons Σ₁) (context_skeletons (onto Y O)) S (kind_skeleton 0 h.kind) (base 0)
      by (L, r, s) =
          substitution_keeps_spine_skeletons (constant_skeletons Σ₁) (context_skeletons O) (context_skeletons (onto Y O)) θ (target_arguments U) (kind_skeleton 0 h.kind) (base 0)
          (given_fits Σ₁ Y O (given_over (binders [] U) [] []) (values_near Σ₁ ok₁ (is_given (given_over (binders [] U) [] [])) O Y O θ values))
          (kind_spine_has_skeleton Σ₁ 0 O (target_arguments U) h.kind (subst (SpineFitsKind Σ₁ O (target_arguments U)) (some_same (sym r ∙ ap Σ.kinds same_family ∙ h.of_family)) s))

  near : IsTypedRenaming (move_types (λ c. c) C.variables) (onto Y O) (λ i. i)
  near = subst (λ X. IsTypedRenaming X (onto Y O) (λ i. i)) (sym (unmoved_types C.variables)) (subst (λ X. IsTypedRenaming C.variables (onto X O) (λ i. i)) (sym (free_context_is C.variables)) (near_renames C.variables O))

  places : TypedArguments Σ₁ (onto Y O) C.arguments S h.kind
  places =
      subst (λ Ms. TypedArguments Σ₁ (onto Y O) Ms S h.kind) (unrenamed_all (move_all (λ c. c) C.arguments) ∙ unmoved_all C.arguments)
      (subst (TypedArguments Σ₁ (onto Y O) (rename_all (λ i. i) (move_all (λ c. c) C.arguments)) S) (substitute_identity_kind reduce h.kind)
      (turned_arguments Σ₁ Σ₁ ok₁ (Extends-self nothing Σ₁ ok₁) (λ c. c) (λ c o. refl) (λ c A e. e ∙ ap Some (sym (unmoved_type A))) (λ a K e. e ∙ ap Some (sym (unmoved_kind K))) C.variables (onto Y O) (λ i. i) near nothing [] keep keep C.arguments h.tuple S h.kind (ok₁.kinds_ok C.family h.kind h.of_family) h.covered_only h.typed_places h.at_places (λ i t g. absurd g) (λ i u. absurd cc) fits))

  bare : C ≡ record { blocks = C.blocks; variables = C.variables; given = []; local = []; family = C.family; arguments = C.arguments }
  bare = ap₂ (λ Ms D. record { blocks = C.blocks; variables = C.variables; given = Ms; local = D; family = C.family; arguments = C.arguments }) h.none_given h.no_local

  pub closed_beside : IsTypedBesideByNumber Σ first W C (closed_head U)
  closed_beside =
      let t = subst (IsTypedNumberedCase Σ first W) bare n.case in
      subst (λ D. IsTypedBesideByNumber Σ first W D (closed_head U)) (sym bare) (record {
        typed = t;
        outer = keep;
        stands = tt;
        beside = record {
          by_skeletons = record {
            items = free_typed Σ₁ [] C.variables t.variables.variables;
            given = none_fit (constant_skeletons Σ₁) _ (binders [] U);
            arguments = subst (λ X. HaveSkeletons (constant_skeletons Σ₁) (context_skeletons X) C.arguments) (sym (free_context_is C.variables)) t.arguments;
          };
          local_typed = subst (IsContext Σ₁) (sym (free_context_is C.variables)) t.variables.variables;
          same_family = same_family;
          kind = h.kind;
          of_family = h.of_family;
          given = values;
          local = refl;
          arguments = places;
        };
      })

pub head_is_beside_closed : HeadIsBesideClosed
head_is_beside_closed Σ first W C p n h = closed_beside Σ first W C p n h

pub needed_strategy_run_is_covered : NeededStrategyRunIsCovered
needed_strategy_run_is_covered Σ first W below ps goal n r =
    let e : Ends (IsNumberedLeaf Σ first W ps) (AnswersFirst Σ first W below ps) goal = leaves_of Σ first W n.setting below ps (AnswersFirst Σ first W below ps) (λ C Cs (x, f, a) D m. (x, unified_case Σ first W below C x Cs a.lists.unified D m)) (n.case, n.patterns) r in
    let (p, l) = some_pattern Σ first W below ps goal (strategy_run Σ first W below ps (IsNumberedLeaf Σ first W ps) e) in
    by e p l (n.patterns p l).beside
  where
    run : Ends (IsNumberedLeaf Σ first W ps) (AnswersFirst Σ first W below ps) goal → (q : Pattern) → IsTypedPattern Σ q → IsTypedBesideByNumber Σ first W goal q → NumberedCoverIs Σ first W below ps goal all_covered
    run e q t b = numbered_strategy_run_covers Σ n.setting.signature W n.setting.blocks below n.subordination first n.setting.free ps q t goal n.one_block b (λ p l. (n.patterns p l).same_length) n.locals_below e

    by : Ends (IsNumberedLeaf Σ first W ps) (AnswersFirst Σ first W below ps) goal → (p : Pattern) → Member p ps → IsHeadFor Σ first goal p ⊎ IsSubgoalFor Σ first W goal p → NumberedCoverIs Σ first W below ps goal all_covered
    by e p l (inl h) =
        let m : NumberedMatchedNeeds Σ first W goal p = record { setting = n.setting; case = n.case; pattern = n.patterns p l } in
        run e (closed_head (pi_over p.clause.outer p.clause.type)) (closed_is_typed Σ n.setting.signature (pi_over p.clause.outer p.clause.type) (closed Σ first W goal p m h)) (closed_beside Σ first W goal p m h)
    by e p l (inr s) = run e p (n.patterns p l).typed s.typed_beside
