-- A case that is typed beside a constant's clause, and is never unified with it, shares no typed instance with it.
use Rattle.std.proofs.Common.{◌≡◌, ℕ, ◌+◌, ◌⊎◌, List, [], length, inl, inr, sym, ap, ap₂, ◌∙◌, subst}
use Rattle.std.specs.Prelude.{Bool, true, Some}
use Rattle.lf.specs.Syntax.{Term, Spine, LfType, Skeleton, skeleton, rename, rename_spine}
use Rattle.lf.specs.Substitution.{Image, keep, put, rename_image, substitute, substitute_type, substitute_image, after, reduce}
use Rattle.lf.specs.SkeletonTyping.{SubstitutionBySkeletons}
use Rattle.lf.specs.Skeletons.{constant_skeletons, family_skeletons, context_skeletons}
use Rattle.lf.specs.AtOnce.{lift_renaming_by}
use Rattle.lf.specs.Typing.{Signature, TypeAt, ImageHasType, IsType, IsContext, IsSignature, IsTypedSubstitution}
use Rattle.lf.specs.Variables.{target_arguments, binders, onto, Values, UsesType}
use Rattle.lf.specs.Subordination.{Block, AreTypedBlocks}
use Rattle.lf.specs.Worlds.{lift_over}
use Rattle.lf.proofs.Agreement.{agree_on_type, uses_type_within}
use Rattle.lf.proofs.Closed.{Agree, agree, agree_type}
use Rattle.lf.proofs.Renaming.{rename_substituted, reduction_is_natural}
use Rattle.lf.proofs.SkeletonTypes.{substitutions_compose_type}
use Rattle.lf.proofs.Substitution.{skeleton_context_of, substitution_keeps_typing}
use Rattle.lf.proofs.ToSkeletons.{type_by_skeletons}
use Rattle.lf.proofs.TypeLaws.{skeleton_substituted}
use Rattle.lf.proofs.Weakening.{declared_is_type}
use Rattle.lf_unification.specs.Solving.{Never}
use Rattle.lf_checks.specs.Clause.{scope}
use Rattle.lf_checks.specs.Marks.{SamePlaces}
use Rattle.lf_checks.specs.Tests.{either}
use Rattle.lf_checks.proofs.StrictTypes.{either_cases}
use Rattle.lf_cases.specs.Case.{Case, items_context, HasArguments, covered_places}
use Rattle.lf_cases.specs.Pattern.{Pattern, is_given, given_at}
use Rattle.lf_cases.specs.Missing.{CommonInstance}
use Rattle.lf_cases.specs.Split.{HasNoBlockVariable}
use Rattle.lf_cases.proofs.OutputItems.{length_instance}
use Rattle.lf_coverage.specs.Leaf.{IsTypedPattern}
use Rattle.lf_coverage.specs.MeetStore.{IsConstants, meet_store}
use Rattle.lf_coverage.specs.TypedCase.{IsTypedBeside, given_values}
use Rattle.lf_coverage.proofs.FreshValues.{Longer, longer, values_moved, arguments_moved, goal_moved}
use Rattle.lf_coverage.proofs.GivenEquations.{far_back}
use Rattle.lf_coverage.proofs.GivenValues.{StandsForItself, StandsForGiven, given_cases, given_there, given_fits, values_near}
use Rattle.lf_coverage.proofs.InstancesCompose.{instance_is_typed}
use Rattle.lf_coverage.proofs.ItemsContext.{items_are_context}
use Rattle.lf_coverage.proofs.Meeting.{joined, joined_near, joined_far, both_fit, never_with, no_block_with}
use Rattle.lf_coverage.proofs.StayTyped.{value_type}
use Rattle.lf_coverage.proofs.Choices.{either_first, either_second}
use Rattle.lf_coverage.proofs.Parts.{some_same}

module _ (Σ : Signature) (ok : IsSignature Σ) (W : List Block) (typed : AreTypedBlocks Σ W) (C : Case) (nc : HasNoBlockVariable C.items) (p : Pattern) (tp : IsTypedPattern Σ p) (i : IsConstants p.origin) (tb : IsTypedBeside Σ W C p) (s : CommonInstance Σ W C p) where
  abbrev O : List LfType
  O = items_context C.items

  abbrev Q : List LfType
  Q = scope p.clause

  abbrev X : List LfType
  X = onto (items_context C.items) (scope p.clause)

  abbrev n : ℕ
  n = length (items_context C.items)

  abbrev g : ℕ → Image
  g = given_values C p

  abbrev G : List LfType
  G = items_context s.items

  co : IsContext Σ O
  co = items_are_context Σ ok W typed C.items tb.by_skeletons.items

  cg : IsContext Σ G
  cg = items_are_context Σ ok W typed s.items (no_block_with Σ W p.origin s.items i s.typed_items)

  ts : IsTypedSubstitution Σ O G s.case_values
  ts = instance_is_typed Σ ok W typed s.items C.items s.case_values nc s.is_instance

  -- first, fresh variables for what the instance gives no value
  first : Longer Σ s.used Q G s.clause_values
  first = longer Σ ok W typed G cg Q s.used s.clause_values tp.clause_typed s.typed_values

  abbrev H : List LfType
  H = first.context

  abbrev σ : ℕ → Image
  σ k = rename_image first.moves (s.case_values k)

  tσ : IsTypedSubstitution Σ O H σ
  tσ = values_moved Σ ok O G H first.moves s.case_values first.renames ts

  abbrev both : ℕ → Image
  both = joined (items_context C.items) σ first.values

  agrees : Agree O both σ
  agrees j A k = joined_near O σ first.values j A k

  fits : SubstitutionBySkeletons (constant_skeletons Σ) (context_skeletons X) (context_skeletons H) both
  fits = both_fit Σ ok O Q H co tp.clause_typed first.is_context σ first.values tσ first.typed

  -- then the given terms' values
  abbrev v : ℕ → Image
  v = after both (given_values C p)

  given_term : (j : ℕ) (B : LfType) (M : Term) → TypeAt Q j B → given_at C.given j ≡ Some M → g j ≡ put (skeleton B) M → rename first.moves (substitute reduce s.case_values M) ≡ substitute reduce both M
  given_term j B M b q e = rename_substituted reduce reduction_is_natural first.moves s.case_values M ∙ sym (by (subst (λ x. ImageHasType Σ O x (substitute_type reduce g B)) e (tb.given.typed j B b (given_there C.given j M q))))
    where
      by : ImageHasType Σ O (put (skeleton B) M) (substitute_type reduce g B) → substitute reduce both M ≡ substitute reduce σ M
      by (a, m) = agree Σ reduce O both σ M (substitute_type reduce g B) agrees m

  on_used : (j : ℕ) → s.used j ≡ true → first.values j ≡ v j
  on_used j u = by (given_cases Q C.given n j)
    where
      tag : (a : Skeleton) (B : LfType) (N : Term) → ImageHasType Σ G (put a N) (substitute_type reduce s.clause_values B) → a ≡ skeleton B
      tag a B N (e, m) = sym e ∙ skeleton_substituted reduce s.clause_values B

      by : StandsForItself Q C.given n j ⊎ StandsForGiven Q C.given n j → first.values j ≡ v j
      by (inl (e, none)) = sym (ap (substitute_image both) e ∙ joined_far O σ first.values j)
      by (inr (B, M, b, q, e)) =
          let (a, r) = s.given j M q in
          let t : a ≡ skeleton B = tag a B (substitute reduce s.case_values M) (subst (λ x. ImageHasType Σ G x (substitute_type reduce s.clause_values B)) r (s.typed_values.typed j B b u)) in
          sym (first.same j u) ∙ ap (rename_image first.moves) r ∙ ap₂ put t (given_term j B M b q e) ∙ sym (ap (substitute_image both) e)

  abbrev U : ℕ → Bool
  U j = either (s.used j) (is_given C.given j)

  values_typed : Values Σ U Q H v
  values_typed = record { typed = λ j A k u. each j A k (either_cases (s.used j) (is_given C.given j) u); closed = λ j A k u. closed j A k (either_cases (s.used j) (is_given C.given j) u) }
    where
      closed : (j : ℕ) (A : LfType) → TypeAt Q j A → (s.used j ≡ true) ⊎ (is_given C.given j ≡ true) → UsesType U A
      closed j A k (inl u) = uses_type_within s.used U A (λ l e. either_first (s.used l) (is_given C.given l) e) (s.typed_values.closed j A k u)
      closed j A k (inr u) = uses_type_within (is_given C.given) U A (λ l e. either_second (s.used l) (is_given C.given l) e) (tb.given.closed j A k u)

      image_put : (x : Image) (A : LfType) → IsType Σ O A → ImageHasType Σ O x A → ImageHasType Σ H (substitute_image σ x) (substitute_type reduce σ A)
      image_put (keep l) A t k = tσ l A k
      image_put (put a N) A t (e, k) = (skeleton_substituted reduce σ A ∙ e, substitution_keeps_typing Σ ok O H σ N A (record { typed = tσ; source_skeletons = skeleton_context_of Σ ok O co; target_skeletons = skeleton_context_of Σ ok H first.is_context }) (type_by_skeletons Σ O A t) k)

      image_same : (x : Image) (A : LfType) → ImageHasType Σ O x A → substitute_image σ x ≡ substitute_image both x
      image_same (keep l) A k = sym (agrees l A k)
      image_same (put a N) A (e, k) = ap (put a) (sym (agree Σ reduce O both σ N A agrees k))

      each : (j : ℕ) (A : LfType) → TypeAt Q j A → (s.used j ≡ true) ⊎ (is_given C.given j ≡ true) → ImageHasType Σ H (v j) (substitute_type reduce v A)
      each j A k (inl u) = subst (λ x. ImageHasType Σ H x (substitute_type reduce v A)) (on_used j u) (subst (ImageHasType Σ H (first.values j)) (agree_on_type reduce s.used first.values v A on_used (s.typed_values.closed j A k u)) (first.typed j A k))
      each j A k (inr u) =
          let t : IsType Σ Q A = declared_is_type Σ ok Q j A tp.clause_typed k in
          let ta : IsType Σ O (substitute_type reduce g A) = value_type Σ ok (is_given C.given) Q O g A tp.clause_typed co tb.given t (tb.given.closed j A k u) in
          let it : ImageHasType Σ O (g j) (substitute_type reduce g A) = tb.given.typed j A k u in
          let fg : SubstitutionBySkeletons (constant_skeletons Σ) (context_skeletons Q) (context_skeletons X) g = given_fits Σ O Q C.given (values_near Σ ok (is_given C.given) Q O Q g tb.given) in
          let e : substitute_type reduce σ (substitute_type reduce g A) ≡ substitute_type reduce v A = sym (agree_type Σ reduce O both σ (substitute_type reduce g A) agrees ta) ∙ substitutions_compose_type (family_skeletons Σ) (constant_skeletons Σ) (context_skeletons Q) (context_skeletons X) (context_skeletons H) g both A fg fits (type_by_skeletons Σ Q A t) in
          subst (λ x. ImageHasType Σ H x (substitute_type reduce v A)) (image_same (g j) (substitute_type reduce g A) it) (subst (ImageHasType Σ H (substitute_image σ (g j))) e (image_put (g j) (substitute_type reduce g A) ta it))

  -- and fresh variables for the others
  second : Longer Σ U Q H v
  second = longer Σ ok W typed H first.is_context Q U v tp.clause_typed values_typed

  abbrev τ : ℕ → Image
  τ k = rename_image second.moves (σ k)

  local_length : length C.local ≡ length (binders [] p.type)
  local_length = ap length tb.local ∙ length_instance (binders [] p.type) g

  pub shares_nothing : Never Σ [] (meet_store C p tb.kind) → ⊥
  shares_nothing never =
      let b : List Bool = covered_places C.arguments in
      let l : length C.local ≡ length (binders [] p.type) = local_length in
      let T1 : Spine = rename_spine (lift_renaming_by (length C.local) first.moves) s.tuple in
      let T2 : Spine = rename_spine (lift_renaming_by (length C.local) second.moves) T1 in
      let h1 : HasArguments (lift_over C.local σ) C.arguments T1 = arguments_moved C.local first.moves s.case_values C.arguments s.tuple s.of_case in
      let h2 : HasArguments (lift_over C.local τ) C.arguments T2 = arguments_moved C.local second.moves σ C.arguments T1 h1 in
      let s1 : SamePlaces b T1 (target_arguments (substitute_type reduce first.values p.type)) = subst (λ k. SamePlaces b (rename_spine (lift_renaming_by k first.moves) s.tuple) (target_arguments (substitute_type reduce first.values p.type))) (sym l) (goal_moved [] s.used first.moves s.clause_values first.values first.same b p.type s.tuple s.uses s.of_clause) in
      let s2 : SamePlaces b T2 (target_arguments (substitute_type reduce second.values p.type)) = subst (λ k. SamePlaces b (rename_spine (lift_renaming_by k second.moves) T1) (target_arguments (substitute_type reduce second.values p.type))) (sym l) (goal_moved [] s.used second.moves first.values second.values (λ j u. ap (rename_image second.moves) (on_used j u) ∙ second.same j (either_first (s.used j) (is_given C.given j) u)) b p.type T1 s.uses s1) in
      never_with Σ ok W C tb.by_skeletons p tp l tb.kind never co second.context second.is_context τ (values_moved Σ ok O H second.context second.moves σ second.renames tσ) second.values second.typed T2 h2 s2 given
    where
      given : (j : ℕ) (M : Term) (A : LfType) → given_at C.given j ≡ Some M → TypeAt X (j + n) A → (a : Skeleton) × (second.values j ≡ put a (substitute reduce τ M))
      given j M A q z = by (given_cases Q C.given n j)
        where
          by : StandsForItself Q C.given n j ⊎ StandsForGiven Q C.given n j → (a : Skeleton) × (second.values j ≡ put a (substitute reduce τ M))
          by (inl (e, none)) = let (B, b, r) = far_back O Q j A z in absurd (none B M b q)
          by (inr (B, N, b, r, e)) = (
            skeleton B,
            sym (second.same j (either_second (s.used j) (is_given C.given j) (given_there C.given j M q)))
                ∙ ap (λ x. rename_image second.moves (substitute_image both x)) e
                ∙ ap (λ P. put (skeleton B) (rename second.moves P)) (sym (given_term j B N b r e) ∙ rename_substituted reduce reduction_is_natural first.moves s.case_values N)
                ∙ ap (put (skeleton B)) (rename_substituted reduce reduction_is_natural second.moves σ N ∙ ap (substitute reduce τ) (some_same (sym r ∙ q))),
          )
