-- A pattern with what stands outside its clause put in: it is typed over the clause's own variables and the case's; and what is read off it, where that
-- has its skeleton, gives values under which it is the pattern with both put in at once.
use Rattle.std.proofs.Common.{◌≡◌, ℕ, ◌+◌, ◌-◌, ◌<◌, List, [], ◌∷◌, length, refl, sym, ap, ◌∙◌, subst, inl, inr}
use Rattle.std.specs.Prelude.{Bool, true, false, cond, Some, ◌⊎◌}
use Rattle.lf.specs.Syntax.{constant, Term, Spine, LfType, Skeleton, skeleton, rename_spine}
use Rattle.lf.specs.Substitution.{Image, keep, put, rename_image, substitute, substitute_image, substitute_type, reduce, after}
use Rattle.lf.specs.AtOnce.{shift_by}
use Rattle.lf.specs.Entries.{quantifiers}
use Rattle.lf.specs.Eta.{eta_expand}
use Rattle.lf.specs.SkeletonTyping.{HeadSkeletons, SkeletonAt, ImageSkeleton, TermSkeleton, SubstitutionBySkeletons}
use Rattle.lf.specs.Skeletons.{constant_skeletons, family_skeletons, context_skeletons}
use Rattle.lf.specs.Typing.{Signature, TypeAt, ImageHasType, IsTypedSubstitution, IsType, IsContext, IsSignature}
use Rattle.lf.specs.Variables.{target_arguments, binders, onto, ImageUses, SameOn, everything, nothing}
use Rattle.lf.specs.Subordination.{Block, AreTypedBlocks}
use Rattle.lf.specs.Worlds.{lift_over, instance}
use Rattle.lf.proofs.Checker.{both_of}
use Rattle.lf.proofs.Eta.{rename_eta_expand}
use Rattle.lf.proofs.Kept.{SubUses, typed_uses_type}
use Rattle.lf.proofs.Partial.{skeletons_beside, uses_all, variable_has_skeleton_beside}
use Rattle.lf.proofs.Patch.{beyond, pick, patch, patch_same}
use Rattle.lf.proofs.Renaming.{substitute_identity, substitute_renamed}
use Rattle.lf.proofs.SkeletonTypes.{substitutions_compose_type}
use Rattle.lf.proofs.Substitution.{TypedSubstitution, skeleton_context_of, substitution_keeps_types, lifted_substitution_typed, typed_substitution_by_skeletons}
use Rattle.lf.proofs.ToSkeletons.{skeleton_has_variable, type_by_skeletons}
use Rattle.lf.proofs.Uses.{uses_renamed}
use Rattle.lf_checks.specs.Clause.{scope, variables, outside}
use Rattle.lf_checks.specs.Ground.{UsesGoal}
use Rattle.lf_checks.specs.Parts.{type_at}
use Rattle.lf_checks.specs.Strict.{strict_goal}
use Rattle.lf_checks.specs.Tests.{both}
use Rattle.lf_checks.specs.Worlded.{IsTerm}
use Rattle.lf_checks.proofs.EtaTest.{both_l}
use Rattle.lf_cases.specs.Case.{covered_places}
use Rattle.lf_cases.specs.Cover.{AreTerms}
use Rattle.lf_cases.specs.Pattern.{Pattern, is_given, ground_in}
use Rattle.lf_cases.proofs.GroundTypes.{either_left}
use Rattle.lf_cases.proofs.OutputItems.{lift_over_far, length_instance}
use Rattle.lf_totality.proofs.Core.{out_index, outside_at}
use Rattle.lf_totality.proofs.OutputCases.{in_context, in_covers, either_in}
use Rattle.lf_totality.proofs.RaisedOutputs.{binders_over}
use Rattle.lf_totality.proofs.Theorem.{outside_from}
use Rattle.lf_coverage.specs.Leaf.{IsTypedPattern}
use Rattle.lf_coverage.specs.Matching.{ArePlaces, as_image}
use Rattle.lf_coverage.proofs.Carried.{beside_nothing, beyond_at}
use Rattle.lf_coverage.proofs.Choices.{decided}
use Rattle.lf_coverage.proofs.ClauseValues.{out_back}
use Rattle.lf_coverage.proofs.NearOrFar.{near_or_far}
use Rattle.lf_coverage.proofs.Forms.{lift_over_near}
use Rattle.lf_coverage.proofs.FoundTyped.{more, term_there}
use Rattle.lf_coverage.proofs.Matched.{Third, goal_third, goal_part}
use Rattle.lf_coverage.proofs.Matching.{found_is, goal_agrees}
use Rattle.lf_numbered.specs.EntryConstants.{with_entries, IsFreeFrom}
use Rattle.lf_numbered.specs.EntryPatternsMatching.{placed_type, found_placed, placed_values}
use Rattle.lf_numbered.specs.EntryTerms.{own_values}
use Rattle.lf_numbered.specs.NumberedCase.{NumberedCase}
use Rattle.lf_numbered.specs.OwnTerms.{blocks_of}
use Rattle.lf_numbered.specs.TypedNumbered.{IsTypedNumberedCase}
use Rattle.lf_numbered.proofs.EntryPatternsNear.{out_far, from_instance, behind_skeleton, AConstant, own_near, near_own}
use Rattle.lf_numbered.proofs.EntryPatternsMatching.{entries_signature, more_type, more_context}
use Rattle.lf_numbered.proofs.EntryPatternsStrict.{Places}
use Rattle.lf_numbered.proofs.EntryTermsUses.{goal_uses}
use mathlib.Core.Path.{fun_ext}

module _ (Σ : Signature) (ok : IsSignature Σ) (W : List Block) (typed : AreTypedBlocks Σ W) (first : ℕ) (free : IsFreeFrom Σ first) (C : NumberedCase) (tc : IsTypedNumberedCase Σ first W C) (p : Pattern) (tp : IsTypedPattern Σ p) (φ : ℕ → Image) (φ_typed : IsTypedSubstitution (with_entries Σ first (blocks_of C.blocks)) p.clause.outer C.variables φ) (φ_fixed : (j : ℕ) → p.clause.fixed j ≡ true → AConstant (φ j)) where
  abbrev pub X : List LfType
  X = C.variables

  abbrev pub Σ₁ : Signature
  Σ₁ = with_entries Σ first (blocks_of C.blocks)

  abbrev pub κ : HeadSkeletons
  κ = constant_skeletons Σ₁

  ok₁ : IsSignature Σ₁
  ok₁ = entries_signature Σ ok W typed first free C tc

  abbrev pub Q : List LfType
  Q = binders [] p.clause.type

  abbrev pub O : List LfType
  O = onto (binders [] p.clause.type) p.clause.outer

  abbrev pub σ : ℕ → Image
  σ = lift_over Q φ

  -- the clause's own variables, with φ put into their types, over the case's
  abbrev pub K : List LfType
  K = onto (instance Q φ) X

  pub scope_is : scope p.clause ≡ O
  scope_is = binders_over [] p.clause.type p.clause.outer

  pub scope₁ : IsContext Σ₁ O
  scope₁ = subst (IsContext Σ₁) scope_is (more_context Σ ok W typed first free C tc (scope p.clause) tp.clause_typed)

  pub type₁ : IsType Σ₁ O p.type
  type₁ = subst (λ G. IsType Σ₁ G p.type) scope_is (more_type Σ ok W typed first free C tc (scope p.clause) p.type tp.type_typed)

  local : (D : List LfType) → IsContext Σ₁ (onto D p.clause.outer) → IsContext Σ₁ (onto (instance D φ) X) × IsTypedSubstitution Σ₁ (onto D p.clause.outer) (onto (instance D φ) X) (lift_over D φ)
  local [] i = (tc.variables.variables, φ_typed)
  local (A ∷ D) (i, t) =
      let (d, s) = local D i in
      let Γ : List LfType = onto D p.clause.outer in
      let Δ : List LfType = onto (instance D φ) X in
      let w : TypedSubstitution Σ₁ ok₁ (onto D p.clause.outer) (onto (instance D φ) X) (lift_over D φ) = record { typed = s; source_skeletons = skeleton_context_of Σ₁ ok₁ Γ i; target_skeletons = skeleton_context_of Σ₁ ok₁ Δ d } in
      ((d, substitution_keeps_types Σ₁ ok₁ Γ Δ (lift_over D φ) A w t), (lifted_substitution_typed Σ₁ ok₁ Γ Δ (lift_over D φ) A w (type_by_skeletons Σ₁ Γ A t)).typed)

  pub context₁ : IsContext Σ₁ K
  context₁ = (local Q scope₁).0

  pub σ_typed : IsTypedSubstitution Σ₁ O K σ
  σ_typed = (local Q scope₁).1

  pub σ_fits : SubstitutionBySkeletons κ (context_skeletons O) (context_skeletons K) σ
  σ_fits = typed_substitution_by_skeletons Σ₁ ok₁ O K σ σ_typed

  pub placed₁ : IsType Σ₁ K (placed_type p φ)
  placed₁ = substitution_keeps_types Σ₁ ok₁ O K σ p.type (record { typed = σ_typed; source_skeletons = skeleton_context_of Σ₁ ok₁ O scope₁; target_skeletons = skeleton_context_of Σ₁ ok₁ K context₁ }) type₁

  -- The clause's own variables are the newest, and stay.
  pub near_is : (i : ℕ) → outside p.clause.type everything i ≡ false → σ i ≡ keep i
  near_is i o = lift_over_near Q φ i (own_near p.clause.type i o)

  pub far_is : (l : ℕ) → σ (l + length Q) ≡ rename_image (shift_by (length Q)) (φ l)
  far_is l = lift_over_far Q φ l

  -- and each has its type with φ put in
  pub own_placed : (i : ℕ) (A : LfType) → TypeAt (scope p.clause) i A → outside p.clause.type everything i ≡ false → TypeAt K i (substitute_type reduce σ A)
  own_placed i A g o = subst (λ y. ImageHasType Σ₁ K y (substitute_type reduce σ A)) (near_is i o) (σ_typed i A (subst (λ G. TypeAt G i A) scope_is g))

  pub places : (i : ℕ) → outside p.clause.type everything i ≡ false → Places κ nothing (outside p.clause.type p.clause.fixed) i (context_skeletons O) (context_skeletons K) σ
  places i o = record { bound = λ j e. absurd cc; fixed = fixed; itself = near_is i o; fits = σ_fits }
    where
      moved : (j l : ℕ) → j ≡ l + length Q → AConstant (φ l) → (a : Skeleton) × (d : ℕ) × (U : Spine) × (σ j ≡ put a (eta_expand a (constant d) U))
      moved j l e (a, d, U, q) = (a, d, rename_spine (shift_by (length Q)) U, ap σ e ∙ far_is l ∙ ap (rename_image (shift_by (length Q))) q ∙ ap (put a) (rename_eta_expand (shift_by (length Q)) a (constant d) U))

      fixed : (j : ℕ) → outside p.clause.type p.clause.fixed j ≡ true → (a : Skeleton) × (d : ℕ) × (U : Spine) × (σ j ≡ put a (eta_expand a (constant d) U))
      fixed j e = let (l, y, z) = outside_from p.clause.type p.clause.fixed j e in moved j l (y ∙ out_far p.clause.type l) (φ_fixed l z)

  -- The values that are found, over the clause's own variables and the case's.
  abbrev pub V : ℕ → Bool
  V = ground_in p (covered_places C.arguments) C.given

  abbrev pub ω : ℕ → Image
  ω = own_values C p φ

  abbrev pub ν : ℕ → Image
  ν = patch (ground_in p (covered_places C.arguments) C.given) X (own_values C p φ)

  far_outside : (l : ℕ) → outside p.clause.type everything (l + length Q) ≡ true
  far_outside l = ap (outside p.clause.type everything) (sym (out_far p.clause.type l)) ∙ outside_at p.clause.type everything l

  V_outside : (i : ℕ) → outside p.clause.type everything i ≡ true → ground_in p (covered_places C.arguments) C.given i ≡ true
  V_outside i o = either_in (is_given C.given i) (either_left (both (variables p.clause i) (strict_goal (covered_places C.arguments) nothing (outside p.clause.type p.clause.fixed) i p.type)) o)

  V_far : (l : ℕ) → ground_in p (covered_places C.arguments) C.given (l + length Q) ≡ true
  V_far l = V_outside (l + length Q) (far_outside l)

  pub own_is : (i : ℕ) → outside p.clause.type everything i ≡ false → own_values C p φ i ≡ as_image i (type_at (scope p.clause) i) (found_placed C p φ i)
  own_is i o = ap (λ b. cond b (keep (i - quantifiers p.clause.type)) (as_image i (type_at (scope p.clause) i) (found_placed C p φ i))) o

  pub own_is_value : (i : ℕ) → outside p.clause.type everything i ≡ false → placed_values C p φ i ≡ own_values C p φ i
  own_is_value i o = ap (λ b. cond b (φ (i - quantifiers p.clause.type)) (as_image i (type_at (scope p.clause) i) (found_placed C p φ i))) o ∙ sym (own_is i o)

  pub outer_is : (k : ℕ) → placed_values C p φ (out_index p.clause.type k) ≡ φ k
  outer_is k = ap (λ b. cond b (φ (out_index p.clause.type k - quantifiers p.clause.type)) (as_image (out_index p.clause.type k) (type_at (scope p.clause) (out_index p.clause.type k)) (found_placed C p φ (out_index p.clause.type k)))) (outside_at p.clause.type everything k) ∙ ap φ (out_back p.clause.type k)

  pub ω_far : (l : ℕ) → own_values C p φ (l + length Q) ≡ keep l
  ω_far l =
      ap (own_values C p φ) (sym (out_far p.clause.type l))
      ∙ ap (λ b. cond b (keep (out_index p.clause.type l - quantifiers p.clause.type)) (as_image (out_index p.clause.type l) (type_at (scope p.clause) (out_index p.clause.type l)) (found_placed C p φ (out_index p.clause.type l)))) (outside_at p.clause.type everything l)
      ∙ ap keep (out_back p.clause.type l)

  ν_far : (l : ℕ) → patch V X (own_values C p φ) (l + length Q) ≡ keep l
  ν_far l = sym (patch_same V X ω (l + length Q) (V_far l)) ∙ ω_far l

  pub shift_back : (y : Image) → substitute_image (patch V X (own_values C p φ)) (rename_image (shift_by (length Q)) y) ≡ y
  shift_back (keep j) = ν_far j
  shift_back (put a N) = ap (put a) (substitute_renamed reduce ν (shift_by (length Q)) N ∙ ap (λ f. substitute reduce f N) (fun_ext ν_far) ∙ substitute_identity reduce N)

  -- The pattern with φ put in uses what the pattern uses: a set that has all that is outside the clause.
  pub σ_uses : (U : ℕ → Bool) → ((i : ℕ) → outside p.clause.type everything i ≡ true → U i ≡ true) → SubUses U U σ
  σ_uses U h i u = by (near_or_far (length Q) i)
    where
      far : (l : ℕ) → U (l + length Q) ≡ true
      far l = h (l + length Q) (far_outside l)

      moved : (y : Image) → ImageUses U (rename_image (shift_by (length Q)) y)
      moved (keep j) = far j
      moved (put a N) = uses_renamed everything U (shift_by (length Q)) N (λ j e. far j) (uses_all everything N (λ j. refl))

      by : (i < length Q) ⊎ ((l : ℕ) × (i ≡ l + length Q)) → ImageUses U (σ i)
      by (inl n) = subst (ImageUses U) (sym (lift_over_near Q φ i n)) u
      by (inr (l, e)) = subst (ImageUses U) (sym (ap σ e ∙ far_is l)) (moved (φ l))

  module _ (g : UsesGoal (ground_in p (covered_places C.arguments) C.given) (covered_places C.arguments) p.type) (ft : AreTerms p.clause (ground_in p (covered_places C.arguments) C.given) (own_values C p φ)) (same : ArePlaces C.arguments (target_arguments (substitute_type reduce (own_values C p φ) (placed_type p φ)))) (skel : (i : ℕ) (A : LfType) (N : Term) → TypeAt (scope p.clause) i A → outside p.clause.type everything i ≡ false → ground_in p (covered_places C.arguments) C.given i ≡ true → found_placed C p φ i ≡ Some N → TermSkeleton (constant_skeletons (with_entries Σ first (blocks_of C.blocks))) (context_skeletons C.variables) N (skeleton A)) where
    abbrev pub R : List Skeleton
    R = skeletons_beside [] K

    pub there : (i : ℕ) (A : LfType) → TypeAt (scope p.clause) i A → outside p.clause.type everything i ≡ false → V i ≡ true → (N : Term) × (found_placed C p φ i ≡ Some N)
    there i A h o u = term_there i (type_at (scope p.clause) i) (found_placed C p φ i) (subst IsTerm (own_is i o) (ft i o u))

    pub ν_fits : SubstitutionBySkeletons κ (skeletons_beside [] K) (skeletons_beside (skeletons_beside [] K) X) ν
    ν_fits j t h = by (near_or_far (length Q) j)
      where
        at_K : SkeletonAt (context_skeletons K) j t
        at_K = subst (λ Γ. SkeletonAt Γ j t) (beside_nothing K) h

        by : (j < length Q) ⊎ ((l : ℕ) × (j ≡ l + length Q)) → ImageSkeleton κ (skeletons_beside R X) (ν j) t
        by (inl n) =
            decided (V j)
            (λ u.
            let (A, x, e) = skeleton_has_variable O j t (from_instance Q p.clause.outer X φ j t n at_K) in
            let y : TypeAt (scope p.clause) j A = subst (λ G. TypeAt G j A) (sym scope_is) x in
            let o : outside p.clause.type everything j ≡ false = near_own p.clause.type j n in
            let (N, q) = there j A y o u in
            subst (λ z. ImageSkeleton κ (skeletons_beside R X) z t) (sym (own_is j o ∙ found_is j (scope p.clause) A (found_placed C p φ j) N y q) ∙ patch_same V X ω j u) (e, more Σ₁ R X N (skeleton A) (skel j A N y o u q)))
            (λ u. subst (λ b. ImageSkeleton κ (skeletons_beside R X) (pick b (ω j) (keep (beyond X j))) t) (sym u) (beyond_at R X j t h))
        by (inr (l, e)) =
            let (A, x, q) = skeleton_has_variable X l t (behind_skeleton (instance Q φ) X l t (subst (λ i. SkeletonAt (context_skeletons K) i t) (e ∙ ap (λ n. l + n) (sym (length_instance Q φ))) at_K)) in
            subst (λ z. ImageSkeleton κ (skeletons_beside R X) z t) (sym (ap ν e ∙ ν_far l)) (subst (SkeletonAt (skeletons_beside R X) l) q (variable_has_skeleton_beside R X l A x))

    pub ν_places : ArePlaces C.arguments (target_arguments (substitute_type reduce ν (placed_type p φ)))
    ν_places = goal_agrees V ω ν (patch_same V X ω) C.arguments (placed_type p φ) (goal_uses V V σ (covered_places C.arguments) p.type (σ_uses V V_outside) g) same

    pub composed : (A : LfType) → IsType Σ₁ O A → substitute_type reduce ν (substitute_type reduce σ A) ≡ substitute_type reduce (after ν σ) A
    composed A t = substitutions_compose_type (family_skeletons Σ₁) κ (context_skeletons O) (context_skeletons K) (skeletons_beside R X) σ ν A σ_fits (subst (λ Γ. SubstitutionBySkeletons κ Γ (skeletons_beside R X) ν) (beside_nothing K) ν_fits) (type_by_skeletons Σ₁ O A t)

    -- the ground variables of the scope
    abbrev pub Z : ℕ → Bool
    Z i = both (ground_in p (covered_places C.arguments) C.given i) (in_context (scope p.clause) i)

    pub third : Third V (in_context (scope p.clause)) Z
    third i u v = both_of (V i) (in_context (scope p.clause) i) u v

    pub same_on : SameOn Z (after ν σ) (placed_values C p φ)
    same_on i z = decided (outside p.clause.type everything i)
        (λ o. let (l, e, y) = outside_from p.clause.type everything i o in ap (substitute_image ν) (ap σ (e ∙ out_far p.clause.type l) ∙ far_is l) ∙ shift_back (φ l) ∙ sym (ap (placed_values C p φ) e ∙ outer_is l))
        (λ o. ap (substitute_image ν) (near_is i o) ∙ sym (patch_same V X ω i (both_l (V i) (in_context (scope p.clause) i) z)) ∙ sym (own_is_value i o))

    -- At once, the found values and φ make the pattern's arguments the case's too.
    pub both_places : ArePlaces C.arguments (target_arguments (substitute_type reduce (placed_values C p φ) p.type))
    both_places = goal_agrees Z (after ν σ) (placed_values C p φ) same_on C.arguments p.type (goal_third V (in_context (scope p.clause)) Z third (covered_places C.arguments) p.type g (goal_part (in_context (scope p.clause)) (covered_places C.arguments) p.type (typed_uses_type Σ (scope p.clause) (in_context (scope p.clause)) p.type (in_covers (scope p.clause)) tp.type_typed))) (subst (λ B. ArePlaces C.arguments (target_arguments B)) (composed p.type type₁) ν_places)
