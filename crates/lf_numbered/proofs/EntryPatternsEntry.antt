-- Where a case by number is an instance of a pattern, of an entry too, matching finds the values: the pattern is read with what stands outside its clause
-- put in.
use Rattle.std.proofs.Common.{◌≡◌, ℕ, zero, ◌+◌, ◌<◌, List, [], ◌∷◌, length, refl, sym, ap, ◌∙◌, subst, inl, inr, true≢false}
use Rattle.std.specs.Prelude.{Bool, true, false, cond, Option, Some, None, ◌⊎◌}
use Rattle.lf.specs.Syntax.{constant, Term, Spine, LfType, Skeleton, skeleton, rename_spine}
use Rattle.lf.specs.Substitution.{Image, keep, put, rename_image, substitute, substitute_image, substitute_type, reduce, after}
use Rattle.lf.specs.AtOnce.{shift_by}
use Rattle.lf.specs.Eta.{eta_expand}
use Rattle.lf.specs.SkeletonTyping.{HeadSkeletons, SkeletonAt, ImageSkeleton, SubstitutionBySkeletons}
use Rattle.lf.specs.Skeletons.{constant_skeletons, family_skeletons, context_skeletons}
use Rattle.lf.specs.Typing.{Signature, TypeAt, ImageHasType, IsTypedSubstitution, IsType, IsContext, IsSignature}
use Rattle.lf.specs.Variables.{target_arguments, binders, onto, SameOn, everything, nothing}
use Rattle.lf.specs.Subordination.{Block, AreTypedBlocks}
use Rattle.lf.specs.Worlds.{lift_over, instance}
use Rattle.lf.proofs.Checker.{both_of}
use Rattle.lf.proofs.Eta.{rename_eta_expand}
use Rattle.lf.proofs.Kept.{typed_uses_type}
use Rattle.lf.proofs.Partial.{uses_all}
use Rattle.lf.proofs.Patch.{pick}
use Rattle.lf.proofs.Renaming.{substitute_identity, substitute_renamed}
use Rattle.lf.proofs.SkeletonTypes.{substitutions_compose_type}
use Rattle.lf.proofs.Substitution.{TypedSubstitution, skeleton_context_of, substitution_keeps_types, lifted_substitution_typed, typed_substitution_by_skeletons}
use Rattle.lf.proofs.ToSkeletons.{variable_has_skeleton, skeleton_has_variable, type_by_skeletons}
use Rattle.lf.proofs.TypeLaws.{skeleton_substituted}
use Rattle.lf_checks.specs.Clause.{Clause, scope, outside}
use Rattle.lf_checks.specs.Tests.{both}
use Rattle.lf_checks.proofs.EtaTest.{both_l, both_r}
use Rattle.lf_cases.specs.Case.{covered_places}
use Rattle.lf_cases.specs.Cover.{before}
use Rattle.lf_cases.specs.Pattern.{Origin, of_constant, of_entry, Pattern, given_at, ground_in}
use Rattle.lf_cases.proofs.BlockEntries.{onto_onto}
use Rattle.lf_cases.proofs.OutputItems.{lift_over_far, length_instance}
use Rattle.lf_cases.proofs.Raised.{rename_identity}
use Rattle.lf_totality.proofs.Core.{out_index, outside_at, outer_at}
use Rattle.lf_totality.proofs.OutputCases.{in_context, in_covers, in_type}
use Rattle.lf_totality.proofs.RaisedOutputs.{binders_over}
use Rattle.lf_totality.proofs.Theorem.{outside_from}
use Rattle.lf_coverage.specs.OrElse.{or_else}
use Rattle.lf_coverage.specs.Leaf.{IsTypedPattern}
use Rattle.lf_coverage.specs.Matching.{ArePlaces, found_goal, without}
use Rattle.lf_coverage.specs.TermMatching.{bound}
use Rattle.lf_coverage.proofs.ClauseValues.{out_type}
use Rattle.lf_coverage.proofs.Forms.{lift_over_near}
use Rattle.lf_coverage.proofs.Matched.{Third, goal_third, goal_part}
use Rattle.lf_coverage.proofs.Matching.{goal_agrees, term_of, not_given, ground_is_strict}
use Rattle.lf_coverage.proofs.NearOrFar.{near_or_far}
use Rattle.lf_coverage.proofs.ReadOff.{goal_read}
use Rattle.lf_coverage.proofs.Standing.{before_typed}
use Rattle.lf_coverage.proofs.Transfer.{onto_skeleton}
use Rattle.lf_numbered.specs.EntryConstants.{entry_images, with_entries, IsFreeFrom}
use Rattle.lf_numbered.specs.EntryPatterns.{some_images, variable_images, StandsByNumber, IsInstanceOfPattern}
use Rattle.lf_numbered.specs.EntryPatternsMatching.{outside_given, placed_type, found_placed, NumberedValueIsFound}
use Rattle.lf_numbered.specs.NumberedCase.{NumberedCase}
use Rattle.lf_numbered.specs.NumberedInstance.{first_constant}
use Rattle.lf_numbered.specs.OwnTerms.{blocks_of}
use Rattle.lf_numbered.specs.TypedNumbered.{IsTypedNumberedCase}
use Rattle.lf_numbered.proofs.EntryPatternsFound.{without_far}
use Rattle.lf_numbered.proofs.EntryPatternsMatching.{entries_signature, more_type, more_context}
use Rattle.lf_numbered.proofs.EntryPatternsNear.{bound_near, bound_far, out_far, to_instance, from_instance, behind_skeleton, AConstant, entry_constant_is, before_images}
use Rattle.lf_numbered.proofs.EntryPatternsStrict.{Places, strict_goal_put}
use Rattle.lf_numbered.proofs.EntryPatternsTyped.{variable_is_typed}
use Rattle.lf_numbered.proofs.EntryPatternsValues.{typed_inside}
use Rattle.lf_numbered.proofs.ReadValues.{inside_onto}
use mathlib.Core.Path.{fun_ext}

module _ (Σ : Signature) (ok : IsSignature Σ) (W : List Block) (typed : AreTypedBlocks Σ W) (first : ℕ) (free : IsFreeFrom Σ first) (C : NumberedCase) (tc : IsTypedNumberedCase Σ first W C) where
  abbrev X : List LfType
  X = C.variables

  abbrev Σ₁ : Signature
  Σ₁ = with_entries Σ first (blocks_of C.blocks)

  abbrev κ : HeadSkeletons
  κ = constant_skeletons Σ₁

  pub ok₁ : IsSignature Σ₁
  ok₁ = entries_signature Σ ok W typed first free C tc

  -- what stands outside the clause: typed, its fixed variables are constants, and the values are these
  pub record Given (c : Clause) (τ φ : ℕ → Image) : Type 0 where
    pub fits : IsTypedSubstitution Σ₁ c.outer X φ
    pub fixed : (j : ℕ) → c.fixed j ≡ true → AConstant (φ j)
    pub agrees : (k : ℕ) (Z : LfType) → TypeAt c.outer k Z → τ (out_index c.type k) ≡ φ k

  pub given_by : (c : Clause) (p : Origin c) (b : Bool) (τ : ℕ → Image) (s : StandsByNumber first C p b τ) → Given c τ (outside_given first C p b τ s)
  given_by c (of_constant U) b τ s = record { fits = λ i A g. absurd g; fixed = λ j e. absurd cc; agrees = λ k Z y. absurd y }
  given_by c (of_entry B later E es e) b τ (k, U, q, n, agrees) =
      let (t, o) = variable_is_typed Σ ok W typed first free C tc.variables k B U q in
      let shape : onto B.entries B.some ≡ onto later (E ∷ onto es B.some) = ap (λ D. onto D B.some) (sym e) ∙ onto_onto later (E ∷ es) B.some in
      let m : ℕ = first_constant first (blocks_of C.blocks) k in
      record {
        fits = before_typed Σ₁ X later E (onto es B.some) (variable_images first C.blocks k B U) (subst (λ D. IsTypedSubstitution Σ₁ D X (variable_images first C.blocks k B U)) shape t);
        fixed = λ j f. subst AConstant (sym (ap (λ ds. before later (entry_images m U ds (some_images B.some U)) j) (sym e) ∙ before_images m U later E es (some_images B.some U) j)) (entry_constant_is m U es (some_images B.some U) j f);
        agrees = λ l Z y. sym (outer_at E τ l) ∙ agrees l Z y;
      }

  module _ (p : Pattern) (tp : IsTypedPattern Σ p) (h : IsInstanceOfPattern Σ first C p) where
    abbrev c : Clause
    c = p.clause

    abbrev Q : List LfType
    Q = binders [] p.clause.type

    abbrev O : List LfType
    O = onto (binders [] p.clause.type) p.clause.outer

    abbrev φ : ℕ → Image
    φ = outside_given first C p.origin p.at_first h.values h.stands

    abbrev σ : ℕ → Image
    σ = lift_over Q φ

    abbrev K : List LfType
    K = onto (instance Q φ) X

    g : Given c h.values φ
    g = given_by c p.origin p.at_first h.values h.stands

    scope_is : scope p.clause ≡ O
    scope_is = binders_over [] p.clause.type p.clause.outer

    scope₁ : IsContext Σ₁ O
    scope₁ = subst (IsContext Σ₁) scope_is (more_context Σ ok W typed first free C tc (scope p.clause) tp.clause_typed)

    type₁ : IsType Σ₁ O p.type
    type₁ = subst (λ G. IsType Σ₁ G p.type) scope_is (more_type Σ ok W typed first free C tc (scope p.clause) p.type tp.type_typed)

    local : (D : List LfType) → IsContext Σ₁ (onto D p.clause.outer) → IsContext Σ₁ (onto (instance D φ) X) × IsTypedSubstitution Σ₁ (onto D p.clause.outer) (onto (instance D φ) X) (lift_over D φ)
    local [] i = (tc.variables.variables, g.fits)
    local (A ∷ D) (i, t) =
        let (d, s) = local D i in
        let Γ : List LfType = onto D p.clause.outer in
        let Δ : List LfType = onto (instance D φ) X in
        let w : TypedSubstitution Σ₁ ok₁ (onto D p.clause.outer) (onto (instance D φ) X) (lift_over D φ) = record { typed = s; source_skeletons = skeleton_context_of Σ₁ ok₁ Γ i; target_skeletons = skeleton_context_of Σ₁ ok₁ Δ d } in
        ((d, substitution_keeps_types Σ₁ ok₁ Γ Δ (lift_over D φ) A w t), (lifted_substitution_typed Σ₁ ok₁ Γ Δ (lift_over D φ) A w (type_by_skeletons Σ₁ Γ A t)).typed)

    context₁ : IsContext Σ₁ K
    context₁ = (local Q scope₁).0

    σ_typed : IsTypedSubstitution Σ₁ O K σ
    σ_typed = (local Q scope₁).1

    σ_fits : SubstitutionBySkeletons κ (context_skeletons O) (context_skeletons K) σ
    σ_fits = typed_substitution_by_skeletons Σ₁ ok₁ O K σ σ_typed

    placed₁ : IsType Σ₁ K (placed_type p φ)
    placed₁ = substitution_keeps_types Σ₁ ok₁ O K σ p.type (record { typed = σ_typed; source_skeletons = skeleton_context_of Σ₁ ok₁ O scope₁; target_skeletons = skeleton_context_of Σ₁ ok₁ K context₁ }) type₁

    own_near : (i : ℕ) → outside p.clause.type everything i ≡ false → i < length Q
    own_near i o = by (near_or_far (length Q) i)
      where
        by : (i < length Q) ⊎ ((l : ℕ) × (i ≡ l + length Q)) → i < length Q
        by (inl n) = n
        by (inr (l, e)) = absurd (true≢false (sym (outside_at p.clause.type everything l) ∙ ap (outside p.clause.type everything) (out_far p.clause.type l ∙ sym e) ∙ o))

    far_is : (l : ℕ) → σ (l + length Q) ≡ rename_image (shift_by (length Q)) (φ l)
    far_is l = lift_over_far Q φ l

    places : (i : ℕ) → outside p.clause.type everything i ≡ false → Places κ nothing (outside p.clause.type p.clause.fixed) i (context_skeletons O) (context_skeletons K) σ
    places i o = record { bound = λ j e. absurd cc; fixed = fixed; itself = lift_over_near Q φ i (own_near i o); fits = σ_fits }
      where
        moved : (j l : ℕ) → j ≡ l + length Q → AConstant (φ l) → (a : Skeleton) × (d : ℕ) × (U : Spine) × (σ j ≡ put a (eta_expand a (constant d) U))
        moved j l e (a, d, U, q) = (a, d, rename_spine (shift_by (length Q)) U, ap σ e ∙ far_is l ∙ ap (rename_image (shift_by (length Q))) q ∙ ap (put a) (rename_eta_expand (shift_by (length Q)) a (constant d) U))

        fixed : (j : ℕ) → outside p.clause.type p.clause.fixed j ≡ true → (a : Skeleton) × (d : ℕ) × (U : Spine) × (σ j ≡ put a (eta_expand a (constant d) U))
        fixed j e = let (l, y, z) = outside_from p.clause.type p.clause.fixed j e in moved j l (y ∙ out_far p.clause.type l) (g.fixed l z)

    -- the values of the clause's own variables, over the case's
    abbrev pub τ : ℕ → Image
    τ i = cond (bound (length Q) i) (pick (h.used i) (h.values i) (keep (i + length X))) (keep (without (length Q) i))

    pub τ_near : (i : ℕ) → i < length Q → τ i ≡ pick (h.used i) (h.values i) (keep (i + length X))
    τ_near i l = ap (λ b. cond b (pick (h.used i) (h.values i) (keep (i + length X))) (keep (without (length Q) i))) (bound_near (length Q) i l)

    pub τ_far : (l : ℕ) → τ (l + length Q) ≡ keep l
    τ_far l = ap (λ b. cond b (pick (h.used (l + length Q)) (h.values (l + length Q)) (keep ((l + length Q) + length X))) (keep (without (length Q) (l + length Q)))) (bound_far (length Q) l) ∙ ap keep (without_far (length Q) l)

    abbrev Δ : List Skeleton
    Δ = context_skeletons (onto X (onto (instance Q φ) X))

    τ_fits : SubstitutionBySkeletons κ (context_skeletons K) Δ τ
    τ_fits i t k = by (near_or_far (length Q) i)
      where
        value : (b : Bool) → h.used i ≡ b → i < length Q → ImageSkeleton κ Δ (pick (h.used i) (h.values i) (keep (i + length X))) t
        value true u n =
            let (A, y, e) = skeleton_has_variable O i t (from_instance Q p.clause.outer X φ i t n k) in
            subst (λ b. ImageSkeleton κ Δ (pick b (h.values i) (keep (i + length X))) t) (sym u) (subst (ImageSkeleton κ Δ (h.values i)) (skeleton_substituted reduce h.values A ∙ e) (typed_inside Σ₁ X K (h.values i) (substitute_type reduce h.values A) (h.typed.typed i A (subst (λ G. TypeAt G i A) (sym scope_is) y) u)))
        value false u n = subst (λ b. ImageSkeleton κ Δ (pick b (h.values i) (keep (i + length X))) t) (sym u) (onto_skeleton X K i t k)

        by : (i < length Q) ⊎ ((l : ℕ) × (i ≡ l + length Q)) → ImageSkeleton κ Δ (τ i) t
        by (inl n) = subst (λ y. ImageSkeleton κ Δ y t) (sym (τ_near i n)) (value (h.used i) refl n)
        by (inr (l, e)) = subst (λ y. ImageSkeleton κ Δ y t) (sym (ap τ e ∙ τ_far l)) (inside_onto X K l t (behind_skeleton (instance Q φ) X l t (subst (λ j. SkeletonAt (context_skeletons K) j t) (e ∙ ap (λ n. l + n) (sym (length_instance Q φ))) k)))

    shift_back : (y : Image) → substitute_image τ (rename_image (shift_by (length Q)) y) ≡ y
    shift_back (keep j) = τ_far j
    shift_back (put a N) = ap (put a) (substitute_renamed reduce τ (shift_by (length Q)) N ∙ ap (λ f. substitute reduce f N) (fun_ext τ_far) ∙ substitute_identity reduce N)

    abbrev Y : ℕ → Bool
    Y i = both (h.used i) (in_context (scope p.clause) i)

    same_on : SameOn (λ i. both (h.used i) (in_context (scope p.clause) i)) h.values (after τ σ)
    same_on i y = let (A, k) = in_type (scope p.clause) i (both_r (h.used i) (in_context (scope p.clause) i) y) in by A k (both_l (h.used i) (in_context (scope p.clause) i) y) (outside p.clause.type everything i) refl
      where
        by : (A : LfType) → TypeAt (scope p.clause) i A → h.used i ≡ true → (b : Bool) → outside p.clause.type everything i ≡ b → h.values i ≡ after τ σ i
        by A k u true o =
            let (l, e, z) = outside_from p.clause.type everything i o in
            let (Z, t, s, f) = out_type p.clause.type p.clause.outer l A (subst (λ j. TypeAt (scope p.clause) j A) e k) in
            ap h.values e ∙ g.agrees l Z t ∙ sym (ap (substitute_image τ) (ap σ (e ∙ out_far p.clause.type l) ∙ far_is l) ∙ shift_back (φ l))
        by A k u false o = sym (ap (substitute_image τ) (lift_over_near Q φ i (own_near i o)) ∙ τ_near i (own_near i o) ∙ ap (λ b. pick b (h.values i) (keep (i + length X))) u)

    third : Third h.used (in_context (scope p.clause)) (λ i. both (h.used i) (in_context (scope p.clause) i))
    third i u v = both_of (h.used i) (in_context (scope p.clause) i) u v

    pub arguments : ArePlaces C.arguments (target_arguments (substitute_type reduce τ (placed_type p φ)))
    arguments =
        subst (λ B. ArePlaces C.arguments (target_arguments B)) (sym (substitutions_compose_type (family_skeletons Σ₁) κ (context_skeletons O) (context_skeletons K) Δ σ τ p.type σ_fits τ_fits (type_by_skeletons Σ₁ O p.type type₁)))
        (goal_agrees Y h.values (after τ σ) same_on C.arguments p.type (goal_third h.used (in_context (scope p.clause)) Y third (covered_places C.arguments) p.type h.uses (goal_part (in_context (scope p.clause)) (covered_places C.arguments) p.type (typed_uses_type Σ (scope p.clause) (in_context (scope p.clause)) p.type (in_covers (scope p.clause)) tp.type_typed))) h.same)

    pub entry_value_found : (i : ℕ) (A : LfType) → TypeAt (scope p.clause) i A → outside p.clause.type everything i ≡ false → h.used i ≡ true → ground_in p (covered_places C.arguments) C.given i ≡ true → (N : Term) × (h.values i ≡ put (skeleton A) N) × (found_placed C p φ i ≡ Some N)
    entry_value_found i A k o u z =
        let (a, N, q) = term_of (h.values i) (h.terms i o u) in
        let sa : skeleton A ≡ a = sym (skeleton_substituted reduce h.values A) ∙ (subst (λ y. ImageHasType Σ₁ X y (substitute_type reduce h.values A)) q (h.typed.typed i A k u)).0 in
        let q' : h.values i ≡ put (skeleton A) N = q ∙ ap (λ b. put b N) (sym sa) in
        (N, q', by N q' (given_at C.given i) refl)
      where
        term_is : {a b : Skeleton} {M N : Term} → put a M ≡ put b N → M ≡ N
        term_is e = cc

        by : (N : Term) → h.values i ≡ put (skeleton A) N → (m : Option Term) → given_at C.given i ≡ m → found_placed C p φ i ≡ Some N
        by N q (Some M) r =
            let (b, e) = h.given i M u r in
            ap (λ x. or_else x (found_goal nothing nothing zero i (placed_type p φ) C.arguments)) r ∙ ap Some (sym (term_is (sym q ∙ e)))
        by N q None r =
            let n = own_near i o in
            ap (λ x. or_else x (found_goal nothing nothing zero i (placed_type p φ) C.arguments)) r
            ∙ goal_read Σ₁ ok₁ nothing nothing everything zero K Δ τ i (skeleton A) N (placed_type p φ) C.arguments context₁ placed₁ τ_fits (λ j b. absurd cc) (λ j b. absurd cc) (λ j v b. cc) (λ j b. cc) (τ_near i n ∙ ap (λ b. pick b (h.values i) (keep (i + length X))) u ∙ q) (uses_all everything N (λ j. refl)) (to_instance Q p.clause.outer X φ i (skeleton A) n (variable_has_skeleton O i A (subst (λ G. TypeAt G i A) scope_is k))) (strict_goal_put κ (family_skeletons Σ₁) (covered_places C.arguments) nothing (outside p.clause.type p.clause.fixed) nothing i (context_skeletons O) (context_skeletons K) σ p.type (places i o) (type_by_skeletons Σ₁ O p.type type₁) (ground_is_strict p (covered_places C.arguments) C.given i (not_given C.given i r) o z)) arguments
            ∙ ap Some (rename_identity N)

pub numbered_value_is_found : NumberedValueIsFound
numbered_value_is_found Σ ok W typed first free C tc p tp h i A k o u z = entry_value_found Σ ok W typed first free C tc p tp h i A k o u z
