-- A case by number that is typed beside a subgoal's pattern is so with what its block variable of number 0 gives.
use Rattle.std.proofs.Common.{◌≡◌, ℕ, zero, suc, ◌+◌, ◌-◌, ◌<◌, List, [], ◌∷◌, length, inl, inr, refl, sym, ap, ◌∙◌, subst, arith}
use Rattle.std.specs.Prelude.{Bool, true, false, cond, Option, Some, None, ◌⊎◌}
use Rattle.lf.specs.Syntax.{constant, Term, Spine, LfType, skeleton}
use Rattle.lf.specs.Substitution.{Image, put, substitute_spine, substitute_type, reduce}
use Rattle.lf.specs.Eta.{eta_expand}
use Rattle.lf.specs.Entries.{quantifiers}
use Rattle.lf.specs.Typing.{Signature, TypeAt, ImageHasType, IsType, IsSignature}
use Rattle.lf.specs.Variables.{target_arguments, binders, onto, UsesType, SameOn, everything}
use Rattle.lf.specs.Subordination.{Block, AreTypedBlocks}
use Rattle.lf.specs.Worlds.{lift_over, instance}
use Rattle.lf.proofs.Agreement.{agree_on_type}
use Rattle.lf.proofs.Decidability.{variable_type_unique}
use Rattle.lf.proofs.Kept.{typed_uses_type}
use Rattle.lf.proofs.TypeLaws.{skeleton_renamed}
use Rattle.lf.proofs.Weakening.{declared_is_type}
use Rattle.lf_checks.specs.Clause.{Clause, scope, outside}
use Rattle.lf_checks.specs.Tests.{either}
use Rattle.lf_cases.specs.Candidates.{given_images}
use Rattle.lf_cases.specs.Case.{as_term, items_context}
use Rattle.lf_cases.specs.Cover.{before}
use Rattle.lf_cases.specs.OutputGoal.{free_variables}
use Rattle.lf_cases.specs.Pattern.{Origin, of_constant, of_entry, Pattern, given_at, is_given}
use Rattle.lf_cases.proofs.GroundTypes.{either_left}
use Rattle.lf_cases.proofs.Local.{binders_substituted}
use Rattle.lf_totality.proofs.Core.{out_index, outside_at}
use Rattle.lf_totality.proofs.GoalHolds.{arguments_under}
use Rattle.lf_totality.proofs.OutputCases.{in_context, in_covers, in_type, either_in}
use Rattle.lf_totality.proofs.Theorem.{outside_from}
use Rattle.lf_coverage.specs.Leaf.{IsTypedPattern}
use Rattle.lf_coverage.specs.TypedCase.{TypedArguments, given_values}
use Rattle.lf_coverage.proofs.Choices.{decided}
use Rattle.lf_coverage.proofs.ClauseValues.{out_back, out_type}
use Rattle.lf_coverage.proofs.NearOrFar.{near_or_far}
use Rattle.lf_coverage.proofs.GivenValues.{StandsForItself, StandsForGiven, given_cases}
use Rattle.lf_coverage.proofs.Leaves.{given_is}
use Rattle.lf_coverage.proofs.Matched.{given_there, type_third}
use Rattle.lf_coverage.proofs.Parts.{some_same}
use Rattle.lf_coverage.proofs.SolvedCase.{free_context_is}
use Rattle.lf_coverage.proofs.SomeHead.{onto_nothing}
use Rattle.lf_numbered.specs.EntryConstants.{entry_images, with_entries, IsFreeFrom}
use Rattle.lf_numbered.specs.EntryPatterns.{some_images, variable_images}
use Rattle.lf_numbered.specs.EntryTerms.{IsTried, beside_values, known_in, IsTypedBesideWith}
use Rattle.lf_numbered.specs.EntryTermsBesideGiven.{BesideWithAllTried, BesideIsDecided}
use Rattle.lf_numbered.specs.NumberedBesideGiven.{GivesOutside, IsTypedBesideByNumber, given_over, outside_terms, with_outside}
use Rattle.lf_numbered.specs.NumberedCase.{NumberedCase}
use Rattle.lf_numbered.specs.NumberedInstance.{block_at, first_constant}
use Rattle.lf_numbered.specs.OwnTerms.{BlockVariable, blocks_of, own_terms}
use Rattle.lf_numbered.specs.TypedNumbered.{IsTypedNumberedCase}
use Rattle.lf_numbered.proofs.EntryPatternsNear.{before_images, out_far}
use Rattle.lf_numbered.proofs.EntryPatternsOutside.{some_images_are}
use Rattle.lf_numbered.proofs.EntryPatternsTyped.{typed_at}
use Rattle.lf_numbered.proofs.EntryTermsDecided.{numbered_goal_is_decided}

-- the given terms with others behind them
over_near : (D : List LfType) (Ms Ns : List (Option Term)) (i : ℕ) → i < length D → given_at (given_over D Ms Ns) i ≡ given_at Ms i
over_near [] Ms Ns i l = absurd (omega (arith, l))
over_near (A ∷ D) [] Ns zero l = refl
over_near (A ∷ D) [] Ns (suc i) l = over_near D [] Ns i (omega (arith, l))
over_near (A ∷ D) (M ∷ Ms) Ns zero l = refl
over_near (A ∷ D) (M ∷ Ms) Ns (suc i) l = over_near D Ms Ns i (omega (arith, l))

over_far : (D : List LfType) (Ms Ns : List (Option Term)) (l : ℕ) → given_at (given_over D Ms Ns) (l + length D) ≡ given_at Ns l
over_far [] Ms Ns l = ap (given_at Ns) (none l)
  where
    none : (l : ℕ) → l + 0 ≡ l
    none l = omega arith
over_far (A ∷ D) [] Ns l = ap (given_at (None ∷ given_over D [] Ns)) (next l (length D)) ∙ over_far D [] Ns l
  where
    next : (l n : ℕ) → l + suc n ≡ suc (l + n)
    next l n = omega arith
over_far (A ∷ D) (M ∷ Ms) Ns l = ap (given_at (M ∷ given_over D Ms Ns)) (next l (length D)) ∙ over_far D Ms Ns l
  where
    next : (l n : ℕ) → l + suc n ≡ suc (l + n)
    next l n = omega arith

outside_term : (O : List LfType) (φ : ℕ → Image) (k : ℕ) (A : LfType) → TypeAt O k A → given_at (outside_terms O φ) k ≡ Some (as_term (skeleton A) (φ k))
outside_term [] φ k A g = absurd g
outside_term (B ∷ O) φ zero A e = ap (λ a. Some (as_term a (φ zero))) (sym (ap skeleton e ∙ skeleton_renamed suc B))
outside_term (B ∷ O) φ (suc k) A (D, g, e) = outside_term O (λ i. φ (suc i)) k D g ∙ ap (λ a. Some (as_term a (φ (suc k)))) (sym (ap skeleton e ∙ skeleton_renamed suc D))

-- where the same is given for a variable, the same stands for it
pub images_same : (G : List LfType) (Ms Ns : List (Option Term)) (n i : ℕ) → given_at Ms i ≡ given_at Ns i → given_images G Ms n i ≡ given_images G Ns n i
images_same G Ms Ns n i e = by (given_cases G Ms n i) (given_cases G Ns n i)
  where
    by : StandsForItself G Ms n i ⊎ StandsForGiven G Ms n i → StandsForItself G Ns n i ⊎ StandsForGiven G Ns n i → given_images G Ms n i ≡ given_images G Ns n i
    by (inl (q, h)) (inl (r, k)) = q ∙ sym r
    by (inl (q, h)) (inr (E, P, x, r, z)) = absurd (h E P x (e ∙ r))
    by (inr (E, P, x, r, z)) (inl (q, h)) = absurd (h E P x (sym e ∙ r))
    by (inr (E, P, x, r, z)) (inr (F, Q, y, s, w)) = z ∙ ap (λ A. put (skeleton A) P) (variable_type_unique G i E F x y) ∙ ap (put (skeleton F)) (some_same (sym r ∙ e ∙ s)) ∙ sym w

-- what stands for a given term
pub image_given : (G : List LfType) (Ms : List (Option Term)) (n i : ℕ) (A : LfType) (M : Term) → TypeAt G i A → given_at Ms i ≡ Some M → given_images G Ms n i ≡ put (skeleton A) M
image_given G Ms n i A M g e = by (given_cases G Ms n i)
  where
    by : StandsForItself G Ms n i ⊎ StandsForGiven G Ms n i → given_images G Ms n i ≡ put (skeleton A) M
    by (inl (q, h)) = absurd (h A M g e)
    by (inr (E, P, x, r, z)) = z ∙ ap (λ B. put (skeleton B) P) (variable_type_unique G i E A x g) ∙ ap (put (skeleton A)) (some_same (sym r ∙ e))

-- What a block variable gives are terms.
abbrev IsPut : LfType → Image → Type 0
IsPut A y = (N : Term) × (y ≡ put (skeleton A) N)

entries_put : (m : ℕ) (U : Spine) (O es : List LfType) (η : ℕ → Image) → ((j : ℕ) (A : LfType) → TypeAt O j A → IsPut A (η j)) → (j : ℕ) (A : LfType) → TypeAt (onto es O) j A → IsPut A (entry_images m U es η j)
entries_put m U O [] η h j A g = h j A g
entries_put m U O (E ∷ es) η h zero A e = (eta_expand (skeleton E) (constant (m + length es)) U, ap (λ a. put a (eta_expand (skeleton E) (constant (m + length es)) U)) (sym (ap skeleton e ∙ skeleton_renamed suc E)))
entries_put m U O (E ∷ es) η h (suc j) A (D, g, e) = let (N, q) = entries_put m U O es η h j D g in (N, q ∙ ap (λ a. put a N) (sym (ap skeleton e ∙ skeleton_renamed suc D)))

module _ (Σ : Signature) (ok : IsSignature Σ) (W : List Block) (typed : AreTypedBlocks Σ W) (first : ℕ) (free : IsFreeFrom Σ first) (C : NumberedCase) (tc : IsTypedNumberedCase Σ first W C) where
  tried_put : {c : Clause} (o : Origin c) (b : Bool) (φ : ℕ → Image) → IsTried first C o b φ → (k : ℕ) (A : LfType) → TypeAt c.outer k A → IsPut A (φ k)
  tried_put (of_constant U) b φ t k A g = absurd g
  tried_put (of_entry B later E es e) b φ (j, U, q, n, r) k A g =
      let (m, (υ, t, u), o) = typed_at (with_entries Σ first (blocks_of C.blocks)) W C.variables (own_terms first C.blocks) C.blocks tc.variables.blocks j (record { block = B; terms = U }) q in
      let c : ℕ = first_constant first (blocks_of C.blocks) j in
      subst (IsPut A) (sym (ap (λ f. f k) r ∙ ap (λ ds. before later (entry_images c U ds (some_images B.some U)) k) (sym e) ∙ before_images c U later E es (some_images B.some U) k)) (entries_put c U B.some es (some_images B.some U) (λ i D h. (as_term (skeleton D) (υ i), ap (λ V. some_images B.some V i) u ∙ some_images_are B.some υ i D h)) k A g)

  -- and all that is tried is this, where the entry is that of the first block variable
  tried_once : {c : Clause} (o : Origin c) (φ ψ : ℕ → Image) → IsTried first C o true φ → GivesOutside first C o true ψ → (k : ℕ) (A : LfType) → TypeAt c.outer k A → ψ k ≡ φ k
  tried_once (of_constant U) φ ψ t g k A h = absurd h
  tried_once (of_entry B later E es e) φ ψ (j, U, q, n, r) (i, V, p, m, s) k A h =
      let same : Some (record { block = B; terms = V }) ≡ Some (record { block = B; terms = U }) = sym (subst (λ l. block_at C.blocks l ≡ Some (record { block = B; terms = V })) (m refl) p) ∙ subst (λ l. block_at C.blocks l ≡ Some (record { block = B; terms = U })) (n refl) q in
      let terms : V ≡ U = ap (λ (b : BlockVariable). b.terms) (some_same same) in
      ap (λ f. f k) (s ∙ ap (λ l. before later (variable_images first C.blocks l B V)) (m refl) ∙ ap (λ T. before later (variable_images first C.blocks zero B T)) terms ∙ sym (ap (λ l. before later (variable_images first C.blocks l B U)) (n refl)) ∙ sym r)

  module _ (p : Pattern) (tp : IsTypedPattern Σ p) (b : IsTypedBesideByNumber Σ first W C p) (own_given : (i : ℕ) → is_given C.given i ≡ true → outside p.clause.type everything i ≡ false) (φ : ℕ → Image) (outer_put : (k : ℕ) (A : LfType) → TypeAt p.clause.outer k A → IsPut A (φ k)) (outer_same : (k : ℕ) (A : LfType) → TypeAt p.clause.outer k A → b.outer k ≡ φ k) where
    abbrev Σ₁ : Signature
    Σ₁ = with_entries Σ first (blocks_of C.blocks)

    abbrev O : List LfType
    O = scope p.clause

    abbrev Y : List LfType
    Y = items_context (free_variables C.variables)

    abbrev Gs : List (Option Term)
    Gs = given_over (binders [] p.clause.type) C.given (outside_terms p.clause.outer b.outer)

    abbrev δ : ℕ → Image
    δ = given_values (with_outside C p b.outer) p

    abbrev β : ℕ → Image
    β = beside_values C p φ

    own_given_at : (i : ℕ) → outside p.clause.type everything i ≡ false → given_at Gs i ≡ given_at C.given i
    own_given_at i o = by (near_or_far (length (binders [] p.clause.type)) i)
      where
        no : true ≡ false → ⊥
        no e = cc

        by : (i < length (binders [] p.clause.type)) ⊎ ((l : ℕ) × (i ≡ l + length (binders [] p.clause.type))) → given_at Gs i ≡ given_at C.given i
        by (inl n) = over_near (binders [] p.clause.type) C.given (outside_terms p.clause.outer b.outer) i n
        by (inr (l, e)) = absurd (no (sym (outside_at p.clause.type everything l) ∙ ap (outside p.clause.type everything) (out_far p.clause.type l ∙ sym e) ∙ o))

    outer_given_at : (l : ℕ) (A : LfType) → TypeAt p.clause.outer l A → given_at Gs (out_index p.clause.type l) ≡ Some (as_term (skeleton A) (b.outer l))
    outer_given_at l A g = ap (given_at Gs) (out_far p.clause.type l) ∙ over_far (binders [] p.clause.type) C.given (outside_terms p.clause.outer b.outer) l ∙ outside_term p.clause.outer b.outer l A g

    beside_outer : (l : ℕ) → β (out_index p.clause.type l) ≡ φ l
    beside_outer l = ap (λ c. cond c (φ (out_index p.clause.type l - quantifiers p.clause.type)) (given_images O C.given (length C.variables) (out_index p.clause.type l))) (outside_at p.clause.type everything l) ∙ ap φ (out_back p.clause.type l)

    beside_own : (i : ℕ) → outside p.clause.type everything i ≡ false → β i ≡ given_images O C.given (length C.variables) i
    beside_own i o = ap (λ c. cond c (φ (i - quantifiers p.clause.type)) (given_images O C.given (length C.variables) i)) o

    count_is : length Y ≡ length C.variables
    count_is = ap length (free_context_is C.variables)

    same_on : SameOn (in_context O) δ β
    same_on i y = let (A, h) = in_type O i y in decided (outside p.clause.type everything i) (outer A h) own
      where
        own : outside p.clause.type everything i ≡ false → δ i ≡ β i
        own o = images_same O Gs C.given (length Y) i (own_given_at i o) ∙ ap (λ n. given_images O C.given n i) count_is ∙ sym (beside_own i o)

        outer : (A : LfType) → TypeAt O i A → outside p.clause.type everything i ≡ true → δ i ≡ β i
        outer A h o =
            let (l, e, z) = outside_from p.clause.type everything i o in
            let (X, x, s, f) = out_type p.clause.type p.clause.outer l A (subst (λ j. TypeAt O j A) e h) in
            let (N, q) = outer_put l X x in
            image_given O Gs (length Y) i A (as_term (skeleton X) (b.outer l)) h (ap (given_at Gs) e ∙ outer_given_at l X x)
            ∙ ap (λ a. put a (as_term (skeleton X) (b.outer l))) s
            ∙ ap (λ z. put (skeleton X) (as_term (skeleton X) z)) (outer_same l X x ∙ q)
            ∙ sym (ap β e ∙ beside_outer l ∙ q)

    -- What is given so is known.
    given_known : (i : ℕ) → in_context O i ≡ true → is_given Gs i ≡ true → known_in C p i ≡ true
    given_known i y g = decided (outside p.clause.type everything i) (λ o. either_in (is_given C.given i) o) (λ o. let (M, q) = given_there Gs i g in either_left (outside p.clause.type everything i) (given_is C.given i M (sym (own_given_at i o) ∙ q)))

    known_given : (i : ℕ) (A : LfType) → TypeAt O i A → known_in C p i ≡ true → is_given Gs i ≡ true
    known_given i A h z = decided (outside p.clause.type everything i)
        (λ o.
        let (l, e, y) = outside_from p.clause.type everything i o in
        let (X, x, s, f) = out_type p.clause.type p.clause.outer l A (subst (λ j. TypeAt O j A) e h) in
        given_is Gs i (as_term (skeleton X) (b.outer l)) (ap (given_at Gs) e ∙ outer_given_at l X x))
        (λ o. let (M, q) = given_there C.given i (first_of (is_given C.given i) (outside p.clause.type everything i) z o) in given_is Gs i M (own_given_at i o ∙ q))
      where
        first_of : (a c : Bool) → either a c ≡ true → c ≡ false → a ≡ true
        first_of true c e f = refl
        first_of false c e f = absurd (no (sym f ∙ e))
          where
            no : false ≡ true → ⊥
            no e = cc

    uses_scope : (A : LfType) → IsType Σ O A → UsesType (in_context O) A
    uses_scope A t = typed_uses_type Σ O (in_context O) A (in_covers O) t

    same_type : (A : LfType) → IsType Σ O A → substitute_type reduce δ A ≡ substitute_type reduce β A
    same_type A t = agree_on_type reduce (in_context O) δ β A same_on (uses_scope A t)

    -- What is typed beside by number is typed with what the block variable gives.
    pub beside_with : IsTypedBesideWith Σ first C p φ
    beside_with = record {
      kind = b.beside.kind;
      of_family = ap Σ.kinds b.beside.same_family ∙ b.beside.of_family;
      given = record {
        typed = λ i A h z.
            let t = declared_is_type Σ ok O i A tp.clause_typed h in
            subst (ImageHasType Σ₁ C.variables (β i)) (same_type A t) (subst (λ y. ImageHasType Σ₁ C.variables y (substitute_type reduce δ A)) (same_on i (in_covers O i A h)) (subst (λ X. ImageHasType Σ₁ X (δ i) (substitute_type reduce δ A)) (free_context_is C.variables) (b.beside.given.typed i A h (known_given i A h z))));
        closed = λ i A h z. type_third (is_given Gs) (in_context O) (known_in C p) (λ j u v. given_known j v u) A (b.beside.given.closed i A h (known_given i A h z)) (uses_scope A (declared_is_type Σ ok O i A tp.clause_typed h));
      };
      local = b.beside.local ∙ sym (local_of δ) ∙ ap (binders []) (same_type p.type tp.type_typed) ∙ local_of β;
      arguments = subst (λ T. TypedArguments Σ₁ (onto C.local (onto C.variables O)) C.arguments T b.beside.kind) (sym (arguments_under [] p.type δ) ∙ ap target_arguments (same_type p.type tp.type_typed) ∙ arguments_under [] p.type β) (subst (λ X. TypedArguments Σ₁ (onto C.local (onto X O)) C.arguments (substitute_spine reduce (lift_over (binders [] p.type) δ) (target_arguments p.type)) b.beside.kind) (free_context_is C.variables) b.beside.arguments);
    }
      where
        local_of : (s : ℕ → Image) → binders [] (substitute_type reduce s p.type) ≡ instance (binders [] p.type) s
        local_of s = binders_substituted p.type s [] ∙ onto_nothing (instance (binders [] p.type) s)

at_first_is : (first : ℕ) (C : NumberedCase) {c : Clause} (o : Origin c) (b : Bool) (φ : ℕ → Image) → b ≡ true → IsTried first C o b φ → IsTried first C o true φ
at_first_is first C o b φ e t = subst (λ a. IsTried first C o a φ) e t

gives_at_first : (first : ℕ) (C : NumberedCase) {c : Clause} (o : Origin c) (b : Bool) (φ : ℕ → Image) → b ≡ true → GivesOutside first C o b φ → GivesOutside first C o true φ
gives_at_first first C o b φ e t = subst (λ a. GivesOutside first C o a φ) e t

pub beside_with_all_tried : BesideWithAllTried
beside_with_all_tried Σ ok W typed first free C p tp f b own φ t = beside_with Σ ok W typed first free C b.typed p tp b own φ (tried_put Σ ok W typed first free C b.typed p.origin p.at_first φ t) (tried_once Σ ok W typed first free C b.typed p.origin φ b.outer (at_first_is first C p.origin p.at_first φ f t) (gives_at_first first C p.origin p.at_first b.outer f b.stands))

pub beside_is_decided : BesideIsDecided
beside_is_decided Σ ok W typed first free C p tp f b own others = numbered_goal_is_decided Σ ok W typed first free C b.typed p tp own others (beside_with_all_tried Σ ok W typed first free C p tp f b own)
