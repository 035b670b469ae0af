-- Where a case is typed beside a pattern, also the given terms that don't stand in the covered places have values in an instance: those terms.
use Rattle.std.proofs.Common.{◌≡◌, ℕ, zero, suc, ◌+◌, ◌-◌, ◌<◌, ◌⊎◌, List, [], ◌∷◌, length, inl, inr, refl, sym, ap, ◌∙◌, subst}
use Rattle.std.specs.Prelude.{Bool, true, false, cond, Option, Some, None}
use Rattle.lf.specs.Syntax.{Term, Spine, LfType, Kind, Skeleton, skeleton}
use Rattle.lf.specs.Substitution.{Image, put, substitute, substitute_image, substitute_spine, substitute_type, reduce, after}
use Rattle.lf.specs.Entries.{quantifiers}
use Rattle.lf.specs.Typing.{Signature, TypeAt, ImageHasType, IsTypedSubstitution, IsContext, IsSignature}
use Rattle.lf.specs.Variables.{onto, binders, everything, Values}
use Rattle.lf.specs.Subordination.{Block, AreTypedBlocks}
use Rattle.lf.proofs.TypeLaws.{skeleton_substituted}
use Rattle.lf.proofs.Weakening.{declared_is_type}
use Rattle.lf_checks.specs.Clause.{Clause, scope, outside}
use Rattle.lf_checks.specs.Tests.{either}
use Rattle.lf_checks.proofs.StrictTypes.{either_cases}
use Rattle.lf_cases.specs.Candidates.{given_images}
use Rattle.lf_cases.specs.Case.{covered_places}
use Rattle.lf_cases.specs.Cover.{before, outer_images}
use Rattle.lf_cases.specs.Missing.{put_in}
use Rattle.lf_cases.specs.Pattern.{Origin, of_constant, of_entry, Pattern, given_at, is_given}
use Rattle.lf_totality.proofs.Core.{out_index, outer_at, outside_at}
use Rattle.lf_totality.proofs.OutputCases.{goal_within}
use Rattle.lf_totality.proofs.RaisedOutputs.{binders_over}
use Rattle.lf_totality.proofs.Theorem.{outside_from}
use Rattle.lf_coverage.specs.Leaf.{IsTypedPattern}
use Rattle.lf_coverage.proofs.Choices.{decided, either_first, either_second}
use Rattle.lf_coverage.proofs.ClauseValues.{out_back}
use Rattle.lf_coverage.proofs.GivenEquations.{far_back}
use Rattle.lf_coverage.proofs.GivenValues.{StandsForItself, StandsForGiven, given_cases, given_there}
use Rattle.lf_coverage.proofs.GroundTyped.{front_typed}
use Rattle.lf_coverage.proofs.Matched.{own_type}
use Rattle.lf_coverage.proofs.Matching.{goal_agrees}
use Rattle.lf_coverage.proofs.NearOrFar.{near_or_far}
use Rattle.lf_coverage.proofs.Parts.{some_same}
use Rattle.lf_numbered.specs.EntryConstants.{entry_images, with_entries, IsFreeFrom}
use Rattle.lf_numbered.specs.EntryPatterns.{StandsByNumber, some_images, variable_images}
use Rattle.lf_numbered.specs.EntryTerms.{IsTypedBesideWith, beside_values, known_in}
use Rattle.lf_numbered.specs.NumberedCase.{NumberedCase, AreTypedVariables, some_spine}
use Rattle.lf_numbered.specs.NumberedInstance.{AreTypedValues, IsTypedInstanceOf, block_at, first_constant, moved_constant, move, move_all, move_spine, move_type, move_types}
use Rattle.lf_numbered.specs.OwnTerms.{BlockVariable, blocks_of, own_terms}
use Rattle.lf_numbered.specs.WritingRoom.{move_image, move_kind}
use Rattle.lf_numbered.proofs.EntryPatternsNear.{before_images, out_far}
use Rattle.lf_numbered.proofs.EntryPatternsTyped.{typed_at}
use Rattle.lf_numbered.proofs.EntrySignature.{entries_kept, grown_contexts}
use Rattle.lf_numbered.proofs.EntryValues.{after_entries}
use Rattle.lf_numbered.proofs.MeetsInstanceOuter.{some_images_put, entries_agree}
use Rattle.lf_numbered.proofs.MeetsInstancePartial.{put_together, together_first, together_second, values_put, values_together}
use Rattle.lf_numbered.proofs.MeetsInstanceOutside.{given_onward}
use Rattle.lf_numbered.proofs.MeetsInstancePlaces.{HasValues, given_back}
use Rattle.lf_numbered.proofs.MovedBlocks.{KeepBlocks, AreTypedIn, entry_moved, kinds_moved, old_stay, types_moved}
use Rattle.lf_numbered.proofs.MovedConstants.{context_moved, onto_twice, block_images_moved}
use Rattle.lf_numbered.proofs.OwnStoresEntry.{ok₁}
use Rattle.lf_numbered.proofs.Reading.{IsOld}
use Rattle.lf_numbered.proofs.WritingGap.{same_old, some_moved}
use Rattle.lf_numbered.proofs.WritingMove.{move_type_substituted, moved_image, skeleton_moved}

module _ (Σ : Signature) (ok : IsSignature Σ) (first : ℕ) (free : IsFreeFrom Σ first) (V : List Block) (typed : AreTypedBlocks Σ V) (C M : NumberedCase) (tc : AreTypedVariables Σ first V C) (tm : AreTypedVariables Σ first V M) (ν : ℕ → ℕ) (σ : ℕ → Image) (h : IsTypedInstanceOf Σ first M C ν σ) where
  abbrev Σ₁ : Signature
  Σ₁ = with_entries Σ first (blocks_of C.blocks)

  abbrev Σm : Signature
  Σm = with_entries Σ first (blocks_of M.blocks)

  abbrev ε : ℕ → ℕ
  ε = moved_constant first (blocks_of C.blocks) (blocks_of M.blocks) ν

  keeps : KeepBlocks C.blocks M.blocks ν
  keeps k b e = (_, h.blocks k b e, refl)

  case_blocks : AreTypedIn Σ C.blocks
  case_blocks k b e = typed b.block (typed_at Σ₁ V C.variables (own_terms first C.blocks) C.blocks tc.blocks k b e).0

  old : (c : ℕ) → IsOld Σ c → ε c ≡ c
  old = old_stay Σ ok first free C.blocks M.blocks ν keeps case_blocks

  types : (c : ℕ) (A : LfType) → Σ₁.types c ≡ Some A → Σm.types (ε c) ≡ Some (move_type ε A)
  types = types_moved Σ ok first free C.blocks M.blocks ν keeps case_blocks

  kinds : (a : ℕ) (K : Kind) → Σ₁.kinds a ≡ Some K → Σm.kinds a ≡ Some (move_kind ε K)
  kinds = kinds_moved Σ ok first free C.blocks M.blocks ν keeps case_blocks

  okm : IsSignature Σm
  okm = ok₁ Σ ok V typed first free M tm

  case_context : IsContext Σm (move_types ε C.variables)
  case_context = context_moved ε Σ₁ Σm types kinds C.variables tc.variables

  values_typed : (X : List LfType) (τ : ℕ → Image) → AreTypedValues Σm M.variables (own_terms first M.blocks) ε X τ → IsTypedSubstitution Σm (move_types ε X) M.variables τ
  values_typed [] τ v = λ k A g. absurd g
  values_typed (A ∷ X) τ (N, υ, v, n, own, e) = subst (IsTypedSubstitution Σm (move_type ε A ∷ move_types ε X) M.variables) (sym e) (front_typed Σm okm [] (λ B m. absurd m) (move_types ε X) M.variables (move_type ε A) (put (skeleton A) N) υ (values_typed X υ v) (skeleton_substituted reduce υ (move_type ε A) ∙ skeleton_moved ε A, n))

  -- Values over the case are such over the instance.
  module _ (U : ℕ → Bool) (G : List LfType) (cg : IsContext Σ G) (g : ℕ → Image) (v : Values (with_entries Σ first (blocks_of C.blocks)) U G C.variables g) where
    moved : Values Σm U G (move_types ε C.variables) (λ i. move_image ε (g i))
    moved = record { typed = λ i A k u. subst (ImageHasType Σm (move_types ε C.variables) (move_image ε (g i))) (move_type_substituted ε g A ∙ ap (substitute_type reduce (λ j. move_image ε (g j))) (same_old Σ ε G A old (declared_is_type Σ ok G i A cg k))) (moved_image ε Σ₁ Σm types kinds C.variables (g i) (substitute_type reduce g A) (v.typed i A k u)); closed = v.closed }

    pub instance_values : Values (with_entries Σ first (blocks_of M.blocks)) U G M.variables (after σ (λ i. move_image ε (g i)))
    instance_values = values_put Σm okm U G (move_types ε C.variables) M.variables (λ i. move_image ε (g i)) σ (grown_contexts Σ Σm (entries_kept Σ first (blocks_of M.blocks)) (λ a K e. e) G cg) case_context tm.variables moved (values_typed C.variables σ h.values)

  -- What a block variable gives becomes what the instance's gives.
  pub outer_becomes : (B : Block) (later : List LfType) (E : LfType) (es : List LfType) → onto later (E ∷ es) ≡ B.entries → (k : ℕ) (U : Spine) → block_at C.blocks k ≡ Some (record { block = B; terms = U }) → (j : ℕ) (S : Spine) → block_at M.blocks j ≡ Some (record { block = B; terms = S }) → ν k ≡ j → (l : ℕ) (A : LfType) → TypeAt (onto es B.some) l A → substitute_image σ (move_image ε (before later (variable_images first C.blocks k B U) l)) ≡ before later (variable_images first M.blocks j B S) l
  outer_becomes B later E es e k U at j S there q l A g =
      let m : ℕ = first_constant first (blocks_of C.blocks) k in
      let n : ℕ = first_constant first (blocks_of M.blocks) j in
      let R : Spine = move_spine ε U in
      let (υ, t, s) = (typed_at Σ₁ V C.variables (own_terms first C.blocks) C.blocks tc.blocks k (record { block = B; terms = U }) at).1 in
      let long : move_spine ε U ≡ some_spine B.some (λ x. move_image ε (υ x)) = ap (move_spine ε) s ∙ some_moved ε B.some υ in
      let terms : substitute_spine reduce σ (move_spine ε U) ≡ S = ap (λ (x : BlockVariable). x.terms) (some_same (sym (h.blocks k (record { block = B; terms = U }) at) ∙ ap (block_at M.blocks) q ∙ there)) in
      let is : (η : ℕ → Image) (p : ℕ) (T : Spine) → before later (entry_images p T B.entries η) l ≡ entry_images p T es η l = λ η p T. ap (λ L. before later (entry_images p T L η) l) (sym e) ∙ before_images p T later E es η l in
      let inner : (x : ℕ) (D : LfType) → TypeAt B.some x D → after σ (some_images B.some R) x ≡ some_images B.some S x = λ x D d. ap (λ T. substitute_image σ (some_images B.some T x)) long ∙ some_images_put σ B.some (λ y. move_image ε (υ y)) x D d ∙ ap (λ T. some_images B.some (substitute_spine reduce σ T) x) (sym long) ∙ ap (λ T. some_images B.some T x) terms in
      ap (λ x. substitute_image σ (move_image ε x)) (is (some_images B.some U) m U)
      ∙ ap (substitute_image σ) (block_images_moved ε m n U B.some es (λ later' F ds r. entry_moved Σ ok first free C.blocks M.blocks ν keeps case_blocks k (record { block = B; terms = U }) at (onto later (E ∷ later')) F ds (onto_twice later E later' (F ∷ ds) ∙ ap (λ L. onto later (E ∷ L)) r ∙ e) ∙ ap (λ x. first_constant first (blocks_of M.blocks) x + length ds) q) l)
      ∙ after_entries n R S es (some_images B.some R) σ terms l
      ∙ entries_agree n S es B.some (after σ (some_images B.some R)) (some_images B.some S) inner l A g
      ∙ sym (is (some_images B.some S) n S)

  -- A pattern with given terms
  module _ {c : Clause} (o : Origin c) (P : LfType) (b : Bool) (tp : IsTypedPattern Σ (record { clause = c; origin = o; type = P; at_first = b })) (φ : ℕ → Image) (tb : IsTypedBesideWith Σ first C (record { clause = c; origin = o; type = P; at_first = b }) φ) (own : (i : ℕ) → is_given C.given i ≡ true → outside c.type everything i ≡ false) (hg : M.given ≡ put_in σ (move_all ε C.given)) (q : HasValues Σ first M o P b) (ω : ℕ → Image) (agrees : Rattle.lf_cases.specs.Cover.AgreesOutside c q.values ω) (becomes : (l : ℕ) (A : LfType) → TypeAt c.outer l A → substitute_image σ (move_image ε (φ l)) ≡ ω l) where
    abbrev p : Pattern
    p = record { clause = c; origin = o; type = P; at_first = b }

    abbrev g : ℕ → Image
    g = beside_values C (record { clause = c; origin = o; type = P; at_first = b }) φ

    abbrev known : ℕ → Bool
    known = known_in C (record { clause = c; origin = o; type = P; at_first = b })

    abbrev given_value : ℕ → Image
    given_value = after σ (λ i. move_image ε (beside_values C (record { clause = c; origin = o; type = P; at_first = b }) φ i))

    abbrev pub used' : ℕ → Bool
    used' i = either (q.used i) (known_in C (record { clause = c; origin = o; type = P; at_first = b }) i)

    abbrev pub values' : ℕ → Image
    values' = put_together q.used q.values given_value

    no : false ≡ true → ⊥
    no e = cc

    -- what stands outside
    outer_value : (l : ℕ) (A : LfType) → TypeAt c.outer l A → given_value (out_index c.type l) ≡ ω l
    outer_value l A k = ap (λ x. substitute_image σ (move_image ε x)) (ap (λ z. cond z (φ (out_index c.type l - quantifiers c.type)) (given_images (scope c) C.given (length C.variables) (out_index c.type l))) (outside_at c.type everything l) ∙ ap φ (out_back c.type l)) ∙ becomes l A k

    outer_used : (l : ℕ) (A : LfType) → TypeAt c.outer l A → q.values (out_index c.type l) ≡ ω l
    outer_used l A k = sym (outer_at c.type q.values l) ∙ agrees l A k

    -- what is given
    own_value : (i : ℕ) (N : Term) → outside c.type everything i ≡ false → given_at C.given i ≡ Some N → (A : LfType) × TypeAt (scope c) i A × (given_value i ≡ put (skeleton A) (substitute reduce σ (move ε N)))
    own_value i N z e = by (given_cases (scope c) C.given (length C.variables) i)
      where
        at : g i ≡ given_images (scope c) C.given (length C.variables) i
        at = ap (λ x. cond x (φ (i - quantifiers c.type)) (given_images (scope c) C.given (length C.variables) i)) z

        by : StandsForItself (scope c) C.given (length C.variables) i ⊎ StandsForGiven (scope c) C.given (length C.variables) i → (A : LfType) × TypeAt (scope c) i A × (given_value i ≡ put (skeleton A) (substitute reduce σ (move ε N)))
        by (inl (r, none)) = let (A, k) = own_type c i z in absurd (none A N k e)
        by (inr (A, Q, k, r, s)) = (A, k, ap (λ x. substitute_image σ (move_image ε x)) (at ∙ s) ∙ ap (λ R. put (skeleton A) (substitute reduce σ (move ε R))) (some_same (sym r ∙ e)))

    given_in : (i : ℕ) (N : Term) → given_at C.given i ≡ Some N → given_at M.given i ≡ Some (substitute reduce σ (move ε N))
    given_in i N e = ap (λ Ms. given_at Ms i) hg ∙ given_onward ε σ C.given i N e

    is_given_at : (Ms : List (Option Term)) (i : ℕ) → is_given Ms i ≡ true → (N : Term) × (given_at Ms i ≡ Some N)
    is_given_at [] i e = absurd cc
    is_given_at (Some N ∷ Ms) zero e = (N, refl)
    is_given_at (None ∷ Ms) zero e = absurd cc
    is_given_at (Some N ∷ Ms) (suc i) e = is_given_at Ms i e
    is_given_at (None ∷ Ms) (suc i) e = is_given_at Ms i e

    -- Both are the same where both are known.
    same_values : (i : ℕ) (A : LfType) → TypeAt (scope c) i A → known i ≡ true → q.used i ≡ true → q.values i ≡ given_value i
    same_values i A k w u = decided (outside c.type everything i) out inside
      where
        out : outside c.type everything i ≡ true → q.values i ≡ given_value i
        out z =
            let (l, e, y) = outside_from c.type everything i z in
            let (D, d, r) = far_back (binders [] c.type) c.outer l A (subst (λ j. TypeAt (onto (binders [] c.type) c.outer) j A) (e ∙ out_far c.type l) (subst (λ X. TypeAt X i A) (binders_over [] c.type c.outer) k)) in
            ap q.values e ∙ outer_used l D d ∙ sym (outer_value l D d) ∙ ap given_value (sym e)

        inside : outside c.type everything i ≡ false → q.values i ≡ given_value i
        inside z = by (either_cases (is_given C.given i) (outside c.type everything i) w)
          where
            by : (is_given C.given i ≡ true) ⊎ (outside c.type everything i ≡ true) → q.values i ≡ given_value i
            by (inr y) = absurd (no (sym z ∙ y))
            by (inl y) =
                let (N, e) = is_given_at C.given i y in
                let (a, s) = q.given i (substitute reduce σ (move ε N)) u (given_in i N e) in
                let (D, d, r) = own_value i N z e in
                let t : skeleton D ≡ a = sym (skeleton_substituted reduce q.values D) ∙ (subst (λ x. ImageHasType Σm M.variables x (substitute_type reduce q.values D)) s (q.typed.typed i D d u)).0 in
                s ∙ ap (λ x. put x (substitute reduce σ (move ε N))) (sym t) ∙ sym r

    scope_grown : IsContext Σm (scope c)
    scope_grown = grown_contexts Σ Σm (entries_kept Σ first (blocks_of M.blocks)) (λ a K e. e) (scope c) tp.clause_typed

    both_typed : Values Σm used' (scope c) M.variables values'
    both_typed = values_together Σm okm (scope c) M.variables scope_grown q.used known q.values given_value q.typed (instance_values known (scope c) tp.clause_typed g tb.given) same_values

    stands_so : StandsByNumber first M o b q.values → ((l : ℕ) (A : LfType) → TypeAt c.outer l A → outer_images (quantifiers c.type) values' l ≡ outer_images (quantifiers c.type) q.values l) → StandsByNumber first M o b values'
    stands_so = by o
      where
        by : {d : Clause} (r : Origin d) → StandsByNumber first M r b q.values → ((l : ℕ) (A : LfType) → TypeAt d.outer l A → outer_images (quantifiers d.type) values' l ≡ outer_images (quantifiers d.type) q.values l) → StandsByNumber first M r b values'
        by (of_constant U) s e = tt
        by (of_entry B later E es r) (k, U, at, z, a) e = (k, U, at, z, λ l A d. e l A d ∙ a l A d)

    pub with_given : (w : HasValues Σ first M o P b) × ((k : ℕ) (N : Term) → given_at C.given k ≡ Some N → (k < length (binders [] c.type)) × (w.used k ≡ true))
    with_given = (
      record {
        used = used';
        values = values';
        typed = both_typed;
        uses = goal_within q.used used' (covered_places M.arguments) P (λ i u. either_first (q.used i) (known i) u) q.uses;
        given = given;
        stands = stands_so q.stands (λ l A d. outer_at c.type values' l ∙ sym (together_second q.used q.values given_value (out_index c.type l) (λ u. outer_used l A d ∙ sym (outer_value l A d))) ∙ outer_value l A d ∙ sym (outer_used l A d) ∙ sym (outer_at c.type q.values l));
        same = goal_agrees q.used q.values values' (λ i u. together_first q.used q.values given_value i u) M.arguments P q.uses q.same;
      },
      λ k N e. let y = given_there C.given k N e in (near k (own k y), either_second (q.used k) (known k) (either_first (is_given C.given k) (outside c.type everything k) y)),
    )
      where
        near : (k : ℕ) → outside c.type everything k ≡ false → k < length (binders [] c.type)
        near k z = by (near_or_far (length (binders [] c.type)) k)
          where
            by : (k < length (binders [] c.type)) ⊎ ((l : ℕ) × (k ≡ l + length (binders [] c.type))) → k < length (binders [] c.type)
            by (inl n) = n
            by (inr (l, e)) = absurd (no (sym z ∙ ap (outside c.type everything) (e ∙ sym (out_far c.type l)) ∙ outside_at c.type everything l))

        given : (k : ℕ) (N : Term) → used' k ≡ true → given_at M.given k ≡ Some N → (a : Skeleton) × (values' k ≡ put a N)
        given k N w e = decided (q.used k)
            (λ u. let (a, s) = q.given k N u e in (a, sym (together_first q.used q.values given_value k u) ∙ s))
            (λ u.
            let (Q, r) = given_back ε σ C.given k N (ap (λ Ms. given_at Ms k) (sym hg) ∙ e) in
            let (A, d, s) = own_value k Q (own k (given_there C.given k Q r)) r in
            (skeleton A, sym (together_second q.used q.values given_value k (λ y. absurd (no (sym u ∙ y)))) ∙ s ∙ ap (put (skeleton A)) (some_same (sym (given_in k Q r) ∙ e))))
