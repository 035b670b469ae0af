-- Two cases that solving finds for one head are the same but for their variables: the answer of the one store is a
-- typed unifier of the other, on own terms.
use Rattle.std.proofs.Common.{◌≡◌, ℕ, zero, ◌+◌, List, [], ◌∷◌, Option, Some, None, refl, sym, ap, ap₂, ◌∙◌, subst}
use Rattle.std.specs.Prelude.{Bool}
use Rattle.lf.specs.Syntax.{Head, Term, Spine, nil, LfType, Kind, skeleton, rename_type}
use Rattle.lf.specs.Substitution.{Image, put, substitute, substitute_image, substitute_spine, substitute_type, reduce, after}
use Rattle.lf.specs.AtOnce.{shift_by}
use Rattle.lf.specs.SkeletonTyping.{ImageSkeleton, SubstitutionBySkeletons, TermSkeleton}
use Rattle.lf.specs.Skeletons.{constant_skeletons, context_skeletons}
use Rattle.lf.specs.Typing.{Signature, TypeAt, HasType, ImageHasType, IsSignature}
use Rattle.lf.specs.Variables.{onto, target}
use Rattle.lf.specs.Subordination.{Block, AreTypedBlocks}
use Rattle.lf.specs.Worlds.{lift_over}
use Rattle.lf.proofs.Substitution.{typed_substitution_by_skeletons}
use Rattle.lf.proofs.Eta.{eta_both, reduce_nil}
use Rattle.lf.proofs.ToSkeletons.{skeleton_has_variable, variable_has_skeleton}
use Rattle.lf_unification.specs.Dependency.{values}
use Rattle.lf_unification.specs.OpenTyping.{skeletons_of}
use Rattle.lf_unification.specs.PartialInstance.{IsFilling}
use Rattle.lf_unification.specs.Patterns.{eta_variable}
use Rattle.lf_unification.specs.Skeletons.{skeleton_or_default}
use Rattle.lf_unification.specs.Steps.{no_step}
use Rattle.lf_unification.proofs.Decompose.{keeps_unifiers_refl}
use Rattle.lf_unification.proofs.Filling.{substituted_option}
use Rattle.lf_unification.specs.Solving.{IsWellFormed, Solved}
use Rattle.lf_unification.specs.Unifiers.{ExtendsFilling, Solution, Store}
use Rattle.lf_unification.proofs.Runs.{run_refuted}
use Rattle.lf_unification.proofs.Solving.{solved_not_never, well_formed_answer}
use Rattle.lf_cases.specs.Case.{items_context}
use Rattle.lf_cases.specs.Missing.{put_in}
use Rattle.lf_cases.specs.OutputGoal.{free_variables}
use Rattle.lf_cases.specs.Reached.{arguments_count, head_masks, split_items, taken}
use Rattle.lf_coverage.specs.SplitStore.{answer_image, answer_values, open_some, open_type}
use Rattle.lf_coverage.proofs.Carried.{carry, carry_same}
use Rattle.lf_coverage.proofs.Forms.{far_type}
use Rattle.lf_coverage.proofs.InstancesCompose.{local_twice, terms_twice}
use Rattle.lf_coverage.proofs.Parts.{some_same}
use Rattle.lf_numbered.specs.EntryConstants.{with_entries, IsFreeFrom}
use Rattle.lf_numbered.specs.NumberedCase.{NumberedCase, AreTypedBlockVariables}
use Rattle.lf_numbered.specs.NumberedInstance.{IsNumberedInstanceOf}
use Rattle.lf_numbered.specs.NumberedSplits.{NumberedOffer, IsOfferTo, of_case, of_new_block, NumberedUnifierFinds}
use Rattle.lf_numbered.specs.OnlyCase.{AreSameCase, FoundIsNotRefuted, GivesBack, OfferHasOneCase}
use Rattle.lf_numbered.specs.OwnStores.{IsNumberedOffer, numbered_store, solved_numbered}
use Rattle.lf_numbered.specs.OwnTerms.{BlockVariable, blocks_of, own_terms, ImageOnOwnTerms, OnOwnTerms, put_in_blocks}
use Rattle.lf_numbered.specs.OwnValues.{ComesOnOwnTerms, ValuesOnOwnTerms}
use Rattle.lf_numbered.specs.TypedNumbered.{IsTypedNumberedCase}
use Rattle.lf_numbered.proofs.EntryPatternsSplits.{put_same}
use Rattle.lf_numbered.proofs.OnlyFree.{FreeAt, free_at}
use Rattle.lf_numbered.proofs.OnlyValues.{ComeAlong, values_come_along}
use Rattle.lf_totality.proofs.OutputCases.{in_covers}
use Rattle.lf_coverage.proofs.SolvedCase.{behind_types, free_context_is}
use Rattle.lf_coverage.proofs.StayTyped.{instance_agree}
use Rattle.lf_coverage.proofs.StoreSolution.{looked_up}
use Rattle.lf_coverage.proofs.Transfer.{SameIn, lift_instance, same_in, same_over}
use Rattle.lf_numbered.proofs.NumberedReachedInstances.{nothing_behind, put_in_is_instance}
use Rattle.lf_numbered.proofs.OwnStoresEntry.{ok₁}
use Rattle.lf_numbered.proofs.OwnStoresNewBlock.{new_block_stays_typed}
use Rattle.lf_numbered.proofs.OwnStoresSplit.{image_own, shown, stays_typed}
use Rattle.lf_numbered.proofs.OwnStoresStart.{numbered_ready}
use Rattle.lf_numbered.proofs.OwnTerms.{put_in_keeps}
use Rattle.lf_numbered.proofs.OwnValuesSteps.{own_terms_extend}
use Rattle.lf_numbered.proofs.OwnValuesSolved.{solved_comes_on_own_terms}
use Rattle.lf_numbered.proofs.OwnValuesTerms.{spine_after}

module _ (Σ : Signature) (ok : IsSignature Σ) (W : List Block) (typed : AreTypedBlocks Σ W) (first : ℕ) (free : IsFreeFrom Σ first) (below : ℕ → ℕ → Bool) (C : NumberedCase) (tc : IsTypedNumberedCase Σ first W C) (x : ℕ) (X : LfType) (at : TypeAt C.variables x X) (h : Head) (U : Spine) (A : LfType) (offer : IsNumberedOffer Σ first C X h U A) (K : Kind) (of_family : Σ.kinds (target X) ≡ Some K) where
  abbrev Σ₁ : Signature
  Σ₁ = with_entries Σ first (blocks_of C.blocks)

  abbrev V : List LfType
  V = C.variables

  abbrev k : ℕ
  k = arguments_count A

  abbrev Cc : List LfType
  Cc = items_context (split_items below X (free_variables C.variables) zero A)

  abbrev store : Store
  store = numbered_store below C x X h U A K

  okE : IsSignature Σ₁
  okE = ok₁ Σ ok W typed first free C tc.variables

  ready : IsWellFormed Σ₁ store
  ready = numbered_ready Σ ok W typed first free below C tc.variables x X at h U A offer K of_family

  -- the variables of the case are metavariables of the store
  is_declared : (i : ℕ) (Y : LfType) → TypeAt V i Y → (B : LfType) × (store.metavariables (i + k) ≡ Some B)
  is_declared i Y g = let q : TypeAt Cc (i + k) (rename_type (shift_by k) Y) = behind_types (head_masks below (taken (rename_type (shift_by zero) X)) k A) (taken (rename_type (shift_by zero) X)) k A (free_variables V) refl i Y (subst (λ L. TypeAt L i Y) (sym (free_context_is V)) g) in (open_type zero (rename_type (shift_by k) Y), ap open_some (looked_up Cc (i + k) (rename_type (shift_by k) Y) q))

  -- what one run of steps finds is an instance of what another finds
  module _ (one other : Store) (s : Solved Σ₁ store one) (t : Solved Σ₁ store other) where
    abbrev D : NumberedCase
    D = solved_numbered C k one s.well_formed.order

    abbrev E : NumberedCase
    E = solved_numbered C k other t.well_formed.order

    abbrev α : ℕ → Image
    α i = answer_values one s.well_formed.order (i + arguments_count A)

    abbrev β : ℕ → Image
    β i = answer_values other t.well_formed.order (i + arguments_count A)

    abbrev p : ℕ → Option Spine
    p = own_terms first D.blocks

    abbrev found : ℕ → Option Term
    found = values (skeletons_of one.metavariables) s.well_formed.order

    -- the one answer is a typed unifier of the store, on own terms
    unifier : (ψ : ℕ → Option Term) × ExtendsFilling store.metavariables ψ found × Solution Σ₁ [] store D.variables ψ
    unifier = s.keeps.sound D.variables found (well_formed_answer Σ₁ okE one s.well_formed s.none_left)

    own : ValuesOnOwnTerms p store.metavariables unifier.0
    own m B N d e = subst (λ y. ImageOnOwnTerms p (answer_image (skeletons_of one.metavariables m) y)) (unifier.1 m B d ∙ e) (image_own Σ ok W typed first free below C tc x X at h U A offer K of_family one s m)

    -- so it extends to one of the other store, which comes from the other answer
    extended : (ψ : ℕ → Option Term) × ExtendsFilling store.metavariables unifier.0 ψ × Solution Σ₁ [] other D.variables ψ × ValuesOnOwnTerms p other.metavariables ψ
    extended = own_terms_extend Σ₁ okE store other ready t.run D.variables unifier.0 unifier.2 p own

    comes : ComesOnOwnTerms Σ₁ p other.metavariables other t.well_formed.order D.variables extended.0
    comes = solved_comes_on_own_terms Σ₁ okE other other t.well_formed (record { run = no_step; keeps = keeps_unifiers_refl Σ₁ [] other; well_formed = t.well_formed; none_left = t.none_left }) D.variables extended.0 extended.2 p extended.3

    abbrev υ : ℕ → Image
    υ = comes.images

    -- the values of what stood in the store
    old_value : (m : ℕ) (B : LfType) → store.metavariables m ≡ Some B → (N : Term) × (values (skeletons_of other.metavariables) t.well_formed.order m ≡ Some N) × (found m ≡ Some (substitute reduce υ N))
    old_value m B d = let (N, q, r) = comes.same m B (t.keeps.grows m B d) in (N, q, unifier.1 m B d ∙ sym (extended.1 m B d) ∙ r)

    same_at : (i : ℕ) (Y : LfType) → TypeAt V i Y → α i ≡ after υ β i
    same_at i Y g =
        let (B, d) = is_declared i Y g in
        let (N, q, r) = old_value (i + k) B d in
        ap₂ answer_image (ap skeleton_or_default (s.keeps.grows (i + k) B d) ∙ sym (ap skeleton_or_default (t.keeps.grows (i + k) B d))) r
        ∙ sym (ap (λ y. substitute_image υ (answer_image (skeletons_of other.metavariables (i + k)) y)) q)

    same : SameIn (context_skeletons V) α (after υ β)
    same i u g = let (Y, b, e) = skeleton_has_variable V i u g in same_at i Y b

    fits : SubstitutionBySkeletons (constant_skeletons Σ₁) (context_skeletons V) (context_skeletons E.variables) β
    fits = shown Σ ok W typed first free below C tc x X at h U A offer K of_family other t

    fits_values : SubstitutionBySkeletons (constant_skeletons Σ₁) (context_skeletons E.variables) (context_skeletons D.variables) υ
    fits_values = typed_substitution_by_skeletons Σ₁ okE E.variables D.variables υ comes.typed

    blocks_same : (bs : List BlockVariable) → AreTypedBlockVariables Σ₁ W V (own_terms first C.blocks) bs → put_in_blocks α bs ≡ put_in_blocks υ (put_in_blocks β bs)
    blocks_same [] w = refl
    blocks_same (b ∷ bs) (m, (τ, z, e), q, w) = ap₂ (λ S (cs : List BlockVariable). record { block = b.block; terms = S } ∷ cs) (sym (ap (λ S. substitute_spine reduce υ (substitute_spine reduce β S)) e ∙ spine_after (constant_skeletons Σ₁) (context_skeletons V) (context_skeletons E.variables) (context_skeletons D.variables) β υ α fits fits_values same b.block.some τ (typed_substitution_by_skeletons Σ₁ okE b.block.some V τ z) ∙ sym (ap (substitute_spine reduce α) e))) (blocks_same bs w)

    back : blocks_of C.blocks ≡ blocks_of D.blocks
    back = sym (put_in_keeps α C.blocks)

    terms : (i : ℕ) (Y : LfType) → TypeAt E.variables i Y → (N : Term) × (υ i ≡ put (skeleton Y) N) × HasType (with_entries Σ first (blocks_of D.blocks)) D.variables N (substitute_type reduce υ Y) × OnOwnTerms p N
    terms i Y g =
        let (N, e) = comes.are_terms i Y g in
        (N, e, subst (λ Bs. HasType (with_entries Σ first Bs) D.variables N (substitute_type reduce υ Y)) back (subst (λ y. ImageHasType Σ₁ D.variables y (substitute_type reduce υ Y)) e (comes.typed i Y g)).1, subst (ImageOnOwnTerms p) e (comes.on_own_terms i))

    te : IsTypedNumberedCase Σ first W E
    te = stays_typed Σ ok W typed first free below C tc x X at h U A offer K of_family other t

    found_is_instance : IsNumberedInstanceOf Σ first D E (λ j. j) (carry E.variables D.variables υ)
    found_is_instance =
        put_in_is_instance Σ W first E D (ok₁ Σ ok W typed first free E te.variables) te υ [] (blocks_same C.blocks tc.variables.blocks ∙ nothing_behind (put_in_blocks υ E.blocks))
        (put_same (constant_skeletons Σ₁) (context_skeletons V) α (after υ β) same C.given tc.given ∙ sym (terms_twice Σ₁ V E.variables D.variables β υ fits fits_values [] C.given tc.given))
        ((instance_agree Σ₁ C.local V α (after υ β) tc.local same_at).0 ∙ sym (local_twice Σ₁ V E.variables D.variables β υ fits fits_values C.local tc.local))
        refl
        (put_same (constant_skeletons Σ₁) (context_skeletons (onto C.local V)) (lift_over C.local α) (lift_over C.local (after υ β)) (same_over C.local V α (after υ β) same) C.arguments tc.arguments ∙ sym (terms_twice Σ₁ V E.variables D.variables β υ fits fits_values C.local C.arguments tc.arguments) ∙ ap (λ f. put_in f (put_in (lift_over C.local β) C.arguments)) (sym (lift_instance C.local β υ)))
        terms

  -- and the values of the one answer give back the variables of the other
  module _ (one other : Store) (s : Solved Σ₁ store one) (t : Solved Σ₁ store other) where
    abbrev this_case : NumberedCase
    this_case = solved_numbered C k one s.well_formed.order

    abbrev that_case : NumberedCase
    that_case = solved_numbered C k other t.well_formed.order

    abbrev to : ℕ → Image
    to = (comes one other s t).images

    abbrev fro : ℕ → Image
    fro = (comes other one t s).images

    there : ComeAlong to store.metavariables (extended other one t s).0 (values (skeletons_of one.metavariables) s.well_formed.order)
    there m B d =
        let (N, q, r) = old_value one other s t m B d in
        r ∙ ap (substituted_option to) (sym ((extended other one t s).1 m B d ∙ sym ((unifier other one t s).1 m B d) ∙ q))

    gives_back : GivesBack this_case.variables (carry this_case.variables that_case.variables fro) (carry that_case.variables this_case.variables to)
    gives_back i Y g =
        let f : FreeAt Σ₁ one.metavariables (IsFilling Σ₁ [] one) (skeletons_of one.metavariables) s.well_formed.order i Y = free_at Σ₁ one.metavariables (IsFilling Σ₁ [] one) (skeletons_of one.metavariables) s.well_formed.order s.well_formed.is_order i Y g in
        let (N, e) = (comes other one t s).are_terms i Y g in
        let n : TermSkeleton (constant_skeletons Σ₁) (context_skeletons that_case.variables) N (skeleton Y) = (subst (λ y. ImageSkeleton (constant_skeletons Σ₁) (context_skeletons that_case.variables) y (skeleton Y)) e (fits_values other one t s i (skeleton Y) (variable_has_skeleton this_case.variables i Y g))).1 in
        let (M, q, r) = (comes other one t s).same f.of f.of_type f.declared in
        let v : (extended other one t s).0 f.of ≡ Some N = r ∙ ap (λ P. Some (substitute reduce fro P)) (some_same (sym q ∙ f.value)) ∙ ap Some ((eta_both (constant_skeletons Σ₁) (skeleton Y)).1 (context_skeletons that_case.variables) fro i (skeleton Y) N nil e n refl ∙ reduce_nil (skeleton Y) N) in
        let z : eta_variable (skeleton Y) i ≡ substitute reduce to N = some_same (sym f.value ∙ values_come_along Σ₁ okE that_case.variables this_case.variables to ready s.run (extended other one t s).0 (values (skeletons_of one.metavariables) s.well_formed.order) (extended other one t s).2 (well_formed_answer Σ₁ okE one s.well_formed s.none_left) there f.of f.of_type f.declared ∙ ap (substituted_option to) v) in
        ap (substitute_image (carry that_case.variables this_case.variables to)) (carry_same this_case.variables that_case.variables fro i (in_covers this_case.variables i Y g) ∙ e)
        ∙ ap (put (skeleton Y)) (sym (same_in (constant_skeletons Σ₁) (context_skeletons that_case.variables) to (carry that_case.variables this_case.variables to) near N (skeleton Y) n) ∙ sym z)
      where
        near : SameIn (context_skeletons that_case.variables) to (carry that_case.variables this_case.variables to)
        near j u b = let (B, c, e) = skeleton_has_variable that_case.variables j u b in sym (carry_same that_case.variables this_case.variables to j (in_covers that_case.variables j B c))

  found_once : (D E : NumberedCase) → NumberedUnifierFinds Σ first below (record { case = C; variable = x; type = X; head = h; terms = U; left = A }) K (Some D) → NumberedUnifierFinds Σ first below (record { case = C; variable = x; type = X; head = h; terms = U; left = A }) K (Some E) → AreSameCase Σ first D E
  found_once D E (one, s, d) (other, t, e) = subst (λ P. AreSameCase Σ first P E) (sym d) (subst (AreSameCase Σ first (solved_numbered C k one s.well_formed.order)) (sym e) (record {
    values = carry (solved_numbered C k other t.well_formed.order).variables (solved_numbered C k one s.well_formed.order).variables (comes one other s t).images;
    back = carry (solved_numbered C k one s.well_formed.order).variables (solved_numbered C k other t.well_formed.order).variables (comes other one t s).images;
    is_instance = found_is_instance one other s t;
    has_instance = found_is_instance other one t s;
    there_and_back = gives_back other one t s;
    back_and_there = gives_back one other s t;
  }))

  not_refuted : (D : NumberedCase) → NumberedUnifierFinds Σ first below (record { case = C; variable = x; type = X; head = h; terms = U; left = A }) K (Some D) → NumberedUnifierFinds Σ first below (record { case = C; variable = x; type = X; head = h; terms = U; left = A }) K None → ⊥
  not_refuted D (one, s, d) r = solved_not_never Σ₁ okE store one s (run_refuted Σ₁ okE ready r.run r.refuted)

pub offer_has_one_case : OfferHasOneCase
offer_has_one_case Σ ok W typed first free below C tc x X at o f K q = by o f q
  where
    by : (o : NumberedOffer) → IsOfferTo Σ first W C x X o → Σ.kinds (target o.type) ≡ Some K → (D E : NumberedCase) → NumberedUnifierFinds Σ first below o K (Some D) → NumberedUnifierFinds Σ first below o K (Some E) → AreSameCase Σ first D E
    by o (of_case h U A f) q D E = found_once Σ ok W typed first free below C tc x X at h U A f K q D E
    by o (of_new_block B c U A b n f) q D E = found_once Σ ok W typed first free below o.case (new_block_stays_typed Σ ok W typed first free C tc B b) o.variable o.type (far_type B.some C.variables x X at) o.head U A f K q D E

pub found_is_not_refuted : FoundIsNotRefuted
found_is_not_refuted Σ ok W typed first free below C tc x X at o f K q = by o f q
  where
    by : (o : NumberedOffer) → IsOfferTo Σ first W C x X o → Σ.kinds (target o.type) ≡ Some K → (D : NumberedCase) → NumberedUnifierFinds Σ first below o K (Some D) → NumberedUnifierFinds Σ first below o K None → ⊥
    by o (of_case h U A f) q D = not_refuted Σ ok W typed first free below C tc x X at h U A f K q D
    by o (of_new_block B c U A b n f) q D = not_refuted Σ ok W typed first free below o.case (new_block_stays_typed Σ ok W typed first free C tc B b) o.variable o.type (far_type B.some C.variables x X at) o.head U A f K q D
