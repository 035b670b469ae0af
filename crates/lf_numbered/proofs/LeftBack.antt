-- A ground instance of the case with a head's arguments in front is one of the case that the head is offered to; where
-- the equations of the head's store are true, it gives the variable this head.
use Rattle.std.proofs.Common.{◌≡◌, ℕ, zero, List, [], ◌+◌, ◌<◌, length, Option, Some, refl, sym, ap, ap₂, ◌∙◌, subst, inl, arith}
use Rattle.std.specs.Prelude.{Bool}
use Rattle.lf.specs.Syntax.{Head, constant, variable, Term, Spine, nil, root, LfType, Kind, Skeleton, skeleton, rename_spine, rename_type}
use Rattle.lf.specs.Substitution.{Image, keep, put, substitute, reduce}
use Rattle.lf.specs.AtOnce.{shift_by, lift_renaming_by}
use Rattle.lf.specs.Eta.{append, eta_long, lambdas}
use Rattle.lf.specs.SkeletonTyping.{HeadSkeletons, SkeletonAt, SubstitutionBySkeletons, TermSkeleton}
use Rattle.lf.specs.Skeletons.{constant_skeletons, context_skeletons}
use Rattle.lf.specs.Typing.{Signature, TypeAt, IsSignature}
use Rattle.lf.specs.Variables.{target, onto}
use Rattle.lf.specs.Subordination.{Block, AreTypedBlocks}
use Rattle.lf.specs.Worlds.{World, lift_over}
use Rattle.lf.specs.Extension.{Extends}
use Rattle.lf.proofs.Eta.{eta_expand_has_skeleton}
use Rattle.lf.proofs.ToSkeletons.{skeleton_has_variable, variable_has_skeleton}
use Rattle.lf.proofs.TypeLaws.{skeleton_renamed}
use Rattle.lf_unification.specs.Filling.{fill}
use Rattle.lf_unification.specs.OpenTyping.{skeletons_of}
use Rattle.lf_unification.specs.Skeletons.{skeleton_or_default}
use Rattle.lf_unification.specs.Unifiers.{Solution}
use Rattle.lf_cases.specs.Case.{as_term, items_context}
use Rattle.lf_cases.specs.OutputGoal.{free_variables}
use Rattle.lf_cases.specs.Pattern.{HasGiven}
use Rattle.lf_cases.specs.Reached.{arguments_count, head_masks, head_spine, taken, split_items}
use Rattle.lf_coverage.specs.AppliedStore.{applied_term}
use Rattle.lf_coverage.specs.SplitStore.{open_some, open_term, open_type}
use Rattle.lf_coverage.proofs.Forms.{far_type, renaming_near}
use Rattle.lf_coverage.proofs.HeadTerm.{taken_length}
use Rattle.lf_coverage.proofs.OpenTerms.{AllStand, FitsImage, fill_open}
use Rattle.lf_coverage.proofs.SolvedCase.{free_context_is}
use Rattle.lf_coverage.proofs.StoreSolution.{looked_up, skeleton_open, value_at}
use Rattle.lf_numbered.specs.EntryConstants.{IsFreeFrom, with_entries}
use Rattle.lf_numbered.specs.EntryPatternsSplits.{HoldsAs}
use Rattle.lf_numbered.specs.LeftUnifiers.{HasHead, UnifierHasHead, head_in, read_declared, read_head, read_store}
use Rattle.lf_numbered.specs.NewBlock.{with_new_block}
use Rattle.lf_numbered.specs.NumberedCallsOutside.{over_head}
use Rattle.lf_numbered.specs.NumberedArguments.{HasNumberedArguments, read_all, read_over}
use Rattle.lf_numbered.specs.NumberedCase.{NumberedCase, AreGroundValues, IsNumberedInstance}
use Rattle.lf_numbered.specs.NumberedReached.{HoldsBack}
use Rattle.lf_numbered.specs.NumberedSplits.{NumberedOffer, of_case, of_new_block}
use Rattle.lf_numbered.specs.OwnStores.{IsNumberedOffer, left_type, numbered_store, offer_entry, offer_signature, offer_taken}
use Rattle.lf_numbered.specs.OwnTerms.{blocks_of}
use Rattle.lf_numbered.specs.Reading.{entry_reading, read}
use Rattle.lf_numbered.specs.TypedNumbered.{IsTypedNumberedCase}
use Rattle.lf_numbered.proofs.EntryPatternsSplits.{put_in_holds_as}
use Rattle.lf_numbered.proofs.EntryValues.{put_term, read_as_term}
use Rattle.lf_numbered.proofs.LeftForms.{constant_form, instances_before, opened_read, shifted_reading, stripped, variable_form, no_heads}
use Rattle.lf_numbered.proofs.LeftTyped.{behind, is_put_in, over_typed, shown}
use Rattle.lf_numbered.proofs.NumberedHeads.{value_is_term}
use Rattle.lf_numbered.proofs.NumberedSplits.{places_renamed}
use Rattle.lf_numbered.proofs.OwnStoresNewBlock.{new_block_stays_typed}
use Rattle.lf_numbered.proofs.OwnTerms.{put_in_keeps}
use Rattle.lf_numbered.proofs.ReadValues.{inside_onto, values_fit}
use Rattle.lf_numbered.proofs.Reading.{skeleton_read}
use Rattle.lf_numbered.proofs.TuplesBack.{given_back, places_read, tuples_back}

module _ (Σ Σ' : Signature) (ok : IsSignature Σ) (S : ℕ → Bool) (x : Extends S Σ Σ') (W : List Block) (typed : AreTypedBlocks Σ W) (first : ℕ) (free : IsFreeFrom Σ first) (below : ℕ → ℕ → Bool) (E : NumberedCase) (te : IsTypedNumberedCase Σ first W E) (y : ℕ) (X : LfType) (at : TypeAt E.variables y X) (h : Head) (U : Spine) (A : LfType) (offer : IsNumberedOffer Σ first E X h U A) (K : Kind) (of_family : Σ.kinds (target X) ≡ Some K) {G : List LfType} (w : World Σ' W S G) (θ : ℕ → ℕ → Image) (τ : ℕ → Image) (inst : IsNumberedInstance w first (over_head below (record { case = E; variable = y; type = X; head = h; terms = U; left = A })) θ τ) where
  abbrev o : NumberedOffer
  o = record { case = E; variable = y; type = X; head = h; terms = U; left = A }

  abbrev over : NumberedCase
  over = over_head below (record { case = E; variable = y; type = X; head = h; terms = U; left = A })

  abbrev k : ℕ
  k = arguments_count A

  abbrev V : List LfType
  V = E.variables

  abbrev Bs : List Block
  Bs = blocks_of E.blocks

  abbrev D0 : List LfType
  D0 = taken (rename_type (shift_by zero) X)

  abbrev Cc : List LfType
  Cc = items_context (split_items below X (free_variables E.variables) zero A)

  abbrev σ : ℕ → Image
  σ i = τ (i + arguments_count A)

  same_blocks : blocks_of over.blocks ≡ blocks_of E.blocks
  same_blocks = ap blocks_of (is_put_in Σ ok W typed first free below E te y X at h U A offer K of_family).blocks ∙ put_in_keeps (λ i. keep (i + k)) E.blocks

  values : AreGroundValues Σ' G (entry_reading first Bs θ) Cc τ
  values = subst (λ Ds. AreGroundValues Σ' G (entry_reading first Ds θ) Cc τ) same_blocks inst.values

  strip : AreGroundValues Σ' G (entry_reading first Bs θ) V σ × (length Cc ≡ length V + k)
  strip =
      let (v, l) = stripped Σ' G (entry_reading first Bs θ) (head_masks below D0 k A) D0 k A (free_variables V) τ refl values in
      (subst (λ L. AreGroundValues Σ' G (entry_reading first Bs θ) L σ) (free_context_is V) v, l ∙ ap (λ L. length L + k) (free_context_is V))

  ground : IsNumberedInstance w first E θ σ
  ground = record {
    values = strip.0;
    instances = instances_before w (entry_reading first Bs θ (length V)) (entry_reading first (blocks_of over.blocks) θ (length Cc)) k (λ c. ap₂ (λ Ds n. entry_reading first Ds θ n c) same_blocks strip.1 ∙ shifted_reading first Bs θ (length V) k c) τ θ zero E.blocks inst.instances;
  }

  at_over : (i : ℕ) (B : LfType) → TypeAt V i B → SkeletonAt (context_skeletons Cc) (i + k) (skeleton B)
  at_over i B g = subst (SkeletonAt (context_skeletons Cc) (i + k)) (skeleton_renamed (shift_by k) B) (variable_has_skeleton Cc (i + k) (rename_type (shift_by k) B) (behind Σ ok W typed first free below E te y X at h U A offer K of_family i B g))

  all_fit : SubstitutionBySkeletons (constant_skeletons Σ') (context_skeletons (onto Cc G)) (context_skeletons G) τ
  all_fit = values_fit Σ' x.ok G first Bs θ Cc τ values

  holds : HoldsAs first E θ σ over θ τ
  holds =
      put_in_holds_as Σ Σ' ok S x W typed first free E over te (over_typed Σ ok W typed first free below E te y X at h U A offer K of_family) (λ i. keep (i + k)) (is_put_in Σ ok W typed first free below E te y X at h U A offer K of_family) (subst (λ Ds. SubstitutionBySkeletons (constant_skeletons (with_entries Σ first Ds)) (context_skeletons V) (context_skeletons Cc) (λ i. keep (i + k))) (sym same_blocks) (shown Σ ok W typed first free below E te y X at h U A offer K of_family)) (λ i B g. tt) G w θ σ τ ground inst
      (λ i B g. sym (put_term (constant_skeletons Σ') (context_skeletons (onto Cc G)) (context_skeletons G) τ all_fit (skeleton B) (keep (i + k)) (inside_onto Cc G (i + k) (skeleton B) (at_over i B g))) ∙ sym (ap (substitute reduce τ) (read_as_term (entry_reading first (blocks_of over.blocks) θ (length Cc)) (skeleton B) (keep (i + k)))))

  back_arguments : (T : Spine) → HasNumberedArguments first over θ τ T → HasNumberedArguments first E θ σ T
  back_arguments = tuples_back (lift_over E.local σ) (lift_over over.local τ) (read_all (read_over E.local (entry_reading first Bs θ (length V))) E.arguments) (read_all (read_over over.local (entry_reading first (blocks_of over.blocks) θ (length Cc))) over.arguments) (places_read (read_over over.local (entry_reading first (blocks_of over.blocks) θ (length Cc))) over.arguments ∙ places_renamed (lift_renaming_by (length E.local) (shift_by k)) E.arguments ∙ sym (places_read (read_over E.local (entry_reading first Bs θ (length V))) E.arguments)) holds.arguments

  back_given : (υ : ℕ → Image) → HasGiven τ (read_all (entry_reading first (blocks_of over.blocks) θ (length Cc)) over.given) υ → HasGiven σ (read_all (entry_reading first Bs θ (length V)) E.given) υ
  back_given = given_back σ τ (read_all (entry_reading first Bs θ (length V)) E.given) (read_all (entry_reading first (blocks_of over.blocks) θ (length Cc)) over.given) (places_read (entry_reading first (blocks_of over.blocks) θ (length Cc)) over.given ∙ places_renamed (shift_by k) E.given ∙ sym (places_read (entry_reading first Bs θ (length V)) E.given)) holds.given

  abbrev back : HoldsBack w first (over_head below (record { case = E; variable = y; type = X; head = h; terms = U; left = A })) θ τ E
  back = record { values = λ i. τ (i + arguments_count A); is_ground = ground; arguments = back_arguments; given = back_given }

  -- The head
  module _ (β : ℕ → Option Term) (same : (i : ℕ) (B : LfType) → TypeAt (over_head below (record { case = E; variable = y; type = X; head = h; terms = U; left = A })).variables i B → β i ≡ Some (as_term (skeleton B) (τ i))) (u : Solution Σ' G (read_store first (blocks_of E.blocks) θ (numbered_store below E y X h U A K)) G β) where
    abbrev μ : ℕ → Skeleton
    μ = skeletons_of (read_store first (blocks_of E.blocks) θ (numbered_store below E y X h U A K)).metavariables

    abbrev κ : HeadSkeletons
    κ = constant_skeletons Σ'

    abbrev x' : ℕ
    x' = y + (zero + arguments_count A)

    sums : (j n : ℕ) → j + n ≡ j + (0 + n)
    sums j n = omega arith

    term_at : (i : ℕ) (B : LfType) → TypeAt Cc i B → (N : Term) × (τ i ≡ put (skeleton B) N)
    term_at i B g = value_is_term Σ' G (entry_reading first Bs θ) Cc τ values i B g

    stand : AllStand Σ' μ zero (context_skeletons Cc) τ β
    stand i t g =
        let (B, b, q) = skeleton_has_variable Cc i t g in
        let (N, p) = term_at i B b in
        inl (i, refl, ap (λ z. skeleton_or_default (read_declared (entry_reading first Bs θ 0) (open_some z))) (looked_up Cc i B b) ∙ skeleton_read (entry_reading first Bs θ 0) (open_type zero B) ∙ skeleton_open zero B ∙ q, same i B b ∙ ap (λ a. Some (as_term a (τ i))) q, subst (FitsImage t) (sym p) q)

    fits : SubstitutionBySkeletons κ (context_skeletons Cc) (context_skeletons G) τ
    fits i t g = all_fit i t (inside_onto Cc G i t g)

    at_x : SkeletonAt (context_skeletons Cc) x' (skeleton X)
    at_x = subst (λ i. SkeletonAt (context_skeletons Cc) i (skeleton X)) (sums y k) (at_over y X at)

    long : TermSkeleton κ (context_skeletons Cc) (eta_long (skeleton X) (variable x')) (skeleton X)
    long = eta_expand_has_skeleton κ (skeleton X) (skeleton X) (context_skeletons Cc) (variable x') nil at_x refl

    left : fill μ β (read (entry_reading first Bs θ 0) (open_term zero (eta_long (skeleton X) (variable x')))) ≡ as_term (skeleton X) (τ x')
    left = ap (fill μ β) (long_read (skeleton X) at_x) ∙ fill_open Σ' μ zero (context_skeletons Cc) (context_skeletons G) τ β stand fits (eta_long (skeleton X) (variable x')) (skeleton X) long ∙ value_at κ (context_skeletons G) (skeleton X) τ x' (fits x' (skeleton X) at_x)
      where
        long_read : (a : Skeleton) → SkeletonAt (context_skeletons Cc) x' a → read (entry_reading first Bs θ 0) (open_term zero (eta_long a (variable x'))) ≡ open_term zero (eta_long a (variable x'))
        long_read a g = opened_read zero (entry_reading first Bs θ 0) (context_skeletons Cc) (eta_long a (variable x')) a (eta_expand_has_skeleton no_heads a a (context_skeletons Cc) (variable x') nil g refl)

    long_zero : length D0 ≡ length (taken X)
    long_zero = taken_length (shift_by zero) X [] [] refl

    of_constant : (c : ℕ) (U' : Spine) (A' : LfType) → (T : Spine) × (fill μ β (read (entry_reading first Bs θ 0) (open_term zero (applied_term below D0 (constant c) U' A'))) ≡ lambdas (length (taken X)) (root (head_in first Bs θ (length (taken X)) (constant c)) T))
    of_constant c U' A' =
        let (T, e) = constant_form μ first Bs θ β (length D0) 0 0 c (append (rename_spine (lift_renaming_by (length D0) (shift_by (arguments_count A'))) U') (head_spine (head_masks below D0 (arguments_count A') A') D0 A')) in
        (T, e ∙ ap₂ (λ m n. lambdas m (root (read_head (entry_reading first Bs θ n c) c) T)) long_zero (none (length D0) ∙ long_zero))
      where
        none : (n : ℕ) → n + 0 ≡ n
        none n = omega arith

    formed : {g : Head} {U' : Spine} {A' : LfType} → IsNumberedOffer Σ first E X g U' A' → (T : Spine) × (fill μ β (read (entry_reading first Bs θ 0) (open_term zero (applied_term below D0 g U' A'))) ≡ lambdas (length (taken X)) (root (head_in first Bs θ (length (taken X)) g) T))
    formed (offer_signature c B q t) = of_constant c nil B
    formed (offer_taken j B l g t) =
        let ρ : ℕ → ℕ = lift_renaming_by (length D0) (shift_by (arguments_count B)) in
        let Z : Spine = append (rename_spine (lift_renaming_by (length D0) (shift_by (arguments_count B))) nil) (head_spine (head_masks below D0 (arguments_count B) B) D0 B) in
        let l2 : j < length D0 = subst (λ n. j < n) (sym long_zero) l in
        let (T, e) = variable_form μ first Bs θ β (length D0) 0 0 j Z (subst (λ n. j < n) (none (length D0)) l2) in
        (T, ap (λ i. fill μ β (read (entry_reading first Bs θ 0) (open_term zero (lambdas (length D0) (root (variable i) Z))))) (renaming_near (length D0) (shift_by (arguments_count B)) j l2) ∙ e ∙ ap (λ m. lambdas m (root (variable j) T)) long_zero)
      where
        none : (n : ℕ) → n ≡ n + 0
        none n = omega arith
    formed (offer_entry c U0 B own q t) = of_constant c (rename_spine (shift_by (length (taken X))) U0) (rename_type (shift_by (length (taken X))) (left_type U0 B))

    pub has_head : HasHead first (record { case = E; variable = y; type = X; head = h; terms = U; left = A }) θ (λ i. τ (i + arguments_count A))
    has_head =
        let (T, f) = formed offer in
        let (N, p) = value_is_term Σ' G (entry_reading first Bs θ) V σ strip.0 y X at in
        let n : as_term (skeleton X) (τ x') ≡ N = ap (λ i. as_term (skeleton X) (τ i)) (sym (sums y k)) ∙ ap (as_term (skeleton X)) p in
        (T, p ∙ ap (put (skeleton X)) (sym n ∙ sym left ∙ u.1.1.0 ∙ f))

pub unifier_has_head : UnifierHasHead
unifier_has_head Σ ok W typed below first free C tc x X at o (of_case h U A f) K q S Σ' ext G w θ τ inst β same u = (back Σ Σ' ok S ext W typed first free below C tc x X at h U A f K q w θ τ inst, has_head Σ Σ' ok S ext W typed first free below C tc x X at h U A f K q w θ τ inst β same u)
unifier_has_head Σ ok W typed below first free C tc x X at o (of_new_block B c U A m n f) K q S Σ' ext G w θ τ inst β same u =
    let E : NumberedCase = with_new_block B C in
    let te : IsTypedNumberedCase Σ first W E = new_block_stays_typed Σ ok W typed first free C tc B m in
    let Y : LfType = rename_type (shift_by (length B.some)) X in
    let at' : TypeAt E.variables (x + length B.some) Y = far_type B.some C.variables x X at in
    (back Σ Σ' ok S ext W typed first free below E te (x + length B.some) Y at' (constant c) U A f K q w θ τ inst, has_head Σ Σ' ok S ext W typed first free below E te (x + length B.some) Y at' (constant c) U A f K q w θ τ inst β same u)
