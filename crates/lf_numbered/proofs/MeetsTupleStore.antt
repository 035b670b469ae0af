-- A tuple that a case holds and a pattern has, where the case's block variables are one by π, is a typed unifier of their store at a place of the pattern.
use Rattle.std.proofs.Common.{◌≡◌, ◌<◌, ℕ, zero, ◌+◌, List, [], ◌∷◌, length, refl, sym, ap, ◌∙◌, subst, arith, suc}
use Rattle.std.specs.Prelude.{Bool, true, Option, Some}
use Rattle.lf.specs.Syntax.{Term, Spine, nil, LfType, atom, Kind, Skeleton, skeleton, rename_spine, rename_type, weaken}
use Rattle.lf.specs.Substitution.{Image, put, substitute, substitute_image, substitute_spine, substitute_type, reduce, after}
use Rattle.lf.specs.AtOnce.{shift_by, lift_renaming_by}
use Rattle.lf.specs.Entries.{quantifiers}
use Rattle.lf.specs.SkeletonTyping.{SpineSkeleton, RenamingBySkeletons}
use Rattle.lf.specs.Skeletons.{constant_skeletons, context_skeletons}
use Rattle.lf.specs.Typing.{Signature, TypeAt, IsTypedSubstitution, ImageHasType, IsType, IsContext, IsSignature}
use Rattle.lf.specs.Variables.{target_arguments, onto, binders, Values}
use Rattle.lf.specs.Subordination.{Block}
use Rattle.lf.specs.Worlds.{World, lift_over, instance}
use Rattle.lf.proofs.Growth.{growth_keeps_types}
use Rattle.lf.proofs.Renaming.{substitute_renamed, substitute_renamed_spine}
use Rattle.lf.proofs.SkeletonTyping.{renaming_keeps_spine_skeletons}
use Rattle.lf.proofs.Weakening.{declared_is_type}
use Rattle.lf.proofs.TypeLaws.{skeleton_renamed, skeleton_substituted}
use Rattle.lf_unification.specs.Filling.{fill_spine}
use Rattle.lf_unification.specs.OpenTyping.{skeletons_of, under_locals}
use Rattle.lf_unification.specs.Offering.{pi_over}
use Rattle.lf_unification.specs.Unifiers.{Solution, SolvesAll}
use Rattle.lf_cases.specs.Case.{HasArguments, as_term, covered_places}
use Rattle.lf_cases.specs.Pattern.{given_at}
use Rattle.lf_cases.proofs.Local.{binders_substituted}
use Rattle.lf_cases.proofs.OutputItems.{length_instance}
use Rattle.lf_checks.specs.Ground.{UsesGoal}
use Rattle.lf_checks.specs.Marks.{SamePlaces}
use Rattle.lf_coverage.specs.Heads.{HaveSkeletons}
use Rattle.lf_coverage.specs.MeetStore.{open_arguments, place_equations, given_equations}
use Rattle.lf_coverage.specs.SplitStore.{open_locals, open_spine, context_metavariables}
use Rattle.lf_coverage.proofs.Meeting.{open_length, solves_both}
use Rattle.lf_coverage.proofs.Forms.{far_type}
use Rattle.lf_coverage.proofs.Parts.{some_same}
use Rattle.lf_numbered.specs.EntryConstants.{with_entries}
use Rattle.lf_numbered.specs.NewBlock.{rename_all}
use Rattle.lf_numbered.specs.NumberedArguments.{read_over, read_all}
use Rattle.lf_numbered.specs.NumberedCallsStores.{identified, identity_equations, move_blocks}
use Rattle.lf_numbered.specs.NumberedCase.{NumberedCase}
use Rattle.lf_numbered.specs.NumberedInstance.{block_at, moved_constant, move, move_all, move_spine, move_type, move_types}
use Rattle.lf_numbered.specs.OwnTerms.{BlockVariable, blocks_of, rename_blocks, terms_at}
use Rattle.lf_numbered.specs.Reading.{entry_reading}
use Rattle.lf_numbered.specs.TypedNumbered.{IsTypedNumberedCase}
use Rattle.lf_numbered.specs.WritingLaws.{IsInstanceWithRoom}
use Rattle.lf_numbered.specs.WritingRoom.{move_image}
use Rattle.lf_numbered.proofs.EntryPatternsNear.{binders_count}
use Rattle.lf_numbered.proofs.EntrySignature.{grown_contexts, grown_image}
use Rattle.lf_numbered.proofs.IdentifiedConstants.{kinds_stay, old_stays, types_stay}
use Rattle.lf_numbered.proofs.MeetsTupleForms.{all_renamed, block_from, given_from, places_stay, store_form, terms_to}
use Rattle.lf_numbered.proofs.MeetsTupleParts as parts
use Rattle.lf_numbered.proofs.MeetsTuplePattern.{case_values, last, l2, put_typed, spine_same as same_spines, tuple, tuple_of_case, tuple_of_pattern, values, values_context, values_far, values_known, values_typed, values_used, writing, writing_typed, written_so}
use Rattle.lf_numbered.proofs.MeetsTupleSolving.{filling, identity_solved, instance_is_typed, pattern_filled, fits, stands}
use Rattle.lf_numbered.proofs.MeetsTupleWriting.{AreOne}
use Rattle.lf_numbered.proofs.MovedConstants.{length_moved}
use Rattle.lf_numbered.proofs.NumberedTuplesWritten.{binders_put}
use Rattle.lf_numbered.proofs.PlacesSolved.{case_places, given_solved, past_skeletons}
use Rattle.lf_numbered.proofs.WritingGap.{same_old}
use Rattle.lf_numbered.proofs.WritingInstance.{own_types}
use Rattle.lf_numbered.proofs.WritingMove.{move_type_substituted, moved_image}
use Rattle.lf_numbered.proofs.WritingRead.{arguments_written, WritesAs}
use Rattle.lf_numbered.proofs.WritingReadTyped.{more_context}
use mathlib.Core.Path.{fun_ext}

-- a variable of a clause itself among those of its store
near_instance : (D O Q : List LfType) (φ : ℕ → Image) (i : ℕ) (X : LfType) → TypeAt (onto D O) i X → i < length D → (A : LfType) × TypeAt (onto (instance D φ) Q) i A × (skeleton A ≡ skeleton X)
near_instance [] O Q φ i X h l = absurd (none l)
  where
    none : i < 0 → ⊥
    none l = omega (arith, l)
near_instance (B ∷ D) O Q φ zero X e l = (weaken (substitute_type reduce (lift_over D φ) B), refl, skeleton_renamed suc (substitute_type reduce (lift_over D φ) B) ∙ skeleton_substituted reduce (lift_over D φ) B ∙ sym (ap skeleton e ∙ skeleton_renamed suc B))
near_instance (B ∷ D) O Q φ (suc i) X (Y, h, e) l =
    let (A, g, q) = near_instance D O Q φ i Y h (less l) in
    (weaken A, (A, g, refl), skeleton_renamed suc A ∙ q ∙ sym (ap skeleton e ∙ skeleton_renamed suc Y))
  where
    less : suc i < suc (length D) → i < length D
    less l = omega (arith, l)

module _ (Σ Σ' : Signature) {W : List Block} {S : ℕ → Bool} {G : List LfType} (w : World Σ' W S G) (first : ℕ) (C : NumberedCase) (θ : ℕ → ℕ → Image) (σ : ℕ → Image) (r : IsInstanceWithRoom Σ w first C θ σ) (π : ℕ → ℕ) (one : AreOne C θ π) (tc : IsTypedNumberedCase Σ first W C) (F : List LfType) (ρ : ℕ → Image) (h : WritesAs Σ' first (blocks_of C.blocks) θ (moved_constant first (blocks_of C.blocks) (blocks_of C.blocks) π) G F ρ) (K : Kind) (T : Spine) (held : HasArguments (lift_over C.local σ) (read_all (read_over C.local (entry_reading first (blocks_of C.blocks) θ (length C.variables))) C.arguments) T) where
  abbrev γ : ℕ → ℕ
  γ = moved_constant first (blocks_of C.blocks) (blocks_of C.blocks) π

  abbrev Σ₁ : Signature
  Σ₁ = with_entries Σ first (blocks_of C.blocks)

  abbrev Σe : Signature
  Σe = with_entries Σ' first (blocks_of C.blocks)

  abbrev Q : List LfType
  Q = move_types γ C.variables

  ok : IsSignature (with_entries Σ' first (blocks_of C.blocks))
  ok = parts.ok Σ Σ' w first C θ σ r π one tc F ρ h

  more : (c : ℕ) (A : LfType) → Σ₁.types c ≡ Some A → Σe.types c ≡ Some A
  more = parts.more Σ Σ' w first C θ σ r π one tc F ρ h

  cq : IsContext (with_entries Σ' first (blocks_of C.blocks)) Q
  cq = parts.cq Σ Σ' w first C θ σ r π one tc F ρ h

  tψ : IsTypedSubstitution (with_entries Σ' first (blocks_of C.blocks)) Q F (after ρ σ)
  tψ = parts.tψ Σ Σ' w first C θ σ r π one tc F ρ h

  arguments_fit : (L : List LfType) (Ms : List (Option Term)) → HaveSkeletons (constant_skeletons Σ₁) (context_skeletons (onto L C.variables)) Ms → HaveSkeletons (constant_skeletons Σe) (context_skeletons (onto L Q)) (move_all γ Ms)
  arguments_fit = parts.arguments_fit Σ Σ' w first C θ σ r π one tc F ρ h

  block_fits : (j : ℕ) (b : BlockVariable) → block_at C.blocks j ≡ Some b → SpineSkeleton (constant_skeletons Σe) (context_skeletons Q) (move_spine γ b.terms) (skeleton (pi_over b.block.some (atom 0 nil))) (skeleton (atom 0 nil))
  block_fits = parts.block_fits Σ Σ' w first C θ σ r π one tc F ρ h

  block_same : (j : ℕ) (b c : BlockVariable) → block_at C.blocks j ≡ Some b → block_at C.blocks (π j) ≡ Some c → c.block ≡ b.block → substitute_spine reduce (after ρ σ) (move_spine γ b.terms) ≡ substitute_spine reduce (after ρ σ) (move_spine γ c.terms)
  block_same = parts.block_same Σ Σ' w first C θ σ r π one tc F ρ h

  -- The pattern: its clause's own variables D over what stands outside it, O
  module _ (U P : LfType) (O : List LfType) (ct : IsContext Σ (onto (binders [] U) O)) (tp : IsType Σ (onto (binders [] U) O) P) (l : length C.local ≡ length (binders [] P)) (used : ℕ → Bool) (τ : ℕ → Image) (v : Values Σ' used (onto (binders [] U) O) G τ) (uses : UsesGoal used (covered_places C.arguments) P) (same : SamePlaces (covered_places C.arguments) T (target_arguments (substitute_type reduce τ P))) (known : ℕ → Bool) (g : ℕ → Image) (tg : Values (with_entries Σ first (blocks_of C.blocks)) known (onto (binders [] U) O) C.variables g) (all : (k : ℕ) → known (k + length (binders [] U)) ≡ true) (φ : ℕ → Image) (outer : (k : ℕ) → g (k + length (binders [] U)) ≡ φ k) (tφ : IsTypedSubstitution (with_entries Σ first (blocks_of C.blocks)) O C.variables φ) (alike : (i : ℕ) (X : LfType) → TypeAt (onto (binders [] U) O) i X → used i ≡ true → known i ≡ true → as_term (skeleton X) (substitute_image ρ (τ i)) ≡ as_term (skeleton X) (substitute_image (after ρ σ) (move_image (moved_constant first (blocks_of C.blocks) (blocks_of C.blocks) π) (g i)))) (given : (i : ℕ) (M : Term) → given_at C.given i ≡ Some M → (i < length (binders [] U)) × (known i ≡ true) × (a : Skeleton) × (g i ≡ put a M)) where
    abbrev D : List LfType
    D = binders [] U

    abbrev φ₂ : ℕ → Image
    φ₂ k = move_image γ (φ k)

    abbrev g₂ : ℕ → Image
    g₂ k = move_image γ (g k)

    old_type : (X : List LfType) (A : LfType) → IsType Σ X A → move_type γ A ≡ A
    old_type X A a = same_old Σ γ X A (old_stays Σ r.signature W r.blocks first r.free C r.variables π one.identifies) a

    own_more : (c : ℕ) (A : LfType) → Σ.types c ≡ Some A → Σe.types c ≡ Some A
    own_more c A e = own_types Σ Σ' w first C θ σ r c A (r.extends.types_stay c A e)

    cy : IsContext (with_entries Σ' first (blocks_of C.blocks)) (onto (binders [] U) O)
    cy = grown_contexts Σ Σe own_more r.extends.kinds_stay (onto D O) ct

    grown : Values (with_entries Σ' first (blocks_of C.blocks)) used (onto (binders [] U) O) G τ
    grown = record { typed = λ i A k u. grown_image Σ' Σe (own_types Σ Σ' w first C θ σ r) (λ a L e. e) G (τ i) (substitute_type reduce τ A) (v.typed i A k u); closed = v.closed }

    image_moved : (x : Image) (A : LfType) → ImageHasType Σ₁ C.variables x A → ImageHasType Σe Q (move_image γ x) (move_type γ A)
    image_moved x A t = grown_image Σ₁ Σe more r.extends.kinds_stay Q (move_image γ x) (move_type γ A) (moved_image γ Σ₁ Σ₁ (types_stay Σ r.signature W r.blocks first r.free C r.variables π one.identifies) (kinds_stay Σ r.signature W r.blocks first r.free C r.variables π one.identifies) C.variables x A t)

    tg₂ : Values (with_entries Σ' first (blocks_of C.blocks)) known (onto (binders [] U) O) Q g₂
    tg₂ = record {
      typed = λ i A k u. subst (ImageHasType Σe Q (move_image γ (g i))) (move_type_substituted γ g A ∙ ap (substitute_type reduce g₂) (old_type (onto D O) A (declared_is_type Σ r.signature (onto D O) i A ct k))) (image_moved (g i) (substitute_type reduce g A) (tg.typed i A k u));
      closed = tg.closed;
    }

    outer_context : (L : List LfType) → IsContext Σ (onto L O) → IsContext Σ O
    outer_context [] c = c
    outer_context (A ∷ L) (c, a) = outer_context L c

    tφ₂ : IsTypedSubstitution (with_entries Σ' first (blocks_of C.blocks)) O Q φ₂
    tφ₂ k A t = subst (ImageHasType Σe Q (move_image γ (φ k))) (move_type_substituted γ φ A ∙ ap (substitute_type reduce φ₂) (old_type O A (declared_is_type Σ r.signature O k A (outer_context D ct) t))) (image_moved (φ k) (substitute_type reduce φ A) (tφ k A t))

    outer₂ : (k : ℕ) → g₂ (k + length D) ≡ φ₂ k
    outer₂ k = ap (move_image γ) (outer k)

    cg : IsContext (with_entries Σ' first (blocks_of C.blocks)) G
    cg = more_context Σ Σ' w first C θ σ r F ρ h

    abbrev X : List LfType
    X = onto (instance (binders [] U) φ₂) Q

    abbrev PT : LfType
    PT = substitute_type reduce (lift_over (binders [] U) φ₂) P

    abbrev H : List LfType
    H = last Σe ok G F cg h.context ρ h.typed D O cy used τ grown Q cq (after ρ σ) tψ known g₂ tg₂ all φ₂ outer₂ tφ₂ alike

    abbrev χ : ℕ → Image
    χ = values Σe ok G F cg h.context ρ h.typed D O cy used τ grown Q cq (after ρ σ) tψ known g₂ tg₂ all φ₂ outer₂ tφ₂ alike

    abbrev ψ : ℕ → Image
    ψ = case_values Σe ok G F cg h.context ρ h.typed D O cy used τ grown Q cq (after ρ σ) tψ known g₂ tg₂ all φ₂ outer₂ tφ₂ alike

    cx : IsContext (with_entries Σ' first (blocks_of C.blocks)) X
    cx = values_context Σe ok G F cg h.context ρ h.typed D O cy used τ grown Q cq (after ρ σ) tψ known g₂ tg₂ all φ₂ outer₂ tφ₂ alike

    ch : IsContext (with_entries Σ' first (blocks_of C.blocks)) H
    ch = (l2 Σe ok G F cg h.context ρ h.typed D O cy used τ grown Q cq (after ρ σ) tψ known g₂ tg₂ all φ₂ outer₂ tφ₂ alike).is_context

    tχ : IsTypedSubstitution (with_entries Σ' first (blocks_of C.blocks)) X H χ
    tχ = values_typed Σe ok G F cg h.context ρ h.typed D O cy used τ grown Q cq (after ρ σ) tψ known g₂ tg₂ all φ₂ outer₂ tφ₂ alike

    far : (i : ℕ) → χ (i + length (instance (binders [] U) φ₂)) ≡ ψ i
    far = values_far Σe ok G F cg h.context ρ h.typed D O cy used τ grown Q cq (after ρ σ) tψ known g₂ tg₂ all φ₂ outer₂ tφ₂ alike

    abbrev n : ℕ
    n = length (instance (binders [] U) φ₂)

    abbrev β : ℕ → Option Term
    β = filling Σe ok X H cx ch χ tχ

    abbrev μ : ℕ → Skeleton
    μ = skeletons_of (context_metavariables X)

    spine_over : (V : Spine) → substitute_spine reduce χ (rename_spine (shift_by n) V) ≡ substitute_spine reduce ψ V
    spine_over V = substitute_renamed_spine reduce χ (shift_by n) V ∙ ap (λ f. substitute_spine reduce f V) (fun_ext far)

    spine_same : (V V' : Spine) → substitute_spine reduce (after ρ σ) V ≡ substitute_spine reduce (after ρ σ) V' → substitute_spine reduce ψ V ≡ substitute_spine reduce ψ V'
    spine_same = same_spines Σe ok G F cg h.context ρ h.typed D O cy used τ grown Q cq (after ρ σ) tψ known g₂ tg₂ all φ₂ outer₂ tφ₂ alike

    abbrev bs : List BlockVariable
    bs = rename_blocks (shift_by n) (move_blocks γ C.blocks)

    to_store : RenamingBySkeletons (context_skeletons Q) (context_skeletons X) (shift_by n)
    to_store = past_skeletons (instance D φ₂) Q

    identities : SolvesAll μ β (identity_equations π bs zero bs)
    identities = identity_solved Σe ok X H cx ch χ tχ π bs zero bs each
      where
        left : (j : ℕ) → zero + j ≡ j
        left j = omega arith

        each : (j : ℕ) (d : BlockVariable) (V : Spine) → block_at bs j ≡ Some d → terms_at bs (π (zero + j)) ≡ Some V → (t : Skeleton) × (u : Skeleton) × SpineSkeleton (constant_skeletons Σe) (context_skeletons X) d.terms t u × SpineSkeleton (constant_skeletons Σe) (context_skeletons X) V t u × (substitute_spine reduce χ d.terms ≡ substitute_spine reduce χ V)
        each j d V e f =
            let (b, at, q) = block_from (shift_by n) γ C.blocks j d e in
            let (c, there, s, fixed) = one.identifies j b at in
            let q' : V ≡ rename_spine (shift_by n) (move_spine γ c.terms) = sym (some_same (sym (terms_to (shift_by n) γ C.blocks (π j) c there) ∙ ap (λ k. terms_at bs (π k)) (sym (left j)) ∙ f)) in
            let t : Skeleton = skeleton (pi_over b.block.some (atom 0 nil)) in
            let u : Skeleton = skeleton (atom 0 nil) in
            let fit : SpineSkeleton (constant_skeletons Σe) (context_skeletons X) (rename_spine (shift_by n) (move_spine γ b.terms)) t u = renaming_keeps_spine_skeletons (constant_skeletons Σe) (context_skeletons Q) (context_skeletons X) (shift_by n) (move_spine γ b.terms) t u to_store (block_fits j b at) in
            let fit' : SpineSkeleton (constant_skeletons Σe) (context_skeletons X) (rename_spine (shift_by n) (move_spine γ c.terms)) t u = renaming_keeps_spine_skeletons (constant_skeletons Σe) (context_skeletons Q) (context_skeletons X) (shift_by n) (move_spine γ c.terms) t u to_store (subst (λ (B : Block). SpineSkeleton (constant_skeletons Σe) (context_skeletons Q) (move_spine γ c.terms) (skeleton (pi_over B.some (atom 0 nil))) u) s (block_fits (π j) c there)) in (
              t,
              u,
              subst (λ Z. SpineSkeleton (constant_skeletons Σe) (context_skeletons X) Z t u) (sym q) fit,
              subst (λ Z. SpineSkeleton (constant_skeletons Σe) (context_skeletons X) Z t u) (sym q') fit',
              ap (substitute_spine reduce χ) q ∙ spine_over (move_spine γ b.terms) ∙ spine_same (move_spine γ b.terms) (move_spine γ c.terms) (block_same j b c at there s) ∙ sym (spine_over (move_spine γ c.terms)) ∙ ap (substitute_spine reduce χ) (sym q'),
            )

    givens : SolvesAll μ β (given_equations X zero (rename_all (shift_by n) (move_all γ C.given)))
    givens = given_solved Σe X H χ (filling Σe ok X H cx ch χ tχ) (fits Σe ok X H cx ch χ tχ) (stands Σe ok X H cx ch χ tχ) (rename_all (shift_by n) (move_all γ C.given)) zero (all_renamed (constant_skeletons Σe) (context_skeletons Q) (context_skeletons X) (shift_by n) to_store (move_all γ C.given) (arguments_fit [] C.given tc.given)) each
      where
        none : (i : ℕ) → i + zero ≡ i
        none i = omega arith

        each : (i : ℕ) (N : Term) (A : LfType) → given_at (rename_all (shift_by n) (move_all γ C.given)) i ≡ Some N → TypeAt X (i + zero) A → (a : Skeleton) × (χ (i + zero) ≡ put a (substitute reduce χ N))
        each i N A e k =
            let (M, at, q) = given_from (shift_by n) γ C.given i N e in
            let (less, known_i, a, z) = given i M at in (
              a,
              ap χ (none i)
                  ∙ values_known Σe ok G F cg h.context ρ h.typed D O cy used τ grown Q cq (after ρ σ) tψ known g₂ tg₂ all φ₂ outer₂ tφ₂ alike i less known_i
                  ∙ ap (λ y. substitute_image ψ (move_image γ y)) z
                  ∙ ap (put a) (ap (λ f. substitute reduce f (move γ M)) (sym (fun_ext far)) ∙ sym (substitute_renamed reduce χ (shift_by n) (move γ M)) ∙ ap (substitute reduce χ) (sym q)),
            )

    pt : IsType (with_entries Σ' first (blocks_of C.blocks)) X PT
    pt = put_typed Σe ok G F cg h.context ρ h.typed D O cy used τ grown Q cq (after ρ σ) tψ known g₂ tg₂ all φ₂ outer₂ tφ₂ alike P (growth_keeps_types Σ Σe own_more r.extends.kinds_stay (onto D O) P tp)

    lp : length C.local ≡ length (binders [] PT)
    lp = l ∙ sym (binders_put [] [] (lift_over D φ₂) P refl)

    places : SolvesAll μ β (place_equations (open_locals (binders [] PT)) (open_arguments (length C.local) (rename_all (lift_renaming_by (length C.local) (shift_by n)) (move_all γ C.arguments))) (open_spine (length (binders [] PT)) (target_arguments PT)) K)
    places =
        let V : Spine = tuple Σe ok G F cg h.context ρ h.typed D O cy used τ grown Q cq (after ρ σ) tψ known g₂ tg₂ all φ₂ outer₂ tφ₂ alike C.local T in
        let b : List Bool = covered_places C.arguments in
        case_places Σe (instance D φ₂) Q H χ (filling Σe ok X H cx ch χ tχ) (fits Σe ok X H cx ch χ tχ) (stands Σe ok X H cx ch χ tχ) ψ far C.local (open_locals (binders [] PT)) (open_length (binders [] PT) ∙ sym lp) (move_all γ C.arguments) (open_spine (length (binders [] PT)) (target_arguments PT)) V K
        (arguments_fit C.local C.arguments tc.arguments)
        (tuple_of_case Σe ok G F cg h.context ρ h.typed D O cy used τ grown Q cq (after ρ σ) tψ known g₂ tg₂ all φ₂ outer₂ tφ₂ alike C.local (move_all γ C.arguments) T (arguments_written Σ Σ' w first C θ σ r F ρ h C.local C.arguments T tc.arguments tc.arguments_on_own held))
        (subst (λ c. SamePlaces c V (fill_spine μ (under_locals (open_locals (binders [] PT)) β) (open_spine (length (binders [] PT)) (target_arguments PT)))) (sym (places_stay γ C.arguments)) (subst (SamePlaces b V) (sym (pattern_filled Σe ok X H cx ch χ tχ PT pt)) (tuple_of_pattern Σe ok G F cg h.context ρ h.typed D O cy used τ grown Q cq (after ρ σ) tψ known g₂ tg₂ all φ₂ outer₂ tφ₂ alike b P C.local T (growth_keeps_types Σ Σe own_more r.extends.kinds_stay (onto D O) P tp) l uses same)))

    solved : Solution (with_entries Σ' first (blocks_of C.blocks)) [] (store_form π (identified first π C) K X n (length C.local) (length C.local) PT) H β
    solved = (instance_is_typed Σe ok X H cx ch χ tχ, (tt, solves_both μ β (identity_equations π bs zero bs) _ identities (solves_both μ β (given_equations X zero (rename_all (shift_by n) (move_all γ C.given))) _ givens places)))

    -- The case's variables have the tuple's values, written.
    abbrev Ξ : ℕ → Image
    Ξ = writing Σe ok G F cg h.context ρ h.typed D O cy used τ grown Q cq (after ρ σ) tψ known g₂ tg₂ all φ₂ outer₂ tφ₂ alike

    of_tuple : (i : ℕ) (A : LfType) → TypeAt Q i A → β (i + n) ≡ Some (as_term (skeleton A) (substitute_image Ξ (σ i)))
    of_tuple i A t = (stands Σe ok X H cx ch χ tχ (i + n) (rename_type (shift_by n) A) (far_type (instance D φ₂) Q i A t)).1 ∙ ap Some (ap (λ a. as_term a (χ (i + n))) (skeleton_renamed (shift_by n) A) ∙ ap (as_term (skeleton A)) (far i ∙ written_so Σe ok G F cg h.context ρ h.typed D O cy used τ grown Q cq (after ρ σ) tψ known g₂ tg₂ all φ₂ outer₂ tφ₂ alike (σ i)))

    of_own : (i : ℕ) (A : LfType) → TypeAt (onto (binders [] U) O) i A → i < length (binders [] U) → used i ≡ true → β i ≡ Some (as_term (skeleton A) (substitute_image Ξ (τ i)))
    of_own i A t less u =
        let (B, g, e) = near_instance D O Q φ₂ i A t less in
        (stands Σe ok X H cx ch χ tχ i B g).1 ∙ ap Some (ap (λ a. as_term a (χ i)) e ∙ values_used Σe ok G F cg h.context ρ h.typed D O cy used τ grown Q cq (after ρ σ) tψ known g₂ tg₂ all φ₂ outer₂ tφ₂ alike i A t less u)

    -- The lemma
    pub unified : (H : List LfType) × (β : ℕ → Option Term) × Solution (with_entries Σ' first (blocks_of C.blocks)) [] (store_form π (identified first π C) K (binders (identified first π C).variables (substitute_type reduce (λ k. move_image (moved_constant first (blocks_of C.blocks) (blocks_of C.blocks) π) (φ k)) U)) (quantifiers U) (length (binders [] (substitute_type reduce (lift_over (binders [] U) (λ k. move_image (moved_constant first (blocks_of C.blocks) (blocks_of C.blocks) π) (φ k))) P))) (length (identified first π C).local) (substitute_type reduce (lift_over (binders [] U) (λ k. move_image (moved_constant first (blocks_of C.blocks) (blocks_of C.blocks) π) (φ k))) P)) H β × (writes : ℕ → Image) × IsTypedSubstitution (with_entries Σ' first (blocks_of C.blocks)) G H writes × ((i : ℕ) (A : LfType) → TypeAt (move_types (moved_constant first (blocks_of C.blocks) (blocks_of C.blocks) π) C.variables) i A → β (i + quantifiers U) ≡ Some (as_term (skeleton A) (substitute_image writes (σ i)))) × ((i : ℕ) (A : LfType) → TypeAt (onto (binders [] U) O) i A → i < length (binders [] U) → used i ≡ true → β i ≡ Some (as_term (skeleton A) (substitute_image writes (τ i))))
    unified = (
      H,
      β,
      subst (λ Y. Solution Σe [] (store_form π (identified first π C) K Y (quantifiers U) (length (binders [] PT)) (length (move_types γ C.local)) PT) H β) (sym (binders_substituted U φ₂ Q))
          (subst (λ k. Solution Σe [] (store_form π (identified first π C) K X k (length (binders [] PT)) (length (move_types γ C.local)) PT) H β) (length_instance D φ₂ ∙ binders_count U)
          (subst (λ k. Solution Σe [] (store_form π (identified first π C) K X n k (length (move_types γ C.local)) PT) H β) lp
          (subst (λ k. Solution Σe [] (store_form π (identified first π C) K X n (length C.local) k PT) H β) (sym (length_moved γ C.local)) solved))),
      Ξ,
      writing_typed Σe ok G F cg h.context ρ h.typed D O cy used τ grown Q cq (after ρ σ) tψ known g₂ tg₂ all φ₂ outer₂ tφ₂ alike,
      (λ i A t. ap (λ k. β (i + k)) (sym (length_instance D φ₂ ∙ binders_count U)) ∙ of_tuple i A t),
      of_own,
    )
