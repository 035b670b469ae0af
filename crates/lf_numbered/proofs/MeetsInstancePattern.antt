-- The values of a pattern's variables in an instance that it shares with a case: what stands outside its clause beside them, over the signature with the block
-- variables of both, and with fresh variables for the others.
use Rattle.std.proofs.Common.{◌≡◌, ℕ, ◌+◌, ◌<◌, List, [], ◌++◌, length, sym, ap, ◌∙◌, subst}
use Rattle.std.specs.Prelude.{Bool, true, Option, Some}
use Rattle.lf.specs.Syntax.{Term, Spine, LfType, Kind, Skeleton, rename, rename_spine}
use Rattle.lf.specs.Substitution.{Image, put, rename_image, substitute, substitute_image, substitute_spine, substitute_type, reduce}
use Rattle.lf.specs.Skeletons.{constant_skeletons, context_skeletons}
use Rattle.lf.specs.AtOnce.{lift_renaming_by}
use Rattle.lf.specs.Typing.{Signature, TypeAt, ImageHasType, IsTypedSubstitution, IsContext, IsSignature}
use Rattle.lf.specs.Variables.{target_arguments, onto, binders, Values}
use Rattle.lf.specs.Subordination.{Block, AreTypedBlocks}
use Rattle.lf.specs.Worlds.{lift_over}
use Rattle.lf.proofs.Growth.{growth_keeps_types}
use Rattle.lf.proofs.Renaming.{rename_substituted, rename_substituted_spine, reduction_is_natural}
use Rattle.lf.proofs.Weakening.{declared_is_type}
use Rattle.lf_unification.specs.Unifiers.{Solution}
use Rattle.lf_checks.specs.Clause.{scope}
use Rattle.lf_checks.specs.Ground.{UsesGoal}
use Rattle.lf_checks.specs.Marks.{SamePlaces}
use Rattle.lf_checks.specs.Tests.{either}
use Rattle.lf_cases.specs.Case.{HasArguments, covered_places}
use Rattle.lf_cases.specs.Cover.{AgreesOutside}
use Rattle.lf_cases.specs.Missing.{put_in}
use Rattle.lf_cases.specs.Pattern.{Pattern, given_at}
use Rattle.lf_totality.proofs.Core.{outer_at}
use Rattle.lf_totality.proofs.RaisedOutputs.{binders_over}
use Rattle.lf_coverage.specs.Heads.{HaveSkeletons}
use Rattle.lf_coverage.specs.Leaf.{IsTypedPattern}
use Rattle.lf_coverage.specs.Matching.{ArePlaces}
use Rattle.lf_coverage.proofs.Choices.{either_first, either_second}
use Rattle.lf_coverage.proofs.FreshValues.{Longer, longer, values_moved, arguments_moved, goal_moved}
use Rattle.lf_coverage.proofs.HeadSplit.{places_put_in}
use Rattle.lf_coverage.proofs.MatchInstance.{same_self}
use Rattle.lf_numbered.specs.EntryConstants.{with_entries, IsFreeFrom}
use Rattle.lf_numbered.specs.NumberedCallsStores.{Identifies, identified, meet_store_by_number}
use Rattle.lf_numbered.specs.NumberedCase.{NumberedCase, AreTypedVariables}
use Rattle.lf_numbered.specs.NumberedInstance.{IsTypedInstanceOf, block_at, moved_constant, move, move_all, move_spine, move_type, move_types}
use Rattle.lf_numbered.specs.OwnTerms.{BlockVariable, blocks_of}
use Rattle.lf_numbered.specs.WritingRoom.{move_image}
use Rattle.lf_numbered.proofs.EntryPatternsNear.{out_far}
use Rattle.lf_numbered.proofs.EntrySignature.{entries_kept, grown_contexts}
use Rattle.lf_numbered.proofs.MeetsInstanceJoined.{AgreePast}
use Rattle.lf_numbered.proofs.MeetsInstanceMoved.{δ, ψ, agree, arguments_typed, arguments_put, case_context, case_values, instance_context, instance_kinds, instance_types, oke, okm, old_kept, some_identified, terms_one}
use Rattle.lf_numbered.proofs.MeetsInstanceNumbers.{both_moved}
use Rattle.lf_numbered.proofs.MeetsInstanceStore.{store_solved}
use Rattle.lf_numbered.proofs.MeetsTupleForms.{places_stay}
use Rattle.lf_numbered.proofs.MovedConstants.{length_moved, given_moved}
use Rattle.lf_numbered.proofs.NumberedArguments.{skeleton_only}
use Rattle.lf_numbered.proofs.Reading.{IsOld}
use Rattle.lf_numbered.proofs.WritingGap.{same_old}
use Rattle.lf_numbered.proofs.WritingMove.{move_substituted, move_type_substituted, moved_image}
use Rattle.lf_numbered.proofs.MeetsInstanceOutside.{past, past_far, image_put, given_onward, given_typed, arguments_of, places_turned, with_outer}

-- The lemma: where the place of the pattern beside the case becomes that in the instance, the instance solves the store.
module _ (Σ : Signature) (ok : IsSignature Σ) (first : ℕ) (free : IsFreeFrom Σ first) (W V : List Block) (typed : AreTypedBlocks Σ W) (typed_more : AreTypedBlocks Σ V) (C M : NumberedCase) (tc : AreTypedVariables Σ first W C) (tm : AreTypedVariables Σ first V M) (ν : ℕ → ℕ) (σ : ℕ → Image) (h : IsTypedInstanceOf Σ first M C ν σ) (hg : M.given ≡ put_in σ (move_all (moved_constant first (blocks_of C.blocks) (blocks_of M.blocks) ν) C.given)) (ha : M.arguments ≡ put_in (lift_over C.local σ) (move_all (moved_constant first (blocks_of C.blocks) (blocks_of M.blocks) ν) C.arguments)) (π : ℕ → ℕ) (i : Identifies C π) (same : (k : ℕ) (b : BlockVariable) → block_at C.blocks k ≡ Some b → ν (π k) ≡ ν k) (only : (j k : ℕ) (b c : BlockVariable) → block_at C.blocks j ≡ Some b → block_at C.blocks k ≡ Some c → ν j ≡ ν k → π j ≡ π k) (ga : HaveSkeletons (constant_skeletons (with_entries Σ first (blocks_of C.blocks))) (context_skeletons C.variables) C.given) (ta : HaveSkeletons (constant_skeletons (with_entries Σ first (blocks_of C.blocks))) (context_skeletons (onto C.local C.variables)) C.arguments) (p : Pattern) (tp : IsTypedPattern Σ p) (l : length C.local ≡ length (binders [] p.type)) where
  abbrev γ : ℕ → ℕ
  γ = moved_constant first (blocks_of C.blocks) (blocks_of C.blocks) π

  abbrev Δ : ℕ → ℕ
  Δ = δ Σ ok first free W V typed typed_more C M tc tm ν σ h π i same only

  abbrev Ψ : ℕ → Image
  Ψ = ψ Σ ok first free W V typed typed_more C M tc tm ν σ h π i same only

  abbrev S : Signature
  S = with_entries Σ first (blocks_of (C.blocks ++ M.blocks))

  abbrev Sm : Signature
  Sm = with_entries Σ first (blocks_of M.blocks)

  abbrev L : List LfType
  L = binders [] p.clause.type

  abbrev Y : List LfType
  Y = move_types Δ M.variables

  module _ (φ : ℕ → Image) (tφ : IsTypedSubstitution (with_entries Σ first (blocks_of (C.blocks ++ M.blocks))) p.clause.outer (move_types (moved_constant first (blocks_of C.blocks) (blocks_of C.blocks) π) C.variables) φ) (ω : ℕ → Image) (tω : IsTypedSubstitution (with_entries Σ first (blocks_of M.blocks)) p.clause.outer M.variables ω) (becomes : (k : ℕ) (A : LfType) → TypeAt p.clause.outer k A → substitute_image (ψ Σ ok first free W V typed typed_more C M tc tm ν σ h π i same only) (φ k) ≡ move_image (δ Σ ok first free W V typed typed_more C M tc tm ν σ h π i same only) (ω k)) (used : ℕ → Bool) (τ : ℕ → Image) (v : Values (with_entries Σ first (blocks_of M.blocks)) used (scope p.clause) M.variables τ) (outside : AgreesOutside p.clause τ ω) (uses : UsesGoal used (covered_places M.arguments) p.type) (given : (k : ℕ) (N : Term) → given_at M.given k ≡ Some N → (a : Skeleton) × (τ k ≡ put a N)) (given_used : (k : ℕ) (N : Term) → given_at C.given k ≡ Some N → (k < length (binders [] p.clause.type)) × (used k ≡ true)) (places : ArePlaces M.arguments (target_arguments (substitute_type reduce τ p.type))) (K : Kind) where
    over : scope p.clause ≡ onto (binders [] p.clause.type) p.clause.outer
    over = binders_over [] p.clause.type p.clause.outer

    grown_outer : IsContext S p.clause.outer
    grown_outer = grown_contexts Σ S (entries_kept Σ first (blocks_of (C.blocks ++ M.blocks))) (λ a K e. e) p.clause.outer tp.outer_typed

    grown_scope : IsContext S (scope p.clause)
    grown_scope = grown_contexts Σ S (entries_kept Σ first (blocks_of (C.blocks ++ M.blocks))) (λ a K e. e) (scope p.clause) tp.clause_typed

    far : (k : ℕ) (A : LfType) → TypeAt p.clause.outer k A → τ (k + length L) ≡ ω k
    far k A g = ap τ (sym (out_far p.clause.type k)) ∙ sym (outer_at p.clause.type τ k) ∙ outside k A g

    abbrev U : ℕ → Bool
    U k = either (used k) (past (binders [] p.clause.type) k)

    known : Values Sm U (scope p.clause) M.variables τ
    known = subst (λ X. Values Sm U X M.variables τ) (sym over) (with_outer Σ Sm ok (entries_kept Σ first (blocks_of M.blocks)) (λ a K e. e) (okm Σ ok first free W V typed typed_more C M tc tm ν σ h π i same only) p.clause.outer L M.variables tp.outer_typed ω τ tω far used (subst (λ X. Values Sm used X M.variables τ) over v))

    abbrev υ : ℕ → Image
    υ k = move_image Δ (τ k)

    stays : (k : ℕ) (A : LfType) → TypeAt (scope p.clause) k A → move_type Δ A ≡ A
    stays k A g = same_old Σ Δ (scope p.clause) A (old_kept Σ ok first free W V typed typed_more C M tc tm ν σ h π i same only) (declared_is_type Σ ok (scope p.clause) k A tp.clause_typed g)

    moved : Values S U (scope p.clause) Y υ
    moved = record {
      typed = λ k A g u. subst (ImageHasType S Y (υ k)) (move_type_substituted Δ τ A ∙ ap (substitute_type reduce υ) (stays k A g)) (moved_image Δ Sm S (instance_types Σ ok first free W V typed typed_more C M tc tm ν σ h π i same only) (instance_kinds Σ ok first free W V typed typed_more C M tc tm ν σ h π i same only) M.variables (τ k) (substitute_type reduce τ A) (known.typed k A g u));
      closed = known.closed;
    }

    abbrev oke' : IsSignature S
    oke' = oke Σ ok first free W V typed typed_more C M tc tm ν σ h π i same only

    fresh : Longer S U (scope p.clause) Y υ
    fresh = longer S oke' [] (λ B m. absurd m) Y (instance_context Σ ok first free W V typed typed_more C M tc tm ν σ h π i same only) (scope p.clause) U υ grown_scope moved

    abbrev X : List LfType
    X = move_types γ C.variables

    abbrev T : Spine
    T = target_arguments (substitute_type reduce τ p.type)

    held : HasArguments (lift_over (move_types γ C.local) Ψ) (move_all γ C.arguments) (move_spine Δ T)
    held = arguments_put Σ ok first free W V typed typed_more C M tc tm ν σ h π i same only C.local C.arguments T ta (subst (λ Ms. ArePlaces Ms T) ha places)

    tuple_is : move_spine Δ T ≡ target_arguments (substitute_type reduce υ p.type)
    tuple_is = arguments_of Δ (substitute_type reduce τ p.type) ∙ ap target_arguments (move_type_substituted Δ τ p.type ∙ ap (substitute_type reduce υ) (same_old Σ Δ (scope p.clause) p.type (old_kept Σ ok first free W V typed typed_more C M tc tm ν σ h π i same only) tp.type_typed))

    chosen : covered_places M.arguments ≡ covered_places (move_all γ C.arguments)
    chosen = ap covered_places ha ∙ places_put_in (lift_over C.local σ) (move_all (moved_constant first (blocks_of C.blocks) (blocks_of M.blocks) ν) C.arguments) ∙ places_stay (moved_constant first (blocks_of C.blocks) (blocks_of M.blocks) ν) C.arguments ∙ sym (places_stay γ C.arguments)

    lengths : length (move_types γ C.local) ≡ length (binders [] p.type)
    lengths = length_moved γ C.local ∙ l

    abbrev ρ : ℕ → ℕ
    ρ = fresh.moves

    abbrev χ : ℕ → Image
    χ = fresh.values

    abbrev ξ : ℕ → Image
    ξ k = rename_image fresh.moves (Ψ k)

    abbrev R : Spine
    R = rename_spine (lift_renaming_by (length (move_types γ C.local)) fresh.moves) (move_spine Δ T)

    agrees : AgreePast p.clause.outer (length L) φ ξ χ
    agrees k A g = sym (image_put ρ Ψ (φ k)) ∙ ap (rename_image ρ) (becomes k A g ∙ ap (move_image Δ) (sym (far k A g))) ∙ fresh.same (k + length L) (either_second (used (k + length L)) (past L (k + length L)) (past_far L k))

    ones : (k : ℕ) (b c : BlockVariable) → block_at (identified first π C).blocks k ≡ Some b → block_at (identified first π C).blocks (π k) ≡ Some c → substitute_spine reduce ξ b.terms ≡ substitute_spine reduce ξ c.terms
    ones k b c e q =
        sym (rename_substituted_spine reduce reduction_is_natural ρ Ψ b.terms)
        ∙ ap (rename_spine ρ) (terms_one Σ ok first free W V typed typed_more C M tc tm ν σ h π i same only k b c e q)
        ∙ rename_substituted_spine reduce reduction_is_natural ρ Ψ c.terms

    given_put : (k : ℕ) (N : Term) → given_at (move_all γ C.given) k ≡ Some N → (k < length L) × ((a : Skeleton) × (χ k ≡ put a (substitute reduce ξ N)))
    given_put k N e =
        let ε : ℕ → ℕ = moved_constant first (blocks_of C.blocks) (blocks_of M.blocks) ν in
        let Σ₁ : Signature = with_entries Σ first (blocks_of C.blocks) in
        let (P, q, r) = given_moved γ C.given k N e in
        let (s, u) = given_used k P q in
        let (a, w) = given k (substitute reduce σ (move ε P)) (ap (λ Ms. given_at Ms k) hg ∙ given_onward ε σ C.given k P q) in
        let (t, m) = given_typed (constant_skeletons Σ₁) (context_skeletons C.variables) C.given k P ga q in (
          s,
          (
            a,
            sym (fresh.same k (either_first (used k) (past L k) u))
                ∙ ap (λ x. rename_image ρ (move_image Δ x)) w
                ∙ ap (λ Q. put a (rename ρ Q)) (move_substituted Δ σ (move ε P) ∙ ap (substitute reduce Ψ) (both_moved (IsOld Σ₁) Δ ε γ (agree Σ ok first free W V typed typed_more C M tc tm ν σ h π i same only) P (skeleton_only Σ₁ (context_skeletons C.variables) P t m) ∙ sym r))
                ∙ ap (put a) (rename_substituted reduce reduction_is_natural ρ Ψ N),
          ),
        )

    same_places : SamePlaces (covered_places (move_all γ C.arguments)) R (target_arguments (substitute_type reduce χ p.type))
    same_places =
        let b : List Bool = covered_places M.arguments in
        let T' : Spine = move_spine Δ T in
        let one : SamePlaces b T' (target_arguments (substitute_type reduce υ p.type)) = subst (SamePlaces b T') tuple_is (places_turned Δ b T (same_self M.arguments T places)) in
        subst (λ c. SamePlaces c R (target_arguments (substitute_type reduce χ p.type))) chosen
        (subst (λ n. SamePlaces b (rename_spine (lift_renaming_by n ρ) T') (target_arguments (substitute_type reduce χ p.type))) (sym lengths)
        (goal_moved [] used ρ υ χ (λ k u. fresh.same k (either_first (used k) (past L k) u)) b p.type T' uses one))

    pub solution : (H : List LfType) × (β : ℕ → Option Term) × Solution (with_entries Σ first (blocks_of (C.blocks ++ M.blocks))) [] (meet_store_by_number π (identified first π C) p φ K) H β
    solution =
        let (β, u) = store_solved S oke' (identified first π C) p π φ
        (arguments_typed Σ ok first free W V typed typed_more C M tc tm ν σ h π i same only [] C.given ga)
        (case_context Σ ok first free W V typed typed_more C M tc tm ν σ h π i same only)
        (some_identified Σ ok first free W V typed typed_more C M tc tm ν σ h π i same only)
        (arguments_typed Σ ok first free W V typed typed_more C M tc tm ν σ h π i same only C.local C.arguments ta)
        grown_outer grown_scope (growth_keeps_types Σ S (entries_kept Σ first (blocks_of (C.blocks ++ M.blocks))) (λ a K e. e) (scope p.clause) p.type tp.type_typed)
        lengths tφ fresh.context fresh.is_context ξ χ
        (values_moved S oke' X Y fresh.context ρ Ψ fresh.renames (case_values Σ ok first free W V typed typed_more C M tc tm ν σ h π i same only))
        fresh.typed agrees ones given_put R
        (arguments_moved (move_types γ C.local) ρ Ψ (move_all γ C.arguments) (move_spine Δ T) held)
        same_places K in
        (fresh.context, β, u)
