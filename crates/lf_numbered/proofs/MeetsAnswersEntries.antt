-- A constant's pattern, or an entry's beside a block variable of the case: where unification solves the store, they share a typed instance.
use Rattle.std.proofs.Common.{◌≡◌, ◌≤◌, ℕ, zero, List, ◌∷◌, length, refl, sym, ap, ◌∙◌, subst}
use Rattle.std.specs.Prelude.{Bool, true, false, Some}
use Rattle.lf.specs.Syntax.{Spine, LfType, Kind}
use Rattle.lf.specs.Substitution.{Image, keep, substitute_image, substitute_spine, reduce}
use Rattle.lf.specs.Typing.{Signature, IsSignature}
use Rattle.lf.specs.Variables.{onto}
use Rattle.lf.specs.Subordination.{Block, AreTypedBlocks}
use Rattle.lf_unification.specs.Solving.{IsWellFormed, Solved}
use Rattle.lf_unification.specs.Unifiers.{Store}
use Rattle.lf_checks.specs.Clause.{Clause}
use Rattle.lf_checks.specs.ModeForms.{argument_count}
use Rattle.lf_cases.specs.Cover.{before}
use Rattle.lf_cases.specs.Pattern.{Origin, of_constant, of_entry, Pattern}
use Rattle.lf_coverage.specs.Leaf.{IsTypedPattern}
use Rattle.lf_numbered.specs.EntryConstants.{entry_images, with_entries, IsFreeFrom}
use Rattle.lf_numbered.specs.EntryPatterns.{some_images, variable_images}
use Rattle.lf_numbered.specs.EntryTerms.{IsTried}
use Rattle.lf_numbered.specs.MeetsAnswers.{FitsPattern}
use Rattle.lf_numbered.specs.NumberedCallsMeeting.{SharesInstance}
use Rattle.lf_numbered.specs.NumberedCallsStores.{Identifies, identified, move_blocks, meet_store_by_number}
use Rattle.lf_numbered.specs.NumberedCase.{NumberedCase}
use Rattle.lf_numbered.specs.NumberedInstance.{block_at, first_constant, moved_constant, move_spine}
use Rattle.lf_numbered.specs.OwnTerms.{BlockVariable, blocks_of, own_terms}
use Rattle.lf_numbered.specs.TypedNumbered.{IsTypedNumberedCase}
use Rattle.lf_numbered.specs.WritingRoom.{move_image}
use Rattle.lf_numbered.proofs.EntryPatternsNear.{before_images}
use Rattle.lf_numbered.proofs.EntryPatternsTyped.{typed_at}
use Rattle.lf_numbered.proofs.EntryValues.{count_some}
use Rattle.lf_numbered.proofs.IdentifiedConstants.{variable_stays}
use Rattle.lf_numbered.proofs.MeetsAnswersBeside.{before_moved, images_put, put_at}
use Rattle.lf_numbered.proofs.MeetsAnswersForm.{φ}
use Rattle.lf_numbered.proofs.MeetsAnswersRead.{blocks_same}
use Rattle.lf_numbered.proofs.MeetsAnswersEquations.{count_moved}
use Rattle.lf_numbered.proofs.MeetsAnswersSame.{υ}
use Rattle.lf_numbered.proofs.MeetsAnswersCommon.{D, outside_value, placed_form, placed_solved, shares, zero_stays}
use Rattle.lf_numbered.proofs.MovedConstants.{blocks_stay, moved_at, moved_from}
use mathlib.Core.Path.{fun_ext}

-- A constant's pattern, and an entry's beside a block variable of the case
module _ (Σ : Signature) (ok : IsSignature Σ) (W : List Block) (typed : AreTypedBlocks Σ W) (first : ℕ) (free : IsFreeFrom Σ first) (C : NumberedCase) (tc : IsTypedNumberedCase Σ first W C) (K : Kind) (A : LfType) (b : Bool) (π : ℕ → ℕ) (ids : Identifies C π) (oldest : (k : ℕ) → π k ≤ k) (finish : Store) where
  abbrev γ : ℕ → ℕ
  γ = moved_constant first (blocks_of C.blocks) (blocks_of C.blocks) π

  abbrev J : NumberedCase
  J = identified first π C

  abbrev ΣJ : Signature
  ΣJ = with_entries Σ first (blocks_of J.blocks)

  abbrev pub pattern_of : {c : Clause} → Origin c → Pattern
  pattern_of {c = c} o = record { clause = c; origin = o; type = A; at_first = b }

  abbrev pub ShareAs : {c : Clause} → Origin c → Type 0
  ShareAs o = (h : SharesInstance Σ first W C (pattern_of o)) × (h.numbers ≡ π) × (blocks_of h.common.blocks ≡ blocks_of C.blocks)

  pub of_constants : (U : LfType) → IsTypedPattern Σ (pattern_of (of_constant U)) → FitsPattern Σ W C (pattern_of (of_constant U)) K → IsWellFormed ΣJ (meet_store_by_number π J (pattern_of (of_constant U)) keep K) → Solved ΣJ (meet_store_by_number π J (pattern_of (of_constant U)) keep K) finish → ShareAs (of_constant U)
  of_constants U tp fits form s = shares Σ ok W typed first free C tc (pattern_of (of_constant U)) tp K fits π ids oldest keep refl finish form s tt

  module _ (B : Block) (later : List LfType) (E : LfType) (es : List LfType) (e : onto later (E ∷ es) ≡ B.entries) (tp : IsTypedPattern Σ (pattern_of (of_entry B later E es e))) (fits : FitsPattern Σ W C (pattern_of (of_entry B later E es e)) K) (k : ℕ) (fixed : π k ≡ k) (z : b ≡ true → k ≡ π zero) where
    abbrev p : Pattern
    p = pattern_of (of_entry B later E es e)

    module _ (U : Spine) (at : block_at C.blocks k ≡ Some (record { block = B; terms = U })) where
      abbrev m : ℕ
      m = first_constant first (blocks_of C.blocks) k

      abbrev φ₀ : ℕ → Image
      φ₀ = before later (variable_images first C.blocks k B U)

      tried : IsTried first C p.origin false φ₀
      tried = (k, U, at, (λ r. absurd (no r)), refl)
        where
          no : false ≡ true → ⊥
          no r = cc

      stays : (i : ℕ) → entry_images m (move_spine γ U) B.entries (some_images B.some (move_spine γ U)) i ≡ move_image γ (variable_images first C.blocks k B U i)
      stays i = sym (variable_stays Σ ok W typed first free C tc.variables π ids k B U at fixed i)

      outer_is : before later (variable_images first J.blocks k B (move_spine γ U)) ≡ (λ i. move_image γ (φ₀ i))
      outer_is = ap (λ Bs. before later (entry_images (first_constant first Bs k) (move_spine γ U) B.entries (some_images B.some (move_spine γ U)))) (blocks_stay γ C.blocks) ∙ ap (before later) (fun_ext stays) ∙ before_moved γ later (variable_images first C.blocks k B U)

      -- the part of the block before the entry
      part : (j : ℕ) (V : Spine) (l : ℕ) → before later (entry_images j V B.entries (some_images B.some V)) l ≡ entry_images j V es (some_images B.some V) l
      part j V l = ap (λ L. before later (entry_images j V L (some_images B.some V)) l) (sym e) ∙ before_images j V later E es (some_images B.some V) l

      count : argument_count (move_spine γ U) ≡ length B.some
      count = let (i, (τ, u, q), w) = typed_at (with_entries Σ first (blocks_of C.blocks)) W C.variables (own_terms first C.blocks) C.blocks tc.variables.blocks k (record { block = B; terms = U }) at in count_moved γ U ∙ ap argument_count q ∙ count_some B.some τ

      beside : IsWellFormed ΣJ (meet_store_by_number π J p (before later (variable_images first J.blocks k B (move_spine γ U))) K) → Solved ΣJ (meet_store_by_number π J p (before later (variable_images first J.blocks k B (move_spine γ U))) K) finish → ShareAs (of_entry B later E es e)
      beside form0 s0 =
          let form : IsWellFormed ΣJ (meet_store_by_number π J p (φ Σ ok W typed first free C tc p tp π ids φ₀ tried) K) = subst (λ f. IsWellFormed ΣJ (meet_store_by_number π J p f K)) outer_is form0 in
          let s : Solved ΣJ (meet_store_by_number π J p (φ Σ ok W typed first free C tc p tp π ids φ₀ tried) K) finish = subst (λ f. Solved ΣJ (meet_store_by_number π J p f K) finish) outer_is s0 in
          let pf = placed_form Σ ok W typed first free C tc p tp K fits π ids oldest φ₀ tried finish form s in
          let ps = placed_solved Σ ok W typed first free C tc p tp K fits π ids oldest φ₀ tried finish form s in
          let χ : ℕ → Image = υ Σ ok W typed first free C tc p tp π ids φ₀ tried K finish ps in
          let V : Spine = substitute_spine reduce χ (move_spine γ U) in
          let same : first_constant first (blocks_of C.blocks) k ≡ first_constant first (blocks_of (D Σ ok W typed first free C tc p tp K fits π ids oldest φ₀ tried finish form s).blocks) k = ap (λ Bs. first_constant first Bs k) (sym (blocks_same Σ ok W typed first free C tc p tp π ids φ₀ tried K finish ps fits.same_local pf)) in
          shares Σ ok W typed first free C tc p tp K fits π ids oldest φ₀ tried finish form s (
            k,
            V,
            put_at χ (move_blocks γ C.blocks) k (record { block = B; terms = move_spine γ U }) (moved_at γ C.blocks k (record { block = B; terms = U }) at),
            (λ r. z r ∙ zero_stays π oldest),
            (λ l Z g.
                outside_value Σ ok W typed first free C tc p tp K fits π ids oldest φ₀ tried finish form s l
                ∙ ap (λ f. substitute_image χ (f l)) (sym (ap (before later) (fun_ext stays) ∙ before_moved γ later (variable_images first C.blocks k B U)))
                ∙ ap (substitute_image χ) (part m (move_spine γ U) l)
                ∙ images_put χ m (move_spine γ U) es B.some count l Z g
                ∙ ap (λ j. entry_images j V es (some_images B.some V) l) same
                ∙ sym (part _ V l)),
          )

    pub of_entries : (U : Spine) → block_at J.blocks k ≡ Some (record { block = B; terms = U }) → IsWellFormed ΣJ (meet_store_by_number π J p (before later (variable_images first J.blocks k B U)) K) → Solved ΣJ (meet_store_by_number π J p (before later (variable_images first J.blocks k B U)) K) finish → ShareAs (of_entry B later E es e)
    of_entries U at form s =
        let (c, there, q) = moved_from γ C.blocks k (record { block = B; terms = U }) at in
        let terms : U ≡ move_spine γ c.terms = ap (λ (d : BlockVariable). d.terms) q in
        let here : block_at C.blocks k ≡ Some (record { block = B; terms = c.terms }) = there ∙ ap (λ D. Some (record { block = D; terms = c.terms })) (sym (ap (λ (d : BlockVariable). d.block) q)) in
        beside c.terms here (subst (λ V. IsWellFormed ΣJ (meet_store_by_number π J p (before later (variable_images first J.blocks k B V)) K)) terms form) (subst (λ V. Solved ΣJ (meet_store_by_number π J p (before later (variable_images first J.blocks k B V)) K) finish) terms s)
