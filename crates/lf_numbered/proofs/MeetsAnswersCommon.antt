-- What is read off a solved store of a case and a pattern that is put beside it is shared by both.
use Rattle.std.proofs.Common.{◌≡◌, ◌≤◌, ℕ, zero, ◌+◌, List, [], length, refl, ap, ◌∙◌, subst, arith}
use Rattle.std.specs.Prelude.{false}
use Rattle.lf.specs.Syntax.{LfType, Kind}
use Rattle.lf.specs.Entries.{quantifiers}
use Rattle.lf.specs.Substitution.{Image, substitute_image}
use Rattle.lf.specs.Typing.{Signature, IsSignature}
use Rattle.lf.specs.Variables.{binders}
use Rattle.lf.specs.Subordination.{Block, AreTypedBlocks}
use Rattle.lf_unification.specs.Solving.{IsWellFormed, Solved}
use Rattle.lf_unification.specs.Unifiers.{Store}
use Rattle.lf_checks.specs.Clause.{Clause}
use Rattle.lf_cases.specs.Cover.{outer_images}
use Rattle.lf_cases.specs.Missing.{blocks_with}
use Rattle.lf_cases.specs.Pattern.{Origin, Pattern}
use Rattle.lf_cases.proofs.OutputItems.{lift_over_far}
use Rattle.lf_totality.proofs.Core.{outer_at}
use Rattle.lf_coverage.specs.Leaf.{IsTypedPattern}
use Rattle.lf_numbered.specs.EntryConstants.{with_entries, IsFreeFrom}
use Rattle.lf_numbered.specs.EntryPatterns.{StandsByNumber}
use Rattle.lf_numbered.specs.EntryTerms.{IsTried}
use Rattle.lf_numbered.specs.MeetsAnswers.{FitsPattern}
use Rattle.lf_numbered.specs.NumberedCallsMeeting.{SharesInstance}
use Rattle.lf_numbered.specs.NumberedCallsStores.{Identifies, identified, meet_store_by_number}
use Rattle.lf_numbered.specs.NumberedCase.{NumberedCase, AreTypedVariables}
use Rattle.lf_numbered.specs.NumberedInstance.{moved_constant}
use Rattle.lf_numbered.specs.OwnTerms.{blocks_of, own_terms}
use Rattle.lf_numbered.specs.TypedNumbered.{IsTypedNumberedCase}
use Rattle.lf_numbered.proofs.EntryPatternsNear.{binders_count, out_far}
use Rattle.lf_numbered.proofs.MeetsAnswersBeside.{image_behind}
use Rattle.lf_numbered.proofs.MeetsAnswersForm.{φ, T, X, n, placed_store, store_is}
use Rattle.lf_numbered.proofs.MeetsAnswersPattern.{clause_values, read_has_pattern}
use Rattle.lf_numbered.proofs.MeetsAnswersRead.{blocks_same, read_case, read_is_instance, read_typed}
use Rattle.lf_numbered.proofs.MeetsAnswersSame.{σ, υ}
use Rattle.lf_numbered.proofs.MoreWorlds.{more_worlds, with_more}
use Rattle.lf_numbered.proofs.MovedConstants.{blocks_stay}

pub variables_with : (Σ : Signature) (first : ℕ) (W : List Block) {c : Clause} (p : Origin c) (D : NumberedCase) → AreTypedVariables Σ first W D → AreTypedVariables Σ first (blocks_with p W) D
variables_with Σ first W p D t = record { variables = t.variables; on_own_terms = t.on_own_terms; blocks = more_worlds (with_entries Σ first (blocks_of D.blocks)) W (blocks_with p W) (with_more p W) D.variables (own_terms first D.blocks) D.blocks t.blocks }

pub zero_stays : (π : ℕ → ℕ) → ((k : ℕ) → π k ≤ k) → π zero ≡ zero
zero_stays π h = by (π zero) (h zero)
  where
    by : (m : ℕ) → m ≤ zero → m ≡ zero
    by m l = omega (arith, l)

module _ (Σ : Signature) (ok : IsSignature Σ) (W : List Block) (typed : AreTypedBlocks Σ W) (first : ℕ) (free : IsFreeFrom Σ first) (C : NumberedCase) (tc : IsTypedNumberedCase Σ first W C) (p : Pattern) (tp : IsTypedPattern Σ p) (K : Kind) (fits : FitsPattern Σ W C p K) (π : ℕ → ℕ) (ids : Identifies C π) (oldest : (k : ℕ) → π k ≤ k) where
  abbrev γ : ℕ → ℕ
  γ = moved_constant first (blocks_of C.blocks) (blocks_of C.blocks) π

  abbrev J : NumberedCase
  J = identified first π C

  abbrev ΣJ : Signature
  ΣJ = with_entries Σ first (blocks_of J.blocks)

  abbrev Σ₁ : Signature
  Σ₁ = with_entries Σ first (blocks_of C.blocks)

  signatures : ΣJ ≡ Σ₁
  signatures = ap (with_entries Σ first) (blocks_stay γ C.blocks)

  -- with what is tried for what stands outside
  module _ (φ₀ : ℕ → Image) (tried : IsTried first C p.origin false φ₀) (finish : Store) (form : IsWellFormed ΣJ (meet_store_by_number π J p (φ Σ ok W typed first free C tc p tp π ids φ₀ tried) K)) (s : Solved ΣJ (meet_store_by_number π J p (φ Σ ok W typed first free C tc p tp π ids φ₀ tried) K) finish) where
    abbrev St : Store
    St = placed_store π J K (n Σ ok W typed first free C tc p tp π ids φ₀ tried) (T Σ ok W typed first free C tc p tp π ids φ₀ tried) (X Σ ok W typed first free C tc p tp π ids φ₀ tried)

    pub placed_form : IsWellFormed Σ₁ St
    placed_form = subst (λ Z. IsWellFormed Z St) signatures (subst (IsWellFormed ΣJ) (store_is Σ ok W typed first free C tc p tp π ids φ₀ tried K) form)

    pub placed_solved : Solved Σ₁ St finish
    placed_solved = subst (λ Z. Solved Z St finish) signatures (subst (λ z. Solved ΣJ z finish) (store_is Σ ok W typed first free C tc p tp π ids φ₀ tried K) s)

    abbrev pub D : NumberedCase
    D = read_case Σ ok W typed first free C tc p tp π ids φ₀ tried K finish placed_solved fits.same_local placed_form

    abbrev pub whole : ℕ → Image
    whole = clause_values Σ ok W typed first free C tc p tp π ids φ₀ tried K finish placed_solved fits.same_local placed_form fits.of_family fits.same_family fits.all_places fits.given_own

    -- what stands outside the clause has the answer's values put in
    pub outside_value : (l : ℕ) → outer_images (quantifiers p.clause.type) whole l ≡ substitute_image (υ Σ ok W typed first free C tc p tp π ids φ₀ tried K finish placed_solved) (φ Σ ok W typed first free C tc p tp π ids φ₀ tried l)
    outside_value l =
        let Q : List LfType = binders [] p.clause.type in
        let ς : ℕ → Image = σ Σ ok W typed first free C tc p tp π ids φ₀ tried K finish placed_solved in
        outer_at p.clause.type whole l
        ∙ ap whole (out_far p.clause.type l)
        ∙ ap (substitute_image ς) (lift_over_far Q (φ Σ ok W typed first free C tc p tp π ids φ₀ tried) l)
        ∙ image_behind ς (length Q) (φ Σ ok W typed first free C tc p tp π ids φ₀ tried l)
        ∙ ap (λ m. substitute_image (λ i. ς (i + m)) (φ Σ ok W typed first free C tc p tp π ids φ₀ tried l)) (binders_count p.clause.type)

    -- a shared instance in which the block variables have the numbers of π, and the blocks of the case
    abbrev pub SharesAs : Type 0
    SharesAs = (h : SharesInstance Σ first W C p) × (h.numbers ≡ π) × (blocks_of h.common.blocks ≡ blocks_of C.blocks)

    pub shares : StandsByNumber first D p.origin p.at_first whole → SharesAs
    shares stands = (
      record {
        common = D;
        typed_variables = variables_with Σ first W p.origin D (read_typed Σ ok W typed first free C tc p tp π ids φ₀ tried K finish placed_solved fits.same_local placed_form);
        numbers = π;
        zeroth = zero_stays π oldest;
        values = _;
        of_case = read_is_instance Σ ok W typed first free C tc p tp π ids φ₀ tried K finish placed_solved fits.same_local placed_form;
        of_pattern = read_has_pattern Σ ok W typed first free C tc p tp π ids φ₀ tried K finish placed_solved fits.same_local placed_form fits.of_family fits.same_family fits.all_places fits.given_own stands;
      },
      refl,
      blocks_same Σ ok W typed first free C tc p tp π ids φ₀ tried K finish placed_solved fits.same_local placed_form,
    )
