-- A tuple that a case holds and an entry's pattern has: the entry is that of one of the case's block variables, or of a new one.
use Rattle.std.proofs.Common.{◌≡◌, ℕ, zero, List, [], ◌∷◌, length, refl, sym, ap, ◌∙◌, subst}
use Rattle.std.specs.Prelude.{Bool, true, false, Some}
use Rattle.lf.specs.Syntax.{Term, LfType, Kind, Spine, Skeleton, skeleton}
use Rattle.lf.specs.Substitution.{Image, put, substitute_type, reduce}
use Rattle.lf.specs.Entries.{quantifiers}
use Rattle.lf.specs.Typing.{Signature, IsTypedSubstitution, IsSignature}
use Rattle.lf.specs.Variables.{binders, everything, nothing, onto, target_arguments, Values}
use Rattle.lf.specs.Subordination.{Block, AreTypedBlocks}
use Rattle.lf.specs.Worlds.{World}
use Rattle.lf.specs.Extension.{Extends}
use Rattle.lf_unification.specs.Unifiers.{Solution}
use Rattle.lf_checks.specs.Clause.{entry_clause, outside, scope}
use Rattle.lf_checks.specs.Ground.{UsesGoal}
use Rattle.lf_checks.specs.Marks.{SamePlaces}
use Rattle.lf_cases.specs.Case.{as_term, covered_places}
use Rattle.lf_cases.specs.Cover.{AgreesOutside, before}
use Rattle.lf_cases.specs.Pattern.{Pattern, of_entry, given_at, is_given}
use Rattle.lf_totality.proofs.Core.{outer_at}
use Rattle.lf_coverage.specs.Leaf.{IsTypedPattern}
use Rattle.lf_numbered.specs.EntryConstants.{entry_images, with_entries, IsFreeFrom}
use Rattle.lf_numbered.specs.EntryPatterns.{some_images, variable_images}
use Rattle.lf_numbered.specs.EntryTerms.{IsTried, beside_values, known_in}
use Rattle.lf_numbered.specs.MeetsAnswers.{HasUnifier}
use Rattle.lf_numbered.specs.MetEquations.{IsWrittenFrom}
use Rattle.lf_numbered.specs.NumberedArguments.{HasNumberedArguments}
use Rattle.lf_numbered.specs.NumberedCallsStores.{identified, meet_store_by_number}
use Rattle.lf_numbered.specs.NumberedCase.{NumberedCase, IsNumberedInstance, value_in}
use Rattle.lf_numbered.specs.NumberedInstance.{block_at, first_constant, moved_constant, move_spine}
use Rattle.lf_numbered.specs.OwnTerms.{blocks_of}
use Rattle.lf_numbered.specs.TypedNumbered.{IsTypedNumberedCase}
use Rattle.lf_numbered.specs.WritingRoom.{move_image}
use Rattle.lf_numbered.proofs.MeetsTupleEntry.{before_is_term, before_is_typed, before_moved, before_value, given_before}
use Rattle.lf_numbered.proofs.MeetsTupleFront.{placed}
use Rattle.lf_numbered.proofs.MeetsTupleWriting.{AreOne}
use Rattle.lf_numbered.proofs.MovedConstants.{blocks_stay}
use mathlib.Core.Path.{fun_ext}

-- What is known of a pattern's clause beside a case: typed values, given for the clause's own variables; where new block variables come, none.
pub record IsBeside (Σ : Signature) (first : ℕ) (C : NumberedCase) (p : Pattern) : Type 0 where
  pub values : (φ : ℕ → Image) → IsTried first C p.origin p.at_first φ → IsTypedSubstitution (with_entries Σ first (blocks_of C.blocks)) p.clause.outer C.variables φ → Values (with_entries Σ first (blocks_of C.blocks)) (known_in C p) (scope p.clause) C.variables (beside_values C p φ)
  pub own : (i : ℕ) → is_given C.given i ≡ true → outside p.clause.type everything i ≡ false
  pub none_new : p.at_first ≡ false → C.given ≡ []

-- The entry of the block variable k of a case, which stays itself
module _ (Σ Σ' : Signature) (ok : IsSignature Σ) (V : List Block) (typed : AreTypedBlocks Σ V) (first : ℕ) (free : IsFreeFrom Σ first) (C : NumberedCase) (tc : IsTypedNumberedCase Σ first V C) (S : ℕ → Bool) (x : Extends S Σ Σ') {G : List LfType} (w : World Σ' V S G) (θ : ℕ → ℕ → Image) (σ : ℕ → Image) (inst : IsNumberedInstance w first C θ σ) (π : ℕ → ℕ) (one : AreOne C θ π) (K : Kind) (T : Spine) (held : HasNumberedArguments first C θ σ T) (B : Block) (later : List LfType) (E : LfType) (es : List LfType) (e : onto later (E ∷ es) ≡ B.entries) (P : LfType) (b : Bool) (tp : IsTypedPattern Σ (record { clause = entry_clause B es E; origin = of_entry B later E es e; type = P; at_first = b })) (l : length C.local ≡ length (binders [] P)) (k : ℕ) (U : Spine) (at : block_at C.blocks k ≡ Some (record { block = B; terms = U })) (fixed : π k ≡ k) (tried : b ≡ true → k ≡ zero) where
  abbrev p : Pattern
  p = record { clause = entry_clause B es E; origin = of_entry B later E es e; type = P; at_first = b }

  abbrev γ : ℕ → ℕ
  γ = moved_constant first (blocks_of C.blocks) (blocks_of C.blocks) π

  abbrev φ : ℕ → Image
  φ = given_before Σ ok V typed first free C tc B later E es e k U at

  abbrev outer : ℕ → Image
  outer = before later (variable_images first (identified first π C).blocks k B (move_spine γ U))

  outer_is : (λ j. move_image γ (φ j)) ≡ outer
  outer_is = fun_ext (λ j. before_moved Σ ok V typed first free C tc B later E es e k U at π one.identifies fixed j ∙ ap (λ Bs. before later (entry_images (first_constant first Bs k) (move_spine γ U) B.entries (some_images B.some (move_spine γ U))) j) (sym (blocks_stay γ C.blocks)))

  is_tried : IsTried first C (of_entry B later E es e) b φ
  is_tried = (k, U, at, tried, refl)

  pub entry_unifier : (beside : IsBeside Σ first C p) (used : ℕ → Bool) (τ : ℕ → Image) → Values Σ' used (scope (entry_clause B es E)) G τ → UsesGoal used (covered_places C.arguments) P → SamePlaces (covered_places C.arguments) T (target_arguments (substitute_type reduce τ P)) → AgreesOutside (entry_clause B es E) τ (before later (θ k)) → ((i : ℕ) (M : Term) → used i ≡ true → given_at C.given i ≡ Some M → (a : Skeleton) × (τ i ≡ put a (value_in first C θ σ M))) → (u : HasUnifier (with_entries Σ first (blocks_of (identified first π C).blocks)) (meet_store_by_number π (identified first π C) p outer K)) × IsWrittenFrom u.signature u.context u.filling G C.variables σ (quantifiers E) used (scope (entry_clause B es E)) τ (quantifiers E)
  entry_unifier beside used τ v uses same agrees given =
      let tφ : IsTypedSubstitution (with_entries Σ first (blocks_of C.blocks)) (onto es B.some) C.variables φ = before_is_typed Σ ok V typed first free C tc B later E es e k U at in
      let (Σf, y, H, β, u, made) = placed Σ Σ' ok V typed first free C tc S x w θ σ inst π one K T held p tp l used τ v uses same φ tφ (beside.values φ is_tried tφ) (λ j X g. let (N, q, o) = before_is_term Σ ok V typed first free C tc B later E es e k U at j X g in (N, q, o, ap (as_term (skeleton X)) (sym (outer_at E τ j) ∙ agrees j X g) ∙ before_value Σ ok V typed first free C tc B later E es e k U at Σ' S x w θ σ inst j X N g q)) beside.own given in (
        record {
          signature = Σf;
          extends = subst (λ Bs. Extends nothing (with_entries Σ first Bs) Σf) (sym (blocks_stay γ C.blocks)) y;
          context = H;
          filling = β;
          solves = subst (λ ψ. Solution Σf [] (meet_store_by_number π (identified first π C) p ψ K) H β) outer_is u;
        },
        made,
      )
