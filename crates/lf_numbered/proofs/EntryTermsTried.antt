-- What is tried for what stands outside a clause is typed, and on own terms, and has constants for its fixed variables.
use Rattle.std.proofs.Common.{◌≡◌, ℕ, List, ◌∷◌, refl, sym, ap, ◌∙◌, subst}
use Rattle.std.specs.Prelude.{Bool, true}
use Rattle.lf.specs.Substitution.{Image}
use Rattle.lf.specs.Entries.{quantifiers}
use Rattle.lf.specs.Typing.{Signature, IsTypedSubstitution, IsSignature}
use Rattle.lf.specs.Variables.{onto}
use Rattle.lf.specs.Subordination.{Block, AreTypedBlocks}
use Rattle.lf_checks.specs.Clause.{Clause}
use Rattle.lf_cases.specs.Cover.{before, outer_images}
use Rattle.lf_cases.specs.Pattern.{Origin, of_constant, of_entry}
use Rattle.lf_cases.proofs.BlockEntries.{onto_onto}
use Rattle.lf_coverage.proofs.Standing.{before_typed}
use Rattle.lf_numbered.specs.EntryConstants.{entry_images, with_entries, IsFreeFrom}
use Rattle.lf_numbered.specs.EntryPatterns.{some_images, variable_images, StandsByNumber}
use Rattle.lf_numbered.specs.EntryPatternsMatching.{outside_given}
use Rattle.lf_numbered.specs.EntryTerms.{IsTried}
use Rattle.lf_numbered.specs.NumberedCase.{NumberedCase}
use Rattle.lf_numbered.specs.NumberedInstance.{first_constant}
use Rattle.lf_numbered.specs.OwnTerms.{blocks_of, own_terms, ImageOnOwnTerms}
use Rattle.lf_numbered.specs.TypedNumbered.{IsTypedNumberedCase}
use Rattle.lf_numbered.proofs.EntryPatternsItems.{before_own}
use Rattle.lf_numbered.proofs.EntryPatternsNear.{AConstant, entry_constant_is, before_images}
use Rattle.lf_numbered.proofs.EntryPatternsTyped.{variable_is_typed}

-- An instance has something that is tried, and with something that is tried values stand as an instance asks.
pub given_is_tried : (first : ℕ) (C : NumberedCase) {c : Clause} (o : Origin c) (b : Bool) (τ : ℕ → Image) (s : StandsByNumber first C o b τ) → IsTried first C o b (outside_given first C o b τ s)
given_is_tried first C (of_constant U) b τ s = refl
given_is_tried first C (of_entry B later E es e) b τ (k, U, q, n, a) = (k, U, q, n, refl)

pub tried_stands : (first : ℕ) (C : NumberedCase) {c : Clause} (o : Origin c) (b : Bool) (φ τ : ℕ → Image) → IsTried first C o b φ → ((k : ℕ) → outer_images (quantifiers c.type) τ k ≡ φ k) → StandsByNumber first C o b τ
tried_stands first C (of_constant U) b φ τ t h = tt
tried_stands first C (of_entry B later E es e) b φ τ (k, U, q, n, r) h = (k, U, q, n, λ l Z z. h l ∙ ap (λ f. f l) r)

module _ (Σ : Signature) (ok : IsSignature Σ) (W : List Block) (typed : AreTypedBlocks Σ W) (first : ℕ) (free : IsFreeFrom Σ first) (C : NumberedCase) (tc : IsTypedNumberedCase Σ first W C) where
  -- what is known of what is tried
  pub record OuterFacts (c : Clause) (φ : ℕ → Image) : Type 0 where
    pub outer_typed : IsTypedSubstitution (with_entries Σ first (blocks_of C.blocks)) c.outer C.variables φ
    pub fixed : (j : ℕ) → c.fixed j ≡ true → AConstant (φ j)
    pub own : (j : ℕ) → ImageOnOwnTerms (own_terms first C.blocks) (φ j)

  pub tried_facts : {c : Clause} (o : Origin c) (b : Bool) (φ : ℕ → Image) → IsTried first C o b φ → OuterFacts c φ
  tried_facts (of_constant U) b φ e = record { outer_typed = λ i A g. absurd g; fixed = λ j f. absurd cc; own = λ j. subst (ImageOnOwnTerms (own_terms first C.blocks)) (sym (ap (λ f. f j) e)) tt }
  tried_facts (of_entry B later E es e) b φ (k, U, q, n, r) =
      let (t, o) = variable_is_typed Σ ok W typed first free C tc.variables k B U q in
      let θ : ℕ → Image = variable_images first C.blocks k B U in
      let shape : onto B.entries B.some ≡ onto later (E ∷ onto es B.some) = ap (λ D. onto D B.some) (sym e) ∙ onto_onto later (E ∷ es) B.some in
      let m : ℕ = first_constant first (blocks_of C.blocks) k in
      record {
        outer_typed = subst (IsTypedSubstitution (with_entries Σ first (blocks_of C.blocks)) (onto es B.some) C.variables) (sym r) (before_typed (with_entries Σ first (blocks_of C.blocks)) C.variables later E (onto es B.some) θ (subst (λ D. IsTypedSubstitution (with_entries Σ first (blocks_of C.blocks)) D C.variables θ) shape t));
        fixed = λ j f. subst AConstant (sym (ap (λ g. g j) r ∙ ap (λ ds. before later (entry_images m U ds (some_images B.some U)) j) (sym e) ∙ before_images m U later E es (some_images B.some U) j)) (entry_constant_is m U es (some_images B.some U) j f);
        own = λ j. subst (ImageOnOwnTerms (own_terms first C.blocks)) (sym (ap (λ g. g j) r)) (before_own (ImageOnOwnTerms (own_terms first C.blocks)) later θ o j);
      }
