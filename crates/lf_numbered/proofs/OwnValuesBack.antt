-- Where unification solves, each typed unifier on own terms is read back as ground values of the answer's free variables.
use Rattle.std.proofs.Common.{◌≡◌, ℕ, zero, ◌+◌, List, [], length, Option, Some, sym, ap, ◌∙◌, subst}
use Rattle.lf.specs.Substitution.{Image, keep, substitute, reduce}
use Rattle.lf.specs.Syntax.{Term, LfType, skeleton, rename}
use Rattle.lf.specs.Typing.{HasType}
use Rattle.lf.specs.Subordination.{Block}
use Rattle.lf.proofs.ToSkeletons.{typed_has_skeleton}
use Rattle.lf_unification.specs.Dependency.{free_context, values}
use Rattle.lf_unification.specs.Filling.{fill_type}
use Rattle.lf_unification.specs.OpenTyping.{skeletons_of}
use Rattle.lf_unification.specs.Unifiers.{Solution}
use Rattle.lf_unification.proofs.Solving.{well_formed_answer}
use Rattle.lf_unification.proofs.StepLemmas.{value_of}
use Rattle.lf_coverage.proofs.Parts.{some_same}
use Rattle.lf_numbered.specs.EntryConstants.{EntryConstant, entry_constant}
use Rattle.lf_numbered.specs.OwnValues.{ComesOnOwnTerms}
use Rattle.lf_numbered.specs.OwnValuesReading.{AreReadAs, AreReadBack, SolvedIsReadBack}
use Rattle.lf_numbered.specs.Reading.{read, variable_past, read_entry, entry_reading}
use Rattle.lf_numbered.proofs.OwnValuesGround.{read_back_is_ground}
use Rattle.lf_numbered.proofs.OwnValuesSolved.{solved_comes_on_own_terms}

pub solved_is_read_back : SolvedIsReadBack
solved_is_read_back Σ₁ Σ' ok₁ first Bs F G f o ρ keeps θ h before after w s β u k own =
    let O : List LfType = free_context (skeletons_of after.metavariables) s.well_formed.order in
    let γ : ℕ → Option Term = values (skeletons_of after.metavariables) s.well_formed.order in
    let answer : Solution Σ₁ [] after O γ = well_formed_answer Σ₁ ok₁ after s.well_formed s.none_left in
    let c : ComesOnOwnTerms Σ₁ o before.metavariables after s.well_formed.order F β = solved_comes_on_own_terms Σ₁ ok₁ before after w s F β u o k in
    let b : AreReadBack Σ₁ Σ' first Bs θ f ρ O G c.images = read_back_is_ground Σ₁ Σ' ok₁ first Bs F G f o ρ u.0.context keeps θ h O answer.0.context c.images (record { typed = c.typed; are_terms = c.are_terms; on_own_terms = c.on_own_terms; of_own_types = own c }) in
    record {
      images = c.images;
      typed = c.typed;
      back = b;
      same = λ m A V d e.
          let (N, q, t) = c.same m A d in
          let (M, x, y) = value_of Σ₁ [] after.metavariables O γ answer.0 m A (s.keeps.grows m A d) in
          let n : HasType Σ₁ O N (fill_type (skeletons_of after.metavariables) γ A) = subst (λ X. HasType Σ₁ O X (fill_type (skeletons_of after.metavariables) γ A)) (some_same (sym x ∙ q)) y in
          let v : V ≡ substitute reduce c.images N = some_same (sym e ∙ t) in
          (N, q, v, b.same N (skeleton (fill_type (skeletons_of after.metavariables) γ A)) (typed_has_skeleton Σ₁ O N (fill_type (skeletons_of after.metavariables) γ A) n) ∙ ap (λ X. rename ρ (read f X)) (sym v));
    }

-- A reading of entries past n further variables, which ρ takes into the context again.
pub entries_are_read_as : (first : ℕ) (Bs : List Block) (θ : ℕ → ℕ → Image) (n : ℕ) (ρ : ℕ → ℕ) → ((v : ℕ) → ρ (v + n) ≡ v) → ((c : ℕ) (e : EntryConstant) → entry_constant zero first Bs c ≡ Some e → (v : ℕ) × (θ e.number e.place ≡ keep v)) → AreReadAs first Bs (entry_reading first Bs θ n) ρ θ
entries_are_read_as first Bs θ n ρ p h = record {
  none = λ c q. ap (read_entry θ n) q;
  some = λ c e q. let (v, k) = h c e q in (v + n, ap (read_entry θ n) q ∙ ap (λ x. Some (length e.block.some, variable_past n x)) k, k ∙ ap keep (sym (p v)));
}
