-- Where unification solves, a typed unifier on own terms comes from the answer by terms on own terms.
use Rattle.std.proofs.Common.{◌≡◌, ℕ, zero, suc, List, [], ◌∷◌, Option, Some, None, refl, sym, ap, ◌∙◌, subst}
use Rattle.lf.specs.Substitution.{Image, substitute, reduce}
use Rattle.lf.specs.Syntax.{Term, Spine, LfType, skeleton}
use Rattle.lf.specs.Typing.{Signature, IsSignature}
use Rattle.lf_unification.specs.Dependency.{ListedMetavariable, IsDependencyOrder, values}
use Rattle.lf_unification.specs.OpenTyping.{IsInstance, skeletons_of}
use Rattle.lf_unification.specs.PartialInstance.{IsFilling}
use Rattle.lf_unification.specs.Unifiers.{Binding, Respects}
use Rattle.lf_unification.proofs.AnswerIsGeneric.{Part, answer_images, part}
use Rattle.lf_unification.proofs.Filling.{substituted_option}
use Rattle.lf_unification.proofs.StepLemmas.{value_of}
use Rattle.lf_coverage.specs.SplitStore.{answer_image}
use Rattle.lf_coverage.proofs.Parts.{none_some, some_same}
use Rattle.lf_numbered.specs.OwnTerms.{ImageOnOwnTerms}
use Rattle.lf_numbered.specs.OwnValues.{ValuesOnOwnTerms, SolvedComesOnOwnTerms}
use Rattle.lf_numbered.proofs.OwnValuesSteps.{own_terms_extend}
use Rattle.lf_numbered.proofs.OwnValuesTypes.{types_filled}

-- what has a value after a substitution has one before
value_before : (ρ : ℕ → Image) (y : Option Term) (V : Term) → Some V ≡ substituted_option ρ y → (N : Term) × (y ≡ Some N) × (V ≡ substitute reduce ρ N)
value_before ρ None V e = absurd (none_some (sym e))
value_before ρ (Some N) V e = (N, refl, some_same e)

module _ (Σ : Signature) (ok : IsSignature Σ) (Ψ : ℕ → Option LfType) (U : (ℕ → Option Term) → Type 0) (F : List LfType) (β : ℕ → Option Term) (inst : IsInstance Σ [] Ψ F β) (bs : List Binding) (respects : Respects (skeletons_of Ψ) β bs) (o : ℕ → Option Spine) (h : ValuesOnOwnTerms o Ψ β) where
  images_own : (is : List ListedMetavariable) → IsDependencyOrder Σ Ψ U is → (i : ℕ) → ImageOnOwnTerms o (answer_images Σ ok Ψ U F β inst bs respects is i)
  images_own [] d i = tt
  images_own (it ∷ is) d i = by it.value i (images_own is d.0)
    where
      new : ImageOnOwnTerms o (answer_image (skeleton it.of_type) (β it.of))
      new = let (V, e, v) = value_of Σ [] Ψ F β inst it.of it.of_type d.1 in subst (λ y. ImageOnOwnTerms o (answer_image (skeleton it.of_type) y)) (sym e) (h it.of it.of_type V d.1 e)

      by : (x : Option Term) (j : ℕ) → ((k : ℕ) → ImageOnOwnTerms o (answer_images Σ ok Ψ U F β inst bs respects is k)) → ImageOnOwnTerms o (answer_images Σ ok Ψ U F β inst bs respects (record { of = it.of; of_type = it.of_type; value = x } ∷ is) j)
      by None zero r = new
      by None (suc j) r = r j
      by (Some N) j r = r j

pub solved_comes_on_own_terms : SolvedComesOnOwnTerms
solved_comes_on_own_terms Σ ok before after w s F β u o h =
    let (γ, x, v, k) = own_terms_extend Σ ok before after w s.run F β u o h in
    let p : Part Σ ok after.metavariables (IsFilling Σ [] after) F γ v.0 after.bindings v.1.0 s.well_formed.order = part Σ ok after.metavariables (IsFilling Σ [] after) F γ v.0 after.bindings v.1.0 s.well_formed.order s.well_formed.is_order s.well_formed.values_bound in
    record {
      filling = γ;
      extends = x;
      solution = v;
      own_values = k;
      images = answer_images Σ ok after.metavariables (IsFilling Σ [] after) F γ v.0 after.bindings v.1.0 s.well_formed.order;
      typed = p.typed;
      are_terms = p.terms;
      on_own_terms = images_own Σ ok after.metavariables (IsFilling Σ [] after) F γ v.0 after.bindings v.1.0 o k s.well_formed.order s.well_formed.is_order;
      types = types_filled Σ ok after.metavariables (IsFilling Σ [] after) F γ v.0 after.bindings v.1.0 s.well_formed.order s.well_formed.is_order s.well_formed.values_bound;
      same = λ m A d.
          let (V, e, t) = value_of Σ [] before.metavariables F β u.0 m A d in
          let ρ : ℕ → Image = answer_images Σ ok after.metavariables (IsFilling Σ [] after) F γ v.0 after.bindings v.1.0 s.well_formed.order in
          let (N, q, r) = value_before ρ (values (skeletons_of after.metavariables) s.well_formed.order m) V (sym e ∙ sym (x m A d) ∙ p.same m (s.well_formed.all_listed m A (s.keeps.grows m A d))) in
          (N, q, e ∙ ap Some r);
    }
