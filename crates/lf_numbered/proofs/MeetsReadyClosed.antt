-- A closed local context stays, and for which nothing is given each variable stands for itself.
use Rattle.std.proofs.Common.{◌≡◌, ℕ, zero, suc, ◌+◌, List, [], ◌∷◌, length, refl, sym, ap, ap₂, ◌∙◌, arith}
use Rattle.lf.specs.Syntax.{Spine, LfType}
use Rattle.lf.specs.Substitution.{Image, keep, rename_image, substitute_spine, reduce}
use Rattle.lf.specs.AtOnce.{lift_renaming_by}
use Rattle.lf.specs.Typing.{Signature, IsContext}
use Rattle.lf.specs.Variables.{onto}
use Rattle.lf.specs.Worlds.{lift_over, instance}
use Rattle.lf.proofs.Closed.{Agree, agree_type}
use Rattle.lf.proofs.Renaming.{substitute_identity_spine}
use Rattle.lf.proofs.TypeLaws.{substitute_identity_type, substitution_as_renaming_type}
use Rattle.lf_cases.specs.Candidates.{given_images}
use Rattle.lf_cases.specs.OutputGoal.{renumber}
use Rattle.lf_numbered.proofs.EntryTermsConstants.{lift_keep}
use mathlib.Core.Path.{fun_ext}

agree_over : (D : List LfType) (σ : ℕ → Image) → Agree D (lift_over D σ) keep
agree_over [] σ i A g = absurd g
agree_over (B ∷ D) σ zero A g = refl
agree_over (B ∷ D) σ (suc i) A (C, g, e) = ap (rename_image suc) (agree_over D σ i C g)

agree_by : (D : List LfType) (ρ : ℕ → ℕ) → Agree D (λ i. keep (lift_renaming_by (length D) ρ i)) keep
agree_by [] ρ i A g = absurd g
agree_by (B ∷ D) ρ zero A g = refl
agree_by (B ∷ D) ρ (suc i) A (C, g, e) = ap (rename_image suc) (agree_by D ρ i C g)

pub closed_instance : (Σ : Signature) (D : List LfType) (σ : ℕ → Image) → IsContext Σ D → instance D σ ≡ D
closed_instance Σ [] σ c = refl
closed_instance Σ (A ∷ D) σ (c, a) = ap₂ (λ B E. B ∷ E) (agree_type Σ reduce D (lift_over D σ) keep A (agree_over D σ) a ∙ substitute_identity_type reduce A) (closed_instance Σ D σ c)

pub closed_renumbered : (Σ : Signature) (D : List LfType) (ρ : ℕ → ℕ) → IsContext Σ D → renumber ρ D ≡ D
closed_renumbered Σ [] ρ c = refl
closed_renumbered Σ (A ∷ D) ρ (c, a) = ap₂ (λ B E. B ∷ E) (sym (substitution_as_renaming_type reduce (lift_renaming_by (length D) ρ) A) ∙ agree_type Σ reduce D (λ i. keep (lift_renaming_by (length D) ρ i)) keep A (agree_by D ρ) a ∙ substitute_identity_type reduce A) (closed_renumbered Σ D ρ c)

pub onto_nothing : (D : List LfType) → onto D [] ≡ D
onto_nothing [] = refl
onto_nothing (A ∷ D) = ap (λ E. A ∷ E) (onto_nothing D)

pub none_given : (X : List LfType) → given_images X [] zero ≡ keep
none_given X = fun_ext (λ i. ap keep (none i))
  where
    none : (i : ℕ) → i + zero ≡ i
    none i = omega arith

pub none_put : (X D : List LfType) (S : Spine) → substitute_spine reduce (lift_over D (given_images X [] zero)) S ≡ S
none_put X D S = ap (λ f. substitute_spine reduce f S) (ap (lift_over D) (none_given X) ∙ lift_keep D) ∙ substitute_identity_spine reduce S
