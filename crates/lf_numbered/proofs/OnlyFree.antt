-- Each free variable of an answer is a metavariable, whose value it is, eta-long.
use Rattle.std.proofs.Common.{◌≡◌, ℕ, zero, suc, List, [], ◌∷◌, Option, Some, None, inl, inr, refl, sym, ap, ◌∙◌, subst}
use Rattle.lf.specs.Syntax.{variable, Term, LfType, Skeleton, nil, skeleton}
use Rattle.lf.specs.Typing.{Signature, TypeAt}
use Rattle.lf.proofs.Eta.{rename_eta_expand}
use Rattle.lf.proofs.TypeLaws.{skeleton_renamed}
use Rattle.lf_unification.specs.Dependency.{IsDependencyOrder, IsListed, ListedMetavariable, add_free, free_context, values}
use Rattle.lf_unification.specs.Filling.{fill, fill_type, moved, rename_value}
use Rattle.lf_unification.specs.Patterns.{eta_variable}
use Rattle.lf_unification.proofs.Agree.{set_here}
use Rattle.lf_unification.proofs.Filling.{skeleton_fill}
use Rattle.lf_unification.proofs.Offer.{set_other}

module _ (Σ : Signature) (Ψ : ℕ → Option LfType) (U : (ℕ → Option Term) → Type 0) (μ : ℕ → Skeleton) where
  -- the free metavariable that the variable i of the type A is
  pub record FreeAt (is : List ListedMetavariable) (i : ℕ) (A : LfType) : Type 0 where
    pub of : ℕ
    pub of_type : LfType
    pub declared : Ψ of ≡ Some of_type
    pub listed : IsListed is of
    pub value : values μ is of ≡ Some (eta_variable (skeleton A) i)

  pub free_at : (is : List ListedMetavariable) → IsDependencyOrder Σ Ψ U is → (i : ℕ) (A : LfType) → TypeAt (free_context μ is) i A → FreeAt is i A
  free_at [] d i A g = absurd g
  free_at (it ∷ is) d i A g = by it.value i A g (free_at is d.0)
    where
      apart : (m : ℕ) → IsListed is m → m ≡ it.of → ⊥
      apart m l e = d.2 (subst (IsListed is) e l)

      by : (x : Option Term) (i : ℕ) (A : LfType) → TypeAt (add_free x (fill_type μ (values μ is) it.of_type) (free_context μ is)) i A → ((j : ℕ) (B : LfType) → TypeAt (free_context μ is) j B → FreeAt is j B) → FreeAt (record { of = it.of; of_type = it.of_type; value = x } ∷ is) i A
      by None zero A e r = record {
        of = it.of;
        of_type = it.of_type;
        declared = d.1;
        listed = inl refl;
        value = set_here it.of (Some (eta_variable (skeleton it.of_type) zero)) (moved suc (values μ is)) ∙ ap (λ a. Some (eta_variable a zero)) (sym (ap skeleton e ∙ skeleton_renamed suc (fill_type μ (values μ is) it.of_type) ∙ skeleton_fill μ (values μ is) it.of_type));
      }
      by None (suc j) A (B, g, e) r =
          let f = r j B g in
          record {
            of = f.of;
            of_type = f.of_type;
            declared = f.declared;
            listed = inr f.listed;
            value =
                set_other it.of (Some (eta_variable (skeleton it.of_type) zero)) (moved suc (values μ is)) f.of (apart f.of f.listed)
                ∙ ap (rename_value suc) f.value
                ∙ ap Some (rename_eta_expand suc (skeleton B) (variable j) nil)
                ∙ ap (λ a. Some (eta_variable a (suc j))) (sym (ap skeleton e ∙ skeleton_renamed suc B));
          }
      by (Some N) j A g r =
          let f = r j A g in
          record { of = f.of; of_type = f.of_type; declared = f.declared; listed = inr f.listed; value = set_other it.of (Some (fill μ (values μ is) N)) (values μ is) f.of (apart f.of f.listed) ∙ f.value }
