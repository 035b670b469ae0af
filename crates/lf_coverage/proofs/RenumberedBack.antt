-- What is renumbered and undone is as it was; and what metavariables have under their new numbers.
use Rattle.std.proofs.Common.{◌≡◌, ℕ, List, [], ◌∷◌, refl, sym, ap, ap₂, ◌∙◌}
use Rattle.std.specs.Prelude.{Option, Some, None}
use Rattle.std.specs.Option.{option_map}
use Rattle.lf.specs.Syntax.{Term, LfType}
use Rattle.lf_unification.specs.OpenTyping.{skeletons_of}
use Rattle.lf_unification.specs.Skeletons.{skeleton_or_default}
use Rattle.lf_unification.specs.Unifiers.{Binding, Equation, Store}
use Rattle.lf_unification.proofs.Scope.{in_all, in_all_type}
use Rattle.lf_coverage.specs.Renumbering.{Renumbering, undone, renumbered, renumbered_type, renumbered_locals, renumbered_equation, renumbered_equations, renumbered_binding, renumbered_bindings, renumbered_types, renumbered_filling, renumbered_store}
use Rattle.lf_coverage.proofs.RenumberedSyntax.{Follows, composed, composed_type, identical, identical_type, skeleton_renumbered}
use mathlib.Core.Path.{fun_ext}

module _ (π : Renumbering) where
  abbrev Returns : ℕ → Type 0
  Returns m = π.back (π.to m) ≡ m

  pub returned : (M : Term) → renumbered π.back (renumbered π.to M) ≡ M
  returned M = composed π.back π.to (λ m. m) M (in_all Returns π.back_to M) ∙ identical M

  pub returned_type : (A : LfType) → renumbered_type π.back (renumbered_type π.to A) ≡ A
  returned_type A = composed_type π.back π.to (λ m. m) A (in_all_type Returns π.back_to A) ∙ identical_type A

  pub returned_locals : (D : List LfType) → renumbered_locals π.back (renumbered_locals π.to D) ≡ D
  returned_locals [] = refl
  returned_locals (A ∷ D) = ap₂ (λ B E. B ∷ E) (returned_type A) (returned_locals D)

  pub returned_equation : (e : Equation) → renumbered_equation π.back (renumbered_equation π.to e) ≡ e
  returned_equation e = rw (returned_locals e.local, returned e.left, returned e.right, returned_type e.of_type) refl

  pub returned_equations : (es : List Equation) → renumbered_equations π.back (renumbered_equations π.to es) ≡ es
  returned_equations [] = refl
  returned_equations (e ∷ es) = ap₂ (λ B E. B ∷ E) (returned_equation e) (returned_equations es)

  pub returned_bindings : (bs : List Binding) → renumbered_bindings π.back (renumbered_bindings π.to bs) ≡ bs
  returned_bindings [] = refl
  returned_bindings (b ∷ bs) = ap₂ (λ B E. B ∷ E) (returned_binding b) (returned_bindings bs)
    where
      returned_binding : (b : Binding) → renumbered_binding π.back (renumbered_binding π.to b) ≡ b
      returned_binding b = rw (π.back_to b.of, returned b.value) refl

  pub returned_types : (Ψ : ℕ → Option LfType) → renumbered_types (undone π) (renumbered_types π Ψ) ≡ Ψ
  returned_types Ψ = fun_ext (λ m. back_at (Ψ (π.back (π.to m))) ∙ ap Ψ (π.back_to m))
    where
      back_at : (x : Option LfType) → option_map (renumbered_type π.back) (option_map (renumbered_type π.to) x) ≡ x
      back_at None = refl
      back_at (Some A) = ap Some (returned_type A)

  -- what is undone is as it was
  pub returned_store : (s : Store) → renumbered_store (undone π) (renumbered_store π s) ≡ s
  returned_store s = rw (returned_types s.metavariables, returned_bindings s.bindings, returned_equations s.equations) refl

  -- each filling follows one
  pub followed_filling : (γ : ℕ → Option Term) → Follows π.to (renumbered_filling (undone π) γ) γ
  followed_filling γ m = sym (back_at (γ (π.to m)))
    where
      back_at : (x : Option Term) → option_map (renumbered π.to) (option_map (renumbered π.back) x) ≡ x
      back_at None = refl
      back_at (Some N) = ap Some (composed π.to π.back (λ m. m) N (in_all (λ m. π.to (π.back m) ≡ m) π.to_back N) ∙ identical N)

  pub follows_renumbered : (β : ℕ → Option Term) → Follows π.to β (renumbered_filling π β)
  follows_renumbered β m = ap (λ k. option_map (renumbered π.to) (β k)) (π.back_to m)

  pub types_at : (Ψ : ℕ → Option LfType) (m : ℕ) → renumbered_types π Ψ (π.to m) ≡ option_map (renumbered_type π.to) (Ψ m)
  types_at Ψ m = ap (λ k. option_map (renumbered_type π.to) (Ψ k)) (π.back_to m)

  pub declared_at : (Ψ : ℕ → Option LfType) (m : ℕ) (A : LfType) → Ψ m ≡ Some A → renumbered_types π Ψ (π.to m) ≡ Some (renumbered_type π.to A)
  declared_at Ψ m A e = types_at Ψ m ∙ ap (option_map (renumbered_type π.to)) e

  pub skeleton_at : (Ψ : ℕ → Option LfType) (m : ℕ) → skeletons_of (renumbered_types π Ψ) (π.to m) ≡ skeletons_of Ψ m
  skeleton_at Ψ m = ap skeleton_or_default (types_at Ψ m) ∙ of (Ψ m)
    where
      of : (x : Option LfType) → skeleton_or_default (option_map (renumbered_type π.to) x) ≡ skeleton_or_default x
      of None = refl
      of (Some A) = skeleton_renumbered π.to A
