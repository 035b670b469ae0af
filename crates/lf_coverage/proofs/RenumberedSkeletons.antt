-- Skeletons type what the equations of a store stand in under other numbers too.
use Rattle.std.proofs.Common.{◌≡◌, ℕ, List, [], ◌∷◌, refl, sym, ap, ◌∙◌, subst}
use Rattle.std.specs.Prelude.{Option, Some, None}
use Rattle.std.specs.Option.{option_map}
use Rattle.lf.specs.SkeletonTyping.{TypeBySkeletons}
use Rattle.lf.specs.Skeletons.{family_skeletons, type_skeleton}
use Rattle.lf.specs.Syntax.{LfType}
use Rattle.lf.specs.Typing.{Signature}
use Rattle.lf_unification.specs.Patterns.{local_skeletons}
use Rattle.lf_unification.specs.Unifiers.{Equation}
use Rattle.lf_coverage.specs.Renumbering.{Renumbering, renumbered_type, renumbered_locals, renumbered_equations, renumbered_types}
use Rattle.lf_coverage.specs.StoreSkeletons.{LocalsHaveSkeletons, TypesHaveSkeletons, declared_in}
use Rattle.lf_coverage.proofs.RenumberedBack.{types_at}
use Rattle.lf_coverage.proofs.RenumberedSyntax.{skeleton_renumbered}
use Rattle.lf_coverage.proofs.RenumberedTyping.{local_same, type_skeletons}

-- skeletons type what the equations stand in
module _ (Σ : Signature) (π : Renumbering) (Ψ : ℕ → Option LfType) where
  declared_skeleton : (m : ℕ) → type_skeleton (renumbered_types π Ψ (π.to m)) ≡ type_skeleton (Ψ m)
  declared_skeleton m = ap type_skeleton (types_at π Ψ m) ∙ of (Ψ m)
    where
      of : (x : Option LfType) → type_skeleton (option_map (renumbered_type π.to) x) ≡ type_skeleton x
      of None = refl
      of (Some A) = ap Some (skeleton_renumbered π.to A)

  type_in : (D : List LfType) (A : LfType) → TypeBySkeletons (family_skeletons Σ) (declared_in Σ Ψ) (local_skeletons D []) A → TypeBySkeletons (family_skeletons Σ) (declared_in Σ (renumbered_types π Ψ)) (local_skeletons (renumbered_locals π.to D) []) (renumbered_type π.to A)
  type_in D A t = subst (λ Γ. TypeBySkeletons (family_skeletons Σ) (declared_in Σ (renumbered_types π Ψ)) Γ (renumbered_type π.to A)) (sym (local_same π.to D [])) (type_skeletons π.to (declared_in Σ Ψ) (declared_in Σ (renumbered_types π Ψ)) (λ c. refl) declared_skeleton (family_skeletons Σ) (local_skeletons D []) A t)

  locals_in : (D : List LfType) → LocalsHaveSkeletons Σ Ψ D → LocalsHaveSkeletons Σ (renumbered_types π Ψ) (renumbered_locals π.to D)
  locals_in [] h = h
  locals_in (A ∷ D) (h, t) = (locals_in D h, type_in D A t)

  pub types_in : (es : List Equation) → TypesHaveSkeletons Σ Ψ es → TypesHaveSkeletons Σ (renumbered_types π Ψ) (renumbered_equations π.to es)
  types_in [] h = h
  types_in (e ∷ es) ((l, t), h) = ((locals_in e.local l, type_in e.local e.of_type t), types_in es h)
