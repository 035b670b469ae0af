-- Lists of equations and bindings, and what they are under fillings that agree.
use Rattle.std.proofs.Common.{◌≡◌, ℕ, List, [], ◌∷◌, Option, Some, sym, ap, ◌∙◌}
use Rattle.lf.specs.Syntax.{Kind, Skeleton, Spine, Term, LfType, app, kind_pi, nil, star}
use Rattle.lf.specs.Typing.{instantiate_kind}
use Rattle.lf_unification.specs.Filling.{fill, fill_spine}
use Rattle.lf_unification.specs.Lists.{followed}
use Rattle.lf_unification.specs.Offering.{spine_equations}
use Rattle.lf_unification.specs.OpenTyping.{under_locals}
use Rattle.lf_unification.specs.Scope.{MetavariablesInBindings, MetavariablesInEquations}
use Rattle.lf_unification.specs.Unifiers.{Binding, Equation, Respects, SolvesAll}
use Rattle.lf_unification.proofs.Agree.{fill_agree}
use Rattle.lf_unification.proofs.Offer.{under_agree}

module _ (μ : ℕ → Skeleton) (β : ℕ → Option Term) where
  pub solves_followed : (es fs : List Equation) → SolvesAll μ β es → SolvesAll μ β fs → SolvesAll μ β (followed es fs)
  solves_followed [] fs s t = t
  solves_followed (e ∷ es) fs (x, s) t = (x, solves_followed es fs s t)

  pub spine_solves : (D : List LfType) (K : Kind) (S T : Spine) → fill_spine μ (under_locals D β) S ≡ fill_spine μ (under_locals D β) T → SolvesAll μ β (spine_equations D K S T)
  spine_solves D (kind_pi A K) (app M S) (app N T) e = ((let p : fill μ (under_locals D β) M ≡ fill μ (under_locals D β) N = cc in p), spine_solves D (instantiate_kind A M K) S T cc)
  spine_solves D (kind_pi A K) (app M S) nil e = tt
  spine_solves D (kind_pi A K) nil T e = tt
  spine_solves D star S T e = tt

module _ (V : ℕ → Type 0) (μ μ' : ℕ → Skeleton) (same : (m : ℕ) → V m → μ m ≡ μ' m) (β β' : ℕ → Option Term) (vals : (m : ℕ) → V m → β m ≡ β' m) where
  pub respects_agree : (bs : List Binding) → MetavariablesInBindings V bs → Respects μ β bs → Respects μ' β' bs
  respects_agree [] i r = r
  respects_agree (b ∷ bs) (v, i, j) (e, r) = (sym (vals b.of v) ∙ e ∙ ap Some (fill_agree V μ μ' same β β' b.value vals i), respects_agree bs j r)

  pub solves_agree : (es : List Equation) → MetavariablesInEquations V es → SolvesAll μ β es → SolvesAll μ' β' es
  solves_agree [] i s = s
  solves_agree (e ∷ es) (i, j, k) (x, s) = (
    sym (fill_agree V μ μ' same (under_locals e.local β) (under_locals e.local β') e.left (under_agree V e.local β β' vals) i) ∙ x ∙ fill_agree V μ μ' same (under_locals e.local β) (under_locals e.local β') e.right (under_agree V e.local β β' vals) j,
    solves_agree es k s,
  )

pub solves_first : (μ : ℕ → Skeleton) (β : ℕ → Option Term) (es fs : List Equation) → SolvesAll μ β (followed es fs) → SolvesAll μ β es
solves_first μ β [] fs s = tt
solves_first μ β (e ∷ es) fs (x, s) = (x, solves_first μ β es fs s)
