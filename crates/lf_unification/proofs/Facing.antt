-- An equation that is read from a side: the store whose first equation has the sides exchanged has the same unifiers and fillings.
use Rattle.std.proofs.Common.{ℕ, List, Option, sym}
use Rattle.lf.specs.Syntax.{LfType, Term}
use Rattle.lf.specs.Typing.{IsSignature, Signature}
use Rattle.lf_unification.specs.PartialInstance.{IsFilling, IsTypedStore}
use Rattle.lf_unification.specs.OpenTyping.{skeletons_of}
use Rattle.lf_unification.specs.Steps.{store_at}
use Rattle.lf_unification.specs.Unifiers.{Binding, Equation, KeepsUnifiers, Side, Solution, Solves, equation_on, on_left, on_right}
use Rattle.lf_unification.proofs.Decompose.{keeps_unifiers_refl}
use Rattle.lf_unification.proofs.Settle.{swap_ok, swap_step}

module _ (D : List LfType) (M N : Term) (C : LfType) where
  pub solves_facing : (side : Side) (μ : ℕ → Rattle.lf.specs.Syntax.Skeleton) (β : ℕ → Option Term) → Solves μ β (equation_on side D M N C) → Solves μ β (equation_on on_left D M N C)
  solves_facing on_left μ β h = h
  solves_facing on_right μ β h = sym h

  pub solves_back : (side : Side) (μ : ℕ → Rattle.lf.specs.Syntax.Skeleton) (β : ℕ → Option Term) → Solves μ β (equation_on on_left D M N C) → Solves μ β (equation_on side D M N C)
  solves_back on_left μ β h = h
  solves_back on_right μ β h = sym h

  module _ (Σ : Signature) (ok : IsSignature Σ) (G : List LfType) (Ψ : ℕ → Option LfType) (bs : List Binding) (es : List Equation) where
    pub solution_facing : (side : Side) (F : List LfType) (β : ℕ → Option Term) → Solution Σ G (store_at side Ψ bs es D M N C) F β → Solution Σ G (store_at on_left Ψ bs es D M N C) F β
    solution_facing side F β u = (u.0, (u.1.0, (solves_facing side (skeletons_of Ψ) β u.1.1.0, u.1.1.1)))

    pub filling_facing : (side : Side) (β : ℕ → Option Term) → IsFilling Σ G (store_at side Ψ bs es D M N C) β → IsFilling Σ G (store_at on_left Ψ bs es D M N C) β
    filling_facing side β (F, v, (r, (x, y))) = (F, v, (r, (solves_facing side (skeletons_of Ψ) β x, y)))

    pub filling_back : (side : Side) (β : ℕ → Option Term) → IsFilling Σ G (store_at on_left Ψ bs es D M N C) β → IsFilling Σ G (store_at side Ψ bs es D M N C) β
    filling_back side β (F, v, (r, (x, y))) = (F, v, (r, (solves_back side (skeletons_of Ψ) β x, y)))

    pub keeps_facing : (side : Side) → KeepsUnifiers Σ G (store_at side Ψ bs es D M N C) (store_at on_left Ψ bs es D M N C)
    keeps_facing on_left = keeps_unifiers_refl Σ G (store_at on_left Ψ bs es D M N C)
    keeps_facing on_right = swap_step Σ ok G Ψ bs es D N M C

    pub typed_facing : (side : Side) → IsTypedStore Σ G (store_at side Ψ bs es D M N C) → IsTypedStore Σ G (store_at on_left Ψ bs es D M N C)
    typed_facing on_left w = w
    typed_facing on_right w = swap_ok Σ ok G Ψ bs es D N M C w
