-- Metavariables put in for quantifiers, seen from under binders.
use Rattle.std.specs.Prelude.{◌≡◌, ℕ, zero, suc, List, map}
use Rattle.lf.specs.Syntax.{Head, Spine, constant, metavariable, nil, variable}
use Rattle.lf_search.specs.AppliedHeads.{AppliedHead, taken_heads, under_applied}
use Rattle.tw_terms.specs.declared.canonical.MetaId.{MetaId}

-- what stands for variables, under so many binders
abbrev pub applied_inside : ℕ → (ℕ → AppliedHead) → ℕ → AppliedHead
applied_inside zero p = p
applied_inside (suc b) p = under_applied (applied_inside b p)

-- the metavariables on these arguments for the variables outside of b binders, the outermost first
unfoldable pub taken_at : Spine → List MetaId → ℕ → ℕ → AppliedHead
taken_at L ms b = applied_inside b (taken_heads L (map (λ m. m.0) ms))

-- the head g on S stands for h: for a variable what p has, and any other one stands for itself
abbrev pub IsStart : (ℕ → AppliedHead) → Head → Head → Spine → Type 0
IsStart p (variable i) g S = (g ≡ (p i).head) × (S ≡ (p i).arguments)
IsStart p (constant c) g S = (g ≡ constant c) × (S ≡ nil)
IsStart p (metavariable m) g S = (g ≡ metavariable m) × (S ≡ nil)
