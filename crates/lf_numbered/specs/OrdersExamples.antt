-- Worked: orders of the metavariables of a store.
use Rattle.std.specs.Prelude.{ℕ, zero, suc, [], ◌∷◌, Option, Some, None}
use Rattle.lf.specs.Syntax.{LfType, app, lambda, metavariable, nil, pi, root}
use Rattle.lf_totality.specs.Examples.{nat, z}
use Rattle.lf_totality.specs.ExamplesGroups.{on_one}
use Rattle.lf_unification.specs.Unifiers.{Store}
use Rattle.lf_numbered.specs.Orders.{HasAll, IsOrderOf}

-- N : nat, D : t N, B : t N -> nat and M : v (B D), by number 0 to 3. B is bound to [x] z.
abbrev pub four_types : ℕ → Option LfType
four_types zero = Some nat
four_types (suc zero) = Some (on_one 1 (root (metavariable 0) nil))
four_types (suc (suc zero)) = Some (pi (on_one 1 (root (metavariable 0) nil)) nat)
four_types (suc (suc (suc zero))) = Some (on_one 2 (root (metavariable 2) (app (root (metavariable 1) nil) nil)))
four_types (suc (suc (suc (suc m)))) = None

abbrev pub four_store : Store
four_store = record { metavariables = four_types; bindings = record { of = 2; value = lambda z } ∷ []; equations = [] }

-- M, B, D, N is an order of them, and so is M, D, B, N. D, M, B, N isn't, since M's declared type mentions D; that it
-- is v z with B's value put in doesn't count.
abbrev pub FourHaveTwoOrders : Type 0
FourHaveTwoOrders = IsOrderOf four_store (3 ∷ 2 ∷ 1 ∷ 0 ∷ []) × IsOrderOf four_store (3 ∷ 1 ∷ 2 ∷ 0 ∷ []) × HasAll four_store (3 ∷ 1 ∷ 2 ∷ 0 ∷ []) × (IsOrderOf four_store (1 ∷ 3 ∷ 2 ∷ 0 ∷ []) → ⊥)
