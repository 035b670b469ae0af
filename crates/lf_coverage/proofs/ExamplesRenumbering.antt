-- Worked stores under other numbers.
use Rattle.std.proofs.Common.{◌≡◌, ℕ, zero, suc, ◌≤◌, [], ◌∷◌, refl, sym, ap, ap₂, ◌∙◌, subst, arith}
use Rattle.std.specs.Prelude.{Some, None, List}
use Rattle.lf.specs.Syntax.{LfType}
use Rattle.lf_unification.specs.OpenTyping.{Declares, MetavariablesInType}
use Rattle.lf_unification.specs.Unifiers.{Binding}
use Rattle.lf_totality.specs.Examples.{Addition, nat, successor}
use Rattle.lf_totality.proofs.Addition.{addition_ok}
use Rattle.lf_coverage.specs.ExamplesRenumbering.{NewTakesAnother, NumbersDiffer, TurnedIsSolved, exchanged, one_number, successor_store, turned, unknown}
use Rattle.lf_coverage.specs.Renumbering.{renumbered_bindings, renumbered_store, renumbered_types}
use Rattle.lf_coverage.proofs.ExamplesUnified.{successor_done}
use Rattle.lf_coverage.proofs.RenumberedSolving.{solved_under_numbers}
use Rattle.lf_coverage.proofs.RenumberedStores.{injective}

abbrev bound : ℕ → ℕ → List Binding
bound m n = record { of = m; value = successor (unknown n) } ∷ []

one_binding : {x y u v : ℕ} → x ≡ u → y ≡ v → bound x y ≡ bound u v
one_binding p q = ap₂ bound p q

pub turned_is_solved : TurnedIsSolved
turned_is_solved =
    let (w, after, s, b) = successor_done in
    let (ρ, a, t, o) = solved_under_numbers Addition addition_ok turned successor_store after w s in
    (refl, refl, (after, s, b), (renumbered_store ρ after, t, ap (renumbered_bindings ρ.to) b ∙ one_binding (a 2 nat refl) (a 0 nat refl)))

not_two : zero ≡ suc (suc zero) → ⊥
not_two e = cc

pub numbers_differ : NumbersDiffer
numbers_differ π p q = not_two (injective π 0 2 (p ∙ sym q))

-- what is declared: 0 is, and under the renumbering 1
declared_number : (m : ℕ) (A : LfType) → one_number m ≡ Some A → nat ≡ A
declared_number zero A e = cc
declared_number (suc m) A e = absurd cc

free_from_one : (m : ℕ) → 1 ≤ m → one_number m ≡ None
free_from_one zero l = absurd (omega arith)
free_from_one (suc m) l = refl

nat_in : (V : ℕ → Type 0) (A : LfType) → nat ≡ A → MetavariablesInType V A
nat_in V A e = subst (MetavariablesInType V) e tt

-- with 0 and 1 exchanged, 1 is
declared_exchanged : (m : ℕ) (A : LfType) → renumbered_types exchanged one_number m ≡ Some A → nat ≡ A
declared_exchanged zero A e = absurd cc
declared_exchanged (suc zero) A e = cc
declared_exchanged (suc (suc m)) A e = absurd cc

free_from_two : (m : ℕ) → 2 ≤ m → renumbered_types exchanged one_number m ≡ None
free_from_two zero l = absurd (omega arith)
free_from_two (suc zero) l = absurd (omega arith)
free_from_two (suc (suc m)) l = refl

some_none : Some nat ≡ None → ⊥
some_none e = cc

pub new_takes_another : NewTakesAnother
new_takes_another = (
  record { fresh = free_from_one; types = λ m A e. nat_in (Declares one_number) A (declared_number m A e); bindings = tt; equations = tt; equation_types = tt },
  record { fresh = free_from_two; types = λ m A e. nat_in (Declares (renumbered_types exchanged one_number)) A (declared_exchanged m A e); bindings = tt; equations = tt; equation_types = tt },
  λ c. some_none (c.fresh 1 (omega arith)),
)
