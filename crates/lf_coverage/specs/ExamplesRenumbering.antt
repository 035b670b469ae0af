-- Worked stores under other numbers.
use Rattle.std.specs.Prelude.{◌≡◌, ℕ, zero, suc, [], ◌∷◌, Option, Some, None, refl}
use Rattle.lf.specs.Syntax.{constant, metavariable, Term, root, nil, LfType, pi, star}
use Rattle.lf_unification.specs.Scope.{IsScoped}
use Rattle.lf_unification.specs.Solving.{Solved}
use Rattle.lf_unification.specs.Unifiers.{Equation, Store}
use Rattle.lf_cases.specs.Case.{free_variable}
use Rattle.lf_totality.specs.Examples.{Addition, nat, successor, first_below_second}
use Rattle.lf_coverage.specs.Renumbering.{Renumbering, renumbered_store, renumbered_types}
use Rattle.lf_coverage.specs.SplitStore.{split_store}

-- The store of the variable X of plus X Y _ and the head s: X' is metavariable 0, Y is 1 and X is 2.
abbrev pub successor_store : Store
successor_store = split_store first_below_second 1 nat (free_variable nat ∷ free_variable nat ∷ []) 0 (constant 1) (pi nat nat) star

-- metavariable m alone
abbrev pub unknown : ℕ → Term
unknown m = root (metavariable m) nil

-- X = s X'
abbrev pub successor_equation : ℕ → ℕ → Equation
successor_equation x y = record { local = []; left = unknown x; right = successor (unknown y); of_type = nat }

-- 1 and 2 exchanged
abbrev pub turn : ℕ → ℕ
turn zero = 0
turn (suc zero) = 2
turn (suc (suc zero)) = 1
turn (suc (suc (suc m))) = suc (suc (suc m))

pub turn_twice : (m : ℕ) → turn (turn m) ≡ m
turn_twice zero = refl
turn_twice (suc zero) = refl
turn_twice (suc (suc zero)) = refl
turn_twice (suc (suc (suc m))) = refl

abbrev pub turned : Renumbering
turned = record { to = turn; back = turn; back_to = turn_twice; to_back = turn_twice }

-- With X and Y the other way round the equation 2 = s 0 becomes 1 = s 0, and both are solved: by 2 := s 0, and by 1 := s 0.
abbrev pub TurnedIsSolved : Type 0
TurnedIsSolved =
    (successor_store.equations ≡ successor_equation 2 0 ∷ [])
    × ((renumbered_store turned successor_store).equations ≡ successor_equation 1 0 ∷ [])
    × ((after : Store) × Solved Addition successor_store after × (after.bindings ≡ record { of = 2; value = successor (unknown 0) } ∷ []))
    × ((after : Store) × Solved Addition (renumbered_store turned successor_store) after × (after.bindings ≡ record { of = 1; value = successor (unknown 0) } ∷ []))

-- No renumbering has one number for two metavariables: X = s X' would become 0 = s 0.
abbrev pub NumbersDiffer : Type 0
NumbersDiffer = (π : Renumbering) → π.to 0 ≡ 0 → π.to 2 ≡ 0 → ⊥

-- a store of metavariable 0, a number, alone
abbrev pub one_number : ℕ → Option LfType
one_number zero = Some nat
one_number (suc m) = None

-- 0 and 1 exchanged
abbrev pub exchange : ℕ → ℕ
exchange zero = 1
exchange (suc zero) = 0
exchange (suc (suc m)) = suc (suc m)

pub exchange_twice : (m : ℕ) → exchange (exchange m) ≡ m
exchange_twice zero = refl
exchange_twice (suc zero) = refl
exchange_twice (suc (suc m)) = refl

abbrev pub exchanged : Renumbering
exchanged = record { to = exchange; back = exchange; back_to = exchange_twice; to_back = exchange_twice }

-- In this store the numbers from 1 on are free. With 0 and 1 exchanged they are those from 2 on, and not those from 0, the new number of 1.
abbrev pub NewTakesAnother : Type 0
NewTakesAnother = IsScoped one_number 1 [] [] × IsScoped (renumbered_types exchanged one_number) 2 [] [] × (IsScoped (renumbered_types exchanged one_number) (exchange 1) [] [] → ⊥)
