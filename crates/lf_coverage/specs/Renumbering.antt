-- A store with other numbers for its metavariables.
use Rattle.std.specs.Prelude.{◌≡◌, ℕ, List, [], ◌∷◌, Option, Some}
use Rattle.std.specs.Option.{option_map}
use Rattle.lf.specs.Syntax.{Head, constant, variable, metavariable, Term, Spine, lambda, root, nil, app, LfType, pi, atom}
use Rattle.lf_unification.specs.Dependency.{ListedMetavariable}
use Rattle.lf_unification.specs.OpenTyping.{Declares}
use Rattle.lf_unification.specs.Unifiers.{Binding, Equation, Store}

-- New numbers for all metavariables, different ones for different ones, so that each number is one of them.
pub record Renumbering : Type 0 where
  pub to : ℕ → ℕ
  pub back : ℕ → ℕ
  pub back_to : (m : ℕ) → back (to m) ≡ m
  pub to_back : (m : ℕ) → to (back m) ≡ m

-- the one that undoes it
abbrev pub undone : Renumbering → Renumbering
undone π = record { to = π.back; back = π.to; back_to = π.to_back; to_back = π.back_to }

-- metavariable m has the number f m now; constants and variables stay
module _ (f : ℕ → ℕ) where
  abbrev pub renumbered_head : Head → Head
  renumbered_head (constant c) = constant c
  renumbered_head (variable i) = variable i
  renumbered_head (metavariable m) = metavariable (f m)

  abbrev mutual
    pub renumbered : Term → Term
    renumbered (lambda M) = lambda (renumbered M)
    renumbered (root h S) = root (renumbered_head h) (renumbered_spine S)

    pub renumbered_spine : Spine → Spine
    renumbered_spine nil = nil
    renumbered_spine (app M S) = app (renumbered M) (renumbered_spine S)

  abbrev pub renumbered_type : LfType → LfType
  renumbered_type (pi A B) = pi (renumbered_type A) (renumbered_type B)
  renumbered_type (atom a S) = atom a (renumbered_spine S)

  abbrev pub renumbered_locals : List LfType → List LfType
  renumbered_locals [] = []
  renumbered_locals (A ∷ D) = renumbered_type A ∷ renumbered_locals D

  abbrev pub renumbered_equation : Equation → Equation
  renumbered_equation e = record { local = renumbered_locals e.local; left = renumbered e.left; right = renumbered e.right; of_type = renumbered_type e.of_type }

  abbrev pub renumbered_equations : List Equation → List Equation
  renumbered_equations [] = []
  renumbered_equations (e ∷ es) = renumbered_equation e ∷ renumbered_equations es

  abbrev pub renumbered_binding : Binding → Binding
  renumbered_binding b = record { of = f b.of; value = renumbered b.value }

  abbrev pub renumbered_bindings : List Binding → List Binding
  renumbered_bindings [] = []
  renumbered_bindings (b ∷ bs) = renumbered_binding b ∷ renumbered_bindings bs

  -- an order of dependency
  abbrev pub renumbered_order : List ListedMetavariable → List ListedMetavariable
  renumbered_order [] = []
  renumbered_order (it ∷ is) = record { of = f it.of; of_type = renumbered_type it.of_type; value = option_map renumbered it.value } ∷ renumbered_order is

-- the types of metavariables, and the values that a filling gives them
abbrev pub renumbered_types : Renumbering → (ℕ → Option LfType) → ℕ → Option LfType
renumbered_types π Ψ m = option_map (renumbered_type π.to) (Ψ (π.back m))

abbrev pub renumbered_filling : Renumbering → (ℕ → Option Term) → ℕ → Option Term
renumbered_filling π β m = option_map (renumbered π.to) (β (π.back m))

-- the store: each metavariable has its new number wherever it stands
abbrev pub renumbered_store : Renumbering → Store → Store
renumbered_store π s = record {
  metavariables = renumbered_types π s.metavariables;
  bindings = renumbered_bindings π.to s.bindings;
  equations = renumbered_equations π.to s.equations;
}

-- two renumberings give the metavariables of Ψ the same numbers
abbrev pub AgreeOn : (ℕ → Option LfType) → Renumbering → Renumbering → Type 0
AgreeOn Ψ π ρ = (m : ℕ) (A : LfType) → Ψ m ≡ Some A → ρ.to m ≡ π.to m

-- The store t is s where metavariable m has the number g m, and there are no others. Whether g has different numbers for different ones is asked where
-- this is used.
pub record HasNumbers (g : ℕ → ℕ) (s t : Store) : Type 0 where
  pub declared : (m : ℕ) (A : LfType) → s.metavariables m ≡ Some A → t.metavariables (g m) ≡ Some (renumbered_type g A)
  pub no_others : (k : ℕ) (B : LfType) → t.metavariables k ≡ Some B → (m : ℕ) × Declares s.metavariables m × (g m ≡ k)
  pub bindings : t.bindings ≡ renumbered_bindings g s.bindings
  pub equations : t.equations ≡ renumbered_equations g s.equations
