-- The store with equations at work, as a store of the theory.
use Rattle.std.specs.Prelude.{◌≡◌, ℕ, List, [], ◌∷◌, Some, length, slice_get}
use Rattle.lf.specs.Subordination.{Member}
use Rattle.lf.specs.Syntax.{Term}
use Rattle.lf_unification.specs.Lists.{followed}
use Rattle.lf_unification.specs.Unifiers.{Equation, Store}
use Rattle.tw_metas.specs.State.{State}
use Rattle.tw_putting.specs.Stores.{ValuesAreBound, bindings_of, types_of}

-- the store, with these equations in front of the postponed ones
abbrev pub whole : List Equation → State → Store
whole es s = record { metavariables = types_of s; bindings = bindings_of s; equations = followed es s.equations }

-- each number stands once in the list
abbrev pub AreDistinct : List ℕ → Type 0
AreDistinct [] = Unit {0}
AreDistinct (m ∷ ms) = (Member m ms → ⊥) × AreDistinct ms

-- What the changes of a store keep: each metavariable has a place for its value; those that count as bound have a value, and no other has one;
-- and none is bound twice.
pub record IsConsistent (s : State) : Type 0 where
  pub places : length s.values ≡ length s.declared
  pub bound_have_values : (m : ℕ) → Member m s.bound → (N : Term) × (slice_get s.values m ≡ Some (Some N))
  pub values_are_bound : ValuesAreBound s
  pub distinct : AreDistinct s.bound
