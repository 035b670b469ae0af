-- A walk over numbers: those that were met, in the order in which they were.
use Rattle.std.specs.Prelude.{ℕ, List, Bool, nat_eq, Contains, ◌≡◌, ◌++◌, true, ◌↔◌}
use Rattle.std.specs.HashSet.{contains}
use Rattle.tw_subord.specs.declared.closure.Walk.{Walk}

pub record Walked : Type 0 where
  pub met : ℕ → Bool
  pub found : List ℕ

abbrev pub walked : Walk → Walked
walked w = record { met = λ k. contains nat_eq w.met k; found = w.found.items }

-- what was met was found
abbrev pub InSync : Walked → Type 0
InSync w = (k : ℕ) → (w.met k ≡ true) ↔ Contains w.found k

-- Those of P that weren't met before are found behind the others.
pub record Adds (P : ℕ → Type 0) (old new : Walked) : Type 0 where
  pub more : List ℕ
  pub behind : new.found ≡ old.found ++ more
  pub all : (k : ℕ) → P k → Contains new.found k
  pub only : (k : ℕ) → Contains more k → P k
  pub in_sync : InSync new
