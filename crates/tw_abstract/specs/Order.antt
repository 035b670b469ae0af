-- The order of the quantifiers that free metavariables become.
use Rattle.std.specs.Prelude.{◌≡◌, ℕ, List, [], ◌∷◌, ◌++◌, ◌⊎◌}
use Rattle.lf.specs.Subordination.{Member}

-- a metavariable that waits for its place, and those that its type mentions
pub record Waiting : Type 0 where
  pub of : ℕ
  pub needs : List ℕ

-- it isn't among the chosen ones, and all that it needs is
abbrev pub CanFollow : List ℕ → Waiting → Type 0
CanFollow chosen e = (Member e.of chosen → ⊥) × ((n : ℕ) → Member n e.needs → Member n chosen)

-- m is the first that can follow
abbrev pub IsNext : List Waiting → List ℕ → ℕ → Type 0
IsNext [] chosen m = ⊥
IsNext (e ∷ es) chosen m = ((e.of ≡ m) × CanFollow chosen e) ⊎ ((CanFollow chosen e → ⊥) × IsNext es chosen m)

-- none can
abbrev pub NoneIsNext : List Waiting → List ℕ → Type 0
NoneIsNext [] chosen = Unit {0}
NoneIsNext (e ∷ es) chosen = (CanFollow chosen e → ⊥) × NoneIsNext es chosen

-- each one of the list is the next where those before it are chosen
abbrev pub EachIsNext : List Waiting → List ℕ → List ℕ → Type 0
EachIsNext es chosen [] = Unit {0}
EachIsNext es chosen (m ∷ ms) = IsNext es chosen m × EachIsNext es (chosen ++ m ∷ []) ms

-- Repeatedly the first of those whose needs stand: this gives the list, and all are in it. `es` are in order of first occurrence.
abbrev pub IsOrder : List Waiting → List ℕ → Type 0
IsOrder es ms = EachIsNext es [] ms × ((e : Waiting) → Member e es → Member e.of ms)

-- this comes to where none can follow, and one is left
abbrev pub IsStuck : List Waiting → Type 0
IsStuck es = (ms : List ℕ) × EachIsNext es [] ms × NoneIsNext es ms × ((e : Waiting) × Member e es × (Member e.of ms → ⊥))
