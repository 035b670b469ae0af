-- Orders of a store's metavariables. A well formed store has one of them, and is well formed with each: so a program
-- may take any.
use Rattle.std.specs.Prelude.{◌≡◌, ℕ, List, [], ◌∷◌, ◌++◌, Some, map, reverse}
use Rattle.lf.specs.Syntax.{Term, LfType}
use Rattle.lf.specs.Subordination.{Member}
use Rattle.lf.specs.Typing.{Signature}
use Rattle.lf_unification.specs.Dependency.{ListedMetavariable}
use Rattle.lf_unification.specs.OpenTyping.{Declares, MetavariablesIn, MetavariablesInType}
use Rattle.lf_unification.specs.Solving.{IsWellFormed, Solved}
use Rattle.lf_unification.specs.Unifiers.{Store}

-- The declared type of the metavariable m, and its value where it is bound, mention metavariables of the list alone. No
-- values are put in there.
pub record MentionsOnly (s : Store) (m : ℕ) (ms : List ℕ) : Type 0 where
  pub in_type : (A : LfType) → s.metavariables m ≡ Some A → MetavariablesInType (λ n. Member n ms) A
  pub in_value : (N : Term) → Member (record { of = m; value = N }) s.bindings → MetavariablesIn (λ n. Member n ms) N

-- An order of metavariables, the newest first: each is declared, stands there once, and its type and value mention only
-- what stands behind it. D, X is one where D : t X; X, D isn't.
abbrev pub IsOrderOf : Store → List ℕ → Type 0
IsOrderOf s [] = Unit {0}
IsOrderOf s (m ∷ ms) = Declares s.metavariables m × (Member m ms → ⊥) × MentionsOnly s m ms × IsOrderOf s ms

-- All of the store's metavariables are in the list.
abbrev pub HasAll : Store → List ℕ → Type 0
HasAll s ms = (m : ℕ) (A : LfType) → s.metavariables m ≡ Some A → Member m ms

abbrev pub order_of : {Σ : Signature} {s : Store} → IsWellFormed Σ s → List ℕ
order_of w = map (λ (it : ListedMetavariable). it.of) w.order

-- The order of a well formed store is one, and has all.
abbrev pub OwnOrderIsOne : Type 0
OwnOrderIsOne = (Σ : Signature) (s : Store) (w : IsWellFormed Σ s) → IsOrderOf s (order_of w) × HasAll s (order_of w)

-- With each other order of all its metavariables the store is well formed too.
abbrev pub AnyOrderServes : Type 0
AnyOrderServes = (Σ : Signature) (s : Store) → IsWellFormed Σ s → (ms : List ℕ) → IsOrderOf s ms → HasAll s ms → (w : IsWellFormed Σ s) × (order_of w ≡ ms)

-- So what solving leaves may be read off in any of them.
abbrev pub SolvedInAnyOrder : Type 0
SolvedInAnyOrder = (Σ : Signature) (before after : Store) → Solved Σ before after → (ms : List ℕ) → IsOrderOf after ms → HasAll after ms → (s : Solved Σ before after) × (order_of s.well_formed ≡ ms)

-- A list in which each comes once, after all that its type and value mention, is one from behind.
abbrev pub FollowingIsOrder : Type 0
FollowingIsOrder = (s : Store) (ms : List ℕ) → ((first rest : List ℕ) (m : ℕ) → ms ≡ first ++ m ∷ rest → Declares s.metavariables m × (Member m first → ⊥) × MentionsOnly s m first) → IsOrderOf s (reverse ms)
