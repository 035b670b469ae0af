-- Lists of equations between shapes, and the steps by which they are solved.
use Rattle.std.specs.Prelude.{◌≡◌, ◌≢◌, ℕ, ◌+◌, ◌<◌, List, [], ◌∷◌, length, None}
use Rattle.lf.specs.Syntax.{Skeleton}
use Rattle.tw_shapes.specs.Shapes.{Shape, AllVariables, IsWithin, filled, Store, value_of, Solves}
use Rattle.tw_shapes.specs.Order.{IsOrdered, length_of_walk}

-- two shapes that are to be equal
pub record Equation : Type 0 where
  pub left : Shape
  pub right : Shape

-- The assignment makes both sides equal.
abbrev pub Holds : (ℕ → Skeleton) → Equation → Type 0
Holds θ e = filled θ e.left ≡ filled θ e.right

-- It does so in each equation.
abbrev pub AllHold : (ℕ → Skeleton) → List Equation → Type 0
AllHold θ [] = Unit {0}
AllHold θ (e ∷ es) = Holds θ e × AllHold θ es

-- equations of the first `count` variables
abbrev pub EquationWithin : ℕ → Equation → Type 0
EquationWithin count e = IsWithin count e.left × IsWithin count e.right

abbrev pub AllWithin : ℕ → List Equation → Type 0
AllWithin count [] = Unit {0}
AllWithin count (e ∷ es) = EquationWithin count e × AllWithin count es

-- how far walks over both sides go, and over those of all equations
abbrev pub walk_of : Store → Equation → ℕ
walk_of s e = length_of_walk s e.left + length_of_walk s e.right

abbrev pub walk_of_all : Store → List Equation → ℕ
walk_of_all s [] = 0
walk_of_all s (e ∷ es) = walk_of s e + walk_of_all s es

-- An equation was replaced by ones between its parts.
pub record IsReplaced (s : Store) (e : Equation) (old new : List Equation) : Type 0 where
  pub within : AllWithin (length s.places) new
  pub kept : (θ : ℕ → Skeleton) → Solves θ s → AllHold θ new → Holds θ e × AllHold θ old
  pub every : (θ : ℕ → Skeleton) → Solves θ s → Holds θ e → AllHold θ old → AllHold θ new
  pub shorter : walk_of_all s new < walk_of_all s old + walk_of s e

-- An equation has no solution.
pub record IsUnsolvable (s : Store) (e : Equation) : Type 0 where
  pub never : (θ : ℕ → Skeleton) → Solves θ s → Holds θ e → ⊥

-- A free variable may be bound to this shape of other free variables.
pub record MayBind (s : Store) (m : ℕ) (S : Shape) : Type 0 where
  pub declared : m < length s.places
  pub free : value_of s m ≡ None
  pub within : IsWithin (length s.places) S
  pub frees : AllVariables (λ n. value_of s n ≡ None) S
  pub others : AllVariables (λ n. n ≢ m) S

-- An equation says what a free variable is; the others stay.
pub record IsBinding (s : Store) (e : Equation) (old new : List Equation) (m : ℕ) (S : Shape) : Type 0 where
  pub stay : new ≡ old
  pub may : MayBind s m S
  pub kept : (θ : ℕ → Skeleton) → Solves θ s → θ m ≡ filled θ S → Holds θ e
  pub every : (θ : ℕ → Skeleton) → Solves θ s → Holds θ e → θ m ≡ filled θ S

-- All hold in each solution; in none.
pub record IsSolved (s : Store) (es : List Equation) : Type 0 where
  pub all : (θ : ℕ → Skeleton) → Solves θ s → AllHold θ es

pub record AreUnsolvable (s : Store) (es : List Equation) : Type 0 where
  pub never : (θ : ℕ → Skeleton) → Solves θ s → AllHold θ es → ⊥

-- The old equations say what a free variable is, and what the new ones say.
pub record AreBinding (s : Store) (old new : List Equation) (m : ℕ) (S : Shape) : Type 0 where
  pub inside : AllWithin (length s.places) new
  pub may : MayBind s m S
  pub kept : (θ : ℕ → Skeleton) → Solves θ s → θ m ≡ filled θ S → AllHold θ new → AllHold θ old
  pub every : (θ : ℕ → Skeleton) → Solves θ s → AllHold θ old → (θ m ≡ filled θ S) × AllHold θ new

-- Bindings came in place of equations, and the new equations are left.
pub record IsRound (first s : Store) (given left : List Equation) : Type 0 where
  pub ordered : IsOrdered s
  pub inside : AllWithin (length s.places) left
  pub count : length s.places ≡ length first.places
  pub kept : (θ : ℕ → Skeleton) → Solves θ s → Solves θ first
  pub back : (θ : ℕ → Skeleton) → Solves θ s → AllHold θ left → AllHold θ given
  pub every : (θ : ℕ → Skeleton) → Solves θ first → AllHold θ given → Solves θ s × AllHold θ left

-- Each solution of the new store is one of the old; each of the old one in which the equations hold is one of the new.
pub record Narrows (old new : Store) (es : List Equation) : Type 0 where
  pub count : length new.places ≡ length old.places
  pub kept : (θ : ℕ → Skeleton) → Solves θ new → Solves θ old
  pub every : (θ : ℕ → Skeleton) → Solves θ old → AllHold θ es → Solves θ new

-- The new equations say what the old ones say.
pub record IsPart (s : Store) (old new : List Equation) : Type 0 where
  pub inside : AllWithin (length s.places) new
  pub kept : (θ : ℕ → Skeleton) → Solves θ s → AllHold θ new → AllHold θ old
  pub every : (θ : ℕ → Skeleton) → Solves θ s → AllHold θ old → AllHold θ new
