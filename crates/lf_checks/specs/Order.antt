-- Termination orders: smaller terms, and orders over the places of a family.
use Rattle.std.specs.Prelude.{◌≡◌, ℕ, zero, suc, ◌+◌, List, [], ◌∷◌, Bool, true, false, ◌⊎◌, Option, Some, None}
use Rattle.lf.specs.Syntax.{constant, variable, Term, Spine, lambda, root, nil, app, LfType, Kind, pi, kind_pi, star, rename, rename_type}
use Rattle.lf.specs.Substitution.{Image, keep}
use Rattle.lf.specs.Typing.{Signature, TypeAt, instantiate_type, instantiate_kind}
use Rattle.lf.specs.Variables.{at_variable}

-- M is smaller than N, a term of type A in the context C: an argument of N's head is M, or M is smaller than it; or N is
-- [x] N' and M is N' with a local variable of x's type for x, or smaller than it. L has the variables of the subgoal's local
-- context, and R besides these the block entries that stand outside the clause. A variable of the clause is in neither, and nor
-- is a `some` variable: a term with such a head may become any of its arguments.
mutual
  pub data Smaller (Σ : Signature) (C : List LfType) (L R : ℕ → Bool) : Term → Term → LfType → Type 0 where
    under_constant : {M : Term} {X A : LfType} {c : ℕ} {S : Spine} → Σ.types c ≡ Some A → InArguments Σ C L R M S A → Smaller Σ C L R M (root (constant c) S) X
    under_parameter : {M : Term} {X A : LfType} {i : ℕ} {S : Spine} → R i ≡ true → TypeAt C i A → InArguments Σ C L R M S A → Smaller Σ C L R M (root (variable i) S) X
    under_lambda : {M N : Term} {A B : LfType} (y : ℕ) → L y ≡ true → TypeAt C y A → SmallerOrEqual Σ C L R M (rename (at_variable y) N) (rename_type (at_variable y) B) → Smaller Σ C L R M (lambda N) (pi A B)

  -- M is N, or smaller
  pub data SmallerOrEqual (Σ : Signature) (C : List LfType) (L R : ℕ → Bool) : Term → Term → LfType → Type 0 where
    equal : {M : Term} {A : LfType} → SmallerOrEqual Σ C L R M M A
    smaller : {M N : Term} {A : LfType} → Smaller Σ C L R M N A → SmallerOrEqual Σ C L R M N A

  -- of the arguments of a head of this type
  pub data InArguments (Σ : Signature) (C : List LfType) (L R : ℕ → Bool) : Term → Spine → LfType → Type 0 where
    first_argument : {M N : Term} {S : Spine} {A B : LfType} → SmallerOrEqual Σ C L R M N A → InArguments Σ C L R M (app N S) (pi A B)
    later_argument : {M N : Term} {S : Spine} {A B : LfType} → InArguments Σ C L R M S (instantiate_type A N B) → InArguments Σ C L R M (app N S) (pi A B)

-- the size of a term: how many lambdas and roots stand in it
abbrev mutual
  pub size : Term → ℕ
  size (lambda M) = suc (size M)
  size (root h S) = suc (spine_size S)

  pub spine_size : Spine → ℕ
  spine_size nil = zero
  spine_size (app M S) = size M + spine_size S

-- σ gives each variable of R a variable
abbrev pub KeepsVariables : (ℕ → Bool) → (ℕ → Image) → Type 0
KeepsVariables R σ = (i : ℕ) → R i ≡ true → (j : ℕ) × (σ i ≡ keep j)

-- An order names places, counted from 1. `lexicographic` has the components of {..}, `simultaneous` those of [..].
mutual
  pub data Order : Type 0 where
    place : ℕ → Order
    lexicographic : Orders → Order
    simultaneous : Orders → Order

  pub data Orders : Type 0 where
    no_order : Orders
    next_order : Order → Orders → Orders

-- the argument at a place, if there is one
abbrev pub argument_at : ℕ → Spine → Option Term
argument_at zero S = None
argument_at (suc i) nil = None
argument_at (suc zero) (app M S) = Some M
argument_at (suc (suc i)) (app M S) = argument_at (suc i) S

-- the type of the argument at a place of a family of this kind
abbrev pub place_type : ℕ → Spine → Kind → Option LfType
place_type zero S K = None
place_type (suc i) nil K = None
place_type (suc i) (app M S) star = None
place_type (suc zero) (app M S) (kind_pi A K) = Some A
place_type (suc (suc i)) (app M S) (kind_pi A K) = place_type (suc i) S (instantiate_kind A M K)

-- the orders differ in nothing but the numbers of their places
abbrev mutual
  pub Alike : Order → Order → Type 0
  Alike (place i) (place j) = Unit {0}
  Alike (place i) (lexicographic Ps) = ⊥
  Alike (place i) (simultaneous Ps) = ⊥
  Alike (lexicographic Os) (place j) = ⊥
  Alike (lexicographic Os) (lexicographic Ps) = AllAlike Os Ps
  Alike (lexicographic Os) (simultaneous Ps) = ⊥
  Alike (simultaneous Os) (place j) = ⊥
  Alike (simultaneous Os) (lexicographic Ps) = ⊥
  Alike (simultaneous Os) (simultaneous Ps) = AllAlike Os Ps

  -- each with each
  pub AllAlike : Orders → Orders → Type 0
  AllAlike no_order no_order = Unit {0}
  AllAlike no_order (next_order P Ps) = ⊥
  AllAlike (next_order O Os) no_order = ⊥
  AllAlike (next_order O Os) (next_order P Ps) = Alike O P × AllAlike Os Ps

-- Two tuples of arguments are the same by their orders, where E says what the same means of a place of each.
abbrev mutual
  pub Same : (ℕ → ℕ → Type 0) → Order → Order → Type 0
  Same E (place i) (place j) = E i j
  Same E (lexicographic Os) (lexicographic Ps) = AllSame E Os Ps
  Same E (simultaneous Os) (simultaneous Ps) = AllSame E Os Ps
  Same E O P = ⊥

  -- each with each
  pub AllSame : (ℕ → ℕ → Type 0) → Orders → Orders → Type 0
  AllSame E no_order no_order = Unit {0}
  AllSame E no_order (next_order P Ps) = ⊥
  AllSame E (next_order O Os) no_order = ⊥
  AllSame E (next_order O Os) (next_order P Ps) = Same E O P × AllSame E Os Ps

-- The first tuple is less by their orders, where L says what less means of a place of each.
abbrev mutual
  pub Less : (ℕ → ℕ → Type 0) → (ℕ → ℕ → Type 0) → Order → Order → Type 0
  Less L E (place i) (place j) = L i j
  Less L E (lexicographic Os) (lexicographic Ps) = LessLexicographic L E Os Ps
  Less L E (simultaneous Os) (simultaneous Ps) = LessSimultaneous L E Os Ps
  Less L E O P = ⊥

  -- an earlier component is less, those before it are the same
  pub LessLexicographic : (ℕ → ℕ → Type 0) → (ℕ → ℕ → Type 0) → Orders → Orders → Type 0
  LessLexicographic L E no_order Ps = ⊥
  LessLexicographic L E (next_order O Os) no_order = ⊥
  LessLexicographic L E (next_order O Os) (next_order P Ps) = Less L E O P ⊎ (Same E O P × LessLexicographic L E Os Ps)

  -- every component is less or the same, and one is less
  pub LessSimultaneous : (ℕ → ℕ → Type 0) → (ℕ → ℕ → Type 0) → Orders → Orders → Type 0
  LessSimultaneous L E no_order Ps = ⊥
  LessSimultaneous L E (next_order O Os) no_order = ⊥
  LessSimultaneous L E (next_order O Os) (next_order P Ps) = (Less L E O P × NoneGreater L E Os Ps) ⊎ (Same E O P × LessSimultaneous L E Os Ps)

  -- each component is less or the same
  pub NoneGreater : (ℕ → ℕ → Type 0) → (ℕ → ℕ → Type 0) → Orders → Orders → Type 0
  NoneGreater L E no_order Ps = Unit {0}
  NoneGreater L E (next_order O Os) no_order = ⊥
  NoneGreater L E (next_order O Os) (next_order P Ps) = (Less L E O P ⊎ Same E O P) × NoneGreater L E Os Ps

-- a place is one of those chosen, the first place first
abbrev pub chosen_at : List Bool → ℕ → Bool
chosen_at [] i = false
chosen_at (b ∷ m) zero = false
chosen_at (b ∷ m) (suc zero) = b
chosen_at (b ∷ m) (suc (suc i)) = chosen_at m (suc i)

-- each place that the order names is chosen
abbrev mutual
  pub IsAtPlaces : List Bool → Order → Type 0
  IsAtPlaces m (place i) = chosen_at m i ≡ true
  IsAtPlaces m (lexicographic Os) = AreAtPlaces m Os
  IsAtPlaces m (simultaneous Os) = AreAtPlaces m Os

  -- of each order of a list
  pub AreAtPlaces : List Bool → Orders → Type 0
  AreAtPlaces m no_order = Unit {0}
  AreAtPlaces m (next_order O Os) = IsAtPlaces m O × AreAtPlaces m Os
