-- Families and variables that occur, sets of variables, values typed on a set of variables.
use Rattle.std.specs.Prelude.{◌≡◌, ℕ, zero, suc, List, [], ◌∷◌, Bool, true, false}
use Rattle.lf.specs.Syntax.{constant, variable, metavariable, Term, Spine, lambda, root, nil, app, LfType, Kind, pi, atom, kind_pi, star, rename_type}
use Rattle.lf.specs.Substitution.{Image, keep, put, substitute_type, reduce}
use Rattle.lf.specs.Typing.{Signature, TypeAt, ImageHasType}

-- the target family of a type, and the arguments that it has there
abbrev pub target : LfType → ℕ
target (pi A B) = target B
target (atom a S) = a

abbrev pub target_arguments : LfType → Spine
target_arguments (pi A B) = target_arguments B
target_arguments (atom a S) = S

-- the type with other arguments at its target
abbrev pub with_arguments : LfType → Spine → LfType
with_arguments (pi A B) T = pi A (with_arguments B T)
with_arguments (atom a S) T = atom a T

-- the context under the leading quantifiers of a type
abbrev pub binders : List LfType → LfType → List LfType
binders G (pi A B) = binders (A ∷ G) B
binders G (atom a S) = G

-- the context D after G
abbrev pub onto : List LfType → List LfType → List LfType
onto [] G = G
onto (A ∷ D) G = A ∷ onto D G

-- A set of families is a test. Every family that occurs is one of S.
abbrev pub FamiliesIn : (ℕ → Bool) → LfType → Type 0
FamiliesIn S (pi A B) = FamiliesIn S A × FamiliesIn S B
FamiliesIn S (atom a T) = S a ≡ true

abbrev pub KindFamiliesIn : (ℕ → Bool) → Kind → Type 0
KindFamiliesIn S (kind_pi A K) = FamiliesIn S A × KindFamiliesIn S K
KindFamiliesIn S star = Unit {0}

-- A set of variables. Under a binder the new variable is in it.
abbrev pub under : (ℕ → Bool) → ℕ → Bool
under U zero = true
under U (suc i) = U i

-- every variable that occurs is one of U
abbrev mutual
  pub Uses : (ℕ → Bool) → Term → Type 0
  Uses U (lambda M) = Uses (under U) M
  Uses U (root (constant c) S) = UsesSpine U S
  Uses U (root (metavariable m) S) = UsesSpine U S
  Uses U (root (variable i) S) = (U i ≡ true) × UsesSpine U S

  pub UsesSpine : (ℕ → Bool) → Spine → Type 0
  UsesSpine U nil = Unit {0}
  UsesSpine U (app M S) = Uses U M × UsesSpine U S

-- the same in a type
abbrev pub UsesType : (ℕ → Bool) → LfType → Type 0
UsesType U (pi A B) = UsesType U A × UsesType (under U) B
UsesType U (atom a S) = UsesSpine U S

-- σ gives each variable of C in the set U a value of its type. What it gives to other variables is of no meaning;
-- so U is to hold, step by step, the variables in the types of its variables.
pub record Values (Σ : Signature) (U : ℕ → Bool) (C D : List LfType) (σ : ℕ → Image) : Type 0 where
  pub typed : (i : ℕ) (A : LfType) → TypeAt C i A → U i ≡ true → ImageHasType Σ D (σ i) (substitute_type reduce σ A)
  pub closed : (i : ℕ) (A : LfType) → TypeAt C i A → U i ≡ true → UsesType U A

-- each of U is one of V
abbrev pub Within : (ℕ → Bool) → (ℕ → Bool) → Type 0
Within U V = (i : ℕ) → U i ≡ true → V i ≡ true

-- two substitutions give the variables of U the same
abbrev pub SameOn : (ℕ → Bool) → (ℕ → Image) → (ℕ → Image) → Type 0
SameOn U σ τ = (i : ℕ) → U i ≡ true → σ i ≡ τ i

-- what stands for a variable uses variables of U only
abbrev pub ImageUses : (ℕ → Bool) → Image → Type 0
ImageUses U (keep j) = U j ≡ true
ImageUses U (put a N) = Uses U N

-- all variables, and none
abbrev pub everything : ℕ → Bool
everything i = true

abbrev pub nothing : ℕ → Bool
nothing i = false

-- y for the newest variable
abbrev pub at_variable : ℕ → ℕ → ℕ
at_variable y zero = y
at_variable y (suc i) = i

-- the set without the newest variable
abbrev pub hide : (ℕ → Bool) → ℕ → Bool
hide U zero = false
hide U (suc i) = U i

-- equality of numbers as a test
abbrev pub same_number : ℕ → ℕ → Bool
same_number zero zero = true
same_number zero (suc j) = false
same_number (suc i) zero = false
same_number (suc i) (suc j) = same_number i j

-- a renaming of the variables of G in the set U to variables of D of the renamed types
abbrev pub IsTypedRenamingOn : (ℕ → Bool) → List LfType → List LfType → (ℕ → ℕ) → Type 0
IsTypedRenamingOn U G D ρ = (i : ℕ) (A : LfType) → TypeAt G i A → U i ≡ true → TypeAt D (ρ i) (rename_type ρ A)
