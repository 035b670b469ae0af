-- LF typing in canonical form.
use Rattle.std.specs.Prelude.{◌≡◌, ℕ, zero, suc, List, [], ◌∷◌, Option, Some}
use Rattle.lf.specs.Syntax.{Head, constant, variable, metavariable, Term, Spine, lambda, root, nil, app, LfType, Kind, pi, atom, kind_pi, star, skeleton, weaken, rename_type}
use Rattle.lf.specs.Substitution.{Image, keep, put, single, substitute_type, substitute_kind, reduce}

-- a signature, as its lookups
pub record Signature : Type 0 where
  pub types : ℕ → Option LfType
  pub kinds : ℕ → Option Kind

-- a context has its newest variable, number 0, in front
abbrev pub TypeAt : List LfType → ℕ → LfType → Type 0
TypeAt [] i A = ⊥
TypeAt (B ∷ G) zero A = A ≡ weaken B
TypeAt (B ∷ G) (suc i) A = (C : LfType) × TypeAt G i C × (A ≡ weaken C)

-- a declared constant or a variable has a type; a metavariable has none
abbrev pub HeadHasType : Signature → List LfType → Head → LfType → Type 0
HeadHasType Σ G (constant c) A = Σ.types c ≡ Some A
HeadHasType Σ G (variable i) A = TypeAt G i A
HeadHasType Σ G (metavariable m) A = ⊥

-- M of type A for the newest variable
abbrev pub instantiate_type : LfType → Term → LfType → LfType
instantiate_type A M B = substitute_type reduce (single (skeleton A) M) B

abbrev pub instantiate_kind : LfType → Term → Kind → Kind
instantiate_kind A M K = substitute_kind reduce (single (skeleton A) M) K

-- A lambda has a pi as its type where its body has the codomain; a root has an atom where its spine takes the type of its head
-- to just this atom. Types are equal only where they are the same text.
abbrev mutual
  pub HasType : Signature → List LfType → Term → LfType → Type 0
  HasType Σ G (lambda M) (pi A B) = HasType Σ (A ∷ G) M B
  HasType Σ G (lambda M) (atom a T) = ⊥
  HasType Σ G (root h S) (pi A B) = ⊥
  HasType Σ G (root h S) (atom a T) = (A : LfType) × HeadHasType Σ G h A × SpineType Σ G S A (atom a T)

  -- no argument takes a type to itself; an argument of the domain takes a pi to the codomain with it put in
  pub SpineType : Signature → List LfType → Spine → LfType → LfType → Type 0
  SpineType Σ G nil A C = A ≡ C
  SpineType Σ G (app M S) (pi A B) C = HasType Σ G M A × SpineType Σ G S (instantiate_type A M B) C
  SpineType Σ G (app M S) (atom a T) C = ⊥

-- the spine takes the kind to `type`
abbrev pub SpineFitsKind : Signature → List LfType → Spine → Kind → Type 0
SpineFitsKind Σ G nil (kind_pi A K) = ⊥
SpineFitsKind Σ G nil star = Unit {0}
SpineFitsKind Σ G (app M S) (kind_pi A K) = HasType Σ G M A × SpineFitsKind Σ G S (instantiate_kind A M K)
SpineFitsKind Σ G (app M S) star = ⊥

-- {x:A} B where A is a type, and B one under x; a declared family where its arguments take its kind to `type`
abbrev pub IsType : Signature → List LfType → LfType → Type 0
IsType Σ G (pi A B) = IsType Σ G A × IsType Σ (A ∷ G) B
IsType Σ G (atom a S) = (K : Kind) × (Σ.kinds a ≡ Some K) × SpineFitsKind Σ G S K

-- `type`, and {x:A} K where A is a type and K a kind under x
abbrev pub IsKind : Signature → List LfType → Kind → Type 0
IsKind Σ G (kind_pi A K) = IsType Σ G A × IsKind Σ (A ∷ G) K
IsKind Σ G star = Unit {0}

-- each type is a type in the part before it
abbrev pub IsContext : Signature → List LfType → Type 0
IsContext Σ [] = Unit {0}
IsContext Σ (A ∷ G) = IsContext Σ G × IsType Σ G A

-- each declared type is a type and each kind a kind, over the whole signature
pub record IsSignature (Σ : Signature) : Type 0 where
  pub types_ok : (c : ℕ) (A : LfType) → Σ.types c ≡ Some A → IsType Σ [] A
  pub kinds_ok : (a : ℕ) (K : Kind) → Σ.kinds a ≡ Some K → IsKind Σ [] K

-- a renaming of the variables of G to variables of D of the renamed types
abbrev pub IsTypedRenaming : List LfType → List LfType → (ℕ → ℕ) → Type 0
IsTypedRenaming G D ρ = (i : ℕ) (A : LfType) → TypeAt G i A → TypeAt D (ρ i) (rename_type ρ A)

-- What stands for a variable of type A, in the context D.
abbrev pub ImageHasType : Signature → List LfType → Image → LfType → Type 0
ImageHasType Σ D (keep j) A = TypeAt D j A
ImageHasType Σ D (put a N) A = (skeleton A ≡ a) × HasType Σ D N A

-- a substitution from G to D: each variable of G gets a value of its type
abbrev pub IsTypedSubstitution : Signature → List LfType → List LfType → (ℕ → Image) → Type 0
IsTypedSubstitution Σ G D σ = (i : ℕ) (A : LfType) → TypeAt G i A → ImageHasType Σ D (σ i) (substitute_type reduce σ A)
