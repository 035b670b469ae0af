-- Canonical terms of LF in de Bruijn form.
use Rattle.std.specs.Prelude.{ℕ, zero, suc}

-- A head is a constant, a variable, or a metavariable; the typing of signatures and answers has no rule for the last.
pub data Head : Type 0 where
  constant : ℕ → Head
  variable : ℕ → Head
  metavariable : ℕ → Head
  deriving Discrete as Head-discrete

mutual
  pub data Term : Type 0 where
    lambda : Term → Term
    root : Head → Spine → Term
    deriving Discrete as Term-discrete

  pub data Spine : Type 0 where
    nil : Spine
    app : Term → Spine → Spine
    deriving Discrete as Spine-discrete

-- {x:A} B, or a family on its arguments
pub data LfType : Type 0 where
  pi : LfType → LfType → LfType
  atom : ℕ → Spine → LfType
  deriving Discrete as LfType-discrete

-- {x:A} K, or `type`
pub data Kind : Type 0 where
  kind_pi : LfType → Kind → Kind
  star : Kind
  deriving Discrete as Kind-discrete

-- The skeleton of a type: its indices dropped.
pub data Skeleton : Type 0 where
  base : ℕ → Skeleton
  arrow : Skeleton → Skeleton → Skeleton
  deriving Discrete as Skeleton-discrete

-- the skeleton of an atom is its family, that of a pi the arrow between those of its parts
abbrev pub skeleton : LfType → Skeleton
skeleton (pi A B) = arrow (skeleton A) (skeleton B)
skeleton (atom a S) = base a

-- that of a family of this kind
abbrev pub kind_skeleton : ℕ → Kind → Skeleton
kind_skeleton a (kind_pi A K) = arrow (skeleton A) (kind_skeleton a K)
kind_skeleton a star = base a

-- Renaming of variables. Under a binder variable 0 stays.
abbrev pub lift_renaming : (ℕ → ℕ) → ℕ → ℕ
lift_renaming ρ zero = zero
lift_renaming ρ (suc i) = suc (ρ i)

-- each variable by ρ; constants and metavariables stay
abbrev pub rename_head : (ℕ → ℕ) → Head → Head
rename_head ρ (constant c) = constant c
rename_head ρ (variable i) = variable (ρ i)
rename_head ρ (metavariable m) = metavariable m

abbrev mutual
  pub rename : (ℕ → ℕ) → Term → Term
  rename ρ (lambda M) = lambda (rename (lift_renaming ρ) M)
  rename ρ (root h S) = root (rename_head ρ h) (rename_spine ρ S)

  pub rename_spine : (ℕ → ℕ) → Spine → Spine
  rename_spine ρ nil = nil
  rename_spine ρ (app M S) = app (rename ρ M) (rename_spine ρ S)

abbrev pub rename_type : (ℕ → ℕ) → LfType → LfType
rename_type ρ (pi A B) = pi (rename_type ρ A) (rename_type (lift_renaming ρ) B)
rename_type ρ (atom a S) = atom a (rename_spine ρ S)

abbrev pub rename_kind : (ℕ → ℕ) → Kind → Kind
rename_kind ρ (kind_pi A K) = kind_pi (rename_type ρ A) (rename_kind (lift_renaming ρ) K)
rename_kind ρ star = star

-- a type moved over one more variable
abbrev pub weaken : LfType → LfType
weaken A = rename_type suc A
