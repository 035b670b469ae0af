-- Instances of types and of blocks: terms are put in for their variables.
--
-- `some {n:nat} block {x:t n}` has the instance `{x:t (s z)}`, by the term `s z`.
use Rattle.std.specs.Prelude.{◌≡◌, ◌⊎◌, ◌^◌, ◌≤◌, ℕ, zero, suc, List, [], ◌∷◌, length, Bool, true, false, Option, Some, None}
use Rattle.lf.specs.Depth.{depth_limit, type_depth}
use Rattle.lf.specs.DeepTyping.{TypingReachesDeep}
use Rattle.lf.specs.Substitution.{Image, substitute_type, reduce}
use Rattle.lf.specs.Subordination.{Block}
use Rattle.lf.specs.Syntax.{Term, LfType, pi, atom}
use Rattle.lf.specs.Typing.{Signature, TypeAt, HasType, IsType, IsContext, instantiate_type}
use Rattle.lf.specs.Variables.{Values, everything, nothing, onto}
use Rattle.lf.specs.Worlds.{instance}
use Rattle.lf_checks.specs.Strict.{strict_type}
use Rattle.lf_checks.specs.Worlded.{IsTerm, past_types}
use Rattle.lf_unification.specs.Offering.{pi_over}
use Rattle.tw_world.specs.Finding.{value_in_type}

-- θ gives each variable of O a term of its type in G
pub record AreValues (Σ : Signature) (O G : List LfType) (θ : ℕ → Image) : Type 0 where
  pub typed : Values Σ everything O G θ
  pub terms : (i : ℕ) (A : LfType) → TypeAt O i A → IsTerm (θ i)

-- so that P becomes T
pub record Matches (Σ : Signature) (O : List LfType) (P : LfType) (G : List LfType) (T : LfType) (θ : ℕ → Image) : Type 0 where
  pub values : AreValues Σ O G θ
  pub same : substitute_type reduce θ P ≡ T

-- some values do
abbrev pub IsInstanceOf : Signature → List LfType → LfType → List LfType → LfType → Type 0
IsInstanceOf Σ O P G T = (θ : ℕ → Image) × Matches Σ O P G T θ

-- the types of a part of a context are an instance of a block in what stands before it
abbrev pub IsInstance : Signature → Block → List LfType → List LfType → Type 0
IsInstance Σ B G es = (θ : ℕ → Image) × AreValues Σ B.some G θ × (instance B.entries θ ≡ es)

-- a block's entries, or a part of a context, as one type: the last one, closed over those before it
abbrev pub as_type : List LfType → Option LfType
as_type [] = None
as_type (E ∷ es) = Some (pi_over es E)

-- each variable of O has a strict occurrence in the type
abbrev pub AllStrict : List LfType → LfType → Type 0
AllStrict O P = (x : ℕ) (A : LfType) → TypeAt O x A → strict_type nothing nothing x P ≡ true

-- What is left of a type that takes a term of the domain of its first quantifier, if the term is one.
abbrev pub Takes : Signature → List LfType → LfType → Term → Option LfType → Type 0
Takes Σ G (pi A B) V None = HasType Σ G V A → ⊥
Takes Σ G (pi A B) V (Some C) = HasType Σ G V A × (C ≡ instantiate_type A V B)
Takes Σ G (atom a S) V None = Unit {0}
Takes Σ G (atom a S) V (Some C) = ⊥

-- A type can't be told to take a term: the typing of the term at the domain of its first quantifier goes too deep, or what would be left is deeper than any number of the program.
abbrev pub TakesDeep : Signature → List LfType → LfType → Term → Type 0
TakesDeep Σ G (pi A B) V = TypingReachesDeep depth_limit Σ G V A ⊎ (2 ^ 64 ≤ type_depth (instantiate_type A V B))
TakesDeep Σ G (atom a S) V = ⊥

-- The variables O have their values, those of R, which are newer, have none yet, and `rest` is what is left of P closed over all.
pub record Reaches (Σ : Signature) (G : List LfType) (P : LfType) (R O : List LfType) (θ : ℕ → Image) (left : ℕ) (rest : LfType) : Type 0 where
  pub context : IsContext Σ (onto R O)
  pub pattern : IsType Σ (onto R O) P
  pub strict : AllStrict (onto R O) P
  pub count : left ≡ length R
  pub values : AreValues Σ O G θ
  pub is_rest : rest ≡ substitute_type reduce θ (pi_over R P)

-- values of all variables that are those of O so far
abbrev pub Agrees : List LfType → List LfType → (ℕ → Image) → (ℕ → Image) → Type 0
Agrees R O τ θ = (i : ℕ) (A : LfType) → TypeAt O i A → τ (past_types R i) ≡ θ i

-- whether there are values for all, where those of O are given
abbrev pub Settles : Signature → List LfType → LfType → LfType → ℕ → LfType → Bool → Type 0
Settles Σ G P T left rest b = (R O : List LfType) (θ : ℕ → Image) → Reaches Σ G P R O θ left rest → (b ≡ true → IsInstanceOf Σ (onto R O) P G T) × (b ≡ false → (τ : ℕ → Image) → Matches Σ (onto R O) P G T τ → Agrees R O τ θ → ⊥)

-- P, closed over its variables, takes the values that T would give them, the oldest first; `rest` is what is left before the n newest have theirs. Whether it takes one of these can't be told.
abbrev pub GoesDeep : Signature → List LfType → LfType → LfType → ℕ → LfType → Type 0
GoesDeep Σ G P T zero rest = ⊥
GoesDeep Σ G P T (suc n) rest = (V : Term) × (value_in_type 0 n P T ≡ Some V) × (TakesDeep Σ G rest V ⊎ ((C : LfType) × Takes Σ G rest V (Some C) × GoesDeep Σ G P T n C))

-- The same of a block and its `some` variables, in a part of a context.
abbrev pub InstanceGoesDeep : Signature → Block → List LfType → List LfType → Type 0
InstanceGoesDeep Σ B G es = (P : LfType) × (T : LfType) × (as_type B.entries ≡ Some P) × (as_type es ≡ Some T) × GoesDeep Σ G P T (length B.some) (pi_over B.some P)
