-- Occurrences that stand in no argument of a metavariable.
use Rattle.std.specs.Prelude.{ℕ, zero, suc, Option}
use Rattle.lf.specs.Syntax.{Spine, Term, app, constant, lambda, root, variable}
use Rattle.lf_unification.specs.Filling.{moved}
use Rattle.lf_unification.specs.Patterns.{LiftedSet}

-- the part stands in the whole under k binders
mutual
  pub data Rigid (N : Term) : ℕ → Term → Type 0 where
    here : Rigid N zero N
    in_lambda : {k : ℕ} {M : Term} → Rigid N k M → Rigid N (suc k) (lambda M)
    in_constant : {k c : ℕ} {S : Spine} → RigidInSpine N k S → Rigid N k (root (constant c) S)
    in_variable : {k i : ℕ} {S : Spine} → RigidInSpine N k S → Rigid N k (root (variable i) S)

  pub data RigidInSpine (N : Term) : ℕ → Spine → Type 0 where
    first : {k : ℕ} {M : Term} {S : Spine} → Rigid N k M → RigidInSpine N k (app M S)
    later : {k : ℕ} {M : Term} {S : Spine} → RigidInSpine N k S → RigidInSpine N k (app M S)

-- a set of variables under k more binders
abbrev pub LiftedSetBy : ℕ → (ℕ → Type 0) → ℕ → Type 0
LiftedSetBy zero P = λ i. P i
LiftedSetBy (suc k) P = LiftedSetBy k (LiftedSet P)

-- a filling under k more binders
abbrev pub moved_by : ℕ → (ℕ → Option Term) → ℕ → Option Term
moved_by zero β = λ m. β m
moved_by (suc k) β = moved_by k (moved suc β)

-- a variable, seen from under k more binders
abbrev pub past_binders : ℕ → ℕ → ℕ
past_binders zero i = i
past_binders (suc k) i = past_binders k (suc i)
