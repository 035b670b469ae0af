-- Well-moded clauses.
use Rattle.std.specs.Prelude.{◌≡◌, ℕ, zero, suc, List, [], ◌∷◌, Bool, true, false, ◌⊎◌}
use Rattle.lf.specs.Syntax.{Spine, nil, app, LfType, pi, atom}
use Rattle.lf.specs.Typing.{Signature}
use Rattle.lf.specs.Variables.{target, target_arguments, under, everything}
use Rattle.lf_checks.specs.Tests.{either, choose}
use Rattle.lf_checks.specs.Clause.{Clause, scope, variables, outside, IsSubgoal}
use Rattle.lf_unification.specs.Search.{occurs}
use Rattle.lf_checks.specs.Marks.{Mark, input_places, output_places, free_places, HasSoundMarks, UsesPlaces}
use Rattle.lf_checks.specs.Ground.{UsesGoal, SubgoalsFrom}

-- the variable occurs in a chosen place of a tuple
abbrev pub occurs_at : List Bool → ℕ → Spine → Bool
occurs_at [] x S = false
occurs_at (b ∷ m) x nil = false
occurs_at (true ∷ m) x (app M S) = either (occurs x M) (occurs_at m x S)
occurs_at (false ∷ m) x (app M S) = occurs_at m x S

-- the same in a chosen place of a subgoal, under its quantifiers
abbrev pub occurs_goal : List Bool → ℕ → LfType → Bool
occurs_goal m x (pi A B) = occurs_goal m (suc x) B
occurs_goal m x (atom a S) = occurs_at m x S

-- the variable occurs in a free place of a subgoal
pub record InFreePlace (m : ℕ → List Mark) (c : Clause) (x : ℕ) : Type 0 where
  pub index : ℕ
  pub subgoal : LfType
  pub is_subgoal : IsSubgoal c index subgoal
  pub occurs_there : occurs_goal (free_places (m (target subgoal))) x subgoal ≡ true

-- At the end all variables in the head's output places are ground, and so is each variable of the clause itself that stands in no
-- free place of the head or of a subgoal.
abbrev pub AllGround : (ℕ → List Mark) → Clause → (ℕ → Bool) → Type 0
AllGround m c U = UsesPlaces U (output_places (m (target c.type))) (target_arguments c.type) × ((x : ℕ) → variables c x ≡ true → outside c.type everything x ≡ false → (U x ≡ true) ⊎ (occurs_at (free_places (m (target c.type))) x (target_arguments c.type) ≡ true) ⊎ InFreePlace m c x)

-- Each local hypothesis of a subgoal whose family has a mode is right as a clause, where the parameters and the variables
-- of U are ground. C is the context so far, and F its fixed variables.
abbrev pub EachHypothesis : ((ℕ → Bool) → Clause → Type 0) → (ℕ → Bool) → List LfType → (ℕ → Bool) → (ℕ → Bool) → LfType → Type 0
EachHypothesis P moded C F U (pi A B) = choose (moded (target A)) (P U (record { outer = C; fixed = F; type = A })) (Unit {0}) × EachHypothesis P moded (A ∷ C) (under F) (under U) B
EachHypothesis P moded C F U (atom a S) = Unit {0}

-- What is asked of a clause, where `hypothesis` is what is asked of a local hypothesis: the marks of its family and of each called one
-- are sound; what a subgoal needs, the variables in its hypotheses' types and its input places, is ground before it; its hypotheses
-- are right; and in the end all is ground.
abbrev pub IsModed : ((ℕ → Bool) → Clause → Type 0) → Signature → (ℕ → List Mark) → (ℕ → Bool) → (ℕ → Bool) → Clause → Type 0
IsModed hypothesis Σ m moded V c = HasSoundMarks Σ (target c.type) (m (target c.type)) × SubgoalsFrom V m c (λ U A. HasSoundMarks Σ (target A) (m (target A)) × UsesGoal U (input_places (m (target A))) A × EachHypothesis hypothesis moded (scope c) (outside c.type c.fixed) U A) (λ U. AllGround m c U)

-- The same of the clause, of its hypotheses, of theirs and so on, n times. Nothing is asked at 0.
abbrev pub WellModedTo : ℕ → Signature → (ℕ → List Mark) → (ℕ → Bool) → (ℕ → Bool) → Clause → Type 0
WellModedTo zero Σ m moded V c = Unit {0}
WellModedTo (suc n) Σ m moded V c = IsModed (WellModedTo n Σ m moded) Σ m moded V c

-- The clause is well-moded, where of what stands outside the variables of V are ground: it is so to every depth. So a clause is well-moded
-- exactly where this is asked of it and its hypotheses are well-moded, as the law `WellModedUnfolds` says.
abbrev pub WellModedFrom : Signature → (ℕ → List Mark) → (ℕ → Bool) → (ℕ → Bool) → Clause → Type 0
WellModedFrom Σ m moded V c = (n : ℕ) → WellModedTo n Σ m moded V c

-- a constant or block entry: all that stands outside is ground
abbrev pub WellModed : Signature → (ℕ → List Mark) → (ℕ → Bool) → Clause → Type 0
WellModed Σ m moded c = WellModedFrom Σ m moded everything c
