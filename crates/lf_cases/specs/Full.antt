-- Linear and full clauses: with these the strategy finds each missing case.
use Rattle.std.specs.Prelude.{◌≡◌, ℕ, zero, suc, ◌+◌, ◌<◌, ◌≤◌, ◌⊎◌, List, [], ◌∷◌, length, Bool, true, false, cond, not, Some}
use Rattle.lf.specs.Syntax.{constant, variable, metavariable, Term, Spine, lambda, root, nil, app, LfType, Kind, pi, atom, kind_pi, star, skeleton}
use Rattle.lf.specs.Typing.{Signature, TypeAt, instantiate_type, instantiate_kind}
use Rattle.lf.specs.Eta.{eta_long}
use Rattle.lf.specs.Variables.{target, target_arguments, onto, hide, everything, same_number}
use Rattle.lf.specs.Subordination.{Block}
use Rattle.lf_checks.specs.Tests.{both, choose}
use Rattle.lf_checks.specs.Clause.{Clause, scope, variables, outside, among, IsClause, from_constant, from_entry}
use Rattle.lf_checks.specs.Ground.{Subgoals}
use Rattle.lf_checks.specs.Marks.{Mark, input_places, output_places}
use Rattle.lf_checks.specs.Strict.{eta_at}

-- how often a variable occurs
abbrev mutual
  pub occurrences : ℕ → Term → ℕ
  occurrences x (lambda M) = occurrences (suc x) M
  occurrences x (root (constant c) S) = occurrences_spine x S
  occurrences x (root (metavariable m) S) = occurrences_spine x S
  occurrences x (root (variable i) S) = cond (same_number x i) 1 0 + occurrences_spine x S

  pub occurrences_spine : ℕ → Spine → ℕ
  occurrences_spine x nil = 0
  occurrences_spine x (app M S) = occurrences x M + occurrences_spine x S

-- in the chosen places of a tuple, and of a subgoal
abbrev pub occurrences_at : List Bool → ℕ → Spine → ℕ
occurrences_at [] x S = 0
occurrences_at (b ∷ m) x nil = 0
occurrences_at (true ∷ m) x (app M S) = occurrences x M + occurrences_at m x S
occurrences_at (false ∷ m) x (app M S) = occurrences_at m x S

abbrev pub occurrences_goal : List Bool → ℕ → LfType → ℕ
occurrences_goal m x (pi A B) = occurrences_goal m (suc x) B
occurrences_goal m x (atom a S) = occurrences_at m x S

-- A constant's clause is linear: no variable of it occurs twice in the head's input places; and in each subgoal's output places only
-- variables occur that are not ground before it, each once. What stands outside a clause is ground, the `some` variables of a block too.
abbrev pub IsLinear : (ℕ → List Mark) → Clause → Type 0
IsLinear m c = ((x : ℕ) → variables c x ≡ true → outside c.type everything x ≡ false → occurrences_at (input_places (m (target c.type))) x (target_arguments c.type) ≤ 1) × Subgoals m c (λ U A. (x : ℕ) → variables c x ≡ true → (occurrences_goal (output_places (m (target A))) x A ≤ 1) × (U x ≡ true → occurrences_goal (output_places (m (target A))) x A ≡ 0)) (λ U. Unit {0})

-- the clause's own variables
abbrev pub own_variables : Clause → ℕ → Bool
own_variables c i = both (variables c i) (not (outside c.type everything i))

-- M is one of the arguments
abbrev pub IsArgument : Term → Spine → Type 0
IsArgument M nil = ⊥
IsArgument M (app N S) = (M ≡ N) ⊎ IsArgument M S

-- Each bound variable of D whose family is in T is one of the arguments.
abbrev pub AppliesToAll : (ℕ → Bool) → List LfType → List LfType → Spine → Type 0
AppliesToAll T C D S = (j : ℕ) (X : LfType) → j < length D → TypeAt (onto D C) j X → T (target X) ≡ true → IsArgument (eta_long (skeleton X) (variable j)) S

-- In a term of a type, under the bound variables D over C, each variable of P is applied to all bound variables in scope whose families are
-- below its own. The types of what lambdas bind are those of the arguments that they stand in.
abbrev mutual
  pub IsFullTerm : Signature → (ℕ → ℕ → Bool) → List LfType → (ℕ → Bool) → List LfType → Term → LfType → Type 0
  IsFullTerm Σ below C P D (lambda M) (pi A B) = IsFullTerm Σ below C (hide P) (A ∷ D) M B
  IsFullTerm Σ below C P D (lambda M) (atom a T) = ⊥
  IsFullTerm Σ below C P D (root h S) (pi A B) = ⊥
  IsFullTerm Σ below C P D (root (constant c) S) (atom a T) = (X : LfType) × (Σ.types c ≡ Some X) × IsFullSpine Σ below C P D S X
  IsFullTerm Σ below C P D (root (metavariable m) S) (atom a T) = ⊥
  IsFullTerm Σ below C P D (root (variable i) S) (atom a T) = (X : LfType) × TypeAt (onto D C) i X × choose (P i) (AppliesToAll (below (target X)) C D S) (IsFullSpine Σ below C P D S X)

  -- in the arguments that a type takes
  pub IsFullSpine : Signature → (ℕ → ℕ → Bool) → List LfType → (ℕ → Bool) → List LfType → Spine → LfType → Type 0
  IsFullSpine Σ below C P D nil X = Unit {0}
  IsFullSpine Σ below C P D (app M S) (pi A B) = IsFullTerm Σ below C P D M A × IsFullSpine Σ below C P D S (instantiate_type A M B)
  IsFullSpine Σ below C P D (app M S) (atom a T) = ⊥

-- in the chosen places of a tuple
abbrev pub AreFullPlaces : Signature → (ℕ → ℕ → Bool) → List LfType → (ℕ → Bool) → List LfType → List Bool → Spine → Kind → Type 0
AreFullPlaces Σ below C P D [] S K = Unit {0}
AreFullPlaces Σ below C P D (b ∷ m) nil K = Unit {0}
AreFullPlaces Σ below C P D (b ∷ m) (app M S) star = ⊥
AreFullPlaces Σ below C P D (true ∷ m) (app M S) (kind_pi A K) = IsFullTerm Σ below C P D M A × AreFullPlaces Σ below C P D m S (instantiate_kind A M K)
AreFullPlaces Σ below C P D (false ∷ m) (app M S) (kind_pi A K) = AreFullPlaces Σ below C P D m S (instantiate_kind A M K)

-- in those of a subgoal, where its local variables are bound variables too
abbrev pub IsFullGoal : Signature → (ℕ → ℕ → Bool) → List LfType → (ℕ → Bool) → List LfType → List Bool → LfType → Type 0
IsFullGoal Σ below C P D m (pi A B) = IsFullGoal Σ below C (hide P) (A ∷ D) m B
IsFullGoal Σ below C P D m (atom a S) = (K : Kind) × (Σ.kinds a ≡ Some K) × AreFullPlaces Σ below C P D m S K

-- A full clause: so it is in the input places of the head and in the output places of each subgoal.
abbrev pub IsFull : Signature → (ℕ → ℕ → Bool) → (ℕ → List Mark) → Clause → Type 0
IsFull Σ below m c = IsFullGoal Σ below (scope c) (own_variables c) [] (input_places (m (target c.type))) (atom (target c.type) (target_arguments c.type)) × Subgoals m c (λ U A. IsFullGoal Σ below (scope c) (own_variables c) [] (output_places (m (target A))) A) (λ U. Unit {0})

-- no place is chosen
abbrev pub NoneChosen : List Bool → Type 0
NoneChosen [] = Unit {0}
NoneChosen (true ∷ m) = ⊥
NoneChosen (false ∷ m) = NoneChosen m

-- one place is chosen, and what stands there is a variable of F up to eta
abbrev pub OneChosen : (ℕ → Bool) → List Bool → Spine → Type 0
OneChosen F [] S = ⊥
OneChosen F (b ∷ m) nil = ⊥
OneChosen F (false ∷ m) (app M S) = OneChosen F m S
OneChosen F (true ∷ m) (app M S) = (y : ℕ) × (F y ≡ true) × (eta_at zero y M ≡ true) × NoneChosen m

-- A clause is linear, where it is a block entry only if besides its head has one input place, at which an earlier entry of its block stands.
abbrev pub IsLinearClause : {Σ : Signature} {W : List Block} {c : Clause} → (ℕ → List Mark) → IsClause Σ W c → Type 0
IsLinearClause {c = c} m (from_constant k U e) = IsLinear m c
IsLinearClause {c = c} m (from_entry B later E es i e) = IsLinear m c × OneChosen (outside E (among es)) (input_places (m (target E))) (target_arguments E)
