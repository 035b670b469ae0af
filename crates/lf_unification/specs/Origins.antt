-- Where an equation comes from: a step makes it of another one, and each of its sides of that one's side.
use Rattle.std.specs.Prelude.{ℕ, List, ◌∷◌, Option}
use Rattle.lf.specs.Subordination.{Member}
use Rattle.lf.specs.Syntax.{Head, LfType, Spine, Term, atom, lambda, pi, root}
use Rattle.lf_unification.specs.Offering.{argument_equations}
use Rattle.lf_unification.specs.Putting.{IsRigidHead, PutsSome, binders}
use Rattle.lf_unification.specs.Unifiers.{Binding, Equation, equation_on, on_left}

-- An equation comes from another one, the left side from the left one: bindings are put in, lambdas are opened, or it is the equation of
-- two arguments under one head. From f X z = f Y (s Z) come X = Y and z = s Z, and not Y = X.
pub data ComesFrom (Ψ : ℕ → Option LfType) (bs : List Binding) : Equation → Equation → Type 0 where
  as_it_came : {e : Equation} → ComesFrom Ψ bs e e
  with_bindings : {D : List LfType} {M M' N N' : Term} {C : LfType} {e : Equation} → PutsSome Ψ bs (binders D) M M' → PutsSome Ψ bs (binders D) N N' →
      ComesFrom Ψ bs (equation_on on_left D M' N' C) e → ComesFrom Ψ bs (equation_on on_left D M N C) e
  under_lambdas : {D : List LfType} {M N : Term} {A B : LfType} {e : Equation} →
      ComesFrom Ψ bs (equation_on on_left (A ∷ D) M N B) e → ComesFrom Ψ bs (equation_on on_left D (lambda M) (lambda N) (pi A B)) e
  at_arguments : {D : List LfType} {S T I : Spine} {a : ℕ} {d e : Equation} (h : Head) (A : LfType) → IsRigidHead h → Member d (argument_equations D A S T) →
      ComesFrom Ψ bs d e → ComesFrom Ψ bs (equation_on on_left D (root h S) (root h T) (atom a I)) e
