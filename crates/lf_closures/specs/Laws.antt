-- The laws of environments that the functions of this crate carry.
use Rattle.std.specs.Prelude.{◌≡◌, ℕ, List}
use Rattle.lf.specs.Syntax.{Term, Spine, variable, lambda, root, app, Skeleton, arrow}
use Rattle.lf.specs.SkeletonTyping.{HeadSkeletons, SubstitutionBySkeletons}
use Rattle.lf_closures.specs.Environments.{Environment, extended, substitution_in, move_by, closure, found, image_of_found, value_in, applied_in}
use Rattle.lf_closures.specs.Typing.{EnvironmentFits, ClosureFits, ClosureApplies}

-- what an environment has for a variable is the image that its substitution gives
abbrev pub FoundIsImage : Type 0
FoundIsImage = (e : Environment) (i : ℕ) → substitution_in e i ≡ image_of_found (found e i)

-- an environment that fits is a substitution that keeps skeletons
abbrev pub EnvironmentKeepsSkeletons : Type 0
EnvironmentKeepsSkeletons = (κ : HeadSkeletons) (e : Environment) (Γ Δ : List Skeleton) → EnvironmentFits κ e Γ Δ → SubstitutionBySkeletons κ Γ Δ (substitution_in e)

-- a variable that has a closure is the closure applied to the variable's arguments
abbrev pub VariableEntersClosure : Type 0
VariableEntersClosure = (e : Environment) (i : ℕ) (S : Spine) (a : Skeleton) (N : Term) (c : Environment) (n : ℕ) → found e i ≡ closure a N c n → ClosureFits e (root (variable i) S) → ClosureApplies a N (move_by n c) S e × (applied_in a N (move_by n c) S e ≡ value_in e (root (variable i) S))

-- a lambda takes an argument by having its closure in front of the environment
abbrev pub LambdaTakesClosure : Type 0
LambdaTakesClosure = (a b : Skeleton) (M N : Term) (e : Environment) (S : Spine) (c : Environment) → ClosureApplies (arrow a b) (lambda M) e (app N S) c → ClosureApplies b M (extended a N c e) S c × (applied_in b M (extended a N c e) S c ≡ applied_in (arrow a b) (lambda M) e (app N S) c)
