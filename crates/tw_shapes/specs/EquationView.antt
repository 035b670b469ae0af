-- The equations that the program's stand for, and what a step of it says.
use Rattle.std.specs.Prelude.{◌≡◌, ◌≢◌, ℕ, List, map, Bool, true, false}
use Rattle.lf.specs.Syntax.{Skeleton}
use Rattle.tw_shapes.specs.Shapes.{Shape, variable, filled, AllVariables, Store}
use Rattle.tw_shapes.specs.Equations as plain
use Rattle.tw_shapes.specs.View.{shape_of}
use Rattle.tw_shapes.specs.declared.equations.Equation.{Equation}
use Rattle.tw_shapes.specs.declared.equations.Step.{Step}
use Rattle.tw_shapes.specs.declared.equations.Step.TheVariants.{Goes, Fails, Binds}

-- the equation that one of the program stands for
abbrev pub equation_of : Equation → plain.Equation
equation_of e = record { left = shape_of e.left; right = shape_of e.right }

-- and those of a list
abbrev pub equations_of : List Equation → List plain.Equation
equations_of es = map equation_of es

-- what a step at the equation e says
abbrev pub StepIs : Store → plain.Equation → List plain.Equation → List plain.Equation → Step → Type 0
StepIs s e old new Goes = plain.IsReplaced s e old new
StepIs s e old new Fails = plain.IsUnsolvable s e
StepIs s e old new (Binds m S) = plain.IsBinding s e old new m.0 (shape_of S)

-- what an equation says of a free variable, where the other side is of free variables
abbrev pub FreeStepIs : ℕ → Shape → Step → Type 0
FreeStepIs m S Goes = S ≡ variable m
FreeStepIs m S Fails = (θ : ℕ → Skeleton) → θ m ≢ filled θ S
FreeStepIs m S (Binds n T) = (n.0 ≡ m) × (shape_of T ≡ S) × AllVariables (λ i. i ≢ m) S

-- what the equations say up to the first that binds
abbrev pub NextIs : Store → List plain.Equation → List plain.Equation → Step → Type 0
NextIs s old new Goes = plain.IsSolved s old
NextIs s old new Fails = plain.AreUnsolvable s old
NextIs s old new (Binds m S) = plain.AreBinding s old new m.0 (shape_of S)

-- what bindings that come in place of the equations say
abbrev pub SettledIs : Store → Store → List plain.Equation → Bool → Type 0
SettledIs old new es true = plain.IsSolved new es
SettledIs old new es false = plain.AreUnsolvable old es

-- the equations are added, or can't be
abbrev pub AnswerIs : Store → Store → List plain.Equation → Bool → Type 0
AnswerIs old new es true = plain.Narrows old new es × plain.IsSolved new es
AnswerIs old new es false = plain.AreUnsolvable old es × (new ≡ old)

-- the equation between two shapes
abbrev pub between : Shape → Shape → plain.Equation
between S T = record { left = S; right = T }

-- what an equation between families says
abbrev pub ComparedIs : ℕ → ℕ → Step → Type 0
ComparedIs c d Goes = c ≡ d
ComparedIs c d Fails = c ≢ d
ComparedIs c d (Binds m S) = ⊥
