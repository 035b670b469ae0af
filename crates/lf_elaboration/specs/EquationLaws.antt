-- Which equations elaboration makes.
use Rattle.std.specs.Prelude.{◌≡◌, ℕ, List, [], ◌∷◌, None}
use Rattle.lf.specs.Entries.{Body, Entry, IsCanonicalSignature}
use Rattle.lf.specs.Syntax.{Skeleton}
use Rattle.lf_elaboration.specs.Elaboration.{NewFrees}
use Rattle.lf_elaboration.specs.Principal.{Completion, IsCompletion, WrittenBody}
use Rattle.lf_elaboration.specs.PrincipalLaws.{ElaboratesBody}
use Rattle.lf_elaboration.specs.State.{State, nothing_yet}
use Rattle.lf_unification.specs.Unifiers.{Equation}

-- the sides of each equation aren't the same text
abbrev pub EachDiffers : List Equation → Type 0
EachDiffers [] = Unit {0}
EachDiffers (e ∷ es) = (e.left ≡ e.right → ⊥) × EachDiffers es

-- No equation is made of two equal sides.
abbrev pub EquationsDiffer : Type 0
EquationsDiffer = (es : List Entry) (ts : List Skeleton) (frees : List ℕ) (s s' : State) → NewFrees es ts nothing_yet s frees → (w : WrittenBody) (b : Body) → ElaboratesBody es frees w s s' b → EachDiffers s'.equations

-- So where nothing is left out, no metavariable being made, and there is a completion, no equation is made.
abbrev pub FullHasNoEquation : Type 0
FullHasNoEquation = (es : List Entry) → IsCanonicalSignature es → (ts : List Skeleton) (frees : List ℕ) (s s' : State) → NewFrees es ts nothing_yet s frees → (w : WrittenBody) (b : Body) → ElaboratesBody es frees w s s' b →
    ((m : ℕ) → s'.metavariables m ≡ None) → (c : Completion) → IsCompletion es ts w c → s'.equations ≡ []
