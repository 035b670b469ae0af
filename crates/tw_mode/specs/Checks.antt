-- What a test comes to, types whose families are declared, and marks of single places.
use Rattle.std.specs.Prelude.{◌≡◌, ℕ, Option, Some, None}
use Rattle.std.specs.Prelude.{Bool}
use Rattle.lf.specs.Entries.{kind_quantifiers}
use Rattle.lf.specs.Syntax.{Kind, LfType, pi, atom}
use Rattle.lf.specs.Typing.{Signature}
use Rattle.lf.specs.Variables.{UsesType}
use Rattle.lf_checks.specs.Marks.{Mark, input, output, free}
use Rattle.lf_checks.specs.ModeForms.{argument_count}

-- no fault, or this one
abbrev pub Outcome : {X : Type 0} → Type 0 → (X → Type 0) → Option X → Type 0
Outcome Passes Fails None = Passes
Outcome Passes Fails (Some x) = Fails x

-- each family in the type is declared, and has as many arguments as its kind has quantifiers
abbrev pub Fits : Signature → LfType → Type 0
Fits Σ (pi A B) = Fits Σ A × Fits Σ B
Fits Σ (atom a S) = (K : Kind) × (Σ.kinds a ≡ Some K) × (kind_quantifiers K ≡ argument_count S)

-- a place of the type A may have this mark, where V has the places before it that are no outputs
abbrev pub MayHave : (ℕ → Bool) → Mark → LfType → Type 0
MayHave V input A = UsesType V A
MayHave V output A = Unit {0}
MayHave V free A = Unit {0}
