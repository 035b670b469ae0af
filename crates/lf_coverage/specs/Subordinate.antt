-- What a run needs of subordination: the types of the items, and of the heads, quantify only over what is below.
use Rattle.std.specs.Prelude.{◌≡◌, ℕ, List, [], ◌∷◌, Bool, true, Some}
use Rattle.lf.specs.Syntax.{Head, LfType, Kind, pi, atom}
use Rattle.lf.specs.Typing.{Signature, TypeAt}
use Rattle.lf.specs.Variables.{target}
use Rattle.lf.specs.Subordination.{Block, IsBelowTest}
use Rattle.lf_checks.specs.Below.{IsSubordination}
use Rattle.lf_cases.specs.Case.{Item, items_context, input_goal}
use Rattle.lf_cases.specs.Reached.{SplitHead}
use Rattle.lf_cases.specs.Split.{HasNoBlockVariable}
use Rattle.lf_coverage.specs.Heads.{ArgumentsAreBelow}

-- Where something is quantified, anywhere in the type, its family is below that of what it is quantified over. To ask this of the arguments alone
-- doesn't stay so: a head that a variable takes may be one of its arguments, of which only the families in its type are known to be below its own.
abbrev pub QuantifiersAreBelow : (ℕ → ℕ → Bool) → LfType → Type 0
QuantifiersAreBelow below (pi A B) = (below (target B) (target A) ≡ true) × QuantifiersAreBelow below A × QuantifiersAreBelow below B
QuantifiersAreBelow below (atom a S) = Unit {0}

-- each type of a context
abbrev pub AllQuantifiersAreBelow : (ℕ → ℕ → Bool) → List LfType → Type 0
AllQuantifiersAreBelow below [] = Unit {0}
AllQuantifiersAreBelow below (A ∷ G) = QuantifiersAreBelow below A × AllQuantifiersAreBelow below G

-- Then the families in the type of each argument are below its own.
abbrev pub BelowOnesTakeBelow : Type 0
BelowOnesTakeBelow = (Σ : Signature) (W : List Block) (below : ℕ → ℕ → Bool) → IsSubordination Σ W below → (A : LfType) → QuantifiersAreBelow below A → ArgumentsAreBelow below A

-- By a test of subordination each head for a variable of a case has such a type, where those of the items are such.
abbrev pub HeadsQuantifyBelow : Type 0
HeadsQuantifyBelow = (Σ : Signature) (W : List Block) (below : ℕ → ℕ → Bool) → ((f : ℕ) → IsBelowTest Σ W (below f) f) → (I : List Item) → AllQuantifiersAreBelow below (items_context I) → (x : ℕ) (X : LfType) → TypeAt (items_context I) x X → (J : List Item) (n : ℕ) (h : Head) (A : LfType) → SplitHead Σ W I X J n h A → HasNoBlockVariable J → QuantifiersAreBelow below A

-- And so have the items of the goal of inputs.
abbrev pub InputsQuantifyBelow : Type 0
InputsQuantifyBelow = (Σ : Signature) (W : List Block) (below : ℕ → ℕ → Bool) → ((f : ℕ) → IsBelowTest Σ W (below f) f) → (a : ℕ) (m : List Bool) (K : Kind) → Σ.kinds a ≡ Some K → AllQuantifiersAreBelow below (items_context (input_goal a m K).items)
