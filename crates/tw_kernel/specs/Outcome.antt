-- What the outcomes of the kernel's functions say.
use Rattle.std.specs.Prelude.{◌≡◌, List, Result, MatchResult}
use Rattle.lf.specs.Syntax.{Term, LfType, Kind, pi, atom, kind_pi, star}
use Rattle.lf.specs.Typing.{Signature, instantiate_type, instantiate_kind, HasType}
use Rattle.tw_hered.specs.declared.fault.HeredFault.{HeredFault}
use Rattle.tw_hered.specs.declared.fault.HeredFault.TheVariants as hered
use Rattle.tw_kernel.specs.declared.fault.Fault.{Fault}
use Rattle.tw_kernel.specs.declared.fault.Fault.TheVariants.{IllTyped, TooDeep, NoMemory}

-- a fault of hereditary substitution as one of a judgement
abbrev pub fault_of : HeredFault → Fault
fault_of hered.TooDeep = TooDeep
fault_of hered.NoMemory = NoMemory

-- what a fault says of a judgement, and of what its rules reach above the limit of depth
abbrev pub Blames : Fault → Type 0 → Type 0 → Type 0
Blames IllTyped Holds Deep = Holds → ⊥
Blames TooDeep Holds Deep = Deep
Blames NoMemory Holds Deep = Unit {0}

-- the judgement holds, or the fault says why it is not shown
abbrev pub Decides : Result (Unit {0}) Fault → Type 0 → Type 0 → Type 0
Decides r Holds Deep = MatchResult r (λ _. Holds) (λ f. Blames f Holds Deep)

-- a type is left where a type takes an argument of its domain
abbrev pub TakesArgument : Signature → List LfType → LfType → Term → LfType → Type 0
TakesArgument Σ G (pi A B) M C = HasType Σ G M A × (C ≡ instantiate_type A M B)
TakesArgument Σ G (atom a T) M C = ⊥

-- the same of kinds
abbrev pub KindTakesArgument : Signature → List LfType → Kind → Term → Kind → Type 0
KindTakesArgument Σ G (kind_pi A K) M L = HasType Σ G M A × (L ≡ instantiate_kind A M K)
KindTakesArgument Σ G star M L = ⊥
