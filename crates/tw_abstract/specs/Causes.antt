-- What a fault says.
use Rattle.std.specs.Prelude.{◌≡◌, ℕ, List, Some, ◌⊎◌}
use Rattle.lf.specs.Subordination.{Member}
use Rattle.lf.specs.Syntax.{LfType, Term}
use Rattle.tw_metas.specs.State.{State, value_of}
use Rattle.tw_putting.specs.Stores.{PutsDeep, PutsDeepType, types_of}
use Rattle.tw_abstract.specs.Quantifiers.{AreFound}
use Rattle.tw_hered.specs.declared.fault.HeredFault.{HeredFault}
use Rattle.tw_hered.specs.declared.fault.HeredFault.TheVariants.{NoMemory, TooDeep}

-- with the values put in, the value of one of the sites is too deep
abbrev pub SiteIsDeep : State → List ℕ → Type 0
SiteIsDeep s sites = (m : ℕ) × (N : Term) × Member m sites × (value_of s m ≡ Some N) × PutsDeep s 0 N

-- or the type of one of these metavariables is
abbrev pub TypeIsDeep : State → List ℕ → Type 0
TypeIsDeep s ms = (m : ℕ) × (A : LfType) × Member m ms × (types_of s m ≡ Some A) × PutsDeepType s 0 A

-- a fault while the value of one metavariable is looked through
abbrev pub BlamesValue : HeredFault → State → ℕ → Type 0
BlamesValue TooDeep s m = (N : Term) × (value_of s m ≡ Some N) × PutsDeep s 0 N
BlamesValue NoMemory s m = Unit {0}

-- while the sites are gone over
abbrev pub BlamesSites : HeredFault → State → List ℕ → Type 0
BlamesSites TooDeep s sites = SiteIsDeep s sites
BlamesSites NoMemory s sites = Unit {0}

-- while the type of one metavariable is made
abbrev pub BlamesType : HeredFault → State → ℕ → Type 0
BlamesType TooDeep s m = (A : LfType) × (types_of s m ≡ Some A) × PutsDeepType s 0 A
BlamesType NoMemory s m = Unit {0}

-- while the types of these metavariables are
abbrev pub BlamesTypes : HeredFault → State → List ℕ → Type 0
BlamesTypes TooDeep s ms = TypeIsDeep s ms
BlamesTypes NoMemory s ms = Unit {0}

-- and while the quantifiers are read off
abbrev pub BlamesQuantifiers : HeredFault → State → List ℕ → Type 0
BlamesQuantifiers TooDeep s sites = SiteIsDeep s sites ⊎ ((found : List ℕ) × AreFound s sites found × TypeIsDeep s found)
BlamesQuantifiers NoMemory s sites = Unit {0}
