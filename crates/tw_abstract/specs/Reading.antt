-- What is read off a term or a type, and of what it can be read.
use Rattle.std.specs.Prelude.{◌≡◌, ℕ, List, [], Some}
use Rattle.lf.specs.Syntax.{LfType, Term}
use Rattle.lf.specs.Typing.{IsSignature, Signature}
use Rattle.lf_unification.specs.OpenTyping.{OpenHasType, OpenIsType}
use Rattle.lf_unification.specs.PartialInstance.{IsFilling}
use Rattle.lf_unification.specs.Putting.{binders}
use Rattle.tw_metas.specs.State.{State, value_of}
use Rattle.tw_putting.specs.Fits.{PutFits}
use Rattle.tw_putting.specs.Stores.{Puts, PutsType, types_of}
use Rattle.tw_abstract.specs.Generalizing.{generalized, generalized_type}
use Rattle.tw_abstract.specs.Positions.{index}
use Rattle.tw_putting.specs.Ready.{IsReady}
use Rattle.tw_putting.specs.Whole.{whole}

-- the store is ready over a signature, and no equation is at work: so `solve` leaves it
pub record IsSettled (s : State) : Type 0 where
  pub signature : Signature
  pub is_signature : IsSignature signature
  pub ready : IsReady signature [] s

-- and types the term under k binders
pub record TermStands (s : State) (k : ℕ) (M : Term) : Type 0 where
  pub settled : IsSettled s
  pub local : List LfType
  pub of_type : LfType
  pub same : binders local ≡ k
  pub typed : OpenHasType settled.signature [] (types_of s) (IsFilling settled.signature [] (whole [] s)) local M of_type

-- the same of a type
pub record TypeStands (s : State) (k : ℕ) (A : LfType) : Type 0 where
  pub settled : IsSettled s
  pub local : List LfType
  pub same : binders local ≡ k
  pub typed : OpenIsType settled.signature [] (types_of s) (IsFilling settled.signature [] (whole [] s)) local A

-- N is M, under k binders, with the values put in and the variables of the quantifiers ms for the metavariables
abbrev pub IsReadAs : State → List ℕ → ℕ → Term → Term → Type 0
IsReadAs s ms k M N = (M' : Term) × Puts s k M M' × (generalized (index ms) k M' ≡ Some N)

-- the same of types
abbrev pub IsTypeReadAs : State → List ℕ → ℕ → LfType → LfType → Type 0
IsTypeReadAs s ms k A B = (A' : LfType) × PutsType s k A A' × (generalized_type (index ms) k A' ≡ Some B)

-- the values can be put into the value of each metavariable
abbrev pub ValuesCanTake : State → Type 0
ValuesCanTake s = (m : ℕ) (N : Term) → value_of s m ≡ Some N → PutFits s 0 N
