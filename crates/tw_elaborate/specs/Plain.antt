-- What is written in full: without a definition, a hole, an ascription or an implicit argument, and where only names take arguments. Its elaboration puts no term in.
use Rattle.std.specs.Prelude.{◌≡◌, ℕ, zero, List, Some, Bool}
use Rattle.lf.specs.Entries.{Entry, declare_definition, entry}
use Rattle.lf.specs.Syntax.{LfType, Term}
use Rattle.lf_elaboration.specs.Principal.{WrittenBody, written_constant, written_definition, written_definition_of, written_family}
use Rattle.lf_elaboration.specs.Written.{Written, WrittenDomain, WrittenKind, WrittenType, applied, arrow, ascribed, bound, declared, family, family_applied, family_ascribed, free, function, hole, kind_arrow, kind_quantified, of_skeleton, of_type, quantified, type_hole, written_star}

-- a definition
pub record IsDefined (es : List Entry) (c : ℕ) : Type 0 where
  pub declared_as : Entry
  pub is_entry : entry es c ≡ Some declared_as
  pub term : Term
  pub type : LfType
  pub abbreviates : Bool
  pub is_definition : declared_as.body ≡ declare_definition term type abbreviates

-- What stands before the arguments isn't a name that stays before them, so that each argument is put into a term. A free variable, one in scope and a constant stay.
abbrev pub IsReducible : List Entry → Written → Type 0
IsReducible es (free i at) = ⊥
IsReducible es (bound i) = ⊥
IsReducible es (declared c at) = IsDefined es c
IsReducible es (hole t at) = Unit {0}
IsReducible es (function d M) = Unit {0}
IsReducible es (applied M P) = IsReducible es M
IsReducible es (ascribed M U) = Unit {0}

module _ (es : List Entry) where
  abbrev pub HasNoImplicit : ℕ → Type 0
  HasNoImplicit c = (e : Entry) → entry es c ≡ Some e → e.implicit ≡ zero

  -- No name is that of a definition or has implicit arguments, each binder has its type, nothing is left out or ascribed, and what takes arguments stays before them.
  abbrev mutual
    pub TermIsPlain : Written → Type 0
    TermIsPlain (free i at) = Unit {0}
    TermIsPlain (bound i) = Unit {0}
    TermIsPlain (declared c at) = (IsDefined es c → ⊥) × HasNoImplicit c
    TermIsPlain (hole t at) = ⊥
    TermIsPlain (function d M) = DomainIsPlain d × TermIsPlain M
    TermIsPlain (applied M P) = (IsReducible es M → ⊥) × TermIsPlain M × TermIsPlain P
    TermIsPlain (ascribed M U) = ⊥

    pub DomainIsPlain : WrittenDomain → Type 0
    DomainIsPlain (of_skeleton s at) = ⊥
    DomainIsPlain (of_type U) = TypeIsPlain U

    pub TypeIsPlain : WrittenType → Type 0
    TypeIsPlain (type_hole s at) = ⊥
    TypeIsPlain (arrow U V) = TypeIsPlain U × TypeIsPlain V
    TypeIsPlain (quantified d V) = DomainIsPlain d × TypeIsPlain V
    TypeIsPlain (family a at) = HasNoImplicit a
    TypeIsPlain (family_applied U P) = TypeIsPlain U × TermIsPlain P
    TypeIsPlain (family_ascribed U k) = ⊥

  abbrev pub KindIsPlain : WrittenKind → Type 0
  KindIsPlain written_star = Unit {0}
  KindIsPlain (kind_arrow U k) = TypeIsPlain U × KindIsPlain k
  KindIsPlain (kind_quantified d k) = DomainIsPlain d × KindIsPlain k

  abbrev pub BodyIsPlain : WrittenBody → Type 0
  BodyIsPlain (written_family k) = KindIsPlain k
  BodyIsPlain (written_constant U) = TypeIsPlain U
  BodyIsPlain (written_definition M b) = TermIsPlain M
  BodyIsPlain (written_definition_of M U b) = TypeIsPlain U × TermIsPlain M

  -- a term that is plain and stays before arguments
  abbrev pub IsSteady : Written → Type 0
  IsSteady M = (IsReducible es M → ⊥) × TermIsPlain M
