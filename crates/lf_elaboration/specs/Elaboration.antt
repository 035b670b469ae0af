-- Elaboration: what is written, as an open term, type or kind of LF. Each term that isn't written is a metavariable over the variables in scope, and
-- wherever the rules of typing compare the type that was found with the expected one, equations say that they are equal.
use Rattle.std.specs.Prelude.{◌≡◌, ℕ, zero, suc, List, [], ◌∷◌, Some, slice_get, Bool}
use Rattle.lf.specs.Entries.{Entry, declare_family, declare_constant, declare_definition, entry, signature_of}
use Rattle.lf.specs.Eta.{eta_expand, eta_long, add_last}
use Rattle.lf.specs.Substitution.{reduce, single, substitute}
use Rattle.lf.specs.Syntax.{constant, variable, metavariable, Term, Spine, lambda, nil, app, LfType, pi, atom, Kind, kind_pi, star, Skeleton, base, arrow as arrow_skeleton, skeleton, weaken, rename_kind, kind_skeleton}
use Rattle.lf.specs.Typing.{TypeAt, instantiate_kind, instantiate_type}
use Rattle.lf.specs.Variables.{onto}
use Rattle.lf_elaboration.specs.State.{State, with_metavariable, with_equations, type_equations, kind_equations}
use Rattle.lf_elaboration.specs.Written.{Place, Written, WrittenDomain, WrittenType, WrittenKind, free, bound, declared, hole, function, applied, ascribed, of_skeleton, of_type, type_hole, arrow, quantified, family, family_applied, family_ascribed, written_star, kind_arrow, kind_quantified}
use Rattle.lf_unification.specs.Offering.{raised}
use Rattle.lf_unification.specs.OpenTyping.{weaken_past}

-- D is the local context: the types of the variables in scope, the newest in front. `s` is the state before, and `s'` the state behind.

-- the first k arguments of a type are new metavariables: which spine they are, and what type is left
pub data TakesNew : ℕ → List LfType → LfType → State → State → Spine → LfType → Type 0 where
  takes_none : {D : List LfType} {A : LfType} {s : State} → TakesNew zero D A s s nil A
  takes_next : {k : ℕ} {D : List LfType} {A B C : LfType} {s s' : State} {S : Spine} →
      TakesNew k D (instantiate_type A (raised D A s.next) B) (with_metavariable D A s) s' S C → TakesNew (suc k) D (pi A B) s s' (app (raised D A s.next) S) C

-- the same of a kind
pub data KindTakesNew : ℕ → List LfType → Kind → State → State → Spine → Kind → Type 0 where
  kind_takes_none : {D : List LfType} {K : Kind} {s : State} → KindTakesNew zero D K s s nil K
  kind_takes_next : {k : ℕ} {D : List LfType} {A : LfType} {K L : Kind} {s s' : State} {S : Spine} →
      KindTakesNew k D (instantiate_kind A (raised D A s.next) K) (with_metavariable D A s) s' S L → KindTakesNew (suc k) D (kind_pi A K) s s' (app (raised D A s.next) S) L

-- all arguments of a kind are new metavariables
pub data TakesAllNew : List LfType → Kind → State → State → Spine → Type 0 where
  takes_all : {D : List LfType} {s : State} → TakesAllNew D star s s nil
  takes_first : {D : List LfType} {A : LfType} {K : Kind} {s s' : State} {S : Spine} →
      TakesAllNew D (instantiate_kind A (raised D A s.next) K) (with_metavariable D A s) s' S → TakesAllNew D (kind_pi A K) s s' (app (raised D A s.next) S)

-- a term is inferred: neither a hole nor a function, of which an expected type tells more
abbrev pub IsInferred : Written → Type 0
IsInferred (hole t at) = ⊥
IsInferred (function d M) = ⊥
IsInferred _ = Unit {0}

module _ (es : List Entry) where
  -- the most general type of a skeleton: its families on new metavariables
  pub data NewType : List LfType → Skeleton → State → State → LfType → Type 0 where
    new_atom : {D : List LfType} {a : ℕ} {K : Kind} {s s' : State} {S : Spine} → (signature_of es).kinds a ≡ Some K → TakesAllNew D K s s' S → NewType D (base a) s s' (atom a S)
    new_pi : {D : List LfType} {t u : Skeleton} {s s' s'' : State} {A B : LfType} → NewType D t s s' A → NewType (A ∷ D) u s' s'' B → NewType D (arrow_skeleton t u) s s'' (pi A B)

  -- the free variables, of these skeletons: each is a metavariable of the most general type, in the empty context; which numbers they have
  pub data NewFrees : List Skeleton → State → State → List ℕ → Type 0 where
    no_frees : {s : State} → NewFrees [] s s []
    next_free : {t : Skeleton} {ts : List Skeleton} {s s' s'' : State} {A : LfType} {ms : List ℕ} → NewType [] t s s' A → NewFrees ts (with_metavariable [] A s') s'' ms → NewFrees (t ∷ ts) s s'' (s'.next ∷ ms)

  -- `frees` are the numbers of the free variables
  module _ (frees : List ℕ) where
    mutual
      -- the type of a term is found
      pub data Infers : List LfType → Written → State → State → Term → LfType → Type 0 where
        at_free : {D : List LfType} {at : Place} {i m : ℕ} {B : LfType} {s : State} → slice_get frees i ≡ Some m → s.metavariables m ≡ Some B → Infers D (free i at) s s (eta_long (skeleton B) (metavariable m)) (weaken_past D B)
        at_bound : {D : List LfType} {i : ℕ} {A : LfType} {s : State} → TypeAt (onto D []) i A → Infers D (bound i) s s (eta_long (skeleton A) (variable i)) A
        at_constant : {D : List LfType} {at : Place} {c : ℕ} {e : Entry} {B A : LfType} {s s' : State} {S : Spine} →
            entry es c ≡ Some e → e.body ≡ declare_constant B → TakesNew e.implicit D B s s' S A → Infers D (declared c at) s s' (eta_expand (skeleton A) (constant c) S) A
        -- a definition stands for its term
        at_definition : {D : List LfType} {at : Place} {c : ℕ} {e : Entry} {N : Term} {B A : LfType} {b : Bool} {s s' : State} {S : Spine} →
            entry es c ≡ Some e → e.body ≡ declare_definition N B b → TakesNew e.implicit D B s s' S A → Infers D (declared c at) s s' (reduce (skeleton B) N S) A
        at_hole : {D : List LfType} {at : Place} {t : Skeleton} {A : LfType} {s s' : State} → NewType D t s s' A → Infers D (hole t at) s (with_metavariable D A s') (raised D A s'.next) A
        at_function : {D : List LfType} {d : WrittenDomain} {M : Written} {A B : LfType} {R : Term} {s s' s'' : State} → ElaboratesDomain D d s s' A → Infers (A ∷ D) M s' s'' R B → Infers D (function d M) s s'' (lambda R) (pi A B)
        -- a term of a function type is a lambda, and its argument is put in
        at_applied : {D : List LfType} {M P : Written} {A B : LfType} {R Q : Term} {s s' s'' : State} →
            Infers D M s s' (lambda R) (pi A B) → Checks D P A s' s'' Q → Infers D (applied M P) s s'' (substitute reduce (single (skeleton A) Q) R) (instantiate_type A Q B)
        at_ascribed : {D : List LfType} {M : Written} {U : WrittenType} {A : LfType} {R : Term} {s s' s'' : State} → ElaboratesType D U s s' A → Checks D M A s' s'' R → Infers D (ascribed M U) s s'' R A

      -- a term is made one of an expected type
      pub data Checks : List LfType → Written → LfType → State → State → Term → Type 0 where
        checks_hole : {D : List LfType} {at : Place} {t : Skeleton} {A : LfType} {s : State} → t ≡ skeleton A → Checks D (hole t at) A s (with_metavariable D A s) (raised D A s.next)
        -- the type at a binder, written or not, is the expected one
        checks_function : {D : List LfType} {d : WrittenDomain} {M : Written} {A B X : LfType} {R : Term} {s s' s'' : State} →
            ElaboratesDomain D d s s' X → skeleton X ≡ skeleton A → Checks (A ∷ D) M B (with_equations (type_equations (signature_of es) D X A) s') s'' R → Checks D (function d M) (pi A B) s s'' (lambda R)
        checks_inferred : {D : List LfType} {M : Written} {A X : LfType} {R : Term} {s s' : State} →
            IsInferred M → Infers D M s s' R X → skeleton X ≡ skeleton A → Checks D M A s (with_equations (type_equations (signature_of es) D X A) s') R

      -- a type
      pub data ElaboratesType : List LfType → WrittenType → State → State → LfType → Type 0 where
        at_type_hole : {D : List LfType} {at : Place} {t : Skeleton} {A : LfType} {s s' : State} → NewType D t s s' A → ElaboratesType D (type_hole t at) s s' A
        at_arrow : {D : List LfType} {U V : WrittenType} {A B : LfType} {s s' s'' : State} → ElaboratesType D U s s' A → ElaboratesType D V s' s'' B → ElaboratesType D (arrow U V) s s'' (pi A (weaken B))
        at_quantified : {D : List LfType} {d : WrittenDomain} {V : WrittenType} {A B : LfType} {s s' s'' : State} → ElaboratesDomain D d s s' A → ElaboratesType (A ∷ D) V s' s'' B → ElaboratesType D (quantified d V) s s'' (pi A B)
        at_family : {D : List LfType} {U : WrittenType} {a : ℕ} {S : Spine} {s s' : State} → ElaboratesFamily D U s s' a S star → ElaboratesType D U s s' (atom a S)
        at_type_ascribed : {D : List LfType} {U : WrittenType} {A : LfType} {s s' : State} → ElaboratesType D U s s' A → ElaboratesType D (family_ascribed U written_star) s s' A

      -- the type of a binder's variable
      pub data ElaboratesDomain : List LfType → WrittenDomain → State → State → LfType → Type 0 where
        at_of_skeleton : {D : List LfType} {at : Place} {t : Skeleton} {A : LfType} {s s' : State} → NewType D t s s' A → ElaboratesDomain D (of_skeleton t at) s s' A
        at_of_type : {D : List LfType} {U : WrittenType} {A : LfType} {s s' : State} → ElaboratesType D U s s' A → ElaboratesDomain D (of_type U) s s' A

      -- a family on its arguments so far, and the kind that is left
      pub data ElaboratesFamily : List LfType → WrittenType → State → State → ℕ → Spine → Kind → Type 0 where
        at_family_name : {D : List LfType} {at : Place} {a : ℕ} {e : Entry} {K L : Kind} {S : Spine} {s s' : State} →
            entry es a ≡ Some e → e.body ≡ declare_family K → KindTakesNew e.implicit D K s s' S L → ElaboratesFamily D (family a at) s s' a S L
        at_family_applied : {D : List LfType} {U : WrittenType} {P : Written} {a : ℕ} {S : Spine} {A : LfType} {K : Kind} {Q : Term} {s s' s'' : State} →
            ElaboratesFamily D U s s' a S (kind_pi A K) → Checks D P A s' s'' Q → ElaboratesFamily D (family_applied U P) s s'' a (add_last S Q) (instantiate_kind A Q K)
        -- of `type` itself the rule of types speaks
        at_family_ascribed : {D : List LfType} {U : WrittenType} {k : WrittenKind} {a : ℕ} {S : Spine} {A : LfType} {K L : Kind} {s s' s'' : State} →
            ElaboratesKind D k s s' L → ElaboratesFamily D U s' s'' a S (kind_pi A K) → kind_skeleton zero (kind_pi A K) ≡ kind_skeleton zero L →
            ElaboratesFamily D (family_ascribed U k) s (with_equations (kind_equations (signature_of es) D (kind_pi A K) L) s'') a S (kind_pi A K)

      pub data ElaboratesKind : List LfType → WrittenKind → State → State → Kind → Type 0 where
        at_star : {D : List LfType} {s : State} → ElaboratesKind D written_star s s star
        at_kind_arrow : {D : List LfType} {U : WrittenType} {k : WrittenKind} {A : LfType} {K : Kind} {s s' s'' : State} →
            ElaboratesType D U s s' A → ElaboratesKind D k s' s'' K → ElaboratesKind D (kind_arrow U k) s s'' (kind_pi A (rename_kind suc K))
        at_kind_quantified : {D : List LfType} {d : WrittenDomain} {k : WrittenKind} {A : LfType} {K : Kind} {s s' s'' : State} →
            ElaboratesDomain D d s s' A → ElaboratesKind (A ∷ D) k s' s'' K → ElaboratesKind D (kind_quantified d k) s s'' (kind_pi A K)
