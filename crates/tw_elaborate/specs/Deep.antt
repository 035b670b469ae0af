-- Elaboration that reaches a substitution with a term deeper than 4,096, or a type or kind that is left behind an argument and is deeper: what was elaborated before it, and where it
-- stands.
use Rattle.std.specs.Prelude.{◌≡◌, ◌<◌, ℕ, List, ◌∷◌, Some, Bool}
use Rattle.lf.specs.Deep.{DeepSubstitution}
use Rattle.lf.specs.Depth.{depth_limit, kind_depth, type_depth}
use Rattle.lf.specs.Entries.{Entry, declare_constant, declare_definition, declare_family, entry, signature_of}
use Rattle.lf.specs.Substitution.{reduce, single, substitute}
use Rattle.lf.specs.Syntax.{Kind, LfType, Skeleton, Spine, Term, app, arrow as arrow_skeleton, kind_pi, lambda, pi, skeleton}
use Rattle.lf_elaboration.specs.Elaboration.{Checks, ElaboratesDomain, ElaboratesFamily, ElaboratesKind, ElaboratesType, Infers, IsInferred, TakesNew}
use Rattle.lf_elaboration.specs.State.{State, type_equations, with_equations}
use Rattle.lf_elaboration.specs.Written.{Place, Written, WrittenDomain, WrittenKind, WrittenType, applied, arrow, ascribed, declared, family, family_applied, family_ascribed, function, hole, kind_arrow, kind_quantified, of_skeleton, of_type, quantified, type_hole, written_star}
use Rattle.tw_elaborate.specs.IndicesDeep.{KindIndicesDeep, TypesDeep}
use Rattle.tw_elaborate.specs.Plain.{DomainIsPlain, IsReducible}
use Rattle.tw_elaborate.specs.NewDeep.{KindTakesNewDeep, NewTypeDeep, TakesNewDeep}

-- of the arguments that a term takes one after another, one is put in with a term deeper than the limit
pub data TakesDeep : ℕ → Skeleton → Term → Spine → Type 0 where
  deep_first : {limit : ℕ} {a b : Skeleton} {M N : Term} {S : Spine} → DeepSubstitution limit (single a N) M → TakesDeep limit (arrow_skeleton a b) (lambda M) (app N S)
  deep_later : {limit : ℕ} {a b : Skeleton} {M N : Term} {S : Spine} → TakesDeep limit b (substitute reduce (single a N) M) S → TakesDeep limit (arrow_skeleton a b) (lambda M) (app N S)

module _ (es : List Entry) (frees : List ℕ) where
  mutual
    -- where a type is found
    pub data InfersDeep : List LfType → Written → State → Type 0 where
      deep_definition : {D : List LfType} {at : Place} {c : ℕ} {e : Entry} {N : Term} {B A : LfType} {b : Bool} {s s' : State} {S : Spine} →
          entry es c ≡ Some e → e.body ≡ declare_definition N B b → TakesNew e.implicit D B s s' S A → TakesDeep depth_limit (skeleton B) N S → InfersDeep D (declared c at) s
      deep_implicit : {D : List LfType} {at : Place} {c : ℕ} {e : Entry} {B : LfType} {s : State} → entry es c ≡ Some e → e.body ≡ declare_constant B → TakesNewDeep e.implicit D B s → InfersDeep D (declared c at) s
      deep_defined_implicit : {D : List LfType} {at : Place} {c : ℕ} {e : Entry} {N : Term} {B : LfType} {b : Bool} {s : State} → entry es c ≡ Some e → e.body ≡ declare_definition N B b → TakesNewDeep e.implicit D B s → InfersDeep D (declared c at) s
      deep_hole : {D : List LfType} {at : Place} {t : Skeleton} {s : State} → NewTypeDeep es D t s → InfersDeep D (hole t at) s
      deep_domain : {D : List LfType} {d : WrittenDomain} {M : Written} {s : State} → (DomainIsPlain es d → ⊥) → DomainDeep D d s → InfersDeep D (function d M) s
      deep_body : {D : List LfType} {d : WrittenDomain} {M : Written} {A : LfType} {s s' : State} → ElaboratesDomain es frees D d s s' A → InfersDeep (A ∷ D) M s' → InfersDeep D (function d M) s
      deep_function : {D : List LfType} {M P : Written} {s : State} → InfersDeep D M s → InfersDeep D (applied M P) s
      deep_argument : {D : List LfType} {M P : Written} {A B : LfType} {R : Term} {s s' : State} → Infers es frees D M s s' (lambda R) (pi A B) → ChecksDeep D P A s' → InfersDeep D (applied M P) s
      deep_application : {D : List LfType} {M P : Written} {A B : LfType} {R Q : Term} {s s' s'' : State} →
          IsReducible es M → Infers es frees D M s s' (lambda R) (pi A B) → Checks es frees D P A s' s'' Q → DeepSubstitution depth_limit (single (skeleton A) Q) R → InfersDeep D (applied M P) s
      deep_left_type : {D : List LfType} {M P : Written} {A : LfType} {R : Term} {s s' : State} → Infers es frees D (applied M P) s s' R A → depth_limit < type_depth A → InfersDeep D (applied M P) s
      deep_ascription : {D : List LfType} {M : Written} {U : WrittenType} {s : State} → TypeDeep D U s → InfersDeep D (ascribed M U) s
      deep_ascribed : {D : List LfType} {M : Written} {U : WrittenType} {A : LfType} {s s' : State} → ElaboratesType es frees D U s s' A → ChecksDeep D M A s' → InfersDeep D (ascribed M U) s

    -- where one is expected
    pub data ChecksDeep : List LfType → Written → LfType → State → Type 0 where
      deep_checked_domain : {D : List LfType} {d : WrittenDomain} {M : Written} {A B : LfType} {s : State} → (DomainIsPlain es d → ⊥) → DomainDeep D d s → ChecksDeep D (function d M) (pi A B) s
      deep_under_domain : {D : List LfType} {d : WrittenDomain} {M : Written} {A B X : LfType} {s s' : State} →
          ElaboratesDomain es frees D d s s' X → skeleton X ≡ skeleton A → ChecksDeep (A ∷ D) M B (with_equations (type_equations (signature_of es) D X A) s') → ChecksDeep D (function d M) (pi A B) s
      deep_compared_domain : {D : List LfType} {d : WrittenDomain} {M : Written} {A B X : LfType} {s s' : State} → ElaboratesDomain es frees D d s s' X → TypesDeep (signature_of es) X A → ChecksDeep D (function d M) (pi A B) s
      deep_compared : {D : List LfType} {M : Written} {A X : LfType} {R : Term} {s s' : State} → IsInferred M → Infers es frees D M s s' R X → TypesDeep (signature_of es) X A → ChecksDeep D M A s
      deep_inferred : {D : List LfType} {M : Written} {A : LfType} {s : State} → IsInferred M → InfersDeep D M s → ChecksDeep D M A s

    pub data TypeDeep : List LfType → WrittenType → State → Type 0 where
      deep_type_hole : {D : List LfType} {at : Place} {t : Skeleton} {s : State} → NewTypeDeep es D t s → TypeDeep D (type_hole t at) s
      deep_arrow_domain : {D : List LfType} {U V : WrittenType} {s : State} → TypeDeep D U s → TypeDeep D (arrow U V) s
      deep_arrow_range : {D : List LfType} {U V : WrittenType} {A : LfType} {s s' : State} → ElaboratesType es frees D U s s' A → TypeDeep D V s' → TypeDeep D (arrow U V) s
      deep_quantified_domain : {D : List LfType} {d : WrittenDomain} {V : WrittenType} {s : State} → DomainDeep D d s → TypeDeep D (quantified d V) s
      deep_quantified_range : {D : List LfType} {d : WrittenDomain} {V : WrittenType} {A : LfType} {s s' : State} → ElaboratesDomain es frees D d s s' A → TypeDeep (A ∷ D) V s' → TypeDeep D (quantified d V) s
      deep_family : {D : List LfType} {U : WrittenType} {s : State} → FamilyDeep D U s → TypeDeep D U s
      deep_type_ascribed : {D : List LfType} {U : WrittenType} {s : State} → TypeDeep D U s → TypeDeep D (family_ascribed U written_star) s

    pub data DomainDeep : List LfType → WrittenDomain → State → Type 0 where
      deep_new_domain : {D : List LfType} {at : Place} {t : Skeleton} {s : State} → NewTypeDeep es D t s → DomainDeep D (of_skeleton t at) s
      deep_written_domain : {D : List LfType} {U : WrittenType} {s : State} → TypeDeep D U s → DomainDeep D (of_type U) s

    pub data FamilyDeep : List LfType → WrittenType → State → Type 0 where
      deep_family_implicit : {D : List LfType} {at : Place} {a : ℕ} {e : Entry} {K : Kind} {s : State} → entry es a ≡ Some e → e.body ≡ declare_family K → KindTakesNewDeep e.implicit D K s → FamilyDeep D (family a at) s
      deep_applied_family : {D : List LfType} {U : WrittenType} {P : Written} {s : State} → FamilyDeep D U s → FamilyDeep D (family_applied U P) s
      deep_index : {D : List LfType} {U : WrittenType} {P : Written} {a : ℕ} {S : Spine} {A : LfType} {K : Kind} {s s' : State} → ElaboratesFamily es frees D U s s' a S (kind_pi A K) → ChecksDeep D P A s' → FamilyDeep D (family_applied U P) s
      deep_left_kind : {D : List LfType} {U : WrittenType} {P : Written} {a : ℕ} {S : Spine} {K : Kind} {s s' : State} → ElaboratesFamily es frees D (family_applied U P) s s' a S K → depth_limit < kind_depth K → FamilyDeep D (family_applied U P) s
      deep_family_kind : {D : List LfType} {U : WrittenType} {k : WrittenKind} {s : State} → KindDeep D k s → FamilyDeep D (family_ascribed U k) s
      deep_ascribed_family : {D : List LfType} {U : WrittenType} {k : WrittenKind} {L : Kind} {s s' : State} → ElaboratesKind es frees D k s s' L → FamilyDeep D U s' → FamilyDeep D (family_ascribed U k) s
      deep_compared_kind : {D : List LfType} {U : WrittenType} {k : WrittenKind} {a : ℕ} {S : Spine} {K L : Kind} {s s' s'' : State} →
          ElaboratesKind es frees D k s s' L → ElaboratesFamily es frees D U s' s'' a S K → KindIndicesDeep (signature_of es) K → FamilyDeep D (family_ascribed U k) s

    pub data KindDeep : List LfType → WrittenKind → State → Type 0 where
      deep_kind_domain : {D : List LfType} {U : WrittenType} {k : WrittenKind} {s : State} → TypeDeep D U s → KindDeep D (kind_arrow U k) s
      deep_kind_range : {D : List LfType} {U : WrittenType} {k : WrittenKind} {A : LfType} {s s' : State} → ElaboratesType es frees D U s s' A → KindDeep D k s' → KindDeep D (kind_arrow U k) s
      deep_quantified_kind_domain : {D : List LfType} {d : WrittenDomain} {k : WrittenKind} {s : State} → DomainDeep D d s → KindDeep D (kind_quantified d k) s
      deep_quantified_kind_range : {D : List LfType} {d : WrittenDomain} {k : WrittenKind} {A : LfType} {s s' : State} → ElaboratesDomain es frees D d s s' A → KindDeep (A ∷ D) k s' → KindDeep D (kind_quantified d k) s

  -- where the type at a binder is compared with the expected one
  pub data ChecksDomainDeep : List LfType → WrittenDomain → LfType → State → Type 0 where
    in_domain : {D : List LfType} {d : WrittenDomain} {A : LfType} {s : State} → (DomainIsPlain es d → ⊥) → DomainDeep D d s → ChecksDomainDeep D d A s
    at_domain : {D : List LfType} {d : WrittenDomain} {A X : LfType} {s s' : State} → ElaboratesDomain es frees D d s s' X → TypesDeep (signature_of es) X A → ChecksDomainDeep D d A s
