-- What is written, completed: all that isn't written is filled with any term, type or spine that is typed. This knows nothing of metavariables.
use Rattle.std.specs.Prelude.{◌≡◌, ℕ, zero, suc, List, [], ◌∷◌, Some, slice_get, Bool}
use Rattle.lf.specs.Entries.{Entry, declare_family, declare_constant, declare_definition, entry, signature_of}
use Rattle.lf.specs.Eta.{add_last, eta_expand, eta_long}
use Rattle.lf.specs.Substitution.{reduce, single, substitute}
use Rattle.lf.specs.Syntax.{constant, variable, Term, Spine, lambda, nil, app, LfType, pi, atom, Kind, kind_pi, star, Skeleton, skeleton, weaken, rename, rename_kind}
use Rattle.lf.specs.Typing.{HasType, IsType, TypeAt, instantiate_kind, instantiate_type}
use Rattle.lf.specs.Variables.{onto}
use Rattle.lf_elaboration.specs.Written.{Place, Written, WrittenDomain, WrittenType, WrittenKind, free, bound, declared, hole, function, applied, ascribed, of_skeleton, of_type, type_hole, arrow, quantified, family, family_applied, family_ascribed, written_star, kind_arrow, kind_quantified}
use Rattle.lf_unification.specs.OpenTyping.{weaken_past}
use Rattle.lf_unification.specs.Patterns.{beyond}

-- what stands for a free variable, with its type
pub record FreeValue : Type 0 where
  pub term : Term
  pub of_type : LfType

-- F is the context of what is free in the completion, D the local context after it.
module _ (es : List Entry) (F : List LfType) where
  -- k typed arguments: which they are, and what type is left
  pub data TakesAny : ℕ → List LfType → LfType → Spine → LfType → Type 0 where
    any_none : {D : List LfType} {A : LfType} → TakesAny zero D A nil A
    any_next : {k : ℕ} {D : List LfType} {A B C : LfType} {M : Term} {S : Spine} → HasType (signature_of es) (onto D F) M A → TakesAny k D (instantiate_type A M B) S C → TakesAny (suc k) D (pi A B) (app M S) C

  pub data KindTakesAny : ℕ → List LfType → Kind → Spine → Kind → Type 0 where
    kind_any_none : {D : List LfType} {K : Kind} → KindTakesAny zero D K nil K
    kind_any_next : {k : ℕ} {D : List LfType} {A : LfType} {K L : Kind} {M : Term} {S : Spine} → HasType (signature_of es) (onto D F) M A → KindTakesAny k D (instantiate_kind A M K) S L → KindTakesAny (suc k) D (kind_pi A K) (app M S) L

  -- `values` are what stands for the free variables
  module _ (values : List FreeValue) where
    mutual
      -- a term with its type
      pub data Completes : List LfType → Written → Term → LfType → Type 0 where
        free_completed : {D : List LfType} {at : Place} {i : ℕ} {v : FreeValue} → slice_get values i ≡ Some v → Completes D (free i at) (rename (beyond D) v.term) (weaken_past D v.of_type)
        bound_completed : {D : List LfType} {i : ℕ} {A : LfType} → TypeAt (onto D []) i A → Completes D (bound i) (eta_long (skeleton A) (variable i)) A
        constant_completed : {D : List LfType} {at : Place} {c : ℕ} {e : Entry} {B A : LfType} {S : Spine} → entry es c ≡ Some e → e.body ≡ declare_constant B → TakesAny e.implicit D B S A → Completes D (declared c at) (eta_expand (skeleton A) (constant c) S) A
        definition_completed : {D : List LfType} {at : Place} {c : ℕ} {e : Entry} {N : Term} {B A : LfType} {b : Bool} {S : Spine} → entry es c ≡ Some e → e.body ≡ declare_definition N B b → TakesAny e.implicit D B S A → Completes D (declared c at) (reduce (skeleton B) N S) A
        hole_completed : {D : List LfType} {at : Place} {t : Skeleton} {R : Term} {A : LfType} → skeleton A ≡ t → IsType (signature_of es) (onto D F) A → HasType (signature_of es) (onto D F) R A → Completes D (hole t at) R A
        function_completed : {D : List LfType} {d : WrittenDomain} {M : Written} {A B : LfType} {R : Term} → CompletesDomain D d A → Completes (A ∷ D) M R B → Completes D (function d M) (lambda R) (pi A B)
        applied_completed : {D : List LfType} {M P : Written} {A B : LfType} {R Q : Term} → Completes D M (lambda R) (pi A B) → Completes D P Q A → Completes D (applied M P) (substitute reduce (single (skeleton A) Q) R) (instantiate_type A Q B)
        ascribed_completed : {D : List LfType} {M : Written} {U : WrittenType} {A : LfType} {R : Term} → CompletesType D U A → Completes D M R A → Completes D (ascribed M U) R A

      pub data CompletesDomain : List LfType → WrittenDomain → LfType → Type 0 where
        skeleton_completed : {D : List LfType} {at : Place} {t : Skeleton} {A : LfType} → skeleton A ≡ t → IsType (signature_of es) (onto D F) A → CompletesDomain D (of_skeleton t at) A
        type_completed : {D : List LfType} {U : WrittenType} {A : LfType} → CompletesType D U A → CompletesDomain D (of_type U) A

      pub data CompletesType : List LfType → WrittenType → LfType → Type 0 where
        type_hole_completed : {D : List LfType} {at : Place} {t : Skeleton} {A : LfType} → skeleton A ≡ t → IsType (signature_of es) (onto D F) A → CompletesType D (type_hole t at) A
        arrow_completed : {D : List LfType} {U V : WrittenType} {A B : LfType} → CompletesType D U A → CompletesType D V B → CompletesType D (arrow U V) (pi A (weaken B))
        quantified_completed : {D : List LfType} {d : WrittenDomain} {V : WrittenType} {A B : LfType} → CompletesDomain D d A → CompletesType (A ∷ D) V B → CompletesType D (quantified d V) (pi A B)
        family_completed : {D : List LfType} {U : WrittenType} {a : ℕ} {S : Spine} → CompletesFamily D U a S star → CompletesType D U (atom a S)
        ascribed_type_completed : {D : List LfType} {U : WrittenType} {A : LfType} → CompletesType D U A → CompletesType D (family_ascribed U written_star) A

      -- a family on arguments, and the kind that is left
      pub data CompletesFamily : List LfType → WrittenType → ℕ → Spine → Kind → Type 0 where
        family_name_completed : {D : List LfType} {at : Place} {a : ℕ} {e : Entry} {K L : Kind} {S : Spine} → entry es a ≡ Some e → e.body ≡ declare_family K → KindTakesAny e.implicit D K S L → CompletesFamily D (family a at) a S L
        family_applied_completed : {D : List LfType} {U : WrittenType} {P : Written} {a : ℕ} {S : Spine} {A : LfType} {K : Kind} {Q : Term} → CompletesFamily D U a S (kind_pi A K) → Completes D P Q A → CompletesFamily D (family_applied U P) a (add_last S Q) (instantiate_kind A Q K)
        family_ascribed_completed : {D : List LfType} {U : WrittenType} {k : WrittenKind} {a : ℕ} {S : Spine} {A : LfType} {K : Kind} → CompletesKind D k (kind_pi A K) → CompletesFamily D U a S (kind_pi A K) → CompletesFamily D (family_ascribed U k) a S (kind_pi A K)

      pub data CompletesKind : List LfType → WrittenKind → Kind → Type 0 where
        star_completed : {D : List LfType} → CompletesKind D written_star star
        kind_arrow_completed : {D : List LfType} {U : WrittenType} {k : WrittenKind} {A : LfType} {K : Kind} → CompletesType D U A → CompletesKind D k K → CompletesKind D (kind_arrow U k) (kind_pi A (rename_kind suc K))
        kind_quantified_completed : {D : List LfType} {d : WrittenDomain} {k : WrittenKind} {A : LfType} {K : Kind} → CompletesDomain D d A → CompletesKind (A ∷ D) k K → CompletesKind D (kind_quantified d k) (kind_pi A K)

-- what stands for the free variables is typed, by their skeletons
abbrev pub FreesAreTyped : List Entry → List LfType → List Skeleton → List FreeValue → Type 0
FreesAreTyped es F [] [] = Unit {0}
FreesAreTyped es F [] (v ∷ vs) = ⊥
FreesAreTyped es F (t ∷ ts) [] = ⊥
FreesAreTyped es F (t ∷ ts) (v ∷ vs) = ((skeleton v.of_type ≡ t) × IsType (signature_of es) F v.of_type × HasType (signature_of es) F v.term v.of_type) × FreesAreTyped es F ts vs
