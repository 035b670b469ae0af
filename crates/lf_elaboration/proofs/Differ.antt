-- No equation is made of two equal sides; and none at all where nothing is left out and there is a completion.
use Rattle.std.proofs.Common.{◌≡◌, ℕ, List, [], ◌∷◌, Option, None, Some}
use Rattle.lf.specs.Entries.{Body, Entry, declare_constant, declare_definition, declare_family, signature_of}
use Rattle.lf.specs.Syntax.{Kind, LfType, Skeleton, Spine, Term, atom, kind_pi, pi, star}
use Rattle.lf.specs.Typing.{Signature}
use Rattle.lf_elaboration.specs.Elaboration.{Checks, ElaboratesDomain, ElaboratesFamily, ElaboratesKind, ElaboratesType, Infers, KindTakesNew, NewFrees, NewType, TakesAllNew, TakesNew, at_applied, at_arrow, at_ascribed, at_bound, at_constant, at_definition, at_family, at_family_applied, at_family_ascribed, at_family_name, at_free, at_function, at_hole, at_kind_arrow, at_kind_quantified, at_of_skeleton, at_of_type, at_quantified, at_star, at_type_ascribed, at_type_hole, checks_function, checks_hole, checks_inferred, kind_takes_next, kind_takes_none, new_atom, new_pi, next_free, no_frees, takes_all, takes_first, takes_next, takes_none}
use Rattle.lf_elaboration.specs.EquationLaws.{EachDiffers, EquationsDiffer}
use Rattle.lf_elaboration.specs.Principal.{WrittenBody, written_constant, written_definition, written_definition_of, written_family}
use Rattle.lf_elaboration.specs.PrincipalLaws.{ElaboratesBody}
use Rattle.lf_elaboration.specs.State.{State, differing, index_equations, kind_equations, type_equations, unless_same, with_equations}
use Rattle.lf_elaboration.specs.Written.{Written, WrittenDomain, WrittenKind, WrittenType}
use Rattle.lf_unification.specs.Lists.{followed}
use Rattle.lf_unification.specs.Offering.{spine_equations}
use Rattle.lf_unification.specs.Unifiers.{Equation}
use Rattle.lf_elaboration.proofs.Differing.{same_sides}

each_followed : (es fs : List Equation) → EachDiffers es → EachDiffers fs → EachDiffers (followed es fs)
each_followed [] fs h k = k
each_followed (e ∷ es) fs (n, h) k = (n, each_followed es fs h k)

unless_differs : (e : Equation) (es : List Equation) (d : Dec (e.left ≡ e.right)) → EachDiffers es → EachDiffers (unless_same d e es)
unless_differs e es (yes q) h = h
unless_differs e es (no n) h = (n, h)

differing_differ : (es : List Equation) → EachDiffers (differing es)
differing_differ [] = tt
differing_differ (e ∷ es) = unless_differs e (differing es) (same_sides e) (differing_differ es)

module _ (Σ : Signature) where
  indices_differ : (x : Option Kind) (D : List LfType) (S T : Spine) → EachDiffers (index_equations Σ x D S T)
  indices_differ None D S T = tt
  indices_differ (Some K) D S T = differing_differ (spine_equations D K S T)

  types_differ : (D : List LfType) (A X : LfType) → EachDiffers (type_equations Σ D A X)
  types_differ D (pi A B) (pi X Y) = each_followed (type_equations Σ D A X) (type_equations Σ (A ∷ D) B Y) (types_differ D A X) (types_differ (A ∷ D) B Y)
  types_differ D (atom a S) (atom b T) = indices_differ (Σ.kinds a) D S T
  types_differ D (pi A B) (atom b T) = tt
  types_differ D (atom a S) (pi X Y) = tt

  kinds_differ : (D : List LfType) (K L : Kind) → EachDiffers (kind_equations Σ D K L)
  kinds_differ D (kind_pi A K) (kind_pi X L) = each_followed (type_equations Σ D A X) (kind_equations Σ (A ∷ D) K L) (types_differ D A X) (kinds_differ (A ∷ D) K L)
  kinds_differ D (kind_pi A K) star = tt
  kinds_differ D star L = tt

-- so the state behind has none, where the one before has none
abbrev Differs : State → Type 0
Differs s = EachDiffers s.equations

more_differ : (es : List Equation) (s : State) → EachDiffers es → Differs s → Differs (with_equations es s)
more_differ es s h k = each_followed s.equations es k h

takes_differs : {k : ℕ} {D : List LfType} {A C : LfType} {s s' : State} {S : Spine} → TakesNew k D A s s' S C → Differs s → Differs s'
takes_differs takes_none h = h
takes_differs (takes_next t) h = takes_differs t h

kind_takes_differs : {k : ℕ} {D : List LfType} {K L : Kind} {s s' : State} {S : Spine} → KindTakesNew k D K s s' S L → Differs s → Differs s'
kind_takes_differs kind_takes_none h = h
kind_takes_differs (kind_takes_next t) h = kind_takes_differs t h

takes_all_differs : {D : List LfType} {K : Kind} {s s' : State} {S : Spine} → TakesAllNew D K s s' S → Differs s → Differs s'
takes_all_differs takes_all h = h
takes_all_differs (takes_first t) h = takes_all_differs t h

module _ (es : List Entry) where
  new_type_differs : {D : List LfType} {t : Skeleton} {s s' : State} {A : LfType} → NewType es D t s s' A → Differs s → Differs s'
  new_type_differs (new_atom e t) h = takes_all_differs t h
  new_type_differs (new_pi a b) h = new_type_differs b (new_type_differs a h)

  frees_differ : {ts : List Skeleton} {s s' : State} {ms : List ℕ} → NewFrees es ts s s' ms → Differs s → Differs s'
  frees_differ no_frees h = h
  frees_differ (next_free a f) h = frees_differ f (new_type_differs a h)

  module _ (frees : List ℕ) where
    mutual
      infers_differs : {D : List LfType} {M : Written} {s s' : State} {R : Term} {A : LfType} → Infers es frees D M s s' R A → Differs s → Differs s'
      infers_differs (at_free f e) h = h
      infers_differs (at_bound g) h = h
      infers_differs (at_constant e b t) h = takes_differs t h
      infers_differs (at_definition e b t) h = takes_differs t h
      infers_differs (at_hole t) h = new_type_differs t h
      infers_differs (at_function d i) h = infers_differs i (domain_differs d h)
      infers_differs (at_applied i c) h = checks_differs c (infers_differs i h)
      infers_differs (at_ascribed t c) h = checks_differs c (type_differs t h)

      checks_differs : {D : List LfType} {M : Written} {A : LfType} {s s' : State} {R : Term} → Checks es frees D M A s s' R → Differs s → Differs s'
      checks_differs (checks_hole e) h = h
      checks_differs (checks_function {D = D} {A = A} {X = X} {s' = s'} t e c) h = checks_differs c (more_differ (type_equations (signature_of es) D X A) s' (types_differ (signature_of es) D X A) (domain_differs t h))
      checks_differs (checks_inferred {D = D} {A = A} {X = X} {s' = s'} n i e) h = more_differ (type_equations (signature_of es) D X A) s' (types_differ (signature_of es) D X A) (infers_differs i h)

      type_differs : {D : List LfType} {V : WrittenType} {s s' : State} {A : LfType} → ElaboratesType es frees D V s s' A → Differs s → Differs s'
      type_differs (at_type_hole t) h = new_type_differs t h
      type_differs (at_arrow a b) h = type_differs b (type_differs a h)
      type_differs (at_quantified d b) h = type_differs b (domain_differs d h)
      type_differs (at_family f) h = family_differs f h
      type_differs (at_type_ascribed t) h = type_differs t h

      domain_differs : {D : List LfType} {d : WrittenDomain} {s s' : State} {A : LfType} → ElaboratesDomain es frees D d s s' A → Differs s → Differs s'
      domain_differs (at_of_skeleton t) h = new_type_differs t h
      domain_differs (at_of_type t) h = type_differs t h

      family_differs : {D : List LfType} {V : WrittenType} {s s' : State} {a : ℕ} {S : Spine} {K : Kind} → ElaboratesFamily es frees D V s s' a S K → Differs s → Differs s'
      family_differs (at_family_name e b t) h = kind_takes_differs t h
      family_differs (at_family_applied f c) h = checks_differs c (family_differs f h)
      family_differs (at_family_ascribed {D = D} {A = A} {K = K} {L = L} {s'' = s''} k f e) h = more_differ (kind_equations (signature_of es) D (kind_pi A K) L) s'' (kinds_differ (signature_of es) D (kind_pi A K) L) (family_differs f (kind_differs k h))

      kind_differs : {D : List LfType} {k : WrittenKind} {s s' : State} {K : Kind} → ElaboratesKind es frees D k s s' K → Differs s → Differs s'
      kind_differs at_star h = h
      kind_differs (at_kind_arrow t k) h = kind_differs k (type_differs t h)
      kind_differs (at_kind_quantified d k) h = kind_differs k (domain_differs d h)

    body_differs : (s s' : State) (w : WrittenBody) (b : Body) → ElaboratesBody es frees w s s' b → Differs s → Differs s'
    body_differs s s' (written_family k) (declare_family K) x h = kind_differs x h
    body_differs s s' (written_constant V) (declare_constant A) x h = type_differs x h
    body_differs s s' (written_definition M b) (declare_definition R A c) (e, x) h = infers_differs x h
    body_differs s s' (written_definition_of M V b) (declare_definition R A c) (e, s₁, x, y) h = checks_differs y (type_differs x h)
    body_differs s s' (written_family k) (declare_constant A) x h = absurd x
    body_differs s s' (written_family k) (declare_definition R A c) x h = absurd x
    body_differs s s' (written_constant V) (declare_family K) x h = absurd x
    body_differs s s' (written_constant V) (declare_definition R A c) x h = absurd x
    body_differs s s' (written_definition M b) (declare_family K) x h = absurd x
    body_differs s s' (written_definition M b) (declare_constant A) x h = absurd x
    body_differs s s' (written_definition_of M V b) (declare_family K) x h = absurd x
    body_differs s s' (written_definition_of M V b) (declare_constant A) x h = absurd x

pub equations_differ : EquationsDiffer
equations_differ es ts frees s s' f w b x = body_differs es frees s s' w b x (frees_differ es f tt)
