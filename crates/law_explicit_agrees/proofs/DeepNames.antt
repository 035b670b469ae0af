-- Plain names are elaborated to nothing deep, and so is `type`.
use Rattle.std.proofs.Common.{◌≡◌, ℕ, zero, List, [], Option, None, Some, subst}
use Rattle.lf.specs.Entries.{Entry}
use Rattle.lf.specs.Syntax.{Head, Kind, LfType, Skeleton, constant, metavariable, variable}
use Rattle.lf_elaboration.specs.State.{State}
use Rattle.lf_elaboration.specs.Written as forms
use Rattle.lf_elaboration.specs.Written.{Place as WrittenPlace, Written, WrittenKind, WrittenType}
use Rattle.tw_approx.specs.Readings.{found}
use Rattle.tw_approx.proofs.Sequences.{parts_of}
use Rattle.tw_elaborate.specs.Deep.{DomainDeep, FamilyDeep, InfersDeep, KindDeep, TypeDeep, deep_application, deep_applied_family, deep_argument, deep_arrow_domain, deep_arrow_range, deep_ascribed, deep_ascribed_family, deep_ascription, deep_body, deep_compared_kind, deep_defined_implicit, deep_definition, deep_domain, deep_family, deep_family_implicit, deep_family_kind, deep_function, deep_hole, deep_implicit, deep_index, deep_kind_domain, deep_kind_range, deep_left_kind, deep_left_type, deep_quantified_domain, deep_quantified_kind_domain, deep_quantified_kind_range, deep_quantified_range, deep_type_ascribed, deep_type_hole, deep_written_domain}
use Rattle.tw_elaborate.specs.NewDeep.{KindTakesNewDeep, NewFreesDeep, TakesNewDeep, deep_free, deep_later_free, deep_later_new, deep_new, kind_deep_later_new, kind_deep_new}
use Rattle.tw_elaborate.specs.Plain.{TermIsPlain, TypeIsPlain}
use Rattle.tw_resolve.specs.Resolving.{resolved_family, resolved_name}

-- Where nothing is implicit no metavariable is made, so nothing deep is left behind one.
pub none_deep : {k : ℕ} {D : List LfType} {B : LfType} {s : State} → TakesNewDeep k D B s → k ≡ zero → ⊥
none_deep (deep_new l) e = cc
none_deep (deep_later_new t) e = cc

kind_none_deep : {k : ℕ} {D : List LfType} {K : Kind} {s : State} → KindTakesNewDeep k D K s → k ≡ zero → ⊥
kind_none_deep (kind_deep_new l) e = cc
kind_none_deep (kind_deep_later_new t) e = cc

pub no_frees_deep : {es : List Entry} {ts : List Skeleton} {s : State} → NewFreesDeep es ts s → ts ≡ [] → ⊥
no_frees_deep (deep_free t) e = cc
no_frees_deep (deep_later_free t f) e = cc

module _ (es : List Entry) where
  -- what a name is resolved to
  abbrev pub IsName : Written → Type 0
  IsName (forms.free i at) = Unit {0}
  IsName (forms.bound i) = Unit {0}
  IsName (forms.declared c at) = Unit {0}
  IsName _ = ⊥

  abbrev pub IsFamilyName : WrittenType → Type 0
  IsFamilyName (forms.family a at) = Unit {0}
  IsFamilyName _ = ⊥

  pub name_is : (at : WrittenPlace) (h : Option Head) (i : Option ℕ) (o : List Skeleton) (w : Written) (q : List Skeleton) → found (resolved_name at h i) o ≡ Some (w, q) → IsName w
  name_is at (Some (constant c)) i o w q e = subst IsName (parts_of (forms.declared c at) w o q e).0 tt
  name_is at (Some (variable j)) i o w q e = subst IsName (parts_of (forms.bound j) w o q e).0 tt
  name_is at (Some (metavariable m)) i o w q e = absurd cc
  name_is at None (Some j) o w q e = subst IsName (parts_of (forms.free j at) w o q e).0 tt
  name_is at None None o w q e = absurd cc

  pub family_name_is : (at : WrittenPlace) (h : Option Head) (o : List Skeleton) (w : WrittenType) (q : List Skeleton) → found (resolved_family at h) o ≡ Some (w, q) → IsFamilyName w
  family_name_is at (Some (constant c)) o w q e = subst IsFamilyName (parts_of (forms.family c at) w o q e).0 tt
  family_name_is at (Some (variable j)) o w q e = absurd cc
  family_name_is at (Some (metavariable m)) o w q e = absurd cc
  family_name_is at None o w q e = absurd cc

  module _ (frees : List ℕ) where
    -- A plain name is elaborated to nothing deep.
    pub name_shallow : {D : List LfType} {w : Written} {s : State} → InfersDeep es frees D w s → IsName w → TermIsPlain es w → ⊥
    name_shallow (deep_definition {e = e} {N = N} {B = B} {b = b} k d n t) i (u, m) = u (record { declared_as = e; is_entry = k; term = N; type = B; abbreviates = b; is_definition = d })
    name_shallow (deep_implicit {e = e} k d t) i (u, m) = none_deep t (m e k)
    name_shallow (deep_defined_implicit {e = e} k d t) i (u, m) = none_deep t (m e k)
    name_shallow (deep_hole t) i p = i
    name_shallow (deep_domain n h) i p = i
    name_shallow (deep_body x h) i p = i
    name_shallow (deep_function h) i p = i
    name_shallow (deep_argument x h) i p = i
    name_shallow (deep_application r x y h) i p = i
    name_shallow (deep_left_type x l) i p = i
    name_shallow (deep_ascription h) i p = i
    name_shallow (deep_ascribed x h) i p = i

    pub family_name_shallow : {D : List LfType} {w : WrittenType} {s : State} → FamilyDeep es frees D w s → IsFamilyName w → TypeIsPlain es w → ⊥
    family_name_shallow (deep_family_implicit {e = e} k d t) i m = kind_none_deep t (m e k)
    family_name_shallow (deep_applied_family h) i p = i
    family_name_shallow (deep_index x h) i p = i
    family_name_shallow (deep_left_kind x l) i p = i
    family_name_shallow (deep_family_kind h) i p = i
    family_name_shallow (deep_ascribed_family x h) i p = i
    family_name_shallow (deep_compared_kind x y h) i p = i

    -- The type of a family on arguments is deep only where the family is.
    abbrev pub IsFamily : WrittenType → Type 0
    IsFamily (forms.family a at) = Unit {0}
    IsFamily (forms.family_applied U P) = Unit {0}
    IsFamily _ = ⊥

    pub named_family : (w : WrittenType) → IsFamilyName w → IsFamily w
    named_family (forms.family a at) i = tt
    named_family (forms.family_applied U P) i = absurd i
    named_family (forms.type_hole t at) i = absurd i
    named_family (forms.arrow U V) i = absurd i
    named_family (forms.quantified d V) i = absurd i
    named_family (forms.family_ascribed U k) i = absurd i

    pub of_family_deep : {D : List LfType} {w : WrittenType} {s : State} → TypeDeep es frees D w s → IsFamily w → FamilyDeep es frees D w s
    of_family_deep (deep_family h) i = h
    of_family_deep (deep_type_hole t) i = absurd i
    of_family_deep (deep_arrow_domain h) i = absurd i
    of_family_deep (deep_arrow_range x h) i = absurd i
    of_family_deep (deep_quantified_domain h) i = absurd i
    of_family_deep (deep_quantified_range x h) i = absurd i
    of_family_deep (deep_type_ascribed h) i = absurd i

    -- an arrow or a quantified type isn't a family
    abbrev pub IsFamilyForm : WrittenType → Type 0
    IsFamilyForm (forms.arrow U V) = ⊥
    IsFamilyForm (forms.quantified d V) = ⊥
    IsFamilyForm _ = Unit {0}

    pub family_form : {D : List LfType} {w : WrittenType} {s : State} → FamilyDeep es frees D w s → IsFamilyForm w
    family_form (deep_family_implicit k d t) = tt
    family_form (deep_applied_family h) = tt
    family_form (deep_index x h) = tt
    family_form (deep_left_kind x l) = tt
    family_form (deep_family_kind h) = tt
    family_form (deep_ascribed_family x h) = tt
    family_form (deep_compared_kind x y h) = tt

    -- `type` is elaborated to nothing deep
    pub star_shallow : {D : List LfType} {k : WrittenKind} {s : State} → KindDeep es frees D k s → k ≡ forms.written_star → ⊥
    star_shallow (deep_kind_domain h) e = cc
    star_shallow (deep_kind_range x h) e = cc
    star_shallow (deep_quantified_kind_domain h) e = cc
    star_shallow (deep_quantified_kind_range x h) e = cc

    -- what is written at a binder
    pub inside : {D : List LfType} {u : WrittenType} {s : State} → DomainDeep es frees D (forms.of_type u) s → TypeDeep es frees D u s
    inside (deep_written_domain h) = h
