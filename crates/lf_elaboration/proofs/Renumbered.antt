-- What is written with its free variables in another order has the same completions.
use Rattle.std.proofs.Common.{◌≡◌, ℕ, List, Some}
use Rattle.std.specs.Prelude.{slice_get}
use Rattle.lf.specs.Entries.{Body, Entry, declare_constant, declare_definition, declare_family}
use Rattle.lf.specs.Syntax.{Kind, LfType, Spine, Term}
use Rattle.lf_elaboration.specs.Completions.{Completes, CompletesDomain, CompletesFamily, CompletesKind, CompletesType, FreeValue, applied_completed, arrow_completed, ascribed_completed, ascribed_type_completed, bound_completed, constant_completed, definition_completed, family_applied_completed, family_ascribed_completed, family_completed, family_name_completed, free_completed, function_completed, hole_completed, kind_arrow_completed, kind_quantified_completed, quantified_completed, skeleton_completed, star_completed, type_completed, type_hole_completed}
use Rattle.lf_elaboration.specs.Principal.{CompletesBody, WrittenBody, written_constant, written_definition, written_definition_of, written_family}
use Rattle.lf_elaboration.specs.Written.{Written, WrittenDomain, WrittenKind, WrittenType, applied, arrow, ascribed, bound, declared, family, family_applied, family_ascribed, free, function, hole, kind_arrow, kind_quantified, of_skeleton, of_type, quantified, type_hole, written_star}

-- the free variable i has the number π i now
module _ (π : ℕ → ℕ) where
  abbrev mutual
    pub renumbered : Written → Written
    renumbered (free i at) = free (π i) at
    renumbered (bound i) = bound i
    renumbered (declared c at) = declared c at
    renumbered (hole s at) = hole s at
    renumbered (function d M) = function (renumbered_domain d) (renumbered M)
    renumbered (applied M P) = applied (renumbered M) (renumbered P)
    renumbered (ascribed M U) = ascribed (renumbered M) (renumbered_type U)

    pub renumbered_domain : WrittenDomain → WrittenDomain
    renumbered_domain (of_skeleton s at) = of_skeleton s at
    renumbered_domain (of_type U) = of_type (renumbered_type U)

    pub renumbered_type : WrittenType → WrittenType
    renumbered_type (type_hole s at) = type_hole s at
    renumbered_type (arrow U V) = arrow (renumbered_type U) (renumbered_type V)
    renumbered_type (quantified d V) = quantified (renumbered_domain d) (renumbered_type V)
    renumbered_type (family c at) = family c at
    renumbered_type (family_applied U P) = family_applied (renumbered_type U) (renumbered P)
    renumbered_type (family_ascribed U k) = family_ascribed (renumbered_type U) (renumbered_kind k)

    pub renumbered_kind : WrittenKind → WrittenKind
    renumbered_kind written_star = written_star
    renumbered_kind (kind_arrow U k) = kind_arrow (renumbered_type U) (renumbered_kind k)
    renumbered_kind (kind_quantified d k) = kind_quantified (renumbered_domain d) (renumbered_kind k)

  abbrev pub renumbered_body : WrittenBody → WrittenBody
  renumbered_body (written_family k) = written_family (renumbered_kind k)
  renumbered_body (written_constant U) = written_constant (renumbered_type U)
  renumbered_body (written_definition M b) = written_definition (renumbered M) b
  renumbered_body (written_definition_of M U b) = written_definition_of (renumbered M) (renumbered_type U) b

  -- what stands for them has the new places
  module _ (es : List Entry) (F : List LfType) (values others : List FreeValue) (moved : (i : ℕ) (v : FreeValue) → slice_get values i ≡ Some v → slice_get others (π i) ≡ Some v) where
    mutual
      term_moved : {D : List LfType} {M : Written} {R : Term} {A : LfType} → Completes es F values D M R A → Completes es F others D (renumbered M) R A
      term_moved (free_completed {i = i} {v = v} e) = free_completed (moved i v e)
      term_moved (bound_completed g) = bound_completed g
      term_moved (constant_completed q b t) = constant_completed q b t
      term_moved (definition_completed q b t) = definition_completed q b t
      term_moved (hole_completed s t h) = hole_completed s t h
      term_moved (function_completed d m) = function_completed (domain_moved d) (term_moved m)
      term_moved (applied_completed m p) = applied_completed (term_moved m) (term_moved p)
      term_moved (ascribed_completed t m) = ascribed_completed (type_moved t) (term_moved m)

      domain_moved : {D : List LfType} {d : WrittenDomain} {A : LfType} → CompletesDomain es F values D d A → CompletesDomain es F others D (renumbered_domain d) A
      domain_moved (skeleton_completed s t) = skeleton_completed s t
      domain_moved (type_completed t) = type_completed (type_moved t)

      type_moved : {D : List LfType} {U : WrittenType} {A : LfType} → CompletesType es F values D U A → CompletesType es F others D (renumbered_type U) A
      type_moved (type_hole_completed s t) = type_hole_completed s t
      type_moved (arrow_completed x y) = arrow_completed (type_moved x) (type_moved y)
      type_moved (quantified_completed d y) = quantified_completed (domain_moved d) (type_moved y)
      type_moved (family_completed f) = family_completed (family_moved f)
      type_moved (ascribed_type_completed t) = ascribed_type_completed (type_moved t)

      family_moved : {D : List LfType} {U : WrittenType} {a : ℕ} {S : Spine} {K : Kind} → CompletesFamily es F values D U a S K → CompletesFamily es F others D (renumbered_type U) a S K
      family_moved (family_name_completed q b t) = family_name_completed q b t
      family_moved (family_applied_completed f c) = family_applied_completed (family_moved f) (term_moved c)
      family_moved (family_ascribed_completed x f) = family_ascribed_completed (kind_moved x) (family_moved f)

      kind_moved : {D : List LfType} {k : WrittenKind} {K : Kind} → CompletesKind es F values D k K → CompletesKind es F others D (renumbered_kind k) K
      kind_moved star_completed = star_completed
      kind_moved (kind_arrow_completed x y) = kind_arrow_completed (type_moved x) (kind_moved y)
      kind_moved (kind_quantified_completed d y) = kind_quantified_completed (domain_moved d) (kind_moved y)

    pub body_moved : (w : WrittenBody) (b : Body) → CompletesBody es F values w b → CompletesBody es F others (renumbered_body w) b
    body_moved (written_family k) (declare_family K) h = kind_moved h
    body_moved (written_constant U) (declare_constant A) h = type_moved h
    body_moved (written_definition M b) (declare_definition N A c) h = (h.0, term_moved h.1)
    body_moved (written_definition_of M U b) (declare_definition N A c) h = (h.0, type_moved h.1, term_moved h.2)
    body_moved (written_family k) (declare_constant A) h = absurd h
    body_moved (written_family k) (declare_definition N A c) h = absurd h
    body_moved (written_constant U) (declare_family K) h = absurd h
    body_moved (written_constant U) (declare_definition N A c) h = absurd h
    body_moved (written_definition M b) (declare_family K) h = absurd h
    body_moved (written_definition M b) (declare_constant A) h = absurd h
    body_moved (written_definition_of M U b) (declare_family K) h = absurd h
    body_moved (written_definition_of M U b) (declare_constant A) h = absurd h
