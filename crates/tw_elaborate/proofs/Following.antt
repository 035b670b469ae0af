-- What stands behind a call, for the next one: skeletons type the state, the local context and what was found.
use Rattle.std.proofs.Common.{◌≡◌, ℕ, List, [], ◌∷◌, drop, refl, sym, ap, ap₂, ◌∙◌, subst}
use Rattle.lf.specs.Entries.{Entry, IsCanonicalSignature, signature_of}
use Rattle.lf.specs.Skeletons.{family_skeletons}
use Rattle.lf.specs.Syntax.{Kind, LfType, Spine, Term, kind_pi, pi, skeleton}
use Rattle.lf.specs.Typing.{IsSignature, Signature}
use Rattle.lf.proofs.Entries.{canonical_is_signature}
use Rattle.lf.proofs.SkeletonTyping.{single_by_skeletons}
use Rattle.lf_elaboration.specs.Elaboration.{Checks, ElaboratesDomain, ElaboratesFamily, ElaboratesKind, ElaboratesType, Infers}
use Rattle.lf_elaboration.specs.Skeletons.{KindHasSkeletons, StateHasSkeletons, TermHasSkeleton, TypeHasSkeletons, heads_of}
use Rattle.lf_elaboration.specs.State.{State, type_equations, with_equations}
use Rattle.lf_elaboration.specs.Written.{Written, WrittenDomain, WrittenKind, WrittenType}
use Rattle.lf_unification.specs.Patterns.{local_skeletons}
use Rattle.lf_elaboration.proofs.Adds.{Grows, adds_equations, checks_adds, domain_adds, family_adds, infers_adds, kind_adds, type_adds}
use Rattle.lf_elaboration.proofs.Skeletons.{checks_skeletons, domain_skeletons, family_skeletons_of, infers_skeletons, kind_grows, kind_skeletons, local_grows, more_equations, term_grows, type_equations_have, type_grows, type_skeletons}
use Rattle.tw_hered.specs.Fits.{KindFits, TypeFits}
use Rattle.tw_elaborate.specs.Fits.{Stands}
use Rattle.tw_elaborate.specs.Fresh.{Keeps}
use Rattle.tw_elaborate.specs.Operators.{Applies}
use Rattle.tw_elaborate.specs.declared.state.Elaboration.{Elaboration}
use Rattle.tw_open.proofs.NewTerms.{declares_same, declares_then}
use Rattle.lf.specs.Substitution.{single}

-- a variable is in scope, and then no more
pub keeps_under : {a b p c d : Elaboration} (A : LfType) → Keeps a b → p.locals ≡ A ∷ b.locals → p.store ≡ b.store → Keeps p c → d.locals ≡ drop 1 c.locals → d.store ≡ c.store → Keeps a d
keeps_under {a = a} {b = b} {p = p} {c = c} {d = d} A k pl ps l dl ds = record {
  locals = dl ∙ ap (drop 1) (l.locals ∙ pl) ∙ k.locals;
  store = declares_then k.store (declares_then (declares_same b.store p.store ps) (declares_then l.store (declares_same c.store d.store ds)));
}

pub in_scope : (D E F : List LfType) (A B : LfType) → E ≡ B ∷ F → B ≡ A → F ≡ D → E ≡ A ∷ D
in_scope D E F A B e b f = e ∙ ap₂ ◌∷◌ b f

module _ (es : List Entry) (o : IsCanonicalSignature es) (ns : List ℕ) where
  abbrev Σ : Signature
  Σ = signature_of es

  abbrev ok : IsSignature (signature_of es)
  ok = canonical_is_signature es o

  -- what stands at s in D stands at t in E, which is D
  moved_stands : (s t : State) (D E : List LfType) → E ≡ D → Grows s t → StateHasSkeletons Σ t → Stands Σ s D → Stands Σ t E
  moved_stands s t D E e g v w = subst (Stands Σ t) (sym e) (record { state = v; local = local_grows Σ ok s t g D w.local })

  pub under_stands : (s : State) (D E : List LfType) (A : LfType) → E ≡ A ∷ D → Stands Σ s D → TypeHasSkeletons Σ s D A → Stands Σ s E
  under_stands s D E A e w a = subst (Stands Σ s) (sym e) (record { state = w.state; local = (w.local, a) })

  module _ {D : List LfType} {s s' : State} (w : Stands (signature_of es) s D) where
    -- a term whose type is found
    module _ {M : Written} {R : Term} {A : LfType} (i : Infers es ns D M s s' R A) where
      pub inferred_stands : (E : List LfType) → E ≡ D → Stands (signature_of es) s' E
      inferred_stands E e = moved_stands s s' D E e (infers_adds es ns i w.state.numbered) (infers_skeletons es o ns i w.state w.local).0 w

      pub inferred_term : TermHasSkeleton (signature_of es) s' D R A
      inferred_term = (infers_skeletons es o ns i w.state w.local).1

      pub inferred_type : (E : List LfType) → E ≡ D → TypeHasSkeletons (signature_of es) s' E A
      inferred_type E e = subst (λ F. TypeHasSkeletons Σ s' F A) (sym e) (infers_skeletons es o ns i w.state w.local).2

    -- a type
    module _ {U : WrittenType} {A : LfType} (i : ElaboratesType es ns D U s s' A) where
      pub type_stands : (E : List LfType) → E ≡ D → Stands (signature_of es) s' E
      type_stands E e = moved_stands s s' D E e (type_adds es ns i w.state.numbered) (type_skeletons es o ns i w.state w.local).0 w

      pub type_found : (E : List LfType) → E ≡ D → TypeHasSkeletons (signature_of es) s' E A
      type_found E e = subst (λ F. TypeHasSkeletons Σ s' F A) (sym e) (type_skeletons es o ns i w.state w.local).1

    module _ {d : WrittenDomain} {A : LfType} (i : ElaboratesDomain es ns D d s s' A) where
      pub domain_stands : (E : List LfType) → E ≡ D → Stands (signature_of es) s' E
      domain_stands E e = moved_stands s s' D E e (domain_adds es ns i w.state.numbered) (domain_skeletons es o ns i w.state w.local).0 w

      pub domain_found : (E : List LfType) → E ≡ D → TypeHasSkeletons (signature_of es) s' E A
      domain_found E e = subst (λ F. TypeHasSkeletons Σ s' F A) (sym e) (domain_skeletons es o ns i w.state w.local).1

      pub domain_kept : (X : LfType) → TypeHasSkeletons (signature_of es) s D X → TypeHasSkeletons (signature_of es) s' D X
      domain_kept X x = type_grows Σ ok s s' (domain_adds es ns i w.state.numbered) D X x

      -- under its variable
      pub domain_under : (E : List LfType) → E ≡ A ∷ D → Stands (signature_of es) s' E
      domain_under E e = under_stands s' D E A e (domain_stands D refl) (domain_found D refl)

    module _ {U : WrittenType} {a : ℕ} {S : Spine} {K : Kind} (i : ElaboratesFamily es ns D U s s' a S K) where
      pub family_stands : (E : List LfType) → E ≡ D → Stands (signature_of es) s' E
      family_stands E e = moved_stands s s' D E e (family_adds es ns i w.state.numbered) (family_skeletons_of es o ns i w.state w.local).0 w

      pub family_found : (E : List LfType) → E ≡ D → KindHasSkeletons (signature_of es) s' E K
      family_found E e = subst (λ F. KindHasSkeletons Σ s' F K) (sym e) (family_skeletons_of es o ns i w.state w.local).2

    module _ {k : WrittenKind} {K : Kind} (i : ElaboratesKind es ns D k s s' K) where
      pub kind_stands : (E : List LfType) → E ≡ D → Stands (signature_of es) s' E
      kind_stands E e = moved_stands s s' D E e (kind_adds es ns i w.state.numbered) (kind_skeletons es o ns i w.state w.local).0 w

  -- the type of a family's argument
  pub argument_type : (s : State) (E : List LfType) (K L : Kind) (A : LfType) → K ≡ kind_pi A L → KindHasSkeletons Σ s E K → TypeHasSkeletons Σ s E A
  argument_type s E K L A e k = (subst (KindHasSkeletons Σ s E) e k).0

  pub domain_type : (s : State) (E : List LfType) (X A B : LfType) → X ≡ pi A B → TypeHasSkeletons Σ s E X → TypeHasSkeletons Σ s E A
  domain_type s E X A B e k = (subst (TypeHasSkeletons Σ s E) e k).0

  -- an application
  module _ {D : List LfType} {s' s'' : State} {P : Written} {A : LfType} {Q : Term} (w : Stands (signature_of es) s' D) (a : TypeHasSkeletons (signature_of es) s' D A) (c : Checks es ns D P A s' s'' Q) where
    arg_typed : TermHasSkeleton Σ s'' D Q A
    arg_typed = (checks_skeletons es o ns c w.state w.local a).1

    grown : Grows s' s''
    grown = checks_adds es ns c w.state.numbered

    -- the operator, of the skeleton of a function type, and the argument
    pub operator_applies : (M : Term) (B : LfType) → TermHasSkeleton Σ s' D M (pi A B) → Applies (skeleton A) (skeleton B) M Q
    operator_applies M B m = record {
      heads = heads_of Σ s'';
      context = local_skeletons D [];
      function_typed = term_grows Σ ok s' s'' grown D M (pi A B) m;
      argument_typed = arg_typed;
    }

    pub range_fits : (B : LfType) → TypeHasSkeletons Σ s' D (pi A B) → TypeFits (single (skeleton A) Q) B
    range_fits B b = record {
      families = family_skeletons Σ;
      heads = heads_of Σ s'';
      context = skeleton A ∷ local_skeletons D [];
      target = local_skeletons D [];
      substitution_typed = single_by_skeletons (heads_of Σ s'') (skeleton A) (local_skeletons D []) Q arg_typed;
      type_typed = (type_grows Σ ok s' s'' grown D (pi A B) b).1;
    }

    pub kind_range_fits : (K : Kind) → KindHasSkeletons Σ s' D (kind_pi A K) → KindFits (single (skeleton A) Q) K
    kind_range_fits K k = record {
      families = family_skeletons Σ;
      heads = heads_of Σ s'';
      context = skeleton A ∷ local_skeletons D [];
      target = local_skeletons D [];
      substitution_typed = single_by_skeletons (heads_of Σ s'') (skeleton A) (local_skeletons D []) Q arg_typed;
      kind_typed = (kind_grows Σ ok s' s'' grown D (kind_pi A K) k).1;
    }

  -- behind a comparison of two types
  pub compared_stands : (s : State) (D : List LfType) (X A : LfType) → skeleton X ≡ skeleton A → Stands Σ s D → TypeHasSkeletons Σ s D X → TypeHasSkeletons Σ s D A → Stands Σ (with_equations (type_equations Σ D X A) s) D
  compared_stands s D X A e w x a = record {
    state = more_equations Σ ok (type_equations Σ D X A) s (type_equations_have Σ ok s D X A w.local x a e) w.state;
    local = local_grows Σ ok s (with_equations (type_equations Σ D X A) s) (adds_equations (type_equations Σ D X A) s w.state.numbered) D w.local;
  }

  pub compared_type : (s : State) (D : List LfType) (X A Y : LfType) → Stands Σ s D → TypeHasSkeletons Σ s D Y → TypeHasSkeletons Σ (with_equations (type_equations Σ D X A) s) D Y
  compared_type s D X A Y w y = type_grows Σ ok s (with_equations (type_equations Σ D X A) s) (adds_equations (type_equations Σ D X A) s w.state.numbered) D Y y
