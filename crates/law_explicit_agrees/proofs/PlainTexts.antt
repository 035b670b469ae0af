-- An explicit text is resolved to what is plain: no name in it is that of a definition or has implicit arguments, and only names take arguments.
use Rattle.std.proofs.Common.{◌≡◌, ℕ, zero, suc, List, [], ◌∷◌, Bool, true, false, Option, None, Some, refl, sym, ap, ◌∙◌, subst}
use Rattle.lf.specs.Entries.{Body, Entry, declare_constant, declare_definition, declare_family, entry}
use Rattle.lf.specs.Syntax.{Head, LfType, Skeleton, Term as LfTerm, arrow as shape_arrow, base, constant, metavariable, variable}
use Rattle.lf_elaboration.specs.Principal.{WrittenBody, written_constant, written_family}
use Rattle.lf_elaboration.specs.Written as forms
use Rattle.lf_elaboration.specs.Written.{Place as WrittenPlace, Written, WrittenDomain, WrittenKind, WrittenType}
use Rattle.tw_approx.specs.Readings.{found}
use Rattle.tw_approx.proofs.Sequences.{and_then_parts, given, parts_of}
use Rattle.tw_approx.proofs.Unifying.{both_true}
use Rattle.law_explicit_form.specs.Form.{Shape, domain_shape, entry_shape, explicit_shape, head_shape, is_domain_form, is_term_form, is_type_form, shape_behind, shape_left}
use Rattle.tw_elaborate.specs.Plain.{BodyIsPlain, DomainIsPlain, HasNoImplicit, IsDefined, IsSteady, KindIsPlain, TermIsPlain, TypeIsPlain}
use Rattle.tw_names.specs.Scope.{binder_name, named}
use Rattle.tw_names.specs.Texts.{ends_in_type}
use Rattle.tw_parse.specs.Syntax.{Domain, Term, application, arrow, ascription, hole, identifier, lambda, pi, star, typed, untyped}
use Rattle.tw_resolve.specs.Resolved.{classifier_read, taken_whole}
use Rattle.tw_resolve.specs.Resolving.{resolved_domain, resolved_family, resolved_kind, resolved_name, resolved_term, resolved_type}
use Rattle.tw_fixity.specs.Names.{Names, variable_of}
use Rattle.tw_written.specs.View.{place_of}
use Rattle.law_explicit_agrees.proofs.Back.{argument_parts, behind_is, both_parts, one_part, point_is, whole_parts}

definition_shapeless : (n : ℕ) (M : LfTerm) (A : LfType) (b : Bool) (s : Shape) → explicit_shape n (declare_definition M A b) ≡ Some s → ⊥
definition_shapeless zero M A b s e = cc
definition_shapeless (suc n) M A b s e = cc

module _ (es : List Entry) where
  -- what has a shape isn't defined
  undefined : (c : ℕ) (s : Shape) → entry_shape (entry es c) ≡ Some s → IsDefined es c → ⊥
  undefined c s e d =
      let n : ℕ = d.declared_as.implicit in
      definition_shapeless n d.term d.type d.abbreviates s (sym (ap (explicit_shape n) d.is_definition) ∙ sym (ap entry_shape d.is_entry) ∙ e)

  explicit_none : (n : ℕ) (b : Body) (s : Shape) → explicit_shape n b ≡ Some s → n ≡ zero
  explicit_none zero b s e = refl
  explicit_none (suc n) (declare_family K) s e = absurd cc
  explicit_none (suc n) (declare_constant A) s e = absurd cc
  explicit_none (suc n) (declare_definition M A b) s e = absurd cc

  -- and has no implicit arguments
  none_implicit : (c : ℕ) (s : Shape) → entry_shape (entry es c) ≡ Some s → HasNoImplicit es c
  none_implicit c s h e k = explicit_none e.implicit e.body s (sym (ap entry_shape k) ∙ h)

  module _ (free : Names) where
    -- a name on arguments stays before them
    name_steady : (at : WrittenPlace) (h : Option Head) (i : Option ℕ) (T : List Shape) (s : Shape) (o : List Skeleton) (w : Written) (q : List Skeleton) → head_shape es T h ≡ Some s → found (resolved_name at h i) o ≡ Some (w, q) → IsSteady es w
    name_steady at (Some (constant c)) i T s o w q h e = let u = undefined c s h in subst (IsSteady es) (parts_of (forms.declared c at) w o q e).0 (u, (u, none_implicit c s h))
    name_steady at (Some (variable j)) i T s o w q h e = subst (IsSteady es) (parts_of (forms.bound j) w o q e).0 (λ r. r, tt)
    name_steady at (Some (metavariable m)) i T s o w q h e = absurd cc
    name_steady at None i T s o w q h e = absurd cc

    family_name_plain : (at : WrittenPlace) (h : Option Head) (T : List Shape) (s : Shape) (o : List Skeleton) (w : WrittenType) (q : List Skeleton) → head_shape es T h ≡ Some s → found (resolved_family at h) o ≡ Some (w, q) → TypeIsPlain es w
    family_name_plain at (Some (constant c)) T s o w q h e = subst (TypeIsPlain es) (parts_of (forms.family c at) w o q e).0 (none_implicit c s h)
    family_name_plain at (Some (variable j)) T s o w q h e = absurd cc
    family_name_plain at (Some (metavariable m)) T s o w q h e = absurd cc
    family_name_plain at None T s o w q h e = absurd cc

    -- an application, where the name on the arguments before the last stays before them, and the last is plain
    applied_steady : (P Q : Term) (N : Names) (T : List Shape) (s : Shape) (o : List Skeleton) (w : Written) (q : List Skeleton) → ((t : Shape) (m : Written) (n : List Skeleton) → shape_left es N T P ≡ Some t → resolved_term es free N P o ≡ Some (m, n) → IsSteady es m)
        → ((t : Shape) (n : List Skeleton) (p : Written) → is_term_form es N T Q t ≡ true → resolved_term es free N Q n ≡ Some (p, q) → TermIsPlain es p) → shape_behind (is_term_form es N T Q) (shape_left es N T P) ≡ Some s → resolved_term es free N (application P Q) o ≡ Some (w, q) → IsSteady es w
    applied_steady P Q N T s o w q left argument h e =
        let (t, k, f) = behind_is (is_term_form es N T Q) (shape_left es N T P) s h in
        let (m, n, p, i, j, r) = both_parts forms.applied (resolved_term es free N P o) (resolved_term es free N Q) w q e in
        let (steady, plain) = left (shape_arrow t s) m n k i in
        subst (IsSteady es) (sym r) (steady, (steady, plain, argument t n p f j))

    applied_plain : (P Q : Term) (N : Names) (T : List Shape) (s : Shape) (o : List Skeleton) (w : WrittenType) (q : List Skeleton) → ((t : Shape) (u : WrittenType) (n : List Skeleton) → shape_left es N T P ≡ Some t → resolved_type es free N P o ≡ Some (u, n) → TypeIsPlain es u)
        → ((t : Shape) (n : List Skeleton) (p : Written) → is_term_form es N T Q t ≡ true → resolved_term es free N Q n ≡ Some (p, q) → TermIsPlain es p) → shape_behind (is_term_form es N T Q) (shape_left es N T P) ≡ Some s → resolved_type es free N (application P Q) o ≡ Some (w, q) → TypeIsPlain es w
    applied_plain P Q N T s o w q left argument h e =
        let (t, k, f) = behind_is (is_term_form es N T Q) (shape_left es N T P) s h in
        let (u, n, p, i, j, r) = argument_parts (resolved_type es free N P o) (resolved_term es free N Q) w q e in
        subst (TypeIsPlain es) (sym r) (left (shape_arrow t s) u n k i, argument t n p f j)

    -- what is of the explicit form is resolved to what is plain
    mutual
      term_plain : (P : Term) (N : Names) (T : List Shape) (s : Shape) (o : List Skeleton) (w : Written) (q : List Skeleton) → is_term_form es N T P s ≡ true → resolved_term es free N P o ≡ Some (w, q) → TermIsPlain es w
      term_plain (identifier x at) N T (base c) o w q h e = let (k, p) = point_is (head_shape es T (named es N x)) h in (name_steady (place_of at) (named es N x) (variable_of free x) T (base k) o w q p e).1
      term_plain (identifier x at) N T (shape_arrow s t) o w q h e = absurd cc
      term_plain (lambda x at D P) N T (shape_arrow s t) o w q h e =
          let (h, k) = both_true (is_domain_form es N T D) (is_term_form es (binder_name x ∷ N) (domain_shape D ∷ T) P t) h in
          let (d, n, m, i, j, r) = both_parts forms.function (resolved_domain es free N (place_of at) D o) (resolved_term es free (binder_name x ∷ N) P) w q e in
          subst (TermIsPlain es) (sym r) (domain_plain (place_of at) D N T o d n h i, term_plain P (binder_name x ∷ N) (domain_shape D ∷ T) t n m q k j)
      term_plain (lambda x at D P) N T (base c) o w q h e = absurd cc
      term_plain (application P Q) N T (base c) o w q h e = let (k, p) = point_is (shape_behind (is_term_form es N T Q) (shape_left es N T P)) h in (applied_steady P Q N T (base k) o w q (λ t m n k i. left_steady P N T t o m n k i) (λ t n p f j. term_plain Q N T t n p q f j) p e).1
      term_plain (application P Q) N T (shape_arrow s t) o w q h e = absurd cc
      term_plain (arrow U V) N T s o w q h e = absurd cc
      term_plain (pi x at D V) N T s o w q h e = absurd cc
      term_plain star N T s o w q h e = absurd cc
      term_plain (hole at) N T s o w q h e = absurd cc
      term_plain (ascription P U) N T s o w q h e = absurd cc

      left_steady : (P : Term) (N : Names) (T : List Shape) (s : Shape) (o : List Skeleton) (w : Written) (q : List Skeleton) → shape_left es N T P ≡ Some s → resolved_term es free N P o ≡ Some (w, q) → IsSteady es w
      left_steady (identifier x at) N T s o w q h e = name_steady (place_of at) (named es N x) (variable_of free x) T s o w q h e
      left_steady (application P Q) N T s o w q h e = applied_steady P Q N T s o w q (λ t m n k i. left_steady P N T t o m n k i) (λ t n p f j. term_plain Q N T t n p q f j) h e
      left_steady (lambda x at D P) N T s o w q h e = absurd cc
      left_steady (arrow U V) N T s o w q h e = absurd cc
      left_steady (pi x at D V) N T s o w q h e = absurd cc
      left_steady star N T s o w q h e = absurd cc
      left_steady (hole at) N T s o w q h e = absurd cc
      left_steady (ascription P U) N T s o w q h e = absurd cc

      type_plain : (U : Term) (N : Names) (T : List Shape) (o : List Skeleton) (w : WrittenType) (q : List Skeleton) → is_type_form es N T U ≡ true → resolved_type es free N U o ≡ Some (w, q) → TypeIsPlain es w
      type_plain (identifier x at) N T o w q h e = let (k, p) = point_is (head_shape es T (named es N x)) h in family_name_plain (place_of at) (named es N x) T (base k) o w q p e
      type_plain (arrow U V) N T o w q h e =
          let (h, k) = both_true (is_type_form es N T U) (is_type_form es N T V) h in
          let (u, n, v, i, j, r) = both_parts forms.arrow (resolved_type es free N U o) (resolved_type es free N V) w q e in
          subst (TypeIsPlain es) (sym r) (type_plain U N T o u n h i, type_plain V N T n v q k j)
      type_plain (pi x at D V) N T o w q h e =
          let (h, k) = both_true (is_domain_form es N T D) (is_type_form es (binder_name x ∷ N) (domain_shape D ∷ T) V) h in
          let (d, n, v, i, j, r) = both_parts forms.quantified (resolved_domain es free N (place_of at) D o) (resolved_type es free (binder_name x ∷ N) V) w q e in
          subst (TypeIsPlain es) (sym r) (domain_plain (place_of at) D N T o d n h i, type_plain V (binder_name x ∷ N) (domain_shape D ∷ T) n v q k j)
      type_plain (application P Q) N T o w q h e = let (k, p) = point_is (shape_behind (is_term_form es N T Q) (shape_left es N T P)) h in applied_plain P Q N T (base k) o w q (λ t u n k i. left_plain P N T t o u n k i) (λ t n p f j. term_plain Q N T t n p q f j) p e
      type_plain star N T o w q h e = absurd cc
      type_plain (hole at) N T o w q h e = absurd cc
      type_plain (lambda x at D P) N T o w q h e = absurd cc
      type_plain (ascription P U) N T o w q h e = absurd cc

      left_plain : (P : Term) (N : Names) (T : List Shape) (s : Shape) (o : List Skeleton) (w : WrittenType) (q : List Skeleton) → shape_left es N T P ≡ Some s → resolved_type es free N P o ≡ Some (w, q) → TypeIsPlain es w
      left_plain (identifier x at) N T s o w q h e = family_name_plain (place_of at) (named es N x) T s o w q h e
      left_plain (application P Q) N T s o w q h e = applied_plain P Q N T s o w q (λ t u n k i. left_plain P N T t o u n k i) (λ t n p f j. term_plain Q N T t n p q f j) h e
      left_plain (lambda x at D P) N T s o w q h e = absurd cc
      left_plain (arrow U V) N T s o w q h e = absurd cc
      left_plain (pi x at D V) N T s o w q h e = absurd cc
      left_plain star N T s o w q h e = absurd cc
      left_plain (hole at) N T s o w q h e = absurd cc
      left_plain (ascription P U) N T s o w q h e = absurd cc

      domain_plain : (at : WrittenPlace) (D : Domain) (N : Names) (T : List Shape) (o : List Skeleton) (d : WrittenDomain) (q : List Skeleton) → is_domain_form es N T D ≡ true → resolved_domain es free N at D o ≡ Some (d, q) → DomainIsPlain es d
      domain_plain at untyped N T o d q h e = absurd cc
      domain_plain at (typed U) N T o d q h e =
          let (u, n, i, k) = and_then_parts (resolved_type es free N U o) (λ V p. given (forms.of_type V) p) d q e in
          subst (DomainIsPlain es) (parts_of (forms.of_type u) d n q k).0 (type_plain U N T o u n h i)

    kind_plain : (U : Term) (N : Names) (T : List Shape) (o : List Skeleton) (w : WrittenKind) (q : List Skeleton) → is_type_form es N T U ≡ true → resolved_kind es free N U o ≡ Some (w, q) → KindIsPlain es w
    kind_plain star N T o w q h e = subst (KindIsPlain es) (parts_of forms.written_star w o q e).0 tt
    kind_plain (arrow U V) N T o w q h e =
        let (h, k) = both_true (is_type_form es N T U) (is_type_form es N T V) h in
        let (u, n, v, i, j, r) = both_parts forms.kind_arrow (resolved_type es free N U o) (resolved_kind es free N V) w q e in
        subst (KindIsPlain es) (sym r) (type_plain U N T o u n h i, kind_plain V N T n v q k j)
    kind_plain (pi x at D V) N T o w q h e =
        let (h, k) = both_true (is_domain_form es N T D) (is_type_form es (binder_name x ∷ N) (domain_shape D ∷ T) V) h in
        let (d, n, v, i, j, r) = both_parts forms.kind_quantified (resolved_domain es free N (place_of at) D o) (resolved_kind es free (binder_name x ∷ N) V) w q e in
        subst (KindIsPlain es) (sym r) (domain_plain (place_of at) D N T o d n h i, kind_plain V (binder_name x ∷ N) (domain_shape D ∷ T) n v q k j)
    kind_plain (identifier x at) N T o w q h e = absurd cc
    kind_plain (application P Q) N T o w q h e = absurd cc
    kind_plain (hole at) N T o w q h e = absurd cc
    kind_plain (lambda x at D P) N T o w q h e = absurd cc
    kind_plain (ascription P U) N T o w q h e = absurd cc

    pub body_plain : (U : Term) (o : List Skeleton) (w : WrittenBody) → is_type_form es [] [] U ≡ true → taken_whole (classifier_read es free [] (ends_in_type U) U o) ≡ Some w → BodyIsPlain es w
    body_plain U o w h r = by (ends_in_type U) (whole_parts (classifier_read es free [] (ends_in_type U) U o) w r)
      where
        by : (t : Bool) → classifier_read es free [] t U o ≡ Some (w, []) → BodyIsPlain es w
        by true e = let (k, i, j) = one_part written_family (resolved_kind es free [] U o) w [] e in subst (BodyIsPlain es) (sym j) (kind_plain U [] [] o k [] h i)
        by false e = let (V, i, j) = one_part written_constant (resolved_type es free [] U o) w [] e in subst (BodyIsPlain es) (sym j) (type_plain U [] [] o V [] h i)
