-- What gives canonical LF has its skeletons, whatever free variables have, and takes nothing off the list of what isn't written.
use Rattle.std.proofs.Common.{◌≡◌, ℕ, zero, suc, List, [], ◌∷◌, slice_get, Option, None, Some, refl, sym, ap, ap₂, ◌∙◌, subst}
use Rattle.lf.specs.Entries.{Entry, Body, declare_family, declare_constant, declare_definition, entry, type_of, kind_of, type_of_body, kind_of_body, signature_of}
use Rattle.lf.specs.Skeletons.{context_skeletons}
use Rattle.lf.specs.Substitution.{Image, lift, reduce, single, substitute_kind}
use Rattle.lf.specs.Syntax.{Head, constant, variable, metavariable, Term as LfTerm, Spine, lambda as lf_lambda, root, LfType, pi as lf_pi, atom, Kind, kind_pi, star as lf_star, Skeleton, base, arrow as arrow_skeleton, skeleton}
use Rattle.lf.specs.Typing.{HeadHasType, TypeAt}
use Rattle.lf.proofs.TypeLaws.{skeleton_renamed, skeleton_substituted}
use Rattle.tw_approx.specs.Readings.{Reading, found, and_then}
use Rattle.tw_approx.specs.Skeletons.{Frees, known, whole, object_skeleton, entry_skeleton, name_skeleton, due, family_of_body, family_of_entry, family_named, same_skeleton, applied, family_applied, term_skeleton, family_skeleton, domain_skeleton, kind_due}
use Rattle.tw_approx.proofs.Unifying.{passed, skeletons_same}
use Rattle.law_explicit_form.specs.Completion.{TermGives, SpineGives, FamilyGives, TypeGives, DomainGives, KindGives}
use Rattle.tw_names.specs.Scope.{binder_name, named}
use Rattle.tw_parse.specs.Syntax.{Term, Domain, identifier, star, arrow, pi, lambda, application, untyped, typed}
use Rattle.tw_fixity.specs.Names.{Names}
use Rattle.law_explicit_agrees.proofs.Bare.{NameIsBare, TermIsBare, TypeIsBare, DomainIsBare}

pub some_is : {X : Type 0} {x y : X} → Some x ≡ Some y → x ≡ y
some_is e = cc

pub skeleton_at : (G : List LfType) (i : ℕ) (A : LfType) → TypeAt G i A → slice_get (context_skeletons G) i ≡ Some (skeleton A)
skeleton_at [] i A h = absurd h
skeleton_at (B ∷ G) zero A h = ap Some (sym (ap skeleton h ∙ skeleton_renamed suc B))
skeleton_at (B ∷ G) (suc i) A (C, h, e) = skeleton_at G i C h ∙ ap Some (sym (ap skeleton e ∙ skeleton_renamed suc C))

-- what a constant of this type is, and a family of this kind
pub constant_is : (o : Option Entry) (A : LfType) → type_of o ≡ Some A → (e : Entry) × (o ≡ Some e) × (e.body ≡ declare_constant A)
constant_is None A h = absurd cc
constant_is (Some e) A h = (e, refl, by e.body h)
  where
    by : (b : Body) → type_of_body b ≡ Some A → b ≡ declare_constant A
    by (declare_family K) q = absurd cc
    by (declare_constant B) q = ap declare_constant (some_is q)
    by (declare_definition M B b) q = absurd cc

pub family_is : (o : Option Entry) (K : Kind) → kind_of o ≡ Some K → (e : Entry) × (o ≡ Some e) × (e.body ≡ declare_family K)
family_is None K h = absurd cc
family_is (Some e) K h = (e, refl, by e.body h)
  where
    by : (b : Body) → kind_of_body b ≡ Some K → b ≡ declare_family K
    by (declare_family L) q = ap declare_family (some_is q)
    by (declare_constant B) q = absurd cc
    by (declare_definition M B b) q = absurd cc

due_substituted : (σ : ℕ → Image) (K : Kind) → due (substitute_kind reduce σ K) ≡ due K
due_substituted σ (kind_pi A K) = ap₂ (λ s ss. s ∷ ss) (skeleton_substituted reduce σ A) (due_substituted (lift σ) K)
due_substituted σ lf_star = refl

-- a part with what comes behind it
pub then_is : {A B : Type 0} (r : Reading A) (a : A) (o : List Skeleton) (f : A → List Skeleton → Reading B) (b : Reading B) → r ≡ Some (a, o) → f a o ≡ b → and_then r f ≡ b
then_is r a o f b e g = ap (λ q. and_then q f) e ∙ g

module _ (es : List Entry) (f : Frees) where
  name_fits : (G : List LfType) (h : Head) (A : LfType) (x : List ℕ) → HeadHasType (signature_of es) G h A → NameIsBare es (Some h) → name_skeleton es f (context_skeletons G) (Some h) x ≡ Some (skeleton A)
  name_fits G (constant c) A x t n =
      let (e, k, b) = constant_is (entry es c) A t in
      ap entry_skeleton k ∙ ap (λ i. object_skeleton i e.body) (n e k) ∙ ap (object_skeleton zero) b
  name_fits G (variable i) A x t n = skeleton_at G i A t
  name_fits G (metavariable m) A x t n = absurd t

  family_name_fits : (a : ℕ) (K : Kind) → (signature_of es).kinds a ≡ Some K → NameIsBare es (Some (constant a)) → family_named es (Some (constant a)) ≡ Some (known (due K) (base a))
  family_name_fits a K t n =
      let (e, k, b) = family_is (entry es a) K t in
      ap (family_of_entry a) k ∙ ap (λ i. family_of_body a i e.body) (n e k) ∙ ap (family_of_body a zero) b

  name_read : (N : Names) (G : List LfType) (x : List ℕ) (h : Head) (A : LfType) (o : List Skeleton) → named es N x ≡ Some h → HeadHasType (signature_of es) G h A → NameIsBare es (named es N x)
      → found (name_skeleton es f (context_skeletons G) (named es N x) x) o ≡ Some (skeleton A, o)
  name_read N G x h A o n t b = ap (λ k. found (name_skeleton es f (context_skeletons G) k x) o) n ∙ ap (λ s. found s o) (name_fits G h A x t (subst (NameIsBare es) n b))

  family_name_read : (N : Names) (x : List ℕ) (a : ℕ) (L : Kind) (o : List Skeleton) → named es N x ≡ Some (constant a) → (signature_of es).kinds a ≡ Some L → NameIsBare es (named es N x)
      → found (family_named es (named es N x)) o ≡ Some (known (due L) (base a), o)
  family_name_read N x a L o n t b = ap (λ k. found (family_named es k) o) n ∙ ap (λ s. found s o) (family_name_fits a L t (subst (NameIsBare es) n b))

  applied_is : (s t : Skeleton) (o : List Skeleton) → applied (arrow_skeleton s t) s o ≡ Some (t, o)
  applied_is s t o = passed (same_skeleton s s) t o (skeletons_same s s refl)

  family_applied_is : (s : Skeleton) (ss : List Skeleton) (t : Skeleton) (o : List Skeleton) → family_applied (known (s ∷ ss) t) s o ≡ Some (known ss t, o)
  family_applied_is s ss t o = passed (same_skeleton s s) (known ss t) o (skeletons_same s s refl)

  mutual
    pub term_fits : (M : Term) (N : Names) (G : List LfType) (A : LfType) (R : LfTerm) → TermGives es N G M A R → TermIsBare es N M → (o : List Skeleton) → term_skeleton es f N (context_skeletons G) M o ≡ Some (skeleton A, o)
    term_fits (lambda x at D M) N G (lf_pi A B) (lf_lambda R) (d, m) (h, k) o =
        then_is (domain_skeleton es f N (context_skeletons G) D o) (skeleton A) o (λ s p. and_then (term_skeleton es f (binder_name x ∷ N) (s ∷ context_skeletons G) M p) (λ t q. Some (arrow_skeleton s t, q))) (Some (skeleton (lf_pi A B), o)) (domain_fits D N G A d h o)
        (then_is (term_skeleton es f (binder_name x ∷ N) (skeleton A ∷ context_skeletons G) M o) (skeleton B) o (λ t q. Some (arrow_skeleton (skeleton A) t, q)) (Some (skeleton (lf_pi A B), o)) (term_fits M (binder_name x ∷ N) (A ∷ G) B R m k o) refl)
    term_fits (identifier x at) N G (atom a S) (root h R) (n, t, e) b o = name_read N G x h (atom a S) o n t b
    term_fits (application M P) N G (atom a S) (root h R) (A, B, U, L, b, g, e, c) (i, j) o =
        then_is (term_skeleton es f N (context_skeletons G) M o) (skeleton (lf_pi A B)) o (λ s p. and_then (term_skeleton es f N (context_skeletons G) P p) (applied s)) (Some (skeleton (atom a S), o)) (spine_fits M N G h U (lf_pi A B) b i o)
        (then_is (term_skeleton es f N (context_skeletons G) P o) (skeleton A) o (applied (skeleton (lf_pi A B))) (Some (skeleton (atom a S), o)) (term_fits P N G A L g j o)
        (applied_is (skeleton A) (skeleton B) o ∙ ap (λ s. Some (s, o)) (sym (ap skeleton c ∙ skeleton_substituted reduce (single (skeleton A) L) B))))
    term_fits M N G A R g b o = absurd g

    pub spine_fits : (M : Term) (N : Names) (G : List LfType) (h : Head) (S : Spine) (C : LfType) → SpineGives es N G M h S C → TermIsBare es N M → (o : List Skeleton) → term_skeleton es f N (context_skeletons G) M o ≡ Some (skeleton C, o)
    spine_fits (identifier x at) N G h S C (n, t, e) b o = name_read N G x h C o n t b
    spine_fits (application M P) N G h S C (A, B, U, L, b, g, e, c) (i, j) o =
        then_is (term_skeleton es f N (context_skeletons G) M o) (skeleton (lf_pi A B)) o (λ s p. and_then (term_skeleton es f N (context_skeletons G) P p) (applied s)) (Some (skeleton C, o)) (spine_fits M N G h U (lf_pi A B) b i o)
        (then_is (term_skeleton es f N (context_skeletons G) P o) (skeleton A) o (applied (skeleton (lf_pi A B))) (Some (skeleton C, o)) (term_fits P N G A L g j o)
        (applied_is (skeleton A) (skeleton B) o ∙ ap (λ s. Some (s, o)) (sym (ap skeleton c ∙ skeleton_substituted reduce (single (skeleton A) L) B))))
    spine_fits M N G h S C g b o = absurd g

    pub family_fits : (M : Term) (N : Names) (G : List LfType) (a : ℕ) (S : Spine) (L : Kind) → FamilyGives es N G M a S L → TypeIsBare es N M → (o : List Skeleton) → family_skeleton es f N (context_skeletons G) M o ≡ Some (known (due L) (base a), o)
    family_fits (identifier x at) N G a S L (n, t, e) b o = family_name_read N x a L o n t b
    family_fits (application M P) N G a S L (A, K, U, R, b, g, e, c) (i, j) o =
        then_is (family_skeleton es f N (context_skeletons G) M o) (known (due (kind_pi A K)) (base a)) o (λ F p. and_then (term_skeleton es f N (context_skeletons G) P p) (family_applied F)) (Some (known (due L) (base a), o)) (family_fits M N G a U (kind_pi A K) b i o)
        (then_is (term_skeleton es f N (context_skeletons G) P o) (skeleton A) o (family_applied (known (due (kind_pi A K)) (base a))) (Some (known (due L) (base a), o)) (term_fits P N G A R g j o)
        (family_applied_is (skeleton A) (due K) (base a) o ∙ ap (λ ss. Some (known ss (base a), o)) (sym (ap due c ∙ due_substituted (single (skeleton A) R) K))))
    family_fits M N G a S L g b o = absurd g

    pub type_fits : (U : Term) (N : Names) (G : List LfType) (A : LfType) → TypeGives es N G U A → TypeIsBare es N U → (o : List Skeleton) → and_then (family_skeleton es f N (context_skeletons G) U o) whole ≡ Some (skeleton A, o)
    type_fits (arrow U V) N G (lf_pi A B) (u, v) (h, k) o =
        ap (λ r. and_then r whole)
        (then_is (and_then (family_skeleton es f N (context_skeletons G) U o) whole) (skeleton A) o (λ s p. and_then (and_then (family_skeleton es f (None ∷ N) (s ∷ context_skeletons G) V p) whole) (λ t q. Some (known [] (arrow_skeleton s t), q))) (Some (known [] (skeleton (lf_pi A B)), o)) (type_fits U N G A u h o)
        (then_is (and_then (family_skeleton es f (None ∷ N) (skeleton A ∷ context_skeletons G) V o) whole) (skeleton B) o (λ t q. Some (known [] (arrow_skeleton (skeleton A) t), q)) (Some (known [] (skeleton (lf_pi A B)), o)) (type_fits V (None ∷ N) (A ∷ G) B v k o) refl))
    type_fits (pi x at D V) N G (lf_pi A B) (d, v) (h, k) o =
        ap (λ r. and_then r whole)
        (then_is (domain_skeleton es f N (context_skeletons G) D o) (skeleton A) o (λ s p. and_then (and_then (family_skeleton es f (binder_name x ∷ N) (s ∷ context_skeletons G) V p) whole) (λ t q. Some (known [] (arrow_skeleton s t), q))) (Some (known [] (skeleton (lf_pi A B)), o)) (domain_fits D N G A d h o)
        (then_is (and_then (family_skeleton es f (binder_name x ∷ N) (skeleton A ∷ context_skeletons G) V o) whole) (skeleton B) o (λ t q. Some (known [] (arrow_skeleton (skeleton A) t), q)) (Some (known [] (skeleton (lf_pi A B)), o)) (type_fits V (binder_name x ∷ N) (A ∷ G) B v k o) refl))
    type_fits (identifier x at) N G (atom a S) (n, t, e) b o = ap (λ r. and_then r whole) (family_name_read N x a lf_star o n t b)
    type_fits (application M P) N G (atom a S) (A, K, U, R, b, g, e, c) (i, j) o =
        ap (λ r. and_then r whole)
        (then_is (family_skeleton es f N (context_skeletons G) M o) (known (due (kind_pi A K)) (base a)) o (λ F p. and_then (term_skeleton es f N (context_skeletons G) P p) (family_applied F)) (Some (known [] (base a), o)) (family_fits M N G a U (kind_pi A K) b i o)
        (then_is (term_skeleton es f N (context_skeletons G) P o) (skeleton A) o (family_applied (known (due (kind_pi A K)) (base a))) (Some (known [] (base a), o)) (term_fits P N G A R g j o)
        (family_applied_is (skeleton A) (due K) (base a) o ∙ ap (λ ss. Some (known ss (base a), o)) (sym (ap due c ∙ due_substituted (single (skeleton A) R) K)))))
    type_fits U N G A g b o = absurd g

    pub domain_fits : (D : Domain) (N : Names) (G : List LfType) (A : LfType) → DomainGives es N G D A → DomainIsBare es N D → (o : List Skeleton) → domain_skeleton es f N (context_skeletons G) D o ≡ Some (skeleton A, o)
    domain_fits untyped N G A g b o = absurd g
    domain_fits (typed U) N G A g b o = type_fits U N G A g b o

  pub kind_fits : (U : Term) (N : Names) (G : List LfType) (K : Kind) → KindGives es N G U K → TypeIsBare es N U → (o : List Skeleton) → kind_due es f N (context_skeletons G) U o ≡ Some (due K, o)
  kind_fits star N G lf_star g b o = refl
  kind_fits (arrow U V) N G (kind_pi A K) (u, v) (h, k) o =
      then_is (and_then (family_skeleton es f N (context_skeletons G) U o) whole) (skeleton A) o (λ s p. and_then (kind_due es f (None ∷ N) (s ∷ context_skeletons G) V p) (λ ds q. Some (s ∷ ds, q))) (Some (due (kind_pi A K), o)) (type_fits U N G A u h o)
      (then_is (kind_due es f (None ∷ N) (skeleton A ∷ context_skeletons G) V o) (due K) o (λ ds q. Some (skeleton A ∷ ds, q)) (Some (due (kind_pi A K), o)) (kind_fits V (None ∷ N) (A ∷ G) K v k o) refl)
  kind_fits (pi x at D V) N G (kind_pi A K) (d, v) (h, k) o =
      then_is (domain_skeleton es f N (context_skeletons G) D o) (skeleton A) o (λ s p. and_then (kind_due es f (binder_name x ∷ N) (s ∷ context_skeletons G) V p) (λ ds q. Some (s ∷ ds, q))) (Some (due (kind_pi A K), o)) (domain_fits D N G A d h o)
      (then_is (kind_due es f (binder_name x ∷ N) (skeleton A ∷ context_skeletons G) V o) (due K) o (λ ds q. Some (skeleton A ∷ ds, q)) (Some (due (kind_pi A K), o)) (kind_fits V (binder_name x ∷ N) (A ∷ G) K v k o) refl)
  kind_fits U N G K g b o = absurd g
