-- What a written term, type or kind gives is typed.
use Rattle.std.proofs.Common.{◌≡◌, ℕ, List, ◌∷◌, None, Some, refl, sym, ap, subst}
use Rattle.lf.specs.Entries.{Entry, signature_of}
use Rattle.lf.specs.Syntax.{Head, Term as LfTerm, Spine, lambda as lf_lambda, root, nil, app, LfType, pi as lf_pi, atom, Kind, kind_pi, star as lf_star}
use Rattle.lf.specs.Typing.{HeadHasType, HasType, SpineType, SpineFitsKind, IsType, IsKind}
use Rattle.law_explicit_form.specs.Completion.{then, TermGives, SpineGives, FamilyGives, TypeGives, DomainGives, KindGives}
use Rattle.tw_fixity.specs.Names.{Names}
use Rattle.tw_names.specs.Scope.{binder_name}
use Rattle.tw_parse.specs.Syntax.{Term, Domain, identifier, star, arrow, pi, lambda, application, untyped, typed}
use Rattle.law_explicit_form.proofs.Spines.{spine_push}

module _ (es : List Entry) where
  -- one spine behind another
  abbrev followed : Spine → Spine → Spine
  followed nil T = T
  followed (app M S) T = app M (followed S T)

  followed_then : (S T : Spine) (R : LfTerm) → followed (then S R) T ≡ followed S (app R T)
  followed_then nil T R = refl
  followed_then (app M S) T R = ap (app M) (followed_then S T R)

  followed_nil : (S : Spine) → followed S nil ≡ S
  followed_nil nil = refl
  followed_nil (app M S) = ap (app M) (followed_nil S)

  mutual
    pub term_typed : (M : Term) (N : Names) (G : List LfType) (A : LfType) (R : LfTerm) → TermGives es N G M A R → HasType (signature_of es) G R A
    term_typed (lambda x at D M) N G (lf_pi A B) (lf_lambda R) (d, m) = term_typed M (binder_name x ∷ N) (A ∷ G) B R m
    term_typed (identifier x at) N G (atom a S) (root h R) (n, t, e) = (atom a S, t, subst (λ X. SpineType (signature_of es) G X (atom a S) (atom a S)) (sym e) refl)
    term_typed (application M P) N G (atom a S) (root h R) (A, B, U, L, b, g, e, f) =
        let p = spine_typed M N G h U (lf_pi A B) b in
        let s = spine_push (signature_of es) G U p.0 A B L p.2 (term_typed P N G A L g) in
        (p.0, p.1, subst (λ X. SpineType (signature_of es) G X p.0 (atom a S)) (sym e) (subst (SpineType (signature_of es) G (then U L) p.0) (sym f) s))
    term_typed M N G A R g = absurd g

    pub spine_typed : (M : Term) (N : Names) (G : List LfType) (h : Head) (S : Spine) (C : LfType) → SpineGives es N G M h S C → (A : LfType) × HeadHasType (signature_of es) G h A × SpineType (signature_of es) G S A C
    spine_typed (identifier x at) N G h S C (n, t, e) = (C, t, subst (λ X. SpineType (signature_of es) G X C C) (sym e) refl)
    spine_typed (application M P) N G h S C (A, B, U, L, b, g, e, f) =
        let p = spine_typed M N G h U (lf_pi A B) b in
        let s = spine_push (signature_of es) G U p.0 A B L p.2 (term_typed P N G A L g) in
        (p.0, p.1, subst (λ X. SpineType (signature_of es) G X p.0 C) (sym e) (subst (SpineType (signature_of es) G (then U L) p.0) (sym f) s))
    spine_typed M N G h S C g = absurd g

  pub family_typed : (M : Term) (N : Names) (G : List LfType) (a : ℕ) (S : Spine) (L : Kind) → FamilyGives es N G M a S L → (K : Kind) × ((signature_of es).kinds a ≡ Some K) × ((T : Spine) → SpineFitsKind (signature_of es) G T L → SpineFitsKind (signature_of es) G (followed S T) K)
  family_typed (identifier x at) N G a S L (n, t, e) = (L, t, λ T f. subst (λ X. SpineFitsKind (signature_of es) G (followed X T) L) (sym e) f)
  family_typed (application M P) N G a S L (A, K, U, R, b, g, e, f) =
      let p = family_typed M N G a U (kind_pi A K) b in (
        p.0,
        p.1,
        λ T fits. subst (λ X. SpineFitsKind (signature_of es) G (followed X T) p.0) (sym e)
            (subst (λ X. SpineFitsKind (signature_of es) G X p.0) (sym (followed_then U T R))
            (p.2 (app R T) (term_typed P N G A R g, subst (SpineFitsKind (signature_of es) G T) f fits))),
      )
  family_typed M N G a S L g = absurd g

  atom_typed : (M : Term) (N : Names) (G : List LfType) (a : ℕ) (S : Spine) → FamilyGives es N G M a S lf_star → IsType (signature_of es) G (atom a S)
  atom_typed M N G a S g =
      let p = family_typed M N G a S lf_star g in
      (p.0, p.1, subst (λ X. SpineFitsKind (signature_of es) G X p.0) (followed_nil S) (p.2 nil tt))

  mutual
    pub type_typed : (U : Term) (N : Names) (G : List LfType) (A : LfType) → TypeGives es N G U A → IsType (signature_of es) G A
    type_typed (arrow U V) N G (lf_pi A B) (u, v) = (type_typed U N G A u, type_typed V (None ∷ N) (A ∷ G) B v)
    type_typed (pi x at D V) N G (lf_pi A B) (d, v) = (domain_typed D N G A d, type_typed V (binder_name x ∷ N) (A ∷ G) B v)
    type_typed (identifier x at) N G (atom a S) g = atom_typed (identifier x at) N G a S g
    type_typed (application M P) N G (atom a S) g = atom_typed (application M P) N G a S g
    type_typed U N G A g = absurd g

    pub domain_typed : (D : Domain) (N : Names) (G : List LfType) (A : LfType) → DomainGives es N G D A → IsType (signature_of es) G A
    domain_typed untyped N G A g = absurd g
    domain_typed (typed U) N G A g = type_typed U N G A g

  pub kind_typed : (U : Term) (N : Names) (G : List LfType) (K : Kind) → KindGives es N G U K → IsKind (signature_of es) G K
  kind_typed star N G lf_star g = tt
  kind_typed (arrow U V) N G (kind_pi A K) (u, v) = (type_typed U N G A u, kind_typed V (None ∷ N) (A ∷ G) K v)
  kind_typed (pi x at D V) N G (kind_pi A K) (d, v) = (domain_typed D N G A d, kind_typed V (binder_name x ∷ N) (A ∷ G) K v)
  kind_typed U N G K g = absurd g
