-- What gives canonical LF is completed to it, without the variables of arrows in scope, and to nothing else.
use Rattle.std.proofs.Common.{ℕ, List, ◌∷◌, None, refl}
use Rattle.lf.specs.Entries.{Entry, IsCanonicalSignature, signature_of}
use Rattle.lf.specs.Syntax.{Head, Kind, LfType, Spine, Term as LfTerm, atom, kind_pi, lambda as lf_lambda, pi as lf_pi, root, star as lf_star}
use Rattle.lf.specs.Typing.{IsSignature}
use Rattle.lf.proofs.Entries.{canonical_is_signature}
use Rattle.lf_elaboration.specs.Written.{Place as WrittenPlace}
use Rattle.law_explicit_form.specs.Completion.{DomainGives, FamilyGives, KindGives, SpineGives, TermGives, TypeGives}
use Rattle.tw_names.specs.Scope.{binder_name}
use Rattle.tw_parse.specs.Syntax.{Domain, Term, application, arrow, identifier, lambda, pi, star, typed, untyped}
use Rattle.tw_fixity.specs.Names.{Names}
use Rattle.tw_written.specs.View.{place_of}
use Rattle.law_explicit_agrees.proofs.Bare.{DomainIsBare, TermIsBare, TypeIsBare}
use Rattle.law_explicit_agrees.proofs.Parts.{DomainDone, FamilyDone, KindDone, SpineDone, TermDone, TypeDone, applied_done, arrow_done, atom_done, family_applied_done, family_name_done, kind_arrow_done, kind_pi_done, lambda_done, name_done, pi_done, root_done, star_done, typed_done}
use Rattle.law_explicit_agrees.proofs.Views.{View, view_by, view_under}

module _ (es : List Entry) (canonical : IsCanonicalSignature es) where
  abbrev ok : IsSignature (signature_of es)
  ok = canonical_is_signature es canonical

  mutual
    pub term_done : (M : Term) (N : Names) (G : List LfType) (v : View N G) (A : LfType) (R : LfTerm) → TermGives es N G M A R → TermIsBare es N M → TermDone es v M A R
    term_done (lambda x at D M) N G v (lf_pi A B) (lf_lambda R) (d, m) (h, k) =
        let (X, e, t) = domain_done (place_of at) D N G v A d h in
        lambda_done es v x at D M A B R X e t (term_done M (binder_name x ∷ N) (A ∷ G) (view_under (binder_name x) N G v A X e) B R m k)
    term_done (identifier x at) N G v (atom a S) (root h R) (n, t, e) b = root_done es v (identifier x at) h R a S (name_done es ok v (place_of at) x (identifier x at) (λ o. refl) h R (atom a S) n t e b)
    term_done (application M P) N G v (atom a S) (root h R) (A, B, U, L, b, g, e, c) (i, j) =
        root_done es v (application M P) h R a S (applied_done es v M P h U A B L R (atom a S) (spine_done M N G v h U (lf_pi A B) b i) (term_done P N G v A L g j) e c)
    term_done M N G v A R g b = absurd g

    pub spine_done : (M : Term) (N : Names) (G : List LfType) (v : View N G) (h : Head) (S : Spine) (C : LfType) → SpineGives es N G M h S C → TermIsBare es N M → SpineDone es v M h S C
    spine_done (identifier x at) N G v h S C (n, t, e) b = name_done es ok v (place_of at) x (identifier x at) (λ o. refl) h S C n t e b
    spine_done (application M P) N G v h S C (A, B, U, L, b, g, e, c) (i, j) = applied_done es v M P h U A B L S C (spine_done M N G v h U (lf_pi A B) b i) (term_done P N G v A L g j) e c
    spine_done M N G v h S C g b = absurd g

    pub family_done : (M : Term) (N : Names) (G : List LfType) (v : View N G) (a : ℕ) (S : Spine) (L : Kind) → FamilyGives es N G M a S L → TypeIsBare es N M → FamilyDone es v M a S L
    family_done (identifier x at) N G v a S L (n, t, e) b = family_name_done es ok v (place_of at) x (identifier x at) (λ o. refl) a S L n t e b
    family_done (application M P) N G v a S L (A, K, U, R, b, g, e, c) (i, j) = family_applied_done es v M P a U A K R S L (family_done M N G v a U (kind_pi A K) b i) (term_done P N G v A R g j) e c
    family_done M N G v a S L g b = absurd g

    pub type_done : (U : Term) (N : Names) (G : List LfType) (v : View N G) (A : LfType) → TypeGives es N G U A → TypeIsBare es N U → TypeDone es v U A
    type_done (arrow U V) N G v (lf_pi A B) (u, w) (h, k) = arrow_done es v U V A B (type_done U N G v A u h) (type_done V (None ∷ N) (A ∷ G) (view_by N G v A) B w k)
    type_done (pi x at D V) N G v (lf_pi A B) (d, w) (h, k) =
        let (X, e, t) = domain_done (place_of at) D N G v A d h in
        pi_done es v x at D V A B X e t (type_done V (binder_name x ∷ N) (A ∷ G) (view_under (binder_name x) N G v A X e) B w k)
    type_done (identifier x at) N G v (atom a S) (n, t, e) b = atom_done es v (identifier x at) a S (family_name_done es ok v (place_of at) x (identifier x at) (λ o. refl) a S lf_star n t e b)
    type_done (application M P) N G v (atom a S) (A, K, U, R, b, g, e, c) (i, j) =
        atom_done es v (application M P) a S (family_applied_done es v M P a U A K R S lf_star (family_done M N G v a U (kind_pi A K) b i) (term_done P N G v A R g j) e c)
    type_done U N G v A g b = absurd g

    pub domain_done : (at : WrittenPlace) (D : Domain) (N : Names) (G : List LfType) (v : View N G) (A : LfType) → DomainGives es N G D A → DomainIsBare es N D → DomainDone es v at D A
    domain_done at untyped N G v A g b = absurd g
    domain_done at (typed U) N G v A g b = typed_done es v at U A (type_done U N G v A g b)

  pub kind_done : (U : Term) (N : Names) (G : List LfType) (v : View N G) (K : Kind) → KindGives es N G U K → TypeIsBare es N U → KindDone es v U K
  kind_done star N G v lf_star g b = star_done es v
  kind_done (arrow U V) N G v (kind_pi A K) (u, w) (h, k) = kind_arrow_done es v U V A K (type_done U N G v A u h) (kind_done V (None ∷ N) (A ∷ G) (view_by N G v A) K w k)
  kind_done (pi x at D V) N G v (kind_pi A K) (d, w) (h, k) =
      let (X, e, t) = domain_done (place_of at) D N G v A d h in
      kind_pi_done es v x at D V A K X e t (kind_done V (binder_name x ∷ N) (A ∷ G) (view_under (binder_name x) N G v A X e) K w k)
  kind_done U N G v K g b = absurd g
