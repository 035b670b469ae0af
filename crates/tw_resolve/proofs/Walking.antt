-- The resolution of a whole text.
use Rattle.std.proofs.Common.{◌≡◌, ℕ, List, [], ◌∷◌, Option, None, Some, inl, inr, refl, sym, ap, subst}
use Rattle.lf.specs.Entries.{Entry, IsCanonicalSignature}
use Rattle.lf.specs.Syntax.{Head, Skeleton, arrow as arrow_skeleton}
use Rattle.lf_elaboration.specs.Written as written
use Rattle.lf_elaboration.specs.Written.{Place, Written, WrittenType, family, type_hole, written_star}
use Rattle.lf_elaboration.specs.WrittenSkeletons.{WrittenHasSkeleton}
use Rattle.tw_approx.specs.Answer.{Rows, frees_of, HasRow}
use Rattle.tw_approx.specs.Names.{IsFreeIn, IsFreeInDomain}
use Rattle.tw_approx.specs.Readings.{take, found, and_then}
use Rattle.tw_approx.specs.Skeletons.{Family, known, unknown, name_skeleton, family_named, applied, ascribed, family_applied, family_ascribed, whole, term_skeleton, family_skeleton, type_skeleton, domain_skeleton, kind_due}
use Rattle.tw_approx.proofs.Sequences.{given, parts_of, and_then_parts}
use Rattle.tw_names.specs.Scope.{binder_name, named}
use Rattle.tw_parse.specs.Syntax.{Term, Domain, identifier, hole, star, arrow, pi, lambda, application, ascription, untyped, typed}
use Rattle.tw_fixity.specs.Names.{Names, variable_of}
use Rattle.tw_signature.specs.Names.{number_of}
use Rattle.tw_written.specs.View.{place_of}
use Rattle.tw_resolve.specs.Resolving.{resolved_name, resolved_family, resolved_term, resolved_type, resolved_domain, resolved_kind}
use Rattle.tw_resolve.specs.Resolved.{names_of, skeletons_of}
use Rattle.tw_resolve.proofs.Forms.{FamilyIs, KindIs, Anything, FamilyFits, KindFits, TermFits, TypeFits, DomainFits, family_name_fits, bound_part, type_part, applied_part, ascribed_part, family_applied_part, family_ascribed_part}
use Rattle.tw_resolve.proofs.Names.{IsThinner, thinner_under, thinner_by, name_has, family_name_has}
use Rattle.tw_resolve.proofs.Parts.{Resolves, nothing_taken, one_taken, becomes, named_alike}

found_is : {A : Type 0} (x : Option A) (o : List Skeleton) (a : A) (q : List Skeleton) → found x o ≡ Some (a, q) → (x ≡ Some a) × (o ≡ q)
found_is None o a q e = absurd cc
found_is (Some b) o a q e = let s = parts_of b a o q e in (ap Some s.0, s.1)

module _ (es : List Entry) (canonical : IsCanonicalSignature es) (rows : Rows) where
  -- each free variable of the text has a row
  abbrev HaveRows : Names → Term → Type 0
  HaveRows N M = (x : List ℕ) → IsFreeIn es x N M → HasRow x rows

  abbrev DomainHasRows : Names → Domain → Type 0
  DomainHasRows N D = (x : List ℕ) → IsFreeInDomain es x N D → HasRow x rows

  -- In the scope N with the skeletons G the text is read, and in the scope M with H it is resolved.
  abbrev pub TermResolves : Names → List Skeleton → Names → List Skeleton → Term → List Skeleton → Skeleton → List Skeleton → Type 0
  TermResolves N G M H T o s q = Resolves es (term_skeleton es (frees_of rows) N G T) (resolved_term es (names_of rows) M T) Anything (TermFits es (skeletons_of rows) H s) s o q

  abbrev pub FamilyResolves : Names → List Skeleton → Names → List Skeleton → Term → List Skeleton → Family → List Skeleton → Type 0
  FamilyResolves N G M H T o F q = Resolves es (family_skeleton es (frees_of rows) N G T) (resolved_type es (names_of rows) M T) (FamilyIs F) (FamilyFits es (skeletons_of rows) H F) F o q

  abbrev pub TypeResolves : Names → List Skeleton → Names → List Skeleton → Term → List Skeleton → Skeleton → List Skeleton → Type 0
  TypeResolves N G M H T o s q = Resolves es (type_skeleton es (frees_of rows) N G T) (resolved_type es (names_of rows) M T) Anything (TypeFits es (skeletons_of rows) H s) s o q

  abbrev pub DomainResolves : Names → List Skeleton → Names → List Skeleton → Place → Domain → List Skeleton → Skeleton → List Skeleton → Type 0
  DomainResolves N G M H at D o s q = Resolves es (domain_skeleton es (frees_of rows) N G D) (resolved_domain es (names_of rows) M at D) Anything (DomainFits es (skeletons_of rows) H s) s o q

  abbrev pub KindResolves : Names → List Skeleton → Names → List Skeleton → Term → List Skeleton → List Skeleton → List Skeleton → Type 0
  KindResolves N G M H K o ds q = Resolves es (kind_due es (frees_of rows) N G K) (resolved_kind es (names_of rows) M K) (KindIs ds) (KindFits es (skeletons_of rows) H ds) ds o q

  name_resolves : (at : Place) (N : Names) (G : List Skeleton) (M : Names) (H : List Skeleton) → IsThinner N G M H → (h k : Option Head) (x : List ℕ)
      → ((s : Skeleton) → name_skeleton es (frees_of rows) G h x ≡ Some s → (w : Written) × (resolved_name at k (variable_of (names_of rows) x) ≡ Some w) × WrittenHasSkeleton es (skeletons_of rows) H w s)
      → (o : List Skeleton) (s : Skeleton) (q : List Skeleton) → found (name_skeleton es (frees_of rows) G h x) o ≡ Some (s, q)
      → Resolves es (found (name_skeleton es (frees_of rows) G h x)) (found (resolved_name at k (variable_of (names_of rows) x))) Anything (TermFits es (skeletons_of rows) H s) s o q
  name_resolves at N G M H t h k x has o s q e =
      let f = found_is (name_skeleton es (frees_of rows) G h x) o s q e in
      let r = has s f.0 in
      named_alike es (found (name_skeleton es (frees_of rows) G h x)) (found (resolved_name at k (variable_of (names_of rows) x))) (λ _. Anything) (TermFits es (skeletons_of rows) H) s s o o q refl f.1
      (nothing_taken es (found (name_skeleton es (frees_of rows) G h x)) (found (resolved_name at k (variable_of (names_of rows) x))) Anything (TermFits es (skeletons_of rows) H s) s r.0 o (λ p. ap (λ y. found y p) f.0) (λ p. ap (λ y. found y p) r.1) tt r.2)

  family_name_resolves : (at : Place) (H : List Skeleton) (h k : Option Head)
      → ((F : Family) → family_named es h ≡ Some F → (U : WrittenType) × (resolved_family at k ≡ Some U) × FamilyIs F U × FamilyFits es (skeletons_of rows) H F U)
      → (o : List Skeleton) (F : Family) (q : List Skeleton) → found (family_named es h) o ≡ Some (F, q)
      → Resolves es (found (family_named es h)) (found (resolved_family at k)) (FamilyIs F) (FamilyFits es (skeletons_of rows) H F) F o q
  family_name_resolves at H h k has o F q e =
      let f = found_is (family_named es h) o F q e in
      let r = has F f.0 in
      named_alike es (found (family_named es h)) (found (resolved_family at k)) FamilyIs (FamilyFits es (skeletons_of rows) H) F F o o q refl f.1
      (nothing_taken es (found (family_named es h)) (found (resolved_family at k)) (FamilyIs F) (FamilyFits es (skeletons_of rows) H F) F r.0 o (λ p. ap (λ y. found y p) f.0) (λ p. ap (λ y. found y p) r.1) r.2 r.3)

  family_has : (at : Place) (N : Names) (G : List Skeleton) (M : Names) (H : List Skeleton) → IsThinner N G M H → (x : List ℕ) (F : Family) → family_named es (named es N x) ≡ Some F
      → (U : WrittenType) × (resolved_family at (named es M x) ≡ Some U) × FamilyIs F U × FamilyFits es (skeletons_of rows) H F U
  family_has at N G M H t x F e =
      let r = family_name_has es rows canonical at G H (variable_of N x) (variable_of M x) (number_of es x) F (t x) e in
      (family r.0 at, r.2, subst (λ E. FamilyIs E (family r.0 at)) (sym r.3) refl, subst (λ E. FamilyFits es (skeletons_of rows) H E (family r.0 at)) (sym r.3) (family_name_fits es (skeletons_of rows) at H r.0 r.1 r.4))

  hole_family : (at : Place) (H : List Skeleton) (o : List Skeleton) (F : Family) (q : List Skeleton) → and_then (take o) (λ t p. Some (unknown t, p)) ≡ Some (F, q)
      → Resolves es (λ l. and_then (take l) (λ t p. Some (unknown t, p))) (λ l. and_then (take l) (λ s p. Some (type_hole s at, p))) (FamilyIs F) (FamilyFits es (skeletons_of rows) H F) F o q
  hole_family at H [] F q e = absurd cc
  hole_family at H (t ∷ o) F q e =
      let same = parts_of (unknown t) F o q e in
      named_alike es (λ l. and_then (take l) (λ s p. given (unknown s) p)) (λ l. and_then (take l) (λ s p. given (type_hole s at) p)) FamilyIs (FamilyFits es (skeletons_of rows) H) (unknown t) F (t ∷ o) o q same.0 same.1
      (record { taken = t ∷ []; is = refl; reads = λ p. refl; outcome = inl (record { value = type_hole t at; resolves = λ p. refl; always = tt; good = λ d. (refl, d.0) }) })

  mutual
    pub term_resolves : (T : Term) (N : Names) (G : List Skeleton) (M : Names) (H : List Skeleton) → IsThinner N G M H → HaveRows N T → (o : List Skeleton) (s : Skeleton) (q : List Skeleton) → term_skeleton es (frees_of rows) N G T o ≡ Some (s, q) → TermResolves N G M H T o s q
    term_resolves (identifier x at) N G M H t r o s q e =
        name_resolves (place_of at) N G M H t (named es N x) (named es M x) x (λ k f. name_has es rows (place_of at) G H (variable_of N x) (variable_of M x) (number_of es x) x k (t x) f (λ none upper. r x (refl, upper, none))) o s q e
    term_resolves (hole at) N G M H t r o s q e = one_taken es (λ k. written.hole k (place_of at)) Anything (TermFits es (skeletons_of rows) H s) o s q e tt (λ d. (refl, d))
    term_resolves star N G M H t r o s q e = absurd cc
    term_resolves (arrow U V) N G M H t r o s q e = absurd cc
    term_resolves (pi x at D V) N G M H t r o s q e = absurd cc
    term_resolves (lambda x at D T) N G M H t r o s q e =
        let f = frees_of rows in
        let a = and_then_parts (domain_skeleton es f N G D o) (λ k p. and_then (term_skeleton es f (binder_name x ∷ N) (k ∷ G) T p) (λ l m. given (arrow_skeleton k l) m)) s q e in
        let b = and_then_parts (term_skeleton es f (binder_name x ∷ N) (a.0 ∷ G) T a.1) (λ l m. given (arrow_skeleton a.0 l) m) s q a.3 in
        let one = domain_resolves D (place_of at) N G M H t (λ y h. r y (inl h)) o a.0 a.1 a.2 in
        let two = term_resolves T (binder_name x ∷ N) (a.0 ∷ G) (binder_name x ∷ M) (a.0 ∷ H) (thinner_under (binder_name x) a.0 N M G H t) (λ y h. r y (inr h)) a.1 b.0 b.1 b.2 in
        bound_part es (skeletons_of rows) (domain_skeleton es f N G D) (λ k p. term_skeleton es f (binder_name x ∷ N) (k ∷ G) T p) arrow_skeleton (resolved_domain es (names_of rows) M (place_of at) D) (resolved_term es (names_of rows) (binder_name x ∷ M) T) written.function
        Anything (DomainFits es (skeletons_of rows) H a.0) Anything (TermFits es (skeletons_of rows) (a.0 ∷ H) b.0) (λ _. Anything) (TermFits es (skeletons_of rows) H) a.0 b.0 s o a.1 b.1 q (λ u v i j. tt) (λ u v i j. (i, j)) b.3 one two
    term_resolves (application T P) N G M H t r o s q e =
        let f = frees_of rows in
        let a = and_then_parts (term_skeleton es f N G T o) (λ k p. and_then (term_skeleton es f N G P p) (applied k)) s q e in
        let b = and_then_parts (term_skeleton es f N G P a.1) (applied a.0) s q a.3 in
        applied_part es (skeletons_of rows) (term_skeleton es f N G T) (term_skeleton es f N G P) (resolved_term es (names_of rows) M T) (resolved_term es (names_of rows) M P) H a.0 b.0 o a.1 b.1 s q b.3
        (term_resolves T N G M H t (λ y h. r y (inl h)) o a.0 a.1 a.2) (term_resolves P N G M H t (λ y h. r y (inr h)) a.1 b.0 b.1 b.2)
    term_resolves (ascription T A) N G M H t r o s q e =
        let f = frees_of rows in
        let a = and_then_parts (term_skeleton es f N G T o) (λ k p. and_then (type_skeleton es f N G A p) (ascribed k)) s q e in
        let b = and_then_parts (type_skeleton es f N G A a.1) (ascribed a.0) s q a.3 in
        let c = and_then_parts (family_skeleton es f N G A a.1) whole b.0 b.1 b.2 in
        ascribed_part es (skeletons_of rows) (term_skeleton es f N G T) (type_skeleton es f N G A) (resolved_term es (names_of rows) M T) (resolved_type es (names_of rows) M A) H a.0 b.0 o a.1 b.1 s q b.3
        (term_resolves T N G M H t (λ y h. r y (inl h)) o a.0 a.1 a.2)
        (type_part es (skeletons_of rows) (family_skeleton es f N G A) (resolved_type es (names_of rows) M A) H c.0 a.1 c.1 b.0 b.1 c.3 (family_resolves A N G M H t (λ y h. r y (inr h)) a.1 c.0 c.1 c.2))

    pub family_resolves : (T : Term) (N : Names) (G : List Skeleton) (M : Names) (H : List Skeleton) → IsThinner N G M H → HaveRows N T → (o : List Skeleton) (F : Family) (q : List Skeleton) → family_skeleton es (frees_of rows) N G T o ≡ Some (F, q) → FamilyResolves N G M H T o F q
    family_resolves (identifier x at) N G M H t r o F q e = family_name_resolves (place_of at) H (named es N x) (named es M x) (λ E f. family_has (place_of at) N G M H t x E f) o F q e
    family_resolves (hole at) N G M H t r o F q e = hole_family (place_of at) H o F q e
    family_resolves star N G M H t r o F q e = absurd cc
    family_resolves (arrow U V) N G M H t r o F q e =
        let f = frees_of rows in
        let a = and_then_parts (type_skeleton es f N G U o) (λ k p. and_then (type_skeleton es f (None ∷ N) (k ∷ G) V p) (λ l m. given (known [] (arrow_skeleton k l)) m)) F q e in
        let b = and_then_parts (type_skeleton es f (None ∷ N) (a.0 ∷ G) V a.1) (λ l m. given (known [] (arrow_skeleton a.0 l)) m) F q a.3 in
        let c = and_then_parts (family_skeleton es f N G U o) whole a.0 a.1 a.2 in
        let d = and_then_parts (family_skeleton es f (None ∷ N) (a.0 ∷ G) V a.1) whole b.0 b.1 b.2 in
        let one = type_part es (skeletons_of rows) (family_skeleton es f N G U) (resolved_type es (names_of rows) M U) H c.0 o c.1 a.0 a.1 c.3 (family_resolves U N G M H t (λ y h. r y (inl h)) o c.0 c.1 c.2) in
        let two = type_part es (skeletons_of rows) (family_skeleton es f (None ∷ N) (a.0 ∷ G) V) (resolved_type es (names_of rows) M V) H d.0 a.1 d.1 b.0 b.1 d.3 (family_resolves V (None ∷ N) (a.0 ∷ G) M H (thinner_by a.0 N M G H t) (λ y h. r y (inr h)) a.1 d.0 d.1 d.2) in
        bound_part es (skeletons_of rows) (type_skeleton es f N G U) (λ k p. type_skeleton es f (None ∷ N) (k ∷ G) V p) (λ k l. known [] (arrow_skeleton k l)) (resolved_type es (names_of rows) M U) (resolved_type es (names_of rows) M V) written.arrow
        Anything (TypeFits es (skeletons_of rows) H a.0) Anything (TypeFits es (skeletons_of rows) H b.0) FamilyIs (FamilyFits es (skeletons_of rows) H) a.0 b.0 F o a.1 b.1 q (λ u v i j. refl) (λ u v i j. (i, j)) b.3 one two
    family_resolves (pi x at D V) N G M H t r o F q e =
        let f = frees_of rows in
        let a = and_then_parts (domain_skeleton es f N G D o) (λ k p. and_then (type_skeleton es f (binder_name x ∷ N) (k ∷ G) V p) (λ l m. given (known [] (arrow_skeleton k l)) m)) F q e in
        let b = and_then_parts (type_skeleton es f (binder_name x ∷ N) (a.0 ∷ G) V a.1) (λ l m. given (known [] (arrow_skeleton a.0 l)) m) F q a.3 in
        let d = and_then_parts (family_skeleton es f (binder_name x ∷ N) (a.0 ∷ G) V a.1) whole b.0 b.1 b.2 in
        let one = domain_resolves D (place_of at) N G M H t (λ y h. r y (inl h)) o a.0 a.1 a.2 in
        let two = type_part es (skeletons_of rows) (family_skeleton es f (binder_name x ∷ N) (a.0 ∷ G) V) (resolved_type es (names_of rows) (binder_name x ∷ M) V) (a.0 ∷ H) d.0 a.1 d.1 b.0 b.1 d.3
        (family_resolves V (binder_name x ∷ N) (a.0 ∷ G) (binder_name x ∷ M) (a.0 ∷ H) (thinner_under (binder_name x) a.0 N M G H t) (λ y h. r y (inr h)) a.1 d.0 d.1 d.2) in
        bound_part es (skeletons_of rows) (domain_skeleton es f N G D) (λ k p. type_skeleton es f (binder_name x ∷ N) (k ∷ G) V p) (λ k l. known [] (arrow_skeleton k l)) (resolved_domain es (names_of rows) M (place_of at) D) (resolved_type es (names_of rows) (binder_name x ∷ M) V) written.quantified
        Anything (DomainFits es (skeletons_of rows) H a.0) Anything (TypeFits es (skeletons_of rows) (a.0 ∷ H) b.0) FamilyIs (FamilyFits es (skeletons_of rows) H) a.0 b.0 F o a.1 b.1 q (λ u v i j. refl) (λ u v i j. (i, j)) b.3 one two
    family_resolves (lambda x at D T) N G M H t r o F q e = absurd cc
    family_resolves (application T P) N G M H t r o F q e =
        let f = frees_of rows in
        let a = and_then_parts (family_skeleton es f N G T o) (λ k p. and_then (term_skeleton es f N G P p) (family_applied k)) F q e in
        let b = and_then_parts (term_skeleton es f N G P a.1) (family_applied a.0) F q a.3 in
        family_applied_part es (skeletons_of rows) (family_skeleton es f N G T) (term_skeleton es f N G P) (resolved_type es (names_of rows) M T) (resolved_term es (names_of rows) M P) H a.0 b.0 o a.1 b.1 F q b.3
        (family_resolves T N G M H t (λ y h. r y (inl h)) o a.0 a.1 a.2) (term_resolves P N G M H t (λ y h. r y (inr h)) a.1 b.0 b.1 b.2)
    family_resolves (ascription T K) N G M H t r o F q e =
        let f = frees_of rows in
        let a = and_then_parts (family_skeleton es f N G T o) (λ k p. and_then (kind_due es f N G K p) (family_ascribed k)) F q e in
        let b = and_then_parts (kind_due es f N G K a.1) (family_ascribed a.0) F q a.3 in
        family_ascribed_part es (skeletons_of rows) (family_skeleton es f N G T) (kind_due es f N G K) (resolved_type es (names_of rows) M T) (resolved_kind es (names_of rows) M K) H a.0 b.0 o a.1 b.1 F q b.3
        (family_resolves T N G M H t (λ y h. r y (inl h)) o a.0 a.1 a.2) (kind_resolves K N G M H t (λ y h. r y (inr h)) a.1 b.0 b.1 b.2)

    pub domain_resolves : (D : Domain) (at : Place) (N : Names) (G : List Skeleton) (M : Names) (H : List Skeleton) → IsThinner N G M H → DomainHasRows N D → (o : List Skeleton) (s : Skeleton) (q : List Skeleton) → domain_skeleton es (frees_of rows) N G D o ≡ Some (s, q) → DomainResolves N G M H at D o s q
    domain_resolves untyped at N G M H t r o s q e = one_taken es (λ k. written.of_skeleton k at) Anything (DomainFits es (skeletons_of rows) H s) o s q e tt (λ d. (refl, d))
    domain_resolves (typed A) at N G M H t r o s q e =
        let f = frees_of rows in
        let c = and_then_parts (family_skeleton es f N G A o) whole s q e in
        becomes es (type_skeleton es f N G A) (resolved_type es (names_of rows) M A) written.of_type Anything (TypeFits es (skeletons_of rows) H s) Anything (DomainFits es (skeletons_of rows) H s) s o q (λ v h. tt) (λ v h g. g)
        (type_part es (skeletons_of rows) (family_skeleton es f N G A) (resolved_type es (names_of rows) M A) H c.0 o c.1 s q c.3 (family_resolves A N G M H t r o c.0 c.1 c.2))

    pub kind_resolves : (K : Term) (N : Names) (G : List Skeleton) (M : Names) (H : List Skeleton) → IsThinner N G M H → HaveRows N K → (o ds q : List Skeleton) → kind_due es (frees_of rows) N G K o ≡ Some (ds, q) → KindResolves N G M H K o ds q
    kind_resolves (identifier x at) N G M H t r o ds q e = absurd cc
    kind_resolves (hole at) N G M H t r o ds q e = absurd cc
    kind_resolves star N G M H t r o ds q e =
        let none : List Skeleton = [] in
        let same = parts_of none ds o q e in
        named_alike es (λ l. given none l) (λ l. given written_star l) KindIs (KindFits es (skeletons_of rows) H) none ds o o q same.0 same.1
        (nothing_taken es (λ l. given none l) (λ l. given written_star l) (KindIs none) (KindFits es (skeletons_of rows) H none) none written_star o (λ p. refl) (λ p. refl) (λ h. refl) (λ a. refl))
    kind_resolves (arrow U K) N G M H t r o ds q e =
        let f = frees_of rows in
        let a = and_then_parts (type_skeleton es f N G U o) (λ k p. and_then (kind_due es f (None ∷ N) (k ∷ G) K p) (λ l m. given (k ∷ l) m)) ds q e in
        let b = and_then_parts (kind_due es f (None ∷ N) (a.0 ∷ G) K a.1) (λ l m. given (a.0 ∷ l) m) ds q a.3 in
        let c = and_then_parts (family_skeleton es f N G U o) whole a.0 a.1 a.2 in
        let one = type_part es (skeletons_of rows) (family_skeleton es f N G U) (resolved_type es (names_of rows) M U) H c.0 o c.1 a.0 a.1 c.3 (family_resolves U N G M H t (λ y h. r y (inl h)) o c.0 c.1 c.2) in
        let two = kind_resolves K (None ∷ N) (a.0 ∷ G) M H (thinner_by a.0 N M G H t) (λ y h. r y (inr h)) a.1 b.0 b.1 b.2 in
        bound_part es (skeletons_of rows) (type_skeleton es f N G U) (λ k p. kind_due es f (None ∷ N) (k ∷ G) K p) (λ k l. k ∷ l) (resolved_type es (names_of rows) M U) (resolved_kind es (names_of rows) M K) written.kind_arrow
        Anything (TypeFits es (skeletons_of rows) H a.0) (KindIs b.0) (KindFits es (skeletons_of rows) H b.0) KindIs (KindFits es (skeletons_of rows) H) a.0 b.0 ds o a.1 b.1 q (λ u v i j h. absurd cc) (λ u v i j z. (i, j z)) b.3 one two
    kind_resolves (pi x at D K) N G M H t r o ds q e =
        let f = frees_of rows in
        let a = and_then_parts (domain_skeleton es f N G D o) (λ k p. and_then (kind_due es f (binder_name x ∷ N) (k ∷ G) K p) (λ l m. given (k ∷ l) m)) ds q e in
        let b = and_then_parts (kind_due es f (binder_name x ∷ N) (a.0 ∷ G) K a.1) (λ l m. given (a.0 ∷ l) m) ds q a.3 in
        let one = domain_resolves D (place_of at) N G M H t (λ y h. r y (inl h)) o a.0 a.1 a.2 in
        let two = kind_resolves K (binder_name x ∷ N) (a.0 ∷ G) (binder_name x ∷ M) (a.0 ∷ H) (thinner_under (binder_name x) a.0 N M G H t) (λ y h. r y (inr h)) a.1 b.0 b.1 b.2 in
        bound_part es (skeletons_of rows) (domain_skeleton es f N G D) (λ k p. kind_due es f (binder_name x ∷ N) (k ∷ G) K p) (λ k l. k ∷ l) (resolved_domain es (names_of rows) M (place_of at) D) (resolved_kind es (names_of rows) (binder_name x ∷ M) K) written.kind_quantified
        Anything (DomainFits es (skeletons_of rows) H a.0) (KindIs b.0) (KindFits es (skeletons_of rows) (a.0 ∷ H) b.0) KindIs (KindFits es (skeletons_of rows) H) a.0 b.0 ds o a.1 b.1 q (λ u v i j h. absurd cc) (λ u v i j z. (i, j z)) b.3 one two
    kind_resolves (lambda x at D T) N G M H t r o ds q e = absurd cc
    kind_resolves (application T P) N G M H t r o ds q e = absurd cc
    kind_resolves (ascription T A) N G M H t r o ds q e = absurd cc
