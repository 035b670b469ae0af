-- A bare text is read to one skeleton, whatever free variables have, and takes nothing off the list of what isn't written. So it is known whether it has one.
use Rattle.std.proofs.Common.{◌≡◌, ℕ, List, [], ◌∷◌, Bool, true, false, Option, None, Some, ◌⊎◌, inl, inr, if◌then◌else◌, refl, sym, ap, ◌∙◌, subst}
use Rattle.lf.specs.Entries.{Body, Entry, declare_constant, declare_definition, declare_family, entry}
use Rattle.lf.specs.Syntax.{Head, Skeleton, arrow as arrow_skeleton, base, constant, metavariable, variable}
use Rattle.tw_approx.specs.Answer.{HasSkeletons, IsClash, frees_of}
use Rattle.tw_approx.specs.Readings.{Reading, and_then, found}
use Rattle.tw_approx.specs.Skeletons.{Family, FitsClassifier, Frees, applied, domain_skeleton, family_applied, family_named, family_of_body, family_of_entry, family_skeleton, kind_due, known, name_skeleton, same_skeleton, term_skeleton, type_skeleton, unknown, whole}
use Rattle.tw_approx.proofs.Sequences.{and_then_parts, given, parts_of}
use Rattle.tw_names.specs.Texts.{ends_in_type}
use Rattle.tw_names.specs.Scope.{binder_name, named}
use Rattle.tw_lexer.specs.declared.place.Place.{Place}
use Rattle.tw_parse.specs.Syntax.{Domain, Term, application, arrow, ascription, declare, hole, identifier, lambda, pi, star, typed, untyped}
use Rattle.tw_fixity.specs.Names.{Names}
use Rattle.law_explicit_agrees.proofs.Bare.{DomainIsBare, NameIsBare, TermIsBare, TypeIsBare}
use Rattle.law_explicit_agrees.proofs.Whole.{skeletons_found}

-- Where it reads something, that is in P, and it takes nothing, and reads the same of any list with any free variables.
abbrev Steady : {A : Type 0} → (A → Type 0) → (Frees → List Skeleton → Reading A) → Type 0
Steady {A} P R = (f : Frees) (o : List Skeleton) (a : A) (q : List Skeleton) → R f o ≡ Some (a, q) → P a × (q ≡ o) × ((g : Frees) (p : List Skeleton) → R g p ≡ Some (a, p))

abbrev Anything : {A : Type 0} → A → Type 0
Anything a = Unit {0}

none_is_not_some : {A : Type 0} {a : A} → None ≡ Some a → ⊥
none_is_not_some e = cc

then_steady : {A B : Type 0} (P : A → Type 0) (Q : B → Type 0) (R : Frees → List Skeleton → Reading A) (S : A → Frees → List Skeleton → Reading B) → Steady P R → ((a : A) → P a → Steady Q (S a)) → Steady Q (λ f o. and_then (R f o) (λ a p. S a f p))
then_steady P Q R S one two f o b q e =
    let (a, p, d, h) = and_then_parts (R f o) (λ a p. S a f p) b q e in
    let (i, j, k) = one f o a p d in
    let (l, m, n) = two a i f p b q h in
    (l, m ∙ j, λ g r. ap (λ x. and_then x (λ a p. S a g p)) (k g r) ∙ n g r)

giving : {A : Type 0} (P : A → Type 0) (v : A) → P v → Steady P (λ f o. given v o)
giving P v h f o a q e = let s = parts_of v a o q e in (subst P s.0 h, sym s.1, λ g p. ap (λ x. given x p) s.0)

-- what reads nothing
never : {A : Type 0} (P : A → Type 0) {R : Frees → List Skeleton → Reading A} → ((f : Frees) (o : List Skeleton) → R f o ≡ None) → Steady P R
never P h f o a q e = absurd (none_is_not_some (sym (h f o) ∙ e))

found_steady : {A : Type 0} (P : A → Type 0) (y : Option A) → ((a : A) → y ≡ Some a → P a) → Steady P (λ f o. found y o)
found_steady P None h f o a q e = absurd cc
found_steady P (Some v) h f o a q e = giving P v (h v refl) f o a q e

tested : {A : Type 0} (P : A → Type 0) (b : Bool) (v : A) → P v → Steady P (λ f o. if b then given v o else None)
tested P true v h f o a q e = giving P v h f o a q e
tested P false v h f o a q e = absurd cc

applied_steady : (s u : Skeleton) → Steady Anything (λ f o. applied s u o)
applied_steady (arrow_skeleton s t) u = tested Anything (same_skeleton s u) t tt
applied_steady (base c) u = never Anything (λ f o. refl)

abbrev IsKnown : Family → Type 0
IsKnown (known ss t) = Unit {0}
IsKnown (unknown t) = ⊥

family_applied_steady : (F : Family) → IsKnown F → (u : Skeleton) → Steady IsKnown (λ f o. family_applied F u o)
family_applied_steady (known (s ∷ ss) t) h u = tested IsKnown (same_skeleton s u) (known ss t) tt
family_applied_steady (known [] t) h u = never IsKnown (λ f o. refl)
family_applied_steady (unknown t) h u = absurd h

whole_steady : (F : Family) → Steady Anything (λ f o. whole F o)
whole_steady (known [] t) = giving Anything t tt
whole_steady (known (s ∷ ss) t) = never Anything (λ f o. refl)
whole_steady (unknown t) = giving Anything t tt

whole_of : (R : Frees → List Skeleton → Reading Family) → Steady IsKnown R → Steady Anything (λ f o. and_then (R f o) whole)
whole_of R h = then_steady IsKnown Anything R (λ F f o. whole F o) h (λ F k. whole_steady F)

module _ (es : List Entry) where
  name_steady : (Γ : List Skeleton) (x : List ℕ) (k : Option Head) → NameIsBare es k → Steady Anything (λ f o. found (name_skeleton es f Γ k x) o)
  name_steady Γ x (Some (constant c)) h f o a q e = found_steady Anything (name_skeleton es f Γ (Some (constant c)) x) (λ v w. tt) f o a q e
  name_steady Γ x (Some (variable i)) h f o a q e = found_steady Anything (name_skeleton es f Γ (Some (variable i)) x) (λ v w. tt) f o a q e
  name_steady Γ x (Some (metavariable m)) h f o a q e = absurd h
  name_steady Γ x None h f o a q e = absurd h

  body_known : (c k : ℕ) (b : Body) (F : Family) → family_of_body c k b ≡ Some F → IsKnown F
  body_known c k (declare_family K) F e = subst IsKnown (by e) tt
    where
      by : {X : Type 0} {x y : X} → Some x ≡ Some y → x ≡ y
      by h = cc
  body_known c k (declare_constant A) F e = absurd cc
  body_known c k (declare_definition M A b) F e = absurd cc

  entry_known : (c : ℕ) (o : Option Entry) (F : Family) → family_of_entry c o ≡ Some F → IsKnown F
  entry_known c None F e = absurd cc
  entry_known c (Some d) F e = body_known c d.implicit d.body F e

  family_named_known : (k : Option Head) (F : Family) → family_named es k ≡ Some F → IsKnown F
  family_named_known (Some (constant c)) F e = entry_known c (entry es c) F e
  family_named_known (Some (variable i)) F e = absurd cc
  family_named_known (Some (metavariable m)) F e = absurd cc
  family_named_known None F e = absurd cc

  mutual
    term_steady : (P : Term) (N : Names) (Γ : List Skeleton) → TermIsBare es N P → Steady Anything (λ f o. term_skeleton es f N Γ P o)
    term_steady (identifier x at) N Γ h = name_steady Γ x (named es N x) h
    term_steady (lambda x at D M) N Γ (h, k) =
        then_steady Anything Anything (λ f o. domain_skeleton es f N Γ D o) (λ s f p. and_then (term_skeleton es f (binder_name x ∷ N) (s ∷ Γ) M p) (λ t q. given (arrow_skeleton s t) q)) (domain_steady D N Γ h)
        (λ s i. then_steady Anything Anything (λ f o. term_skeleton es f (binder_name x ∷ N) (s ∷ Γ) M o) (λ t f q. given (arrow_skeleton s t) q) (term_steady M (binder_name x ∷ N) (s ∷ Γ) k) (λ t j. giving Anything (arrow_skeleton s t) tt))
    term_steady (application M P) N Γ (h, k) =
        then_steady Anything Anything (λ f o. term_skeleton es f N Γ M o) (λ s f p. and_then (term_skeleton es f N Γ P p) (applied s)) (term_steady M N Γ h)
        (λ s i. then_steady Anything Anything (λ f o. term_skeleton es f N Γ P o) (λ u f q. applied s u q) (term_steady P N Γ k) (λ u j. applied_steady s u))
    term_steady (arrow U V) N Γ h = never Anything (λ f o. refl)
    term_steady (pi x at D V) N Γ h = never Anything (λ f o. refl)
    term_steady star N Γ h = never Anything (λ f o. refl)
    term_steady (hole at) N Γ h = absurd h
    term_steady (ascription M U) N Γ h = absurd h

    family_steady : (U : Term) (N : Names) (Γ : List Skeleton) → TypeIsBare es N U → Steady IsKnown (λ f o. family_skeleton es f N Γ U o)
    family_steady (identifier x at) N Γ h = found_steady IsKnown (family_named es (named es N x)) (family_named_known (named es N x))
    family_steady (arrow U V) N Γ (h, k) =
        then_steady Anything IsKnown (λ f o. and_then (family_skeleton es f N Γ U o) whole) (λ s f p. and_then (and_then (family_skeleton es f (None ∷ N) (s ∷ Γ) V p) whole) (λ t q. given (known [] (arrow_skeleton s t)) q)) (whole_of (λ f o. family_skeleton es f N Γ U o) (family_steady U N Γ h))
        (λ s i. then_steady Anything IsKnown (λ f o. and_then (family_skeleton es f (None ∷ N) (s ∷ Γ) V o) whole) (λ t f q. given (known [] (arrow_skeleton s t)) q) (whole_of (λ f o. family_skeleton es f (None ∷ N) (s ∷ Γ) V o) (family_steady V (None ∷ N) (s ∷ Γ) k)) (λ t j. giving IsKnown (known [] (arrow_skeleton s t)) tt))
    family_steady (pi x at D V) N Γ (h, k) =
        then_steady Anything IsKnown (λ f o. domain_skeleton es f N Γ D o) (λ s f p. and_then (and_then (family_skeleton es f (binder_name x ∷ N) (s ∷ Γ) V p) whole) (λ t q. given (known [] (arrow_skeleton s t)) q)) (domain_steady D N Γ h)
        (λ s i. then_steady Anything IsKnown (λ f o. and_then (family_skeleton es f (binder_name x ∷ N) (s ∷ Γ) V o) whole) (λ t f q. given (known [] (arrow_skeleton s t)) q) (whole_of (λ f o. family_skeleton es f (binder_name x ∷ N) (s ∷ Γ) V o) (family_steady V (binder_name x ∷ N) (s ∷ Γ) k)) (λ t j. giving IsKnown (known [] (arrow_skeleton s t)) tt))
    family_steady (application M P) N Γ (h, k) =
        then_steady IsKnown IsKnown (λ f o. family_skeleton es f N Γ M o) (λ F f p. and_then (term_skeleton es f N Γ P p) (family_applied F)) (family_steady M N Γ h)
        (λ F i. then_steady Anything IsKnown (λ f o. term_skeleton es f N Γ P o) (λ u f q. family_applied F u q) (term_steady P N Γ k) (λ u j. family_applied_steady F i u))
    family_steady star N Γ h = never IsKnown (λ f o. refl)
    family_steady (hole at) N Γ h = absurd h
    family_steady (lambda x at D M) N Γ h = absurd h
    family_steady (ascription M U) N Γ h = absurd h

    domain_steady : (D : Domain) (N : Names) (Γ : List Skeleton) → DomainIsBare es N D → Steady Anything (λ f o. domain_skeleton es f N Γ D o)
    domain_steady untyped N Γ h = absurd h
    domain_steady (typed U) N Γ h = whole_of (λ f o. family_skeleton es f N Γ U o) (family_steady U N Γ h)

  kind_steady : (U : Term) (N : Names) (Γ : List Skeleton) → TypeIsBare es N U → Steady Anything (λ f o. kind_due es f N Γ U o)
  kind_steady star N Γ h = giving Anything [] tt
  kind_steady (arrow U V) N Γ (h, k) =
      then_steady Anything Anything (λ f o. and_then (family_skeleton es f N Γ U o) whole) (λ s f p. and_then (kind_due es f (None ∷ N) (s ∷ Γ) V p) (λ ds q. given (s ∷ ds) q)) (whole_of (λ f o. family_skeleton es f N Γ U o) (family_steady U N Γ h))
      (λ s i. then_steady Anything Anything (λ f o. kind_due es f (None ∷ N) (s ∷ Γ) V o) (λ ds f q. given (s ∷ ds) q) (kind_steady V (None ∷ N) (s ∷ Γ) k) (λ ds j. giving Anything (s ∷ ds) tt))
  kind_steady (pi x at D V) N Γ (h, k) =
      then_steady Anything Anything (λ f o. domain_skeleton es f N Γ D o) (λ s f p. and_then (kind_due es f (binder_name x ∷ N) (s ∷ Γ) V p) (λ ds q. given (s ∷ ds) q)) (domain_steady D N Γ h)
      (λ s i. then_steady Anything Anything (λ f o. kind_due es f (binder_name x ∷ N) (s ∷ Γ) V o) (λ ds f q. given (s ∷ ds) q) (kind_steady V (binder_name x ∷ N) (s ∷ Γ) k) (λ ds j. giving Anything (s ∷ ds) tt))
  kind_steady (identifier x at) N Γ h = never Anything (λ f o. refl)
  kind_steady (application M P) N Γ h = never Anything (λ f o. refl)
  kind_steady (hole at) N Γ h = absurd h
  kind_steady (lambda x at D M) N Γ h = absurd h
  kind_steady (ascription M U) N Γ h = absurd h

  -- it has skeletons, or none fit
  module _ (c : List ℕ) (at : Place) (U : Term) (b : TypeIsBare es [] U) where
    decided_by : {A : Type 0} (R : Frees → List Skeleton → Reading A) → Steady Anything R → ((f : Frees) (o : List Skeleton) → FitsClassifier es f U o (ends_in_type U) → (a : A) × (R f o ≡ Some (a, []))) → ((f : Frees) (o : List Skeleton) (a : A) → R f o ≡ Some (a, []) → FitsClassifier es f U o (ends_in_type U))
        → (r : Reading A) → R (frees_of []) [] ≡ r → HasSkeletons es (declare c at U) [] [] ⊎ IsClash es (declare c at U)
    decided_by R h there back None e = inr (λ f o i. let (a, k) = there f o i in none_is_not_some (sym e ∙ (h f o a [] k).2 (frees_of []) []))
    decided_by R h there back (Some (a, q)) e =
        let (x, y, z) = h (frees_of []) [] a q e in
        inl (skeletons_found es c at U b (λ f. (back f [] a (z f []), λ p i. let (d, k) = there f p i in sym (h f p d [] k).1)))

    pub decided : HasSkeletons es (declare c at U) [] [] ⊎ IsClash es (declare c at U)
    decided = by (ends_in_type U) refl
      where
        by : (t : Bool) → ends_in_type U ≡ t → HasSkeletons es (declare c at U) [] [] ⊎ IsClash es (declare c at U)
        by true e = decided_by (λ f o. kind_due es f [] [] U o) (kind_steady U [] [] b) (λ f o i. subst (FitsClassifier es f U o) e i) (λ f o a k. subst (FitsClassifier es f U o) (sym e) (a, k)) (kind_due es (frees_of []) [] [] U []) refl
        by false e = decided_by (λ f o. type_skeleton es f [] [] U o) (whole_of (λ f o. family_skeleton es f [] [] U o) (family_steady U [] [] b)) (λ f o i. subst (FitsClassifier es f U o) e i) (λ f o a k. subst (FitsClassifier es f U o) (sym e) (a, k)) (type_skeleton es (frees_of []) [] [] U []) refl
