-- Each form of text, with its parts resolved.
use Rattle.std.proofs.Common.{◌≡◌, ℕ, List, [], ◌∷◌, Bool, true, false, ◌&&◌, None, Some, if◌then◌else◌, refl, sym, ap, subst}
use Rattle.lf.specs.Entries.{Entry}
use Rattle.lf.specs.Syntax.{Skeleton, base, arrow as arrow_skeleton}
use Rattle.lf_elaboration.specs.Written.{Place, Written, WrittenDomain, WrittenType, WrittenKind, applied, ascribed, family, family_applied, family_ascribed, written_star}
use Rattle.lf_elaboration.specs.WrittenSkeletons.{WrittenHasSkeleton, WrittenTypeHasSkeleton, DomainHasSkeleton, FamilyHasSkeleton, KindHasSkeleton, FamilyNameLeaves}
use Rattle.tw_approx.specs.Readings.{Reading, and_then}
use Rattle.tw_approx.specs.Skeletons.{Family, known, unknown, same_skeleton, same_skeletons, applied as applied_skeleton, ascribed as ascribed_skeleton, family_applied as applied_family, family_ascribed as ascribed_family, whole}
use Rattle.tw_approx.proofs.Sequences.{given, parts_of}
use Rattle.tw_approx.proofs.Unifying.{equal_skeletons, equal_lists, passed, if_passed}
use Rattle.tw_resolve.specs.Resolving.{with_both, made, is_type_hole, is_higher, on_argument, of_kind}
use Rattle.lf_elaboration.specs.BodySkeletons.{due_skeleton}
use Rattle.tw_resolve.proofs.Parts.{Resolves, after, finish, says, any_taken, named_alike}

abbrev pub IsNoHole : WrittenType → Type 0
IsNoHole U = is_type_hole U ≡ false

-- what is known of a family before its skeletons are: a family that is due something is no hole
abbrev pub FamilyIs : Family → WrittenType → Type 0
FamilyIs (known ss t) U = IsNoHole U
FamilyIs (unknown t) U = Unit {0}

-- a kind that is due nothing is `type`
abbrev pub KindIs : List Skeleton → WrittenKind → Type 0
KindIs ds k = ds ≡ [] → k ≡ written_star

abbrev pub Anything : {V : Type 0} → V → Type 0
Anything v = Unit {0}

abbrev pub Impossible : {V : Type 0} → V → Type 0
Impossible v = ⊥

on_argument_is : (U : WrittenType) (P : Written) (p : List Skeleton) → IsNoHole U → on_argument U P p ≡ Some (family_applied U P, p)
on_argument_is U P p h = ap (λ (b : Bool). if b then None else given (family_applied U P) p) h

of_kind_is : (U : WrittenType) (k : WrittenKind) (p : List Skeleton) → IsNoHole U → of_kind U k p ≡ Some (family_ascribed U k, p)
of_kind_is U k p h = ap (λ (b : Bool). if b && is_higher k then None else given (family_ascribed U k) p) h

not_both : (b : Bool) → (b && false) ≡ false
not_both true = refl
not_both false = refl

of_type_is : (U : WrittenType) (p : List Skeleton) → of_kind U written_star p ≡ Some (family_ascribed U written_star, p)
of_type_is U p = ap (λ (b : Bool). if b then None else given (family_ascribed U written_star) p) (not_both (is_type_hole U))

module _ (es : List Entry) (ts : List Skeleton) where
  -- a resolved family has the skeletons of what is written
  abbrev pub FamilyFits : List Skeleton → Family → WrittenType → Type 0
  FamilyFits Γ (known [] t) U = WrittenTypeHasSkeleton es ts Γ U t
  FamilyFits Γ (known (s ∷ ss) t) U = (a : ℕ) × (t ≡ base a) × FamilyHasSkeleton es ts Γ U a (due_skeleton (s ∷ ss) a)
  FamilyFits Γ (unknown t) U = WrittenTypeHasSkeleton es ts Γ U t

  abbrev pub KindFits : List Skeleton → List Skeleton → WrittenKind → Type 0
  KindFits Γ ds k = (a : ℕ) → KindHasSkeleton es ts Γ k a (due_skeleton ds a)

  abbrev pub TermFits : List Skeleton → Skeleton → Written → Type 0
  TermFits Γ s M = WrittenHasSkeleton es ts Γ M s

  abbrev pub TypeFits : List Skeleton → Skeleton → WrittenType → Type 0
  TypeFits Γ s U = WrittenTypeHasSkeleton es ts Γ U s

  abbrev pub DomainFits : List Skeleton → Skeleton → WrittenDomain → Type 0
  DomainFits Γ s d = DomainHasSkeleton es ts Γ d s

  -- the name of a family
  pub family_name_fits : (at : Place) (Γ : List Skeleton) (a : ℕ) (ss : List Skeleton) → FamilyNameLeaves es ts a (due_skeleton ss a) → FamilyFits Γ (known ss (base a)) (family a at)
  family_name_fits at Γ a [] h = (refl, h)
  family_name_fits at Γ a (s ∷ ss) h = (a, refl, (refl, h))

  -- a part behind a binder
  pub bound_part : {B C U V W : Type 0} (R : List Skeleton → Reading Skeleton) (S : Skeleton → List Skeleton → Reading B) (value : Skeleton → B → C) (Q : List Skeleton → Reading U) (T : List Skeleton → Reading V) (make : U → V → W)
      (AU GU : U → Type 0) (AV GV : V → Type 0) (AW GW : C → W → Type 0) (a : Skeleton) (b : B) (c : C) (o p r q : List Skeleton)
      → ((u : U) (v : V) → AU u → AV v → AW (value a b) (make u v)) → ((u : U) (v : V) → GU u → GV v → GW (value a b) (make u v))
      → given (value a b) r ≡ given c q → Resolves es R Q AU GU a o p → Resolves es (S a) T AV GV b p r
      → Resolves es (λ l. and_then (R l) (λ s m. and_then (S s m) (λ t n. Some (value s t, n)))) (λ l. with_both (made make) (Q l) T) (AW c) (GW c) c o q
  bound_part {B} {C} {U} {V} {W} R S value Q T make AU GU AV GV AW GW a b c o p r q f g e one two =
      let same = parts_of (value a b) c r q e in
      named_alike es (λ l. and_then (R l) (λ s m. and_then (S s m) (λ t n. given (value s t) n))) (λ l. with_both (made make) (Q l) T) AW GW (value a b) c o r q same.0 same.1
      (after es R (λ s m. and_then (S s m) (λ t n. given (value s t) n)) Q T (made make) AU GU AV GV (AW (value a b)) (GW (value a b)) a (value a b) o p r
      (λ u v x y. record { value = make u v; makes = λ n. refl; always = f u v x y; good = λ h. g u v h.0 h.1 }) one
      (finish es (S a) (λ t n. given (value a t) n) T AV GV b (value a b) p r (λ n. refl) two))

  -- a type is a family that is whole
  pub type_part : (R : List Skeleton → Reading Family) (Q : List Skeleton → Reading WrittenType) (Γ : List Skeleton) (F : Family) (o p : List Skeleton) (s : Skeleton) (q : List Skeleton)
      → whole F p ≡ Some (s, q) → Resolves es R Q (FamilyIs F) (FamilyFits Γ F) F o p → Resolves es (λ l. and_then (R l) whole) Q Anything (TypeFits Γ s) s o q
  type_part R Q Γ (known [] t) o p s q e one =
      let same = parts_of t s p q e in
      named_alike es (λ l. and_then (R l) whole) Q (λ _. Anything) (TypeFits Γ) t s o p q same.0 same.1
      (finish es R whole Q Anything (TypeFits Γ t) (known [] t) t o p (λ n. refl) (says es R Q (FamilyIs (known [] t)) (FamilyFits Γ (known [] t)) Anything (TypeFits Γ t) (known [] t) o p (λ v h. tt) (λ v h g. g) one))
  type_part R Q Γ (known (d ∷ ds) t) o p s q e one = absurd cc
  type_part R Q Γ (unknown t) o p s q e one =
      let same = parts_of t s p q e in
      named_alike es (λ l. and_then (R l) whole) Q (λ _. Anything) (TypeFits Γ) t s o p q same.0 same.1
      (finish es R whole Q Anything (TypeFits Γ t) (unknown t) t o p (λ n. refl) (says es R Q (FamilyIs (unknown t)) (FamilyFits Γ (unknown t)) Anything (TypeFits Γ t) (unknown t) o p (λ v h. tt) (λ v h g. g) one))

  -- a term on an argument
  pub applied_part : (R S : List Skeleton → Reading Skeleton) (Q T : List Skeleton → Reading Written) (Γ : List Skeleton) (a b : Skeleton) (o p r : List Skeleton) (s : Skeleton) (q : List Skeleton)
      → applied_skeleton a b r ≡ Some (s, q) → Resolves es R Q Anything (TermFits Γ a) a o p → Resolves es S T Anything (TermFits Γ b) b p r
      → Resolves es (λ l. and_then (R l) (λ x m. and_then (S m) (applied_skeleton x))) (λ l. with_both (made applied) (Q l) T) Anything (TermFits Γ s) s o q
  applied_part R S Q T Γ (base c) b o p r s q e one two = absurd cc
  applied_part R S Q T Γ (arrow_skeleton x y) b o p r s q e one two =
      let t = if_passed (same_skeleton x b) y s r q e in
      let same : b ≡ x = sym (equal_skeletons x b t.0) in
      named_alike es (λ l. and_then (R l) (λ x m. and_then (S m) (applied_skeleton x))) (λ l. with_both (made applied) (Q l) T) (λ _. Anything) (TermFits Γ) y s o r q t.1 t.2
      (after es R (λ x m. and_then (S m) (applied_skeleton x)) Q T (made applied) Anything (TermFits Γ (arrow_skeleton x y)) Anything (TermFits Γ b) Anything (TermFits Γ y) (arrow_skeleton x y) y o p r
      (λ u v i j. record { value = applied u v; makes = λ n. refl; always = tt; good = λ h. (x, h.0, subst (λ z. TermFits Γ z v) same h.1) }) one
      (finish es S (applied_skeleton (arrow_skeleton x y)) T Anything (TermFits Γ b) b y p r (λ n. passed (same_skeleton x b) y n t.0) two))

  -- a term with its type
  pub ascribed_part : (R S : List Skeleton → Reading Skeleton) (Q : List Skeleton → Reading Written) (T : List Skeleton → Reading WrittenType) (Γ : List Skeleton) (a b : Skeleton) (o p r : List Skeleton) (s : Skeleton) (q : List Skeleton)
      → ascribed_skeleton a b r ≡ Some (s, q) → Resolves es R Q Anything (TermFits Γ a) a o p → Resolves es S T Anything (TypeFits Γ b) b p r
      → Resolves es (λ l. and_then (R l) (λ x m. and_then (S m) (ascribed_skeleton x))) (λ l. with_both (made ascribed) (Q l) T) Anything (TermFits Γ s) s o q
  ascribed_part R S Q T Γ a b o p r s q e one two =
      let t = if_passed (same_skeleton a b) a s r q e in
      let same : b ≡ a = sym (equal_skeletons a b t.0) in
      named_alike es (λ l. and_then (R l) (λ x m. and_then (S m) (ascribed_skeleton x))) (λ l. with_both (made ascribed) (Q l) T) (λ _. Anything) (TermFits Γ) a s o r q t.1 t.2
      (after es R (λ x m. and_then (S m) (ascribed_skeleton x)) Q T (made ascribed) Anything (TermFits Γ a) Anything (TypeFits Γ b) Anything (TermFits Γ a) a a o p r
      (λ u v i j. record { value = ascribed u v; makes = λ n. refl; always = tt; good = λ h. (subst (λ z. TypeFits Γ z v) same h.1, h.0) }) one
      (finish es S (ascribed_skeleton a) T Anything (TypeFits Γ b) b a p r (λ n. passed (same_skeleton a b) a n t.0) two))

  argument_fits : (Γ : List Skeleton) (s : Skeleton) (ss : List Skeleton) (t : Skeleton) (U : WrittenType) (P : Written) → FamilyFits Γ (known (s ∷ ss) t) U → TermFits Γ s P → FamilyFits Γ (known ss t) (family_applied U P)
  argument_fits Γ s [] t U P (a, e, h) g = subst (λ z. WrittenTypeHasSkeleton es ts Γ (family_applied U P) z) (sym e) (s, h, g)
  argument_fits Γ s (d ∷ ds) t U P (a, e, h) g = (a, e, (s, h, g))

  -- a family on an argument
  pub family_applied_part : (R : List Skeleton → Reading Family) (S : List Skeleton → Reading Skeleton) (Q : List Skeleton → Reading WrittenType) (T : List Skeleton → Reading Written) (Γ : List Skeleton) (F : Family) (b : Skeleton) (o p r : List Skeleton) (G : Family) (q : List Skeleton)
      → applied_family F b r ≡ Some (G, q) → Resolves es R Q (FamilyIs F) (FamilyFits Γ F) F o p → Resolves es S T Anything (TermFits Γ b) b p r
      → Resolves es (λ l. and_then (R l) (λ x m. and_then (S m) (applied_family x))) (λ l. with_both on_argument (Q l) T) (FamilyIs G) (FamilyFits Γ G) G o q
  family_applied_part R S Q T Γ (known [] t) b o p r G q e one two = absurd cc
  family_applied_part R S Q T Γ (known (s ∷ ss) t) b o p r G q e one two =
      let i = if_passed (same_skeleton s b) (known ss t) G r q e in
      let same : b ≡ s = sym (equal_skeletons s b i.0) in
      named_alike es (λ l. and_then (R l) (λ x m. and_then (S m) (applied_family x))) (λ l. with_both on_argument (Q l) T) FamilyIs (FamilyFits Γ) (known ss t) G o r q i.1 i.2
      (after es R (λ x m. and_then (S m) (applied_family x)) Q T on_argument (FamilyIs (known (s ∷ ss) t)) (FamilyFits Γ (known (s ∷ ss) t)) Anything (TermFits Γ b) (FamilyIs (known ss t)) (FamilyFits Γ (known ss t)) (known (s ∷ ss) t) (known ss t) o p r
      (λ u v x y. record { value = family_applied u v; makes = λ n. on_argument_is u v n x; always = refl; good = λ h. argument_fits Γ s ss t u v h.0 (subst (λ z. TermFits Γ z v) same h.1) }) one
      (finish es S (applied_family (known (s ∷ ss) t)) T Anything (TermFits Γ b) b (known ss t) p r (λ n. passed (same_skeleton s b) (known ss t) n i.0) two))
  family_applied_part R S Q T Γ (unknown t) b o p [] G q e one two = absurd cc
  family_applied_part R S Q T Γ (unknown t) b o p (any ∷ r) G q e one two =
      let same = parts_of (unknown t) G r q e in
      named_alike es (λ l. and_then (R l) (λ x m. and_then (S m) (applied_family x))) (λ l. with_both on_argument (Q l) T) FamilyIs (FamilyFits Γ) (unknown t) G o r q same.0 same.1
      (after es R (λ x m. and_then (S m) (applied_family x)) Q T on_argument (FamilyIs (unknown t)) (FamilyFits Γ (unknown t)) Impossible Anything (FamilyIs (unknown t)) (FamilyFits Γ (unknown t)) (unknown t) (unknown t) o p r
      (λ u v x y. absurd y) one
      (any_taken es S (applied_family (unknown t)) T Anything (TermFits Γ b) T Impossible Anything b (unknown t) p r any (λ s n. refl) two))

  kind_fits : (Γ ss : List Skeleton) (t : Skeleton) (U : WrittenType) (k : WrittenKind) → KindIs ss k → KindFits Γ ss k → FamilyFits Γ (known ss t) U → FamilyFits Γ (known ss t) (family_ascribed U k)
  kind_fits Γ [] t U k i g h = subst (λ l. WrittenTypeHasSkeleton es ts Γ (family_ascribed U l) t) (sym (i refl)) h
  kind_fits Γ (s ∷ ss) t U k i g (a, e, h) = (a, e, (g a, h, tt))

  hole_is : (U : WrittenType) (k : WrittenKind) (p : List Skeleton) → k ≡ written_star → of_kind U k p ≡ Some (family_ascribed U k, p)
  hole_is U k p e = subst (λ l. of_kind U l p ≡ Some (family_ascribed U l, p)) (sym e) (of_type_is U p)

  -- a family with its kind
  pub family_ascribed_part : (R : List Skeleton → Reading Family) (S : List Skeleton → Reading (List Skeleton)) (Q : List Skeleton → Reading WrittenType) (T : List Skeleton → Reading WrittenKind) (Γ : List Skeleton) (F : Family) (ds o p r : List Skeleton) (G : Family) (q : List Skeleton)
      → ascribed_family F ds r ≡ Some (G, q) → Resolves es R Q (FamilyIs F) (FamilyFits Γ F) F o p → Resolves es S T (KindIs ds) (KindFits Γ ds) ds p r
      → Resolves es (λ l. and_then (R l) (λ x m. and_then (S m) (ascribed_family x))) (λ l. with_both of_kind (Q l) T) (FamilyIs G) (FamilyFits Γ G) G o q
  family_ascribed_part R S Q T Γ (known ss t) ds o p r G q e one two =
      let i = if_passed (same_skeletons ss ds) (known ss t) G r q e in
      let same : ds ≡ ss = sym (equal_lists ss ds i.0) in
      named_alike es (λ l. and_then (R l) (λ x m. and_then (S m) (ascribed_family x))) (λ l. with_both of_kind (Q l) T) FamilyIs (FamilyFits Γ) (known ss t) G o r q i.1 i.2
      (after es R (λ x m. and_then (S m) (ascribed_family x)) Q T of_kind (FamilyIs (known ss t)) (FamilyFits Γ (known ss t)) (KindIs ds) (λ v. KindIs ds v × KindFits Γ ds v) (FamilyIs (known ss t)) (FamilyFits Γ (known ss t)) (known ss t) (known ss t) o p r
      (λ u v x y. record { value = family_ascribed u v; makes = λ n. of_kind_is u v n x; always = refl; good = λ h. kind_fits Γ ss t u v (subst (λ z. KindIs z v) same h.1.0) (subst (λ z. KindFits Γ z v) same h.1.1) h.0 }) one
      (finish es S (ascribed_family (known ss t)) T (KindIs ds) (λ v. KindIs ds v × KindFits Γ ds v) ds (known ss t) p r (λ n. passed (same_skeletons ss ds) (known ss t) n i.0)
      (says es S T (KindIs ds) (KindFits Γ ds) (KindIs ds) (λ v. KindIs ds v × KindFits Γ ds v) ds p r (λ v h. h) (λ v h g. (h, g)) two)))
  family_ascribed_part R S Q T Γ (unknown t) [] o p r G q e one two =
      let same = parts_of (known [] t) G r q e in
      named_alike es (λ l. and_then (R l) (λ x m. and_then (S m) (ascribed_family x))) (λ l. with_both of_kind (Q l) T) FamilyIs (FamilyFits Γ) (known [] t) G o r q same.0 same.1
      (after es R (λ x m. and_then (S m) (ascribed_family x)) Q T of_kind (FamilyIs (unknown t)) (FamilyFits Γ (unknown t)) (KindIs []) (λ v. KindIs [] v × KindFits Γ [] v) (FamilyIs (known [] t)) (FamilyFits Γ (known [] t)) (unknown t) (known [] t) o p r
      (λ u v x y. record { value = family_ascribed u v; makes = λ n. hole_is u v n (y refl); always = refl; good = λ h. subst (λ l. WrittenTypeHasSkeleton es ts Γ (family_ascribed u l) t) (sym (h.1.0 refl)) h.0 }) one
      (finish es S (ascribed_family (unknown t)) T (KindIs []) (λ v. KindIs [] v × KindFits Γ [] v) [] (known [] t) p r (λ n. refl)
      (says es S T (KindIs []) (KindFits Γ []) (KindIs []) (λ v. KindIs [] v × KindFits Γ [] v) [] p r (λ v h. h) (λ v h g. (h, g)) two)))
  family_ascribed_part R S Q T Γ (unknown t) (d ∷ ds) o p [] G q e one two = absurd cc
  family_ascribed_part R S Q T Γ (unknown t) (d ∷ ds) o p (any ∷ r) G q e one two =
      let same = parts_of (known (d ∷ ds) t) G r q e in
      named_alike es (λ l. and_then (R l) (λ x m. and_then (S m) (ascribed_family x))) (λ l. with_both of_kind (Q l) T) FamilyIs (FamilyFits Γ) (known (d ∷ ds) t) G o r q same.0 same.1
      (after es R (λ x m. and_then (S m) (ascribed_family x)) Q T of_kind (FamilyIs (unknown t)) (FamilyFits Γ (unknown t)) Impossible Anything (FamilyIs (known (d ∷ ds) t)) (FamilyFits Γ (known (d ∷ ds) t)) (unknown t) (known (d ∷ ds) t) o p r
      (λ u v x y. absurd y) one
      (any_taken es S (ascribed_family (unknown t)) T (KindIs (d ∷ ds)) (KindFits Γ (d ∷ ds)) T Impossible Anything (d ∷ ds) (known (d ∷ ds) t) p r any (λ s n. refl) two))
