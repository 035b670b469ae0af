-- Elaboration has at most one outcome.
use Rattle.std.proofs.Common.{◌≡◌, ℕ, suc, List, [], ◌∷◌, Some, refl, sym, ap, ap₂, ◌∙◌, subst}
use Rattle.std.specs.Prelude.{Bool}
use Rattle.lf.specs.Entries.{Entry, declare_constant, declare_definition, declare_family, entry, signature_of}
use Rattle.lf.specs.Eta.{add_last, eta_expand, eta_long}
use Rattle.lf.specs.Substitution.{reduce, single, substitute}
use Rattle.lf.specs.Syntax.{Kind, LfType, Skeleton, Spine, Term, app, atom, constant, kind_pi, lambda, metavariable, pi, rename_kind, skeleton, star, variable, weaken}
use Rattle.lf.specs.Typing.{instantiate_kind, instantiate_type}
use Rattle.lf.specs.Variables.{onto}
use Rattle.lf.proofs.Decidability.{variable_type_unique}
use Rattle.lf_unification.specs.Offering.{raised}
use Rattle.lf_unification.specs.OpenTyping.{weaken_past}
use Rattle.lf_elaboration.specs.Elaboration.{Checks, ElaboratesDomain, ElaboratesFamily, ElaboratesKind, ElaboratesType, Infers, KindTakesNew, NewFrees, NewType, TakesAllNew, TakesNew, takes_none, takes_next, kind_takes_none, kind_takes_next, takes_all, takes_first, new_atom, new_pi, no_frees, next_free, at_free, at_bound, at_constant, at_definition, at_hole, at_function, at_applied, at_ascribed, checks_hole, checks_function, checks_inferred, at_type_hole, at_arrow, at_quantified, at_family, at_type_ascribed, at_of_skeleton, at_of_type, at_family_name, at_family_applied, at_family_ascribed, at_star, at_kind_arrow, at_kind_quantified}
use Rattle.lf_elaboration.specs.Laws.{ElaborationIsUnique}
use Rattle.lf_elaboration.specs.State.{State, kind_equations, type_equations, with_equations, with_metavariable}
use Rattle.lf_elaboration.specs.Written.{Written, WrittenDomain, WrittenKind, WrittenType, family, family_applied}

-- both outcomes are one
abbrev pub SameOutcome : {X Y : Type 0} → State → X → Y → State → X → Y → Type 0
SameOutcome s x y s' x' y' = (s ≡ s') × (x ≡ x') × (y ≡ y')

abbrev pub SameMade : {X : Type 0} → State → X → State → X → Type 0
SameMade s x s' x' = (s ≡ s') × (x ≡ x')

takes_once : {k : ℕ} {D : List LfType} {A C C' : LfType} {s s' s'' : State} {S S' : Spine} → TakesNew k D A s s' S C → TakesNew k D A s s'' S' C' → SameOutcome s' S C s'' S' C'
takes_once takes_none takes_none = (refl, refl, refl)
takes_once {D = D} {s = s} (takes_next {A = A} t) (takes_next t') = let (p, q, r) = takes_once t t' in (p, ap (app (raised D A s.next)) q, r)

kind_takes_once : {k : ℕ} {D : List LfType} {K L L' : Kind} {s s' s'' : State} {S S' : Spine} → KindTakesNew k D K s s' S L → KindTakesNew k D K s s'' S' L' → SameOutcome s' S L s'' S' L'
kind_takes_once kind_takes_none kind_takes_none = (refl, refl, refl)
kind_takes_once {D = D} {s = s} (kind_takes_next {A = A} t) (kind_takes_next t') = let (p, q, r) = kind_takes_once t t' in (p, ap (app (raised D A s.next)) q, r)

takes_all_once : {D : List LfType} {K : Kind} {s s' s'' : State} {S S' : Spine} → TakesAllNew D K s s' S → TakesAllNew D K s s'' S' → SameMade s' S s'' S'
takes_all_once takes_all takes_all = (refl, refl)
takes_all_once {D = D} {s = s} (takes_first {A = A} t) (takes_first t') = let (p, q) = takes_all_once t t' in (p, ap (app (raised D A s.next)) q)

module _ (es : List Entry) where
  some_kind : {K L : Kind} → Some K ≡ Some L → K ≡ L
  some_kind e = cc

  one_entry : (c : ℕ) (e e' : Entry) → entry es c ≡ Some e → entry es c ≡ Some e' → e ≡ e'
  one_entry c e e' q q' = (let p : Some e ≡ Some e' = sym q ∙ q' in cc)

  not_both : (c : ℕ) (e e' : Entry) (B : LfType) (N : Term) (B' : LfType) (d : Bool) → entry es c ≡ Some e → e.body ≡ declare_constant B → entry es c ≡ Some e' → e'.body ≡ declare_definition N B' d → ⊥
  not_both c e e' B N B' d q b q' b' = (let p : declare_constant B ≡ declare_definition N B' d = sym b ∙ ap (λ x. x.body) (one_entry c e e' q q') ∙ b' in cc)

  pub new_type_once : {D : List LfType} {t : Skeleton} {s s' s'' : State} {A A' : LfType} → NewType es D t s s' A → NewType es D t s s'' A' → SameMade s' A s'' A'
  new_type_once {D = D} (new_atom {a = a} {K = K} {s = s} e t) (new_atom {K = L} {s' = z} {S = T} f t') =
      let k : L ≡ K = some_kind (sym f ∙ e) in
      let (p, q) = takes_all_once t (subst (λ x. TakesAllNew D x s z T) k t') in
      (p, ap (atom a) q)
  new_type_once {D = D} (new_pi {u = u} {s' = s'} {A = A} x y) (new_pi {s' = z} {s'' = z'} {A = X} {B = Y} x' y') =
      let (p, q) = new_type_once x x' in
      let (r, h) = new_type_once y (subst (λ B. NewType es (B ∷ D) u s' z' Y) (sym q) (subst (λ v. NewType es (X ∷ D) u v z' Y) (sym p) y')) in
      (r, ap₂ pi q h)

  pub frees_once : {ts : List Skeleton} {s s' s'' : State} {ms ms' : List ℕ} → NewFrees es ts s s' ms → NewFrees es ts s s'' ms' → SameMade s' ms s'' ms'
  frees_once no_frees no_frees = (refl, refl)
  frees_once (next_free {ts = ts} {s' = s'} {A = A} x f) (next_free {s' = z} {s'' = z'} {A = X} {ms = ns} x' f') =
      let (p, q) = new_type_once x x' in
      let (j, k) = frees_once f (subst (λ B. NewFrees es ts (with_metavariable [] B s') z' ns) (sym q) (subst (λ v. NewFrees es ts (with_metavariable [] X v) z' ns) (sym p) f')) in
      (j, ap₂ (λ (v : State) x. v.next ∷ x) p k)

  -- what is a family on arguments, and not ascribed
  abbrev pub IsFamilyForm : WrittenType → Type 0
  IsFamilyForm (family a at) = Unit {0}
  IsFamilyForm (family_applied V P) = Unit {0}
  IsFamilyForm V = ⊥

  module _ (frees : List ℕ) where
    pub family_form : {D : List LfType} {V : WrittenType} {s s' : State} {a : ℕ} {S : Spine} {L : Kind} → ElaboratesFamily es frees D V s s' a S L → L ≡ star → IsFamilyForm V
    family_form (at_family_name q b t) e = tt
    family_form (at_family_applied f c) e = tt
    family_form (at_family_ascribed k f p) e = absurd (cc)

    mutual
      pub infers_once : {D : List LfType} {M : Written} {s s' s'' : State} {R R' : Term} {A A' : LfType} → Infers es frees D M s s' R A → Infers es frees D M s s'' R' A' → SameOutcome s' R A s'' R' A'
      infers_once {D = D} (at_free {m = m} {B = B} {s = s} f e) (at_free {m = n} {B = C} f' e') =
          let p : m ≡ n = (let x : Some m ≡ Some n = sym f ∙ f' in cc) in
          let q : B ≡ C = (let x : Some B ≡ Some C = sym e ∙ ap s.metavariables p ∙ e' in cc) in
          (refl, ap₂ (λ X k. eta_long (skeleton X) (metavariable k)) q p, ap (weaken_past D) q)
      infers_once {D = D} (at_bound {i = i} {A = A} g) (at_bound {A = B} g') =
          let p : A ≡ B = variable_type_unique (onto D []) i A B g g' in
          (refl, ap (λ X. eta_long (skeleton X) (variable i)) p, p)
      infers_once {D = D} (at_constant {c = c} {e = e} {B = B} {A = A} {s = s} {S = S} q b t) (at_constant {e = e'} {B = B'} {A = A'} {s' = z} {S = S'} q' b' t') =
          let p : e' ≡ e = one_entry c e' e q' q in
          let h : B' ≡ B = (let x : declare_constant B' ≡ declare_constant B = sym b' ∙ ap (λ x. x.body) p ∙ b in cc) in
          let (i, j, k) = takes_once t (subst (λ x. TakesNew e.implicit D x s z S' A') h (subst (λ x. TakesNew x.implicit D B' s z S' A') p t')) in
          (i, ap₂ (λ x y. eta_expand (skeleton x) (constant c) y) k j, k)
      infers_once (at_constant {c = c} {e = e} {B = B} q b t) (at_definition {e = e'} {N = N'} {B = B'} {b = d} q' b' t') = absurd (not_both c e e' B N' B' d q b q' b')
      infers_once (at_definition {c = c} {e = e} {N = N} {B = B} {b = d} q b t) (at_constant {e = e'} {B = B'} q' b' t') = absurd (not_both c e' e B' N B d q' b' q b)
      infers_once {D = D} (at_definition {c = c} {e = e} {N = N} {B = B} {A = A} {b = d} {s = s} {S = S} q b t) (at_definition {e = e'} {N = N'} {B = B'} {A = A'} {b = d'} {s' = z} {S = S'} q' b' t') =
          let p : e' ≡ e = one_entry c e' e q' q in
          let x : declare_definition N' B' d' ≡ declare_definition N B d = sym b' ∙ ap (λ x. x.body) p ∙ b in
          let h : B' ≡ B = cc in
          let n : N ≡ N' = cc in
          let (i, j, k) = takes_once t (subst (λ x. TakesNew e.implicit D x s z S' A') h (subst (λ x. TakesNew x.implicit D B' s z S' A') p t')) in
          (i, ap₂ (λ x y. reduce (skeleton B) x y) n j ∙ ap (λ x. reduce (skeleton x) N' S') (sym h), k)
      infers_once {D = D} (at_hole {s' = s'} t) (at_hole t') = let (p, q) = new_type_once t t' in (ap₂ (λ x y. with_metavariable D x y) q p, ap₂ (λ x (y : State). raised D x y.next) q p, q)
      infers_once {D = D} (at_function {M = M} {s' = s'} d i) (at_function {A = X} {B = Y} {R = T} {s' = z} {s'' = z'} d' i') =
          let (p, q) = domain_once d d' in
          let (j, k, l) = infers_once i (subst (λ x. Infers es frees (x ∷ D) M s' z' T Y) (sym q) (subst (λ v. Infers es frees (X ∷ D) M v z' T Y) (sym p) i')) in
          (j, ap lambda k, ap₂ pi q l)
      infers_once {D = D} (at_applied {P = P} {A = A} {B = B} {R = R} {Q = Q} {s' = s'} i c) (at_applied {A = A'} {B = B'} {R = R'} {Q = Q'} {s' = z} {s'' = z'} i' c') =
          let (p, q, r) = infers_once i i' in
          let a : A ≡ A' = (let x : pi A B ≡ pi A' B' = r in cc) in
          let b : B ≡ B' = (let x : pi A B ≡ pi A' B' = r in cc) in
          let m : R ≡ R' = (let x : lambda R ≡ lambda R' = q in cc) in
          let (j, k) = checks_once c (subst (λ x. Checks es frees D P x s' z' Q') (sym a) (subst (λ v. Checks es frees D P A' v z' Q') (sym p) c')) in
          (j, ap₂ (λ x y. substitute reduce (single (skeleton A) x) y) k m ∙ ap (λ x. substitute reduce (single (skeleton x) Q') R') a, ap₂ (λ x y. instantiate_type A x y) k b ∙ ap (λ x. instantiate_type x Q' B') a)
      infers_once {D = D} (at_ascribed {M = M} {s' = s'} t c) (at_ascribed {A = X} {R = T} {s' = z} {s'' = z'} t' c') =
          let (p, q) = type_once t t' in
          let (j, k) = checks_once c (subst (λ x. Checks es frees D M x s' z' T) (sym q) (subst (λ v. Checks es frees D M X v z' T) (sym p) c')) in
          (j, k, q)

      pub checks_once : {D : List LfType} {M : Written} {A : LfType} {s s' s'' : State} {R R' : Term} → Checks es frees D M A s s' R → Checks es frees D M A s s'' R' → SameMade s' R s'' R'
      checks_once (checks_hole e) (checks_hole e') = (refl, refl)
      checks_once {D = D} (checks_function {M = M} {A = A} {B = B} {s' = s'} t e c) (checks_function {X = X} {R = T} {s' = z} {s'' = z'} t' e' c') =
          let (p, q) = domain_once t t' in
          let (j, k) = checks_once c (subst (λ x. Checks es frees (A ∷ D) M B (with_equations (type_equations (signature_of es) D x A) s') z' T) (sym q) (subst (λ v. Checks es frees (A ∷ D) M B (with_equations (type_equations (signature_of es) D X A) v) z' T) (sym p) c')) in
          (j, ap lambda k)
      checks_once {D = D} (checks_inferred {A = A} n i e) (checks_inferred n' i' e') = let (p, q, r) = infers_once i i' in (ap₂ (λ x y. with_equations (type_equations (signature_of es) D x A) y) r p, q)
      checks_once (checks_hole e) (checks_inferred n i e') = absurd n
      checks_once (checks_function t e c) (checks_inferred n i e') = absurd n
      checks_once (checks_inferred n i e) (checks_hole e') = absurd n
      checks_once (checks_inferred n i e) (checks_function t e' c) = absurd n

      pub type_once : {D : List LfType} {V : WrittenType} {s s' s'' : State} {A A' : LfType} → ElaboratesType es frees D V s s' A → ElaboratesType es frees D V s s'' A' → SameMade s' A s'' A'
      type_once (at_type_hole t) (at_type_hole t') = new_type_once t t'
      type_once {D = D} (at_arrow {V = V} x y) (at_arrow {B = B'} {s'' = z'} x' y') =
          let (p, q) = type_once x x' in
          let (j, k) = type_once y (subst (λ v. ElaboratesType es frees D V v z' B') (sym p) y') in
          (j, ap₂ (λ a b. pi a (weaken b)) q k)
      type_once {D = D} (at_quantified {V = V} {s' = s'} d y) (at_quantified {A = A'} {B = B'} {s' = z} {s'' = z'} d' y') =
          let (p, q) = domain_once d d' in
          let (j, k) = type_once y (subst (λ x. ElaboratesType es frees (x ∷ D) V s' z' B') (sym q) (subst (λ v. ElaboratesType es frees (A' ∷ D) V v z' B') (sym p) y')) in
          (j, ap₂ pi q k)
      type_once (at_family f) (at_family f') = let (p, a, q, k) = family_once f f' in (p, ap₂ atom a q)
      type_once (at_type_ascribed t) (at_type_ascribed t') = type_once t t'
      type_once (at_family f) (at_type_ascribed t) = absurd (family_form f refl)
      type_once (at_family f) (at_type_hole t) = absurd (family_form f refl)
      type_once (at_family f) (at_arrow x y) = absurd (family_form f refl)
      type_once (at_family f) (at_quantified d y) = absurd (family_form f refl)
      type_once (at_type_ascribed t) (at_family f) = absurd (family_form f refl)
      type_once (at_type_hole t) (at_family f) = absurd (family_form f refl)
      type_once (at_arrow x y) (at_family f) = absurd (family_form f refl)
      type_once (at_quantified d y) (at_family f) = absurd (family_form f refl)

      pub domain_once : {D : List LfType} {d : WrittenDomain} {s s' s'' : State} {A A' : LfType} → ElaboratesDomain es frees D d s s' A → ElaboratesDomain es frees D d s s'' A' → SameMade s' A s'' A'
      domain_once (at_of_skeleton t) (at_of_skeleton t') = new_type_once t t'
      domain_once (at_of_type t) (at_of_type t') = type_once t t'

      pub family_once : {D : List LfType} {V : WrittenType} {s s' s'' : State} {a a' : ℕ} {S S' : Spine} {L L' : Kind} → ElaboratesFamily es frees D V s s' a S L → ElaboratesFamily es frees D V s s'' a' S' L' → (s' ≡ s'') × (a ≡ a') × (S ≡ S') × (L ≡ L')
      family_once {D = D} (at_family_name {a = a} {e = e} {K = K} {S = S} {s = s} q b t) (at_family_name {e = e'} {K = K'} {L = L'} {S = S'} {s' = z} q' b' t') =
          let p : e' ≡ e = one_entry a e' e q' q in
          let h : K' ≡ K = (let x : declare_family K' ≡ declare_family K = sym b' ∙ ap (λ x. x.body) p ∙ b in cc) in
          let (i, j, k) = kind_takes_once t (subst (λ x. KindTakesNew e.implicit D x s z S' L') h (subst (λ x. KindTakesNew x.implicit D K' s z S' L') p t')) in
          (i, refl, j, k)
      family_once {D = D} (at_family_applied {P = P} {S = S} {A = A} {K = K} {Q = Q} {s' = s'} f c) (at_family_applied {S = S'} {A = A'} {K = K'} {Q = Q'} {s' = z} {s'' = z'} f' c') =
          let (p, a, q, r) = family_once f f' in
          let x : A ≡ A' = (let x : kind_pi A K ≡ kind_pi A' K' = r in cc) in
          let y : K ≡ K' = (let x : kind_pi A K ≡ kind_pi A' K' = r in cc) in
          let (j, k) = checks_once c (subst (λ x. Checks es frees D P x s' z' Q') (sym x) (subst (λ v. Checks es frees D P A' v z' Q') (sym p) c')) in
          (j, a, ap₂ add_last q k, ap₂ (λ u v. instantiate_kind A u v) k y ∙ ap (λ u. instantiate_kind u Q' K') x)
      family_once {D = D} (at_family_ascribed {U = V} {s' = s'} {s'' = s''} k f e) (at_family_ascribed {a = a'} {S = S'} {A = A'} {K = K'} {L = L'} {s' = z} {s'' = z'} k' f' e') =
          let (p, q) = kind_once k k' in
          let (j, a, h, r) = family_once f (subst (λ v. ElaboratesFamily es frees D V v z' a' S' (kind_pi A' K')) (sym p) f') in
          (ap₂ (λ x y. with_equations (kind_equations (signature_of es) D x y) s'') r q ∙ ap (with_equations (kind_equations (signature_of es) D (kind_pi A' K') L')) j, a, h, r)

      pub kind_once : {D : List LfType} {k : WrittenKind} {s s' s'' : State} {K K' : Kind} → ElaboratesKind es frees D k s s' K → ElaboratesKind es frees D k s s'' K' → SameMade s' K s'' K'
      kind_once at_star at_star = (refl, refl)
      kind_once {D = D} (at_kind_arrow {k = k} x y) (at_kind_arrow {K = K'} {s'' = z'} x' y') =
          let (p, q) = type_once x x' in
          let (j, h) = kind_once y (subst (λ v. ElaboratesKind es frees D k v z' K') (sym p) y') in
          (j, ap₂ (λ a b. kind_pi a (rename_kind suc b)) q h)
      kind_once {D = D} (at_kind_quantified {k = k} {s' = s'} d y) (at_kind_quantified {A = A'} {K = K'} {s' = z} {s'' = z'} d' y') =
          let (p, q) = domain_once d d' in
          let (j, h) = kind_once y (subst (λ x. ElaboratesKind es frees (x ∷ D) k s' z' K') (sym q) (subst (λ v. ElaboratesKind es frees (A' ∷ D) k v z' K') (sym p) y')) in
          (j, ap₂ kind_pi q h)

pub unique : ElaborationIsUnique
unique es frees D s s' s'' = (
  (λ M R R' A A' x y. infers_once es frees x y),
  (λ M A R R' x y. checks_once es frees x y),
  (λ V A A' x y. type_once es frees x y),
  (λ k K K' x y. kind_once es frees x y),
  (λ ts ms ms' x y. frees_once es x y),
)
