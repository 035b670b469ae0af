-- What is plain and completed is elaborated to just that: nothing in it is a new metavariable, and types that are compared are the same.
use Rattle.std.proofs.Common.{◌≡◌, ℕ, zero, suc, List, [], ◌∷◌, Some, slice_get, refl, sym, ap, ap₂, ◌∙◌, subst}
use Rattle.lf.specs.Entries.{Entry, declare_constant, declare_family, entry}
use Rattle.lf.specs.Eta.{add_last, eta_expand, eta_long}
use Rattle.lf.specs.Substitution.{reduce, single, substitute}
use Rattle.lf.specs.Syntax.{Kind, LfType, Spine, Term, atom, constant, kind_pi, lambda, nil, pi, skeleton, variable, weaken}
use Rattle.lf.specs.Typing.{instantiate_kind, instantiate_type}
use Rattle.lf.specs.Variables.{onto}
use Rattle.lf.proofs.Decidability.{variable_type_unique}
use Rattle.lf_elaboration.specs.Completions.{Completes, CompletesDomain, CompletesFamily, CompletesType, FreeValue, KindTakesAny, TakesAny, any_next, any_none, applied_completed, arrow_completed, ascribed_type_completed, bound_completed, constant_completed, definition_completed, family_applied_completed, family_completed, family_name_completed, free_completed, function_completed, kind_any_next, kind_any_none, quantified_completed, type_completed, type_hole_completed}
use Rattle.lf_elaboration.specs.Elaboration.{Checks, ElaboratesDomain, ElaboratesFamily, ElaboratesType, Infers, KindTakesNew, TakesNew, at_applied, at_arrow, at_ascribed, at_bound, at_constant, at_definition, at_family, at_family_applied, at_family_ascribed, at_family_name, at_free, at_function, at_hole, at_of_skeleton, at_of_type, at_quantified, at_type_ascribed, at_type_hole, checks_function, checks_hole, checks_inferred, kind_takes_next, kind_takes_none, takes_next, takes_none}
use Rattle.lf_elaboration.specs.State.{State}
use Rattle.lf_elaboration.specs.Written.{Written, WrittenDomain, WrittenType}
use Rattle.lf_elaboration.proofs.Once.{family_form as elaborated_form}
use Rattle.tw_elaborate.specs.Plain.{DomainIsPlain, TermIsPlain, TypeIsPlain}
use Rattle.law_explicit_agrees.proofs.Parts.{family_form}

none_new : {k : ℕ} {D : List LfType} {B A : LfType} {s s' : State} {S : Spine} → TakesNew k D B s s' S A → k ≡ zero → (S ≡ nil) × (A ≡ B)
none_new takes_none e = (refl, refl)
none_new (takes_next t) e = absurd cc

kind_none_new : {k : ℕ} {D : List LfType} {K L : Kind} {s s' : State} {S : Spine} → KindTakesNew k D K s s' S L → k ≡ zero → (S ≡ nil) × (L ≡ K)
kind_none_new kind_takes_none e = (refl, refl)
kind_none_new (kind_takes_next t) e = absurd cc

pi_parts : {A A' B B' : LfType} → pi A B ≡ pi A' B' → (A ≡ A') × (B ≡ B')
pi_parts e = (cc, cc)

kind_parts : {A A' : LfType} {K K' : Kind} → kind_pi A K ≡ kind_pi A' K' → (A ≡ A') × (K ≡ K')
kind_parts e = (cc, cc)

lambda_part : {R R' : Term} → lambda R ≡ lambda R' → R ≡ R'
lambda_part e = cc

none_at : (i : ℕ) (v : FreeValue) → slice_get [] i ≡ Some v → ⊥
none_at zero v e = cc
none_at (suc i) v e = cc

module _ (es : List Entry) where
  none_any : {k : ℕ} {D : List LfType} {B A : LfType} {S : Spine} → TakesAny es [] k D B S A → k ≡ zero → (S ≡ nil) × (A ≡ B)
  none_any any_none e = (refl, refl)
  none_any (any_next m t) e = absurd cc

  kind_none_any : {k : ℕ} {D : List LfType} {K L : Kind} {S : Spine} → KindTakesAny es [] k D K S L → k ≡ zero → (S ≡ nil) × (L ≡ K)
  kind_none_any kind_any_none e = (refl, refl)
  kind_none_any (kind_any_next m t) e = absurd cc

  one_entry : (c : ℕ) (e e' : Entry) → entry es c ≡ Some e → entry es c ≡ Some e' → e ≡ e'
  one_entry c e e' q q' = let p : Some e ≡ Some e' = sym q ∙ q' in cc

  module _ (frees : List ℕ) where
    mutual
      pub infers_is : {D : List LfType} {M : Written} {s s' : State} {R T : Term} {A X : LfType} → Infers es frees D M s s' R A → TermIsPlain es M → Completes es [] [] D M T X → (R ≡ T) × (A ≡ X)
      infers_is (at_free f e) p (free_completed {i = i} {v = v} k) = absurd (none_at i v k)
      infers_is {D = D} (at_bound {i = i} {A = A} g) p (bound_completed {A = B} g') =
          let q : A ≡ B = variable_type_unique (onto D []) i A B g g' in
          (ap (λ X. eta_long (skeleton X) (variable i)) q, q)
      infers_is (at_constant {c = c} {e = e} {B = B} {A = A} {S = S} k b t) (u, n) (constant_completed {e = e'} {B = B'} {A = A'} {S = S'} k' b' t') =
          let p : e' ≡ e = one_entry c e' e k' k in
          let h : B' ≡ B = (let x : declare_constant B' ≡ declare_constant B = sym b' ∙ ap (λ (x : Entry). x.body) p ∙ b in cc) in
          let (i, j) = none_new t (n e k) in
          let (l, m) = none_any t' (n e' k') in
          let a : A ≡ A' = j ∙ sym h ∙ sym m in
          (ap₂ (λ x y. eta_expand (skeleton x) (constant c) y) a (i ∙ sym l), a)
      infers_is (at_constant k b t) (u, n) (definition_completed {e = e'} {N = N'} {B = B'} {b = f'} k' b' t') = absurd (u (record { declared_as = e'; is_entry = k'; term = N'; type = B'; abbreviates = f'; is_definition = b' }))
      infers_is (at_definition {e = e} {N = N} {B = B} {b = f} k b t) (u, n) c = absurd (u (record { declared_as = e; is_entry = k; term = N; type = B; abbreviates = f; is_definition = b }))
      infers_is (at_hole t) p c = absurd p
      infers_is {D = D} (at_function {M = M} d i) (p, q) (function_completed {A = X} {B = Y} {R = T} c m) =
          let a = domain_is d p c in
          let (r, b) = infers_is i q (subst (λ x. Completes es [] [] (x ∷ D) M T Y) (sym a) m) in
          (ap lambda r, ap₂ pi a b)
      infers_is {D = D} (at_applied {P = P} {A = A} {B = B} {R = R} {Q = Q} i c) (r, p, q) (applied_completed {A = A'} {B = B'} {R = R'} {Q = Q'} m n) =
          let (k, l) = infers_is i p m in
          let (a, b) = pi_parts l in
          let f : R ≡ R' = lambda_part k in
          let g : Q ≡ Q' = checks_is c q (subst (λ x. Completes es [] [] D P Q' x) (sym a) n) in
          (ap₂ (λ x y. substitute reduce (single (skeleton A) x) y) g f ∙ ap (λ x. substitute reduce (single (skeleton x) Q') R') a, ap₂ (λ x y. instantiate_type A x y) g b ∙ ap (λ x. instantiate_type x Q' B') a)
      infers_is (at_ascribed t c) p m = absurd p

      pub checks_is : {D : List LfType} {M : Written} {A : LfType} {s s' : State} {R T : Term} → Checks es frees D M A s s' R → TermIsPlain es M → Completes es [] [] D M T A → R ≡ T
      checks_is (checks_hole e) p c = absurd p
      checks_is (checks_function d e c) (p, q) (function_completed t m) = ap lambda (checks_is c q m)
      checks_is (checks_inferred n i e) p c = (infers_is i p c).0

      pub type_is : {D : List LfType} {V : WrittenType} {s s' : State} {A X : LfType} → ElaboratesType es frees D V s s' A → TypeIsPlain es V → CompletesType es [] [] D V X → A ≡ X
      type_is (at_type_hole t) p c = absurd p
      type_is (at_arrow x y) (p, q) (arrow_completed c d) = ap₂ (λ a b. pi a (weaken b)) (type_is x p c) (type_is y q d)
      type_is (at_arrow x y) p (family_completed c) = absurd (family_form es c)
      type_is {D = D} (at_quantified {V = V} d y) (p, q) (quantified_completed {B = Y} c m) =
          let a = domain_is d p c in
          ap₂ pi a (type_is y q (subst (λ x. CompletesType es [] [] (x ∷ D) V Y) (sym a) m))
      type_is (at_quantified d y) p (family_completed c) = absurd (family_form es c)
      type_is (at_family f) p (family_completed c) = let (a, q, k) = family_is f p c in ap₂ atom a q
      type_is (at_family f) p (type_hole_completed e i) = absurd p
      type_is (at_family f) p (arrow_completed c d) = absurd (elaborated_form es frees f refl)
      type_is (at_family f) p (quantified_completed c d) = absurd (elaborated_form es frees f refl)
      type_is (at_family f) p (ascribed_type_completed c) = absurd p
      type_is (at_type_ascribed t) p c = absurd p

      pub domain_is : {D : List LfType} {d : WrittenDomain} {s s' : State} {A X : LfType} → ElaboratesDomain es frees D d s s' A → DomainIsPlain es d → CompletesDomain es [] [] D d X → A ≡ X
      domain_is (at_of_skeleton t) p c = absurd p
      domain_is (at_of_type t) p (type_completed c) = type_is t p c

      pub family_is : {D : List LfType} {V : WrittenType} {s s' : State} {a b : ℕ} {S T : Spine} {K L : Kind} → ElaboratesFamily es frees D V s s' a S K → TypeIsPlain es V → CompletesFamily es [] [] D V b T L → (a ≡ b) × (S ≡ T) × (K ≡ L)
      family_is (at_family_name {a = c} {e = e} {K = K} k b t) n (family_name_completed {e = e'} {K = K'} k' b' t') =
          let p : e' ≡ e = one_entry c e' e k' k in
          let h : K' ≡ K = (let x : declare_family K' ≡ declare_family K = sym b' ∙ ap (λ (x : Entry). x.body) p ∙ b in cc) in
          let (i, j) = kind_none_new t (n e k) in
          let (l, m) = kind_none_any t' (n e' k') in
          (refl, i ∙ sym l, j ∙ sym h ∙ sym m)
      family_is {D = D} (at_family_applied {P = P} {A = A} {K = K} {Q = Q} f c) (p, q) (family_applied_completed {A = A'} {K = K'} {Q = Q'} g d) =
          let (h, i, j) = family_is f p g in
          let (a, b) = kind_parts j in
          let k : Q ≡ Q' = checks_is c q (subst (λ x. Completes es [] [] D P Q' x) (sym a) d) in
          (h, ap₂ add_last i k, ap₂ (λ x y. instantiate_kind A x y) k b ∙ ap (λ x. instantiate_kind x Q' K') a)
      family_is (at_family_ascribed k f e) p c = absurd p
