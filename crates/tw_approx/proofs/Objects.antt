-- What fits has no unknown name, and nothing at the level of types that can't stand there.
use Rattle.std.proofs.Common.{◌≡◌, ℕ, zero, suc, List, [], ◌∷◌, ◌++◌, option_map, Bool, true, false, ◌||◌, Option, None, Some, if◌then◌else◌, refl, ap, ap₂}
use Rattle.std.specs.Str.{bytes_eq}
use Rattle.lf.specs.Entries.{Body, Entry, declare_constant, declare_definition, declare_family, entry}
use Rattle.lf.specs.Syntax.{Head, Skeleton, arrow as arrow_skeleton, constant, metavariable, variable}
use Rattle.tw_approx.specs.Answer.{IsOfObjects}
use Rattle.tw_approx.specs.Levels.{is_family, is_family_body, is_family_entry, is_written_type, lambdas_in_domain, lambdas_in_term, lambdas_in_type}
use Rattle.tw_approx.specs.Readings.{Reading, and_then, found}
use Rattle.tw_approx.specs.Skeletons.{Family, FitsClassifier, Frees, applied, ascribed, definition_skeleton, domain_skeleton, entry_skeleton, family_applied, family_ascribed, family_named, family_skeleton, kind_due, known, name_skeleton, object_skeleton, term_skeleton, type_skeleton, whole}
use Rattle.tw_approx.specs.Ways.{WhatFitsIsOfObjects}
use Rattle.tw_names.specs.Scope.{binder_name, head_named, named}
use Rattle.tw_names.specs.Texts.{ends_in_type}
use Rattle.tw_names.specs.Unknown.{is_uppercase, unknown_in_domain, unknown_names, unless_named}
use Rattle.tw_names.specs.declared.unknown.Mention.{Mention}
use Rattle.tw_parse.specs.Syntax.{Domain, Term, application, arrow, ascription, declare, define, give, hole, identifier, lambda, pi, prefer, star, typed, untyped}
use Rattle.tw_fixity.specs.Names.{Names, variable_of}
use Rattle.tw_signature.specs.Names.{number_of}
use Rattle.tw_approx.proofs.Causes.{no_type}
use Rattle.tw_approx.proofs.Sequences.{and_then_parts, given}

none_in : {A : Type 0} (ps qs : List A) → ps ≡ [] → qs ≡ [] → (ps ++ qs) ≡ []
none_in ps qs e f = ap₂ (λ p q. p ++ q) e f

-- What is in no scope N is in no scope M: N has the names of M, which also has the variables of arrows, without names.
abbrev IsThin : Names → Names → Type 0
IsThin N M = (x : List ℕ) → variable_of N x ≡ None → variable_of M x ≡ None

further_none : (o : Option ℕ) → option_map suc o ≡ None → o ≡ None
further_none None e = refl
further_none (Some i) e = absurd cc

either_none : (b : Bool) (o p : Option ℕ) → (o ≡ None → p ≡ None) → (if b then Some zero else option_map suc o) ≡ None → (if b then Some zero else option_map suc p) ≡ None
either_none true o p f e = absurd cc
either_none false o p f e = ap (option_map suc) (f (further_none o e))

thin_under : (n : Option (List ℕ)) (N M : Names) → IsThin N M → IsThin (n ∷ N) (n ∷ M)
thin_under None N M w x e = ap (option_map suc) (w x (further_none (variable_of N x) e))
thin_under (Some y) N M w x e = either_none (bytes_eq y x) (variable_of N x) (variable_of M x) (w x) e

thin_by : (N M : Names) → IsThin N M → IsThin N (None ∷ M)
thin_by N M w x e = ap (option_map suc) (w x e)

-- a name that has a skeleton isn't unknown
upper_known : (b : Bool) (m : Mention) (t s : Skeleton) → (if b then Some t else None) ≡ Some s → (if b then [] else m ∷ []) ≡ []
upper_known true m t s e = refl
upper_known false m t s e = absurd cc

module _ (es : List Entry) (f : Frees) where
  name_known : (G : List Skeleton) (m : Mention) (i j c : Option ℕ) → (i ≡ None → j ≡ None) → (s : Skeleton) → name_skeleton es f G (head_named j c) m.name ≡ Some s → unless_named (head_named i c) m ≡ []
  name_known G m (Some i) j c w s e = refl
  name_known G m None j (Some c) w s e = refl
  name_known G m None None None w s e = upper_known (is_uppercase m.name) m (f m.name) s e
  name_known G m None (Some j) None w s e = let clash : Some j ≡ None = w refl in absurd cc

  family_known : (m : Mention) (i j c : Option ℕ) (F : Family) → family_named es (head_named j c) ≡ Some F → unless_named (head_named i c) m ≡ []
  family_known m (Some i) j c F e = refl
  family_known m None j (Some c) F e = refl
  family_known m None None None F e = absurd cc
  family_known m None (Some j) None F e = absurd cc

  found_some : {A : Type 0} (x : Option A) (o : List Skeleton) (a : A) (q : List Skeleton) → found x o ≡ Some (a, q) → (b : A) × (x ≡ Some b)
  found_some None o a q e = absurd cc
  found_some (Some b) o a q e = (b, refl)

  -- Its names are known, and no lambda stands where a type is due.
  mutual
    term_objects : (T : Term) (N M : Names) (G : List Skeleton) → IsThin N M → (o : List Skeleton) (s : Skeleton) (q : List Skeleton) → term_skeleton es f M G T o ≡ Some (s, q) → (unknown_names es N T ≡ []) × (lambdas_in_term T ≡ [])
    term_objects (identifier x at) N M G w o s q e =
        let n = found_some (name_skeleton es f G (named es M x) x) o s q e in
        (name_known G (record { name = x; at = at }) (variable_of N x) (variable_of M x) (number_of es x) (w x) n.0 n.1, refl)
    term_objects (hole at) N M G w o s q e = (refl, refl)
    term_objects star N M G w o s q e = absurd cc
    term_objects (arrow U V) N M G w o s q e = absurd cc
    term_objects (pi x at D V) N M G w o s q e = absurd cc
    term_objects (lambda x at D T) N M G w o s q e =
        let a = and_then_parts (domain_skeleton es f M G D o) (λ k p. and_then (term_skeleton es f (binder_name x ∷ M) (k ∷ G) T p) (λ l m. given (arrow_skeleton k l) m)) s q e in
        let b = and_then_parts (term_skeleton es f (binder_name x ∷ M) (a.0 ∷ G) T a.1) (λ l m. given (arrow_skeleton a.0 l) m) s q a.3 in
        let one = domain_objects D N M G w o a.0 a.1 a.2 in
        let two = term_objects T (binder_name x ∷ N) (binder_name x ∷ M) (a.0 ∷ G) (thin_under (binder_name x) N M w) a.1 b.0 b.1 b.2 in
        (none_in (unknown_in_domain es N D) (unknown_names es (binder_name x ∷ N) T) one.0 two.0, none_in (lambdas_in_domain D) (lambdas_in_term T) one.1 two.1)
    term_objects (application T P) N M G w o s q e =
        let a = and_then_parts (term_skeleton es f M G T o) (λ k p. and_then (term_skeleton es f M G P p) (applied k)) s q e in
        let b = and_then_parts (term_skeleton es f M G P a.1) (applied a.0) s q a.3 in
        let one = term_objects T N M G w o a.0 a.1 a.2 in
        let two = term_objects P N M G w a.1 b.0 b.1 b.2 in
        (none_in (unknown_names es N P) (unknown_names es N T) two.0 one.0, none_in (lambdas_in_term P) (lambdas_in_term T) two.1 one.1)
    term_objects (ascription T A) N M G w o s q e =
        let a = and_then_parts (term_skeleton es f M G T o) (λ k p. and_then (type_skeleton es f M G A p) (ascribed k)) s q e in
        let b = and_then_parts (type_skeleton es f M G A a.1) (ascribed a.0) s q a.3 in
        let c = and_then_parts (family_skeleton es f M G A a.1) whole b.0 b.1 b.2 in
        let one = term_objects T N M G w o a.0 a.1 a.2 in
        let two = family_objects A N M G w a.1 c.0 c.1 c.2 in
        (none_in (unknown_names es N A) (unknown_names es N T) two.0 one.0, none_in (lambdas_in_type A) (lambdas_in_term T) two.1 one.1)

    domain_objects : (D : Domain) (N M : Names) (G : List Skeleton) → IsThin N M → (o : List Skeleton) (s : Skeleton) (q : List Skeleton) → domain_skeleton es f M G D o ≡ Some (s, q) → (unknown_in_domain es N D ≡ []) × (lambdas_in_domain D ≡ [])
    domain_objects untyped N M G w o s q e = (refl, refl)
    domain_objects (typed A) N M G w o s q e =
        let a = and_then_parts (family_skeleton es f M G A o) whole s q e in
        family_objects A N M G w o a.0 a.1 a.2

    family_objects : (A : Term) (N M : Names) (G : List Skeleton) → IsThin N M → (o : List Skeleton) (F : Family) (q : List Skeleton) → family_skeleton es f M G A o ≡ Some (F, q) → (unknown_names es N A ≡ []) × (lambdas_in_type A ≡ [])
    family_objects (identifier x at) N M G w o F q e =
        let n = found_some (family_named es (named es M x)) o F q e in
        (family_known (record { name = x; at = at }) (variable_of N x) (variable_of M x) (number_of es x) n.0 n.1, refl)
    family_objects (hole at) N M G w o F q e = (refl, refl)
    family_objects star N M G w o F q e = absurd cc
    family_objects (arrow U V) N M G w o F q e =
        let a = and_then_parts (type_skeleton es f M G U o) (λ k p. and_then (type_skeleton es f (None ∷ M) (k ∷ G) V p) (λ l m. given (known [] (arrow_skeleton k l)) m)) F q e in
        let b = and_then_parts (type_skeleton es f (None ∷ M) (a.0 ∷ G) V a.1) (λ l m. given (known [] (arrow_skeleton a.0 l)) m) F q a.3 in
        let c = and_then_parts (family_skeleton es f M G U o) whole a.0 a.1 a.2 in
        let d = and_then_parts (family_skeleton es f (None ∷ M) (a.0 ∷ G) V a.1) whole b.0 b.1 b.2 in
        let one = family_objects U N M G w o c.0 c.1 c.2 in
        let two = family_objects V N (None ∷ M) (a.0 ∷ G) (thin_by N M w) a.1 d.0 d.1 d.2 in
        (none_in (unknown_names es N U) (unknown_names es N V) one.0 two.0, none_in (lambdas_in_type U) (lambdas_in_type V) one.1 two.1)
    family_objects (pi x at D V) N M G w o F q e =
        let a = and_then_parts (domain_skeleton es f M G D o) (λ k p. and_then (type_skeleton es f (binder_name x ∷ M) (k ∷ G) V p) (λ l m. given (known [] (arrow_skeleton k l)) m)) F q e in
        let b = and_then_parts (type_skeleton es f (binder_name x ∷ M) (a.0 ∷ G) V a.1) (λ l m. given (known [] (arrow_skeleton a.0 l)) m) F q a.3 in
        let d = and_then_parts (family_skeleton es f (binder_name x ∷ M) (a.0 ∷ G) V a.1) whole b.0 b.1 b.2 in
        let one = domain_objects D N M G w o a.0 a.1 a.2 in
        let two = family_objects V (binder_name x ∷ N) (binder_name x ∷ M) (a.0 ∷ G) (thin_under (binder_name x) N M w) a.1 d.0 d.1 d.2 in
        (none_in (unknown_in_domain es N D) (unknown_names es (binder_name x ∷ N) V) one.0 two.0, none_in (lambdas_in_domain D) (lambdas_in_type V) one.1 two.1)
    family_objects (lambda x at D T) N M G w o F q e = absurd cc
    family_objects (application T P) N M G w o F q e =
        let a = and_then_parts (family_skeleton es f M G T o) (λ k p. and_then (term_skeleton es f M G P p) (family_applied k)) F q e in
        let b = and_then_parts (term_skeleton es f M G P a.1) (family_applied a.0) F q a.3 in
        let one = family_objects T N M G w o a.0 a.1 a.2 in
        let two = term_objects P N M G w a.1 b.0 b.1 b.2 in
        (none_in (unknown_names es N P) (unknown_names es N T) two.0 one.0, none_in (lambdas_in_term P) (lambdas_in_type T) two.1 one.1)
    family_objects (ascription T K) N M G w o F q e =
        let a = and_then_parts (family_skeleton es f M G T o) (λ k p. and_then (kind_due es f M G K p) (family_ascribed k)) F q e in
        let b = and_then_parts (kind_due es f M G K a.1) (family_ascribed a.0) F q a.3 in
        let one = family_objects T N M G w o a.0 a.1 a.2 in
        let two = kind_objects K N M G w a.1 b.0 b.1 b.2 in
        (none_in (unknown_names es N K) (unknown_names es N T) two.0 one.0, none_in (lambdas_in_type K) (lambdas_in_type T) two.1 one.1)

    kind_objects : (K : Term) (N M : Names) (G : List Skeleton) → IsThin N M → (o ds q : List Skeleton) → kind_due es f M G K o ≡ Some (ds, q) → (unknown_names es N K ≡ []) × (lambdas_in_type K ≡ [])
    kind_objects (identifier x at) N M G w o ds q e = absurd cc
    kind_objects (hole at) N M G w o ds q e = absurd cc
    kind_objects star N M G w o ds q e = (refl, refl)
    kind_objects (arrow U K) N M G w o ds q e =
        let a = and_then_parts (type_skeleton es f M G U o) (λ k p. and_then (kind_due es f (None ∷ M) (k ∷ G) K p) (λ l m. given (k ∷ l) m)) ds q e in
        let b = and_then_parts (kind_due es f (None ∷ M) (a.0 ∷ G) K a.1) (λ l m. given (a.0 ∷ l) m) ds q a.3 in
        let c = and_then_parts (family_skeleton es f M G U o) whole a.0 a.1 a.2 in
        let one = family_objects U N M G w o c.0 c.1 c.2 in
        let two = kind_objects K N (None ∷ M) (a.0 ∷ G) (thin_by N M w) a.1 b.0 b.1 b.2 in
        (none_in (unknown_names es N U) (unknown_names es N K) one.0 two.0, none_in (lambdas_in_type U) (lambdas_in_type K) one.1 two.1)
    kind_objects (pi x at D K) N M G w o ds q e =
        let a = and_then_parts (domain_skeleton es f M G D o) (λ k p. and_then (kind_due es f (binder_name x ∷ M) (k ∷ G) K p) (λ l m. given (k ∷ l) m)) ds q e in
        let b = and_then_parts (kind_due es f (binder_name x ∷ M) (a.0 ∷ G) K a.1) (λ l m. given (a.0 ∷ l) m) ds q a.3 in
        let one = domain_objects D N M G w o a.0 a.1 a.2 in
        let two = kind_objects K (binder_name x ∷ N) (binder_name x ∷ M) (a.0 ∷ G) (thin_under (binder_name x) N M w) a.1 b.0 b.1 b.2 in
        (none_in (unknown_in_domain es N D) (unknown_names es (binder_name x ∷ N) K) one.0 two.0, none_in (lambdas_in_domain D) (lambdas_in_type K) one.1 two.1)
    kind_objects (lambda x at D T) N M G w o ds q e = absurd cc
    kind_objects (application T P) N M G w o ds q e = absurd cc
    kind_objects (ascription T A) N M G w o ds q e = absurd cc

  type_objects : (A : Term) (o : List Skeleton) (s : Skeleton) (q : List Skeleton) → type_skeleton es f [] [] A o ≡ Some (s, q) → (unknown_names es [] A ≡ []) × (lambdas_in_type A ≡ [])
  type_objects A o s q e =
      let a = and_then_parts (family_skeleton es f [] [] A o) whole s q e in
      family_objects A [] [] [] (λ x n. n) o a.0 a.1 a.2

  no_given : {A : Type 0} (r : Reading A) (a : A) (q : List Skeleton) → r ≡ None → r ≡ Some (a, q) → ⊥
  no_given None a q n e = cc
  no_given (Some b) a q n e = cc

  -- what has a skeleton as a term is no type
  no_family_body : (k : ℕ) (b : Body) (s : Skeleton) → object_skeleton k b ≡ Some s → is_family_body b ≡ false
  no_family_body k (declare_family K) s e = absurd cc
  no_family_body k (declare_constant A) s e = refl
  no_family_body k (declare_definition M A b) s e = refl

  no_family_entry : (x : Option Entry) (s : Skeleton) → entry_skeleton x ≡ Some s → is_family_entry x ≡ false
  no_family_entry None s e = refl
  no_family_entry (Some d) s e = no_family_body d.implicit d.body s e

  no_family : (G : List Skeleton) (h : Option Head) (x : List ℕ) (s : Skeleton) → name_skeleton es f G h x ≡ Some s → is_family es h ≡ false
  no_family G (Some (constant c)) x s e = no_family_entry (entry es c) s e
  no_family G (Some (variable i)) x s e = refl
  no_family G (Some (metavariable m)) x s e = refl
  no_family G None x s e = refl

  neither : (b c : Bool) → b ≡ false → c ≡ false → (b || c) ≡ false
  neither b c e h = ap₂ (λ x y. x || y) e h

  no_kind : (N : Names) (G : List Skeleton) (A : Term) (o : List Skeleton) (s : Skeleton) (q : List Skeleton) → type_skeleton es f N G A o ≡ Some (s, q) → ends_in_type A ≡ false
  no_kind N G A o s q e = by (ends_in_type A) refl
    where
      by : (b : Bool) → ends_in_type A ≡ b → b ≡ false
      by false t = refl
      by true t = absurd (no_given (type_skeleton es f N G A o) s q (no_type es f N G A o t) e)

  no_written_type : (T : Term) (N : Names) (G : List Skeleton) (o : List Skeleton) (s : Skeleton) (q : List Skeleton) → term_skeleton es f N G T o ≡ Some (s, q) → is_written_type es N T ≡ false
  no_written_type (identifier x at) N G o s q e =
      let n = found_some (name_skeleton es f G (named es N x) x) o s q e in
      no_family G (named es N x) x n.0 n.1
  no_written_type (hole at) N G o s q e = refl
  no_written_type star N G o s q e = absurd cc
  no_written_type (arrow U V) N G o s q e = absurd cc
  no_written_type (pi x at D V) N G o s q e = absurd cc
  no_written_type (lambda x at D T) N G o s q e =
      let a = and_then_parts (domain_skeleton es f N G D o) (λ k p. and_then (term_skeleton es f (binder_name x ∷ N) (k ∷ G) T p) (λ l m. given (arrow_skeleton k l) m)) s q e in
      let b = and_then_parts (term_skeleton es f (binder_name x ∷ N) (a.0 ∷ G) T a.1) (λ l m. given (arrow_skeleton a.0 l) m) s q a.3 in
      no_written_type T (binder_name x ∷ N) (a.0 ∷ G) a.1 b.0 b.1 b.2
  no_written_type (application T P) N G o s q e =
      let a = and_then_parts (term_skeleton es f N G T o) (λ k p. and_then (term_skeleton es f N G P p) (applied k)) s q e in
      no_written_type T N G o a.0 a.1 a.2
  no_written_type (ascription T A) N G o s q e =
      let a = and_then_parts (term_skeleton es f N G T o) (λ k p. and_then (type_skeleton es f N G A p) (ascribed k)) s q e in
      let b = and_then_parts (type_skeleton es f N G A a.1) (ascribed a.0) s q a.3 in
      neither (is_written_type es N T) (ends_in_type A) (no_written_type T N G o a.0 a.1 a.2) (no_kind N G A a.1 b.0 b.1 b.2)

  same_names : IsThin [] []
  same_names x e = e

  classifier_objects : (U : Term) (o : List Skeleton) (b : Bool) → FitsClassifier es f U o b → (unknown_names es [] U ≡ []) × (lambdas_in_type U ≡ [])
  classifier_objects U o true h = kind_objects U [] [] [] same_names o h.0 [] h.1
  classifier_objects U o false h = type_objects U o h.0 [] h.1

  definition_objects : (c : Option (List ℕ)) (A : Option Term) (T : Term) (b : Bool) (o : List Skeleton) (s : Skeleton) → definition_skeleton es f A T o ≡ Some (s, []) → IsOfObjects es (define c A T b)
  definition_objects c None T b o s e =
      let one = term_objects T [] [] [] same_names o s [] e in
      record { known = one.0; no_definition = neither (is_written_type es [] T) false (no_written_type T [] [] o s [] e) refl; no_lambda = one.1 }
  definition_objects c (Some A) T b o s e =
      let h = and_then_parts (type_skeleton es f [] [] A o) (λ k p. and_then (term_skeleton es f [] [] T p) (ascribed k)) s [] e in
      let k = and_then_parts (term_skeleton es f [] [] T h.1) (ascribed h.0) s [] h.3 in
      let one = type_objects A o h.0 h.1 h.2 in
      let two = term_objects T [] [] [] same_names h.1 k.0 k.1 k.2 in
      record {
        known = none_in (unknown_names es [] A) (unknown_names es [] T) one.0 two.0;
        no_definition = neither (is_written_type es [] T) (ends_in_type A) (no_written_type T [] [] h.1 k.0 k.1 k.2) (no_kind [] [] A o h.0 h.1 h.2);
        no_lambda = none_in (lambdas_in_type A) (lambdas_in_term T) one.1 two.1;
      }

pub fits_objects : WhatFitsIsOfObjects
fits_objects es (declare c at U) f o h = let k = classifier_objects es f U o (ends_in_type U) h in record { known = k.0; no_definition = refl; no_lambda = k.1 }
fits_objects es (define c A T b) f o h = definition_objects es f c A T b o h.0 h.1
fits_objects es (prefer a x y) f o h = absurd h
fits_objects es (give fix names) f o h = absurd h
