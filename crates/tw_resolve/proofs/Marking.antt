-- The families of a signature's skeletons are declared, and a map of skeletons that changes just the families that aren't keeps each reading.
use Rattle.std.proofs.Common.{◌≡◌, ℕ, zero, suc, List, [], ◌∷◌, map, length, drop, slice_get, Bool, true, false, cond, Option, None, Some, if◌then◌else◌, refl, sym, ap, ◌∙◌, subst}
use Rattle.lf.specs.Entries.{Entry, Body, declare_family, declare_constant, declare_definition, entry, kind_of, kind_of_body, signature_of, BodyIsTyped, IsCanonicalSignature}
use Rattle.lf.specs.Syntax.{Head, constant, variable, metavariable, Skeleton, base, arrow as arrow_skeleton, skeleton, LfType, Kind, pi as lf_pi, atom, kind_pi, star as lf_star}
use Rattle.lf.specs.Typing.{IsType, IsKind}
use Rattle.lf.specs.Variables.{same_number}
use Rattle.lf.proofs.Entries.{kinds_kept}
use Rattle.lf_elaboration.specs.WrittenSkeletons.{AllDeclared, SkeletonIsDeclared}
use Rattle.tw_approx.specs.Readings.{take, found, and_then}
use Rattle.tw_approx.specs.Skeletons.{Frees, Family, known, unknown, behind, object_skeleton, entry_skeleton, name_skeleton, due, family_of_body, family_of_entry, family_named, same_skeleton, same_skeletons, applied, ascribed, family_applied, family_ascribed, whole, term_skeleton, family_skeleton, type_skeleton, domain_skeleton, kind_due, definition_skeleton, FitsClassifier, Fits}
use Rattle.tw_approx.proofs.Sequences.{given, parts_of, and_then_parts}
use Rattle.tw_approx.proofs.Unifying.{equal_skeletons, equal_lists, skeletons_same, lists_same, passed, if_passed}
use Rattle.tw_names.specs.Texts.{ends_in_type}
use Rattle.tw_names.specs.Scope.{binder_name, named}
use Rattle.tw_names.specs.Unknown.{is_uppercase}
use Rattle.tw_parse.specs.Syntax.{Term, Domain, identifier, hole, star, arrow, pi, lambda, application, ascription, untyped, typed, Declaration, declare, define, prefer, give}
use Rattle.tw_fixity.specs.Names.{Names}

-- the skeletons of an entry are of declared families
abbrev BodyIsDeclared : List Entry → Body → Type 0
BodyIsDeclared es (declare_family K) = AllDeclared es (due K)
BodyIsDeclared es (declare_constant A) = SkeletonIsDeclared es (skeleton A)
BodyIsDeclared es (declare_definition M A b) = SkeletonIsDeclared es (skeleton A)

type_declared : (es : List Entry) (G : List LfType) (A : LfType) → IsType (signature_of es) G A → SkeletonIsDeclared es (skeleton A)
type_declared es G (lf_pi A B) (a, b) = (type_declared es G A a, type_declared es (A ∷ G) B b)
type_declared es G (atom a S) (K, e, s) = (K, e)

kind_declared : (es : List Entry) (G : List LfType) (K : Kind) → IsKind (signature_of es) G K → AllDeclared es (due K)
kind_declared es G (kind_pi A K) (a, k) = (type_declared es G A a, kind_declared es (A ∷ G) K k)
kind_declared es G lf_star k = tt

body_declared : (es : List Entry) (b : Body) → BodyIsTyped (signature_of es) b → BodyIsDeclared es b
body_declared es (declare_family K) t = kind_declared es [] K t
body_declared es (declare_constant A) t = type_declared es [] A t
body_declared es (declare_definition M A b) (t, u) = type_declared es [] A t

skeleton_kept : (d : Entry) (es : List Entry) (s : Skeleton) → SkeletonIsDeclared es s → SkeletonIsDeclared (d ∷ es) s
skeleton_kept d es (base a) (K, e) = (K, kinds_kept d es a K e)
skeleton_kept d es (arrow_skeleton s t) (h, i) = (skeleton_kept d es s h, skeleton_kept d es t i)

skeletons_kept : (d : Entry) (es : List Entry) (ss : List Skeleton) → AllDeclared es ss → AllDeclared (d ∷ es) ss
skeletons_kept d es [] h = tt
skeletons_kept d es (s ∷ ss) (h, i) = (skeleton_kept d es s h, skeletons_kept d es ss i)

body_kept : (d : Entry) (es : List Entry) (b : Body) → BodyIsDeclared es b → BodyIsDeclared (d ∷ es) b
body_kept d es (declare_family K) h = skeletons_kept d es (due K) h
body_kept d es (declare_constant A) h = skeleton_kept d es (skeleton A) h
body_kept d es (declare_definition M A b) h = skeleton_kept d es (skeleton A) h

declared_at : (es : List Entry) (b : Bool) (d e : Entry) (x : Option Entry) → cond b (Some d) x ≡ Some e → BodyIsDeclared es d.body → (x ≡ Some e → BodyIsDeclared es e.body) → BodyIsDeclared es e.body
declared_at es true d e x h i later = let same : d ≡ e = cc in subst (λ (f : Entry). BodyIsDeclared es f.body) same i
declared_at es false d e x h i later = later h

entry_declared : (es : List Entry) → IsCanonicalSignature es → (c : ℕ) (e : Entry) → entry es c ≡ Some e → BodyIsDeclared es e.body
entry_declared [] k c e h = absurd cc
entry_declared (d ∷ es) (k, i) c e h = declared_at (d ∷ es) (same_number c (length es)) d e (entry es c) h (body_kept d es d.body (body_declared es d.body i.typed)) (λ g. body_kept d es e.body (entry_declared es k c e g))

behind_declared : (es : List Entry) (k : ℕ) (s t : Skeleton) → behind k s ≡ Some t → SkeletonIsDeclared es s → SkeletonIsDeclared es t
behind_declared es zero s t e h = let same : s ≡ t = cc in subst (SkeletonIsDeclared es) same h
behind_declared es (suc k) (arrow_skeleton a b) t e (h, i) = behind_declared es k b t e i
behind_declared es (suc k) (base a) t e h = absurd cc

drop_declared : (es : List Entry) (k : ℕ) (ss : List Skeleton) → AllDeclared es ss → AllDeclared es (drop k ss)
drop_declared es zero ss h = h
drop_declared es (suc k) [] h = tt
drop_declared es (suc k) (s ∷ ss) (h, i) = drop_declared es k ss i

given_same : {A : Type 0} (a b : A) (p q : List Skeleton) → a ≡ b → p ≡ q → given a p ≡ given b q
given_same a b p q e f = cc

upper_parts : (b : Bool) (t s : Skeleton) → (if b then Some t else None) ≡ Some s → (b ≡ true) × (t ≡ s)
upper_parts true t s e = (refl, cc)
upper_parts false t s e = absurd cc

module _ (es : List Entry) where
  abbrev mark_base : Option Kind → ℕ → Skeleton
  mark_base (Some K) a = base a
  mark_base None a = arrow_skeleton (base a) (base a)

  -- another skeleton where a family isn't declared
  abbrev pub mark : Skeleton → Skeleton
  mark (base a) = mark_base ((signature_of es).kinds a) a
  mark (arrow_skeleton s t) = arrow_skeleton (mark s) (mark t)

  abbrev pub mark_all : List Skeleton → List Skeleton
  mark_all ss = map mark ss

  pub declared_same : (s : Skeleton) → SkeletonIsDeclared es s → mark s ≡ s
  declared_same (base a) (K, e) = ap (λ x. mark_base x a) e
  declared_same (arrow_skeleton s t) (h, i) = let p = declared_same s h in let q = declared_same t i in cc (p, q)

  all_same : (ss : List Skeleton) → AllDeclared es ss → mark_all ss ≡ ss
  all_same [] h = refl
  all_same (s ∷ ss) (h, i) = let p = declared_same s h in let q = all_same ss i in cc (p, q)

  base_declared : (a : ℕ) (x : Option Kind) → (signature_of es).kinds a ≡ x → mark_base x a ≡ base a → (K : Kind) × ((signature_of es).kinds a ≡ Some K)
  base_declared a None h e = absurd cc
  base_declared a (Some K) h e = (K, h)

  pub same_declared : (s : Skeleton) → mark s ≡ s → SkeletonIsDeclared es s
  same_declared (base a) e = base_declared a ((signature_of es).kinds a) refl e
  same_declared (arrow_skeleton s t) e = let p : mark s ≡ s = cc in let q : mark t ≡ t = cc in (same_declared s p, same_declared t q)

  pub same_all : (ss : List Skeleton) → mark_all ss ≡ ss → AllDeclared es ss
  same_all [] e = tt
  same_all (s ∷ ss) e = let p : mark s ≡ s = cc in let q : mark_all ss ≡ ss = cc in (same_declared s p, same_all ss q)

  abbrev mark_family : Family → Family
  mark_family (known ss t) = known (mark_all ss) (mark t)
  mark_family (unknown t) = unknown (mark t)

  applied_marked : (s u : Skeleton) (p : List Skeleton) (t : Skeleton) (q : List Skeleton) → applied s u p ≡ Some (t, q) → applied (mark s) (mark u) (mark_all p) ≡ Some (mark t, mark_all q)
  applied_marked (arrow_skeleton x y) u p t q e =
      let i = if_passed (same_skeleton x u) y t p q e in
      passed (same_skeleton (mark x) (mark u)) (mark y) (mark_all p) (skeletons_same (mark x) (mark u) (ap mark (equal_skeletons x u i.0))) ∙ given_same (mark y) (mark t) (mark_all p) (mark_all q) (ap mark i.1) (ap mark_all i.2)
  applied_marked (base c) u p t q e = absurd cc

  ascribed_marked : (s u : Skeleton) (p : List Skeleton) (t : Skeleton) (q : List Skeleton) → ascribed s u p ≡ Some (t, q) → ascribed (mark s) (mark u) (mark_all p) ≡ Some (mark t, mark_all q)
  ascribed_marked s u p t q e =
      let i = if_passed (same_skeleton s u) s t p q e in
      passed (same_skeleton (mark s) (mark u)) (mark s) (mark_all p) (skeletons_same (mark s) (mark u) (ap mark (equal_skeletons s u i.0))) ∙ given_same (mark s) (mark t) (mark_all p) (mark_all q) (ap mark i.1) (ap mark_all i.2)

  family_applied_marked : (F : Family) (u : Skeleton) (p : List Skeleton) (G : Family) (q : List Skeleton) → family_applied F u p ≡ Some (G, q) → family_applied (mark_family F) (mark u) (mark_all p) ≡ Some (mark_family G, mark_all q)
  family_applied_marked (known [] t) u p G q e = absurd cc
  family_applied_marked (known (s ∷ ss) t) u p G q e =
      let i = if_passed (same_skeleton s u) (known ss t) G p q e in
      passed (same_skeleton (mark s) (mark u)) (known (mark_all ss) (mark t)) (mark_all p) (skeletons_same (mark s) (mark u) (ap mark (equal_skeletons s u i.0))) ∙ given_same (mark_family (known ss t)) (mark_family G) (mark_all p) (mark_all q) (ap mark_family i.1) (ap mark_all i.2)
  family_applied_marked (unknown t) u [] G q e = absurd cc
  family_applied_marked (unknown t) u (any ∷ p) G q e = let i = parts_of (unknown t) G p q e in given_same (mark_family (unknown t)) (mark_family G) (mark_all p) (mark_all q) (ap mark_family i.0) (ap mark_all i.1)

  family_ascribed_marked : (F : Family) (ds p : List Skeleton) (G : Family) (q : List Skeleton) → family_ascribed F ds p ≡ Some (G, q) → family_ascribed (mark_family F) (mark_all ds) (mark_all p) ≡ Some (mark_family G, mark_all q)
  family_ascribed_marked (known ss t) ds p G q e =
      let i = if_passed (same_skeletons ss ds) (known ss t) G p q e in
      passed (same_skeletons (mark_all ss) (mark_all ds)) (known (mark_all ss) (mark t)) (mark_all p) (lists_same (mark_all ss) (mark_all ds) (ap mark_all (equal_lists ss ds i.0))) ∙ given_same (mark_family (known ss t)) (mark_family G) (mark_all p) (mark_all q) (ap mark_family i.1) (ap mark_all i.2)
  family_ascribed_marked (unknown t) [] p G q e = let i = parts_of (known [] t) G p q e in given_same (mark_family (known [] t)) (mark_family G) (mark_all p) (mark_all q) (ap mark_family i.0) (ap mark_all i.1)
  family_ascribed_marked (unknown t) (d ∷ ds) [] G q e = absurd cc
  family_ascribed_marked (unknown t) (d ∷ ds) (any ∷ p) G q e = let i = parts_of (known (d ∷ ds) t) G p q e in given_same (mark_family (known (d ∷ ds) t)) (mark_family G) (mark_all p) (mark_all q) (ap mark_family i.0) (ap mark_all i.1)

  whole_marked : (F : Family) (p : List Skeleton) (t : Skeleton) (q : List Skeleton) → whole F p ≡ Some (t, q) → whole (mark_family F) (mark_all p) ≡ Some (mark t, mark_all q)
  whole_marked (known [] s) p t q e = let i = parts_of s t p q e in given_same (mark s) (mark t) (mark_all p) (mark_all q) (ap mark i.0) (ap mark_all i.1)
  whole_marked (known (d ∷ ds) s) p t q e = absurd cc
  whole_marked (unknown s) p t q e = let i = parts_of s t p q e in given_same (mark s) (mark t) (mark_all p) (mark_all q) (ap mark i.0) (ap mark_all i.1)

  take_marked : (o : List Skeleton) (s : Skeleton) (q : List Skeleton) → take o ≡ Some (s, q) → take (mark_all o) ≡ Some (mark s, mark_all q)
  take_marked [] s q e = absurd cc
  take_marked (t ∷ o) s q e = let i = parts_of t s o q e in given_same (mark t) (mark s) (mark_all o) (mark_all q) (ap mark i.0) (ap mark_all i.1)

  found_marked : {A B : Type 0} (g : A → B) (x : Option A) (y : Option B) (o : List Skeleton) (a : A) (q : List Skeleton) → ((b : A) → x ≡ Some b → y ≡ Some (g b)) → found x o ≡ Some (a, q) → found y (mark_all o) ≡ Some (g a, mark_all q)
  found_marked g None y o a q h e = absurd cc
  found_marked g (Some b) y o a q h e = let i = parts_of b a o q e in ap (λ z. found z (mark_all o)) (h b refl) ∙ given_same (g b) (g a) (mark_all o) (mark_all q) (ap g i.0) (ap mark_all i.1)

  at_marked : (G : List Skeleton) (i : ℕ) (s : Skeleton) → slice_get G i ≡ Some s → slice_get (mark_all G) i ≡ Some (mark s)
  at_marked [] zero s e = absurd cc
  at_marked [] (suc i) s e = absurd cc
  at_marked (t ∷ G) zero s e = let p : t ≡ s = cc in ap (λ x. Some (mark x)) p
  at_marked (t ∷ G) (suc i) s e = at_marked G i s e

  module _ (canonical : IsCanonicalSignature es) (f : Frees) where
    abbrev pub marked_frees : Frees
    marked_frees x = mark (f x)

    object_same : (c : ℕ) (e : Entry) (b : Body) (s : Skeleton) → entry es c ≡ Some e → e.body ≡ b → object_skeleton e.implicit b ≡ Some s → SkeletonIsDeclared es s
    object_same c e (declare_family K) s h i g = absurd cc
    object_same c e (declare_constant A) s h i g = behind_declared es e.implicit (skeleton A) s g (subst (BodyIsDeclared es) i (entry_declared es canonical c e h))
    object_same c e (declare_definition M A b) s h i g = behind_declared es e.implicit (skeleton A) s g (subst (BodyIsDeclared es) i (entry_declared es canonical c e h))

    entry_same : (c : ℕ) (x : Option Entry) (s : Skeleton) → entry es c ≡ x → entry_skeleton x ≡ Some s → SkeletonIsDeclared es s
    entry_same c None s h e = absurd cc
    entry_same c (Some d) s h e = object_same c d d.body s h refl e

    name_marked : (G : List Skeleton) (h : Option Head) (x : List ℕ) (s : Skeleton) → name_skeleton es f G h x ≡ Some s → name_skeleton es marked_frees (mark_all G) h x ≡ Some (mark s)
    name_marked G (Some (constant c)) x s e = e ∙ ap (λ (t : Skeleton). Some t) (sym (declared_same s (entry_same c (entry es c) s refl e)))
    name_marked G (Some (variable i)) x s e = at_marked G i s e
    name_marked G (Some (metavariable m)) x s e = absurd cc
    name_marked G None x s e = let u = upper_parts (is_uppercase x) (f x) s e in ap (λ (b : Bool). if b then Some (mark (f x)) else None) u.0 ∙ ap (λ t. Some (mark t)) u.1

    family_body_same : (c : ℕ) (e : Entry) (b : Body) (F : Family) → entry es c ≡ Some e → e.body ≡ b → family_of_body c e.implicit b ≡ Some F → mark_family F ≡ F
    family_body_same c e (declare_family K) F h i g =
        let kind : (signature_of es).kinds c ≡ Some K = ap kind_of h ∙ ap kind_of_body i in
        let target : mark (base c) ≡ base c = declared_same (base c) (K, kind) in
        let all = all_same (drop e.implicit (due K)) (drop_declared es e.implicit (due K) (subst (BodyIsDeclared es) i (entry_declared es canonical c e h))) in
        let same : known (drop e.implicit (due K)) (base c) ≡ F = cc in
        let marked : mark_family (known (drop e.implicit (due K)) (base c)) ≡ known (drop e.implicit (due K)) (base c) = ap (λ ss. known ss (mark (base c))) all ∙ ap (known (drop e.implicit (due K))) target in
        subst (λ E. mark_family E ≡ E) same marked
    family_body_same c e (declare_constant A) F h i g = absurd cc
    family_body_same c e (declare_definition M A b) F h i g = absurd cc

    family_entry_same : (c : ℕ) (x : Option Entry) (F : Family) → entry es c ≡ x → family_of_entry c x ≡ Some F → mark_family F ≡ F
    family_entry_same c None F h e = absurd cc
    family_entry_same c (Some d) F h e = family_body_same c d d.body F h refl e

    family_name_marked : (h : Option Head) (F : Family) → family_named es h ≡ Some F → family_named es h ≡ Some (mark_family F)
    family_name_marked (Some (constant c)) F e = e ∙ ap (λ (E : Family). Some E) (sym (family_entry_same c (entry es c) F refl e))
    family_name_marked (Some (variable i)) F e = absurd cc
    family_name_marked (Some (metavariable m)) F e = absurd cc
    family_name_marked None F e = absurd cc

    type_of_family : (N : Names) (G : List Skeleton) (A : Term) (o : List Skeleton) (s : Skeleton) (q : List Skeleton)
        → ((F : Family) (p : List Skeleton) → family_skeleton es f N G A o ≡ Some (F, p) → family_skeleton es marked_frees N (mark_all G) A (mark_all o) ≡ Some (mark_family F, mark_all p))
        → type_skeleton es f N G A o ≡ Some (s, q) → type_skeleton es marked_frees N (mark_all G) A (mark_all o) ≡ Some (mark s, mark_all q)
    type_of_family N G A o s q h e = let c = and_then_parts (family_skeleton es f N G A o) whole s q e in ap (λ r. and_then r whole) (h c.0 c.1 c.2) ∙ whole_marked c.0 c.1 s q c.3

    mutual
      pub term_marked : (T : Term) (N : Names) (G o : List Skeleton) (s : Skeleton) (q : List Skeleton) → term_skeleton es f N G T o ≡ Some (s, q) → term_skeleton es marked_frees N (mark_all G) T (mark_all o) ≡ Some (mark s, mark_all q)
      term_marked (identifier x at) N G o s q e = found_marked mark (name_skeleton es f G (named es N x) x) (name_skeleton es marked_frees (mark_all G) (named es N x) x) o s q (name_marked G (named es N x) x) e
      term_marked (hole at) N G o s q e = take_marked o s q e
      term_marked star N G o s q e = absurd cc
      term_marked (arrow U V) N G o s q e = absurd cc
      term_marked (pi x at D V) N G o s q e = absurd cc
      term_marked (lambda x at D T) N G o s q e =
          let a = and_then_parts (domain_skeleton es f N G D o) (λ k p. and_then (term_skeleton es f (binder_name x ∷ N) (k ∷ G) T p) (λ l m. given (arrow_skeleton k l) m)) s q e in
          let b = and_then_parts (term_skeleton es f (binder_name x ∷ N) (a.0 ∷ G) T a.1) (λ l m. given (arrow_skeleton a.0 l) m) s q a.3 in
          let i = parts_of (arrow_skeleton a.0 b.0) s b.1 q b.3 in
          ap (λ r. and_then r (λ k p. and_then (term_skeleton es marked_frees (binder_name x ∷ N) (k ∷ mark_all G) T p) (λ l m. given (arrow_skeleton k l) m))) (domain_marked D N G o a.0 a.1 a.2)
          ∙ ap (λ r. and_then r (λ l m. given (arrow_skeleton (mark a.0) l) m)) (term_marked T (binder_name x ∷ N) (a.0 ∷ G) a.1 b.0 b.1 b.2)
          ∙ given_same (mark (arrow_skeleton a.0 b.0)) (mark s) (mark_all b.1) (mark_all q) (ap mark i.0) (ap mark_all i.1)
      term_marked (application T P) N G o s q e =
          let a = and_then_parts (term_skeleton es f N G T o) (λ k p. and_then (term_skeleton es f N G P p) (applied k)) s q e in
          let b = and_then_parts (term_skeleton es f N G P a.1) (applied a.0) s q a.3 in
          ap (λ r. and_then r (λ k p. and_then (term_skeleton es marked_frees N (mark_all G) P p) (applied k))) (term_marked T N G o a.0 a.1 a.2)
          ∙ ap (λ r. and_then r (applied (mark a.0))) (term_marked P N G a.1 b.0 b.1 b.2) ∙ applied_marked a.0 b.0 b.1 s q b.3
      term_marked (ascription T A) N G o s q e =
          let a = and_then_parts (term_skeleton es f N G T o) (λ k p. and_then (type_skeleton es f N G A p) (ascribed k)) s q e in
          let b = and_then_parts (type_skeleton es f N G A a.1) (ascribed a.0) s q a.3 in
          ap (λ r. and_then r (λ k p. and_then (type_skeleton es marked_frees N (mark_all G) A p) (ascribed k))) (term_marked T N G o a.0 a.1 a.2)
          ∙ ap (λ r. and_then r (ascribed (mark a.0))) (type_of_family N G A a.1 b.0 b.1 (λ F p h. family_marked A N G a.1 F p h) b.2) ∙ ascribed_marked a.0 b.0 b.1 s q b.3

      pub family_marked : (T : Term) (N : Names) (G o : List Skeleton) (F : Family) (q : List Skeleton) → family_skeleton es f N G T o ≡ Some (F, q) → family_skeleton es marked_frees N (mark_all G) T (mark_all o) ≡ Some (mark_family F, mark_all q)
      family_marked (identifier x at) N G o F q e = found_marked mark_family (family_named es (named es N x)) (family_named es (named es N x)) o F q (family_name_marked (named es N x)) e
      family_marked (hole at) N G o F q e =
          let a = and_then_parts (take o) (λ t p. given (unknown t) p) F q e in
          let i = parts_of (unknown a.0) F a.1 q a.3 in
          ap (λ r. and_then r (λ t p. given (unknown t) p)) (take_marked o a.0 a.1 a.2) ∙ given_same (mark_family (unknown a.0)) (mark_family F) (mark_all a.1) (mark_all q) (ap mark_family i.0) (ap mark_all i.1)
      family_marked star N G o F q e = absurd cc
      family_marked (arrow U V) N G o F q e =
          let a = and_then_parts (type_skeleton es f N G U o) (λ k p. and_then (type_skeleton es f (None ∷ N) (k ∷ G) V p) (λ l m. given (known [] (arrow_skeleton k l)) m)) F q e in
          let b = and_then_parts (type_skeleton es f (None ∷ N) (a.0 ∷ G) V a.1) (λ l m. given (known [] (arrow_skeleton a.0 l)) m) F q a.3 in
          let i = parts_of (known [] (arrow_skeleton a.0 b.0)) F b.1 q b.3 in
          ap (λ r. and_then r (λ k p. and_then (type_skeleton es marked_frees (None ∷ N) (k ∷ mark_all G) V p) (λ l m. given (known [] (arrow_skeleton k l)) m))) (type_of_family N G U o a.0 a.1 (λ E p h. family_marked U N G o E p h) a.2)
          ∙ ap (λ r. and_then r (λ l m. given (known [] (arrow_skeleton (mark a.0) l)) m)) (type_of_family (None ∷ N) (a.0 ∷ G) V a.1 b.0 b.1 (λ E p h. family_marked V (None ∷ N) (a.0 ∷ G) a.1 E p h) b.2)
          ∙ given_same (mark_family (known [] (arrow_skeleton a.0 b.0))) (mark_family F) (mark_all b.1) (mark_all q) (ap mark_family i.0) (ap mark_all i.1)
      family_marked (pi x at D V) N G o F q e =
          let a = and_then_parts (domain_skeleton es f N G D o) (λ k p. and_then (type_skeleton es f (binder_name x ∷ N) (k ∷ G) V p) (λ l m. given (known [] (arrow_skeleton k l)) m)) F q e in
          let b = and_then_parts (type_skeleton es f (binder_name x ∷ N) (a.0 ∷ G) V a.1) (λ l m. given (known [] (arrow_skeleton a.0 l)) m) F q a.3 in
          let i = parts_of (known [] (arrow_skeleton a.0 b.0)) F b.1 q b.3 in
          ap (λ r. and_then r (λ k p. and_then (type_skeleton es marked_frees (binder_name x ∷ N) (k ∷ mark_all G) V p) (λ l m. given (known [] (arrow_skeleton k l)) m))) (domain_marked D N G o a.0 a.1 a.2)
          ∙ ap (λ r. and_then r (λ l m. given (known [] (arrow_skeleton (mark a.0) l)) m)) (type_of_family (binder_name x ∷ N) (a.0 ∷ G) V a.1 b.0 b.1 (λ E p h. family_marked V (binder_name x ∷ N) (a.0 ∷ G) a.1 E p h) b.2)
          ∙ given_same (mark_family (known [] (arrow_skeleton a.0 b.0))) (mark_family F) (mark_all b.1) (mark_all q) (ap mark_family i.0) (ap mark_all i.1)
      family_marked (lambda x at D T) N G o F q e = absurd cc
      family_marked (application T P) N G o F q e =
          let a = and_then_parts (family_skeleton es f N G T o) (λ k p. and_then (term_skeleton es f N G P p) (family_applied k)) F q e in
          let b = and_then_parts (term_skeleton es f N G P a.1) (family_applied a.0) F q a.3 in
          ap (λ r. and_then r (λ k p. and_then (term_skeleton es marked_frees N (mark_all G) P p) (family_applied k))) (family_marked T N G o a.0 a.1 a.2)
          ∙ ap (λ r. and_then r (family_applied (mark_family a.0))) (term_marked P N G a.1 b.0 b.1 b.2) ∙ family_applied_marked a.0 b.0 b.1 F q b.3
      family_marked (ascription T K) N G o F q e =
          let a = and_then_parts (family_skeleton es f N G T o) (λ k p. and_then (kind_due es f N G K p) (family_ascribed k)) F q e in
          let b = and_then_parts (kind_due es f N G K a.1) (family_ascribed a.0) F q a.3 in
          ap (λ r. and_then r (λ k p. and_then (kind_due es marked_frees N (mark_all G) K p) (family_ascribed k))) (family_marked T N G o a.0 a.1 a.2)
          ∙ ap (λ r. and_then r (family_ascribed (mark_family a.0))) (kind_marked K N G a.1 b.0 b.1 b.2) ∙ family_ascribed_marked a.0 b.0 b.1 F q b.3

      pub domain_marked : (D : Domain) (N : Names) (G o : List Skeleton) (s : Skeleton) (q : List Skeleton) → domain_skeleton es f N G D o ≡ Some (s, q) → domain_skeleton es marked_frees N (mark_all G) D (mark_all o) ≡ Some (mark s, mark_all q)
      domain_marked untyped N G o s q e = take_marked o s q e
      domain_marked (typed A) N G o s q e = type_of_family N G A o s q (λ F p h. family_marked A N G o F p h) e

      pub kind_marked : (K : Term) (N : Names) (G o ds q : List Skeleton) → kind_due es f N G K o ≡ Some (ds, q) → kind_due es marked_frees N (mark_all G) K (mark_all o) ≡ Some (mark_all ds, mark_all q)
      kind_marked (identifier x at) N G o ds q e = absurd cc
      kind_marked (hole at) N G o ds q e = absurd cc
      kind_marked star N G o ds q e = let none : List Skeleton = [] in let i = parts_of none ds o q e in given_same (mark_all none) (mark_all ds) (mark_all o) (mark_all q) (ap mark_all i.0) (ap mark_all i.1)
      kind_marked (arrow U K) N G o ds q e =
          let a = and_then_parts (type_skeleton es f N G U o) (λ k p. and_then (kind_due es f (None ∷ N) (k ∷ G) K p) (λ l m. given (k ∷ l) m)) ds q e in
          let b = and_then_parts (kind_due es f (None ∷ N) (a.0 ∷ G) K a.1) (λ l m. given (a.0 ∷ l) m) ds q a.3 in
          let i = parts_of (a.0 ∷ b.0) ds b.1 q b.3 in
          ap (λ r. and_then r (λ k p. and_then (kind_due es marked_frees (None ∷ N) (k ∷ mark_all G) K p) (λ l m. given (k ∷ l) m))) (type_of_family N G U o a.0 a.1 (λ E p h. family_marked U N G o E p h) a.2)
          ∙ ap (λ r. and_then r (λ l m. given (mark a.0 ∷ l) m)) (kind_marked K (None ∷ N) (a.0 ∷ G) a.1 b.0 b.1 b.2)
          ∙ given_same (mark_all (a.0 ∷ b.0)) (mark_all ds) (mark_all b.1) (mark_all q) (ap mark_all i.0) (ap mark_all i.1)
      kind_marked (pi x at D K) N G o ds q e =
          let a = and_then_parts (domain_skeleton es f N G D o) (λ k p. and_then (kind_due es f (binder_name x ∷ N) (k ∷ G) K p) (λ l m. given (k ∷ l) m)) ds q e in
          let b = and_then_parts (kind_due es f (binder_name x ∷ N) (a.0 ∷ G) K a.1) (λ l m. given (a.0 ∷ l) m) ds q a.3 in
          let i = parts_of (a.0 ∷ b.0) ds b.1 q b.3 in
          ap (λ r. and_then r (λ k p. and_then (kind_due es marked_frees (binder_name x ∷ N) (k ∷ mark_all G) K p) (λ l m. given (k ∷ l) m))) (domain_marked D N G o a.0 a.1 a.2)
          ∙ ap (λ r. and_then r (λ l m. given (mark a.0 ∷ l) m)) (kind_marked K (binder_name x ∷ N) (a.0 ∷ G) a.1 b.0 b.1 b.2)
          ∙ given_same (mark_all (a.0 ∷ b.0)) (mark_all ds) (mark_all b.1) (mark_all q) (ap mark_all i.0) (ap mark_all i.1)
      kind_marked (lambda x at D T) N G o ds q e = absurd cc
      kind_marked (application T P) N G o ds q e = absurd cc
      kind_marked (ascription T A) N G o ds q e = absurd cc

    type_marked : (A : Term) (N : Names) (G o : List Skeleton) (s : Skeleton) (q : List Skeleton) → type_skeleton es f N G A o ≡ Some (s, q) → type_skeleton es marked_frees N (mark_all G) A (mark_all o) ≡ Some (mark s, mark_all q)
    type_marked A N G o s q e = type_of_family N G A o s q (λ F p h. family_marked A N G o F p h) e

    classifier_marked : (U : Term) (o : List Skeleton) (b : Bool) → FitsClassifier es f U o b → FitsClassifier es marked_frees U (mark_all o) b
    classifier_marked U o true (ds, e) = (mark_all ds, kind_marked U [] [] o ds [] e)
    classifier_marked U o false (s, e) = (mark s, type_marked U [] [] o s [] e)

    definition_marked : (A : Option Term) (M : Term) (o : List Skeleton) (s : Skeleton) (q : List Skeleton) → definition_skeleton es f A M o ≡ Some (s, q) → definition_skeleton es marked_frees A M (mark_all o) ≡ Some (mark s, mark_all q)
    definition_marked None M o s q e = term_marked M [] [] o s q e
    definition_marked (Some A) M o s q e =
        let a = and_then_parts (type_skeleton es f [] [] A o) (λ k p. and_then (term_skeleton es f [] [] M p) (ascribed k)) s q e in
        let b = and_then_parts (term_skeleton es f [] [] M a.1) (ascribed a.0) s q a.3 in
        ap (λ r. and_then r (λ k p. and_then (term_skeleton es marked_frees [] [] M p) (ascribed k))) (type_marked A [] [] o a.0 a.1 a.2)
        ∙ ap (λ r. and_then r (ascribed (mark a.0))) (term_marked M [] [] a.1 b.0 b.1 b.2) ∙ ascribed_marked a.0 b.0 b.1 s q b.3

    -- what fits fits with each skeleton changed
    pub fits_marked : (d : Declaration) (o : List Skeleton) → Fits es f o d → Fits es marked_frees (mark_all o) d
    fits_marked (declare c at U) o h = classifier_marked U o (ends_in_type U) h
    fits_marked (define c A M b) o (s, e) = (mark s, definition_marked A M o s [] e)
    fits_marked (prefer a x y) o h = h
    fits_marked (give fix names) o h = h
