-- What is resolved and has skeletons fits.
use Rattle.std.proofs.Common.{◌≡◌, ℕ, zero, suc, List, [], ◌∷◌, drop, slice_get, option_map, Bool, true, false, ◌&&◌, Option, None, Some, inl, inr, if◌then◌else◌, refl, sym, ap, ap₂, ◌∙◌, subst}
use Rattle.std.specs.Str.{bytes_eq}
use Rattle.lf.specs.Entries.{Body, Entry, declare_constant, declare_definition, declare_family, entry}
use Rattle.lf.specs.SkeletonTyping.{SkeletonAt}
use Rattle.lf.specs.Syntax.{Kind, LfType, Skeleton, arrow as arrow_skeleton, base, kind_pi, kind_skeleton, skeleton, star as lf_star}
use Rattle.lf_elaboration.specs.BodySkeletons.{BodyHasSkeletons, due_skeleton}
use Rattle.lf_elaboration.specs.Principal.{WrittenBody, written_constant, written_definition, written_definition_of, written_family}
use Rattle.lf_elaboration.specs.Written as written
use Rattle.lf_elaboration.specs.Written.{Place, Written, WrittenDomain, WrittenKind, WrittenType, written_star}
use Rattle.lf_elaboration.specs.WrittenSkeletons.{DomainHasSkeleton, FamilyHasSkeleton, FamilyNameLeaves, KindHasSkeleton, LeavesSkeleton, NameHasSkeleton, WrittenHasSkeleton, WrittenTypeHasSkeleton, type_in_terms}
use Rattle.tw_approx.specs.Answer.{HasRow, Rows, frees_of}
use Rattle.tw_approx.specs.Names.{IsFreeIn, IsFreeInDomain, IsFreeVariable}
use Rattle.tw_approx.specs.Readings.{Reading, and_then, found}
use Rattle.tw_approx.specs.Skeletons.{Family, Fits, FitsClassifier, applied, ascribed, behind, definition_skeleton, domain_skeleton, due, entry_skeleton, family_applied, family_ascribed, family_named, family_of_body, family_of_entry, family_skeleton, kind_due, known, name_skeleton, object_skeleton, same_skeleton, same_skeletons, term_skeleton, type_skeleton, unknown, whole}
use Rattle.tw_approx.proofs.Naming.{name_is}
use Rattle.tw_approx.proofs.Sequences.{and_then_parts, given, parts_of}
use Rattle.tw_approx.proofs.Unifying.{lists_same, passed, skeletons_same}
use Rattle.tw_names.specs.Scope.{binder_name, head_named, named}
use Rattle.tw_names.specs.Texts.{ends_in_type}
use Rattle.tw_names.specs.Unknown.{is_uppercase}
use Rattle.tw_lexer.specs.declared.place.Place.{Place as TextPlace}
use Rattle.tw_parse.specs.Syntax.{Declaration, Domain, Term, application, arrow, ascription, declare, define, give, hole, identifier, lambda, pi, prefer, star, typed, untyped}
use Rattle.tw_fixity.specs.Names.{Names, variable_of}
use Rattle.tw_signature.specs.Names.{number_of}
use Rattle.tw_written.specs.View.{place_of}
use Rattle.tw_resolve.specs.Fitting.{ResolvedFits}
use Rattle.tw_resolve.specs.Resolved.{body_read, classifier_read, definition_read, names_of, skeletons_of, taken_whole}
use Rattle.tw_resolve.specs.Resolving.{is_higher, is_type_hole, made, of_kind, on_argument, resolved_domain, resolved_family, resolved_kind, resolved_name, resolved_term, resolved_type, with_both}
use Rattle.tw_resolve.proofs.Names.{AreAlike, IsThinner, placed, thinner_by, thinner_empty, thinner_under}

-- one reading behind another
then_is : {A B : Type 0} (r : Reading A) (g : A → List Skeleton → Reading B) (a : A) (p : List Skeleton) (x : Reading B) → r ≡ Some (a, p) → g a p ≡ x → and_then r g ≡ x
then_is r g a p x e f = ap (λ z. and_then z g) e ∙ f

same_rest : {A : Type 0} (a : A) (p q : List Skeleton) → p ≡ q → given a p ≡ Some (a, q)
same_rest a p q e = ap (λ z. given a z) e

-- two parts that were resolved
pub record Two {A B C : Type 0} (make : A → B → List Skeleton → Reading C) (r : Reading A) (f : List Skeleton → Reading B) (c : C) (q : List Skeleton) : Type 0 where
  pub first : A
  pub middle : List Skeleton
  pub first_is : r ≡ Some (first, middle)
  pub second : B
  pub end : List Skeleton
  pub second_is : f middle ≡ Some (second, end)
  pub makes : make first second end ≡ Some (c, q)

two : {A B C : Type 0} (make : A → B → List Skeleton → Reading C) (r : Reading A) (f : List Skeleton → Reading B) (c : C) (q : List Skeleton) → with_both make r f ≡ Some (c, q) → Two make r f c q
two make r f c q e =
    let a = and_then_parts r (λ x p. and_then (f p) (make x)) c q e in
    let b = and_then_parts (f a.1) (make a.0) c q a.3 in
    record { first = a.0; middle = a.1; first_is = a.2; second = b.0; end = b.1; second_is = b.2; makes = b.3 }

at_place : (G : List Skeleton) (i : ℕ) (s : Skeleton) → SkeletonAt G i s → slice_get G i ≡ Some s
at_place [] i s h = absurd h
at_place (t ∷ G) zero s h = ap Some h
at_place (t ∷ G) (suc i) s h = at_place G i s h

leaves_behind : (k : ℕ) (t u : Skeleton) → LeavesSkeleton k t u → behind k t ≡ Some u
leaves_behind zero t u h = ap Some h
leaves_behind (suc k) (arrow_skeleton a b) u h = leaves_behind k b u h
leaves_behind (suc k) (base a) u h = absurd h

whole_due : (c : ℕ) (K : Kind) → kind_skeleton c K ≡ due_skeleton (due K) c
whole_due c (kind_pi A K) = ap (arrow_skeleton (skeleton A)) (whole_due c K)
whole_due c lf_star = refl

due_left : (k c : ℕ) (K : Kind) (t : Skeleton) → LeavesSkeleton k (kind_skeleton c K) t → t ≡ due_skeleton (drop k (due K)) c
due_left zero c K t h = sym h ∙ whole_due c K
due_left (suc k) c (kind_pi A K) t h = due_left k c K t h
due_left (suc k) c lf_star t h = absurd h

same_dues : (ss ds : List Skeleton) (a : ℕ) → due_skeleton ss a ≡ due_skeleton ds a → ss ≡ ds
same_dues [] [] a e = refl
same_dues [] (d ∷ ds) a e = absurd cc
same_dues (s ∷ ss) [] a e = absurd cc
same_dues (s ∷ ss) (d ∷ ds) a e =
    let p : s ≡ d = cc in
    let q : due_skeleton ss a ≡ due_skeleton ds a = cc in
    ap₂ (λ x xs. x ∷ xs) p (same_dues ss ds a q)

-- a variable that is found by its name has a row of that name
pub found_row : (rows : Rows) (x : List ℕ) (i : ℕ) → variable_of (names_of rows) x ≡ Some i → HasRow x rows
found_row [] x i e = absurd cc
found_row ((y, s) ∷ rows) x i e = by (λ j h. found_row rows x j h) (bytes_eq y x) refl (variable_of (names_of rows) x) refl e
  where
    by : ((j : ℕ) → variable_of (names_of rows) x ≡ Some j → HasRow x rows) → (b : Bool) → bytes_eq y x ≡ b → (o : Option ℕ) → variable_of (names_of rows) x ≡ o → (if b then Some zero else option_map suc o) ≡ Some i → HasRow x ((y, s) ∷ rows)
    by later true t o h k = inl (name_is y x t)
    by later false t (Some j) h k = inr (later j h)
    by later false t None h k = absurd cc

module _ (es : List Entry) (rows : Rows) (upper : (x : List ℕ) → HasRow x rows → is_uppercase x ≡ true) where
  object_is : (e : Entry) (b : Body) (B : LfType) (s : Skeleton) → type_in_terms b ≡ Some B → LeavesSkeleton e.implicit (skeleton B) s → object_skeleton e.implicit b ≡ Some s
  object_is e (declare_family K) B s t h = absurd cc
  object_is e (declare_constant A) B s t h = let p : A ≡ B = cc in leaves_behind e.implicit (skeleton A) s (subst (λ X. LeavesSkeleton e.implicit (skeleton X) s) (sym p) h)
  object_is e (declare_definition M A b) B s t h = let p : A ≡ B = cc in leaves_behind e.implicit (skeleton A) s (subst (λ X. LeavesSkeleton e.implicit (skeleton X) s) (sym p) h)

  entry_is : (c : ℕ) (s : Skeleton) → NameHasSkeleton es (skeletons_of rows) c s → entry_skeleton (entry es c) ≡ Some s
  entry_is c s (e, B, q, t, h) = ap entry_skeleton q ∙ object_is e e.body B s t h

  family_is : (c : ℕ) (t : Skeleton) → FamilyNameLeaves es (skeletons_of rows) c t → (ss : List Skeleton) × (t ≡ due_skeleton ss c) × (family_of_entry c (entry es c) ≡ Some (known ss (base c)))
  family_is c t (e, K, q, b, h) = (drop e.implicit (due K), due_left e.implicit c K t h, ap (family_of_entry c) q ∙ ap (family_of_body c e.implicit) b)

  -- what a name is in a term
  free_is : (G : List Skeleton) (x : List ℕ) (i : Option ℕ) (at : Place) (w : Written) (s : Skeleton) (H : List Skeleton) → variable_of (names_of rows) x ≡ i → resolved_name at None i ≡ Some w → WrittenHasSkeleton es (skeletons_of rows) H w s → name_skeleton es (frees_of rows) G None x ≡ Some s
  free_is G x None at w s H v e h = absurd cc
  free_is G x (Some i) at w s H v e h =
      let r = found_row rows x i v in
      let p = placed rows x r in
      let n : p.0 ≡ i = (let q : Some p.0 ≡ Some i = sym p.1 ∙ v in cc) in
      let w_is : written.free i at ≡ w = cc in
      let at_i : slice_get (skeletons_of rows) i ≡ Some s = subst (λ z. WrittenHasSkeleton es (skeletons_of rows) H z s) (sym w_is) h in
      let same : Some (frees_of rows x) ≡ Some s = sym p.2 ∙ ap (slice_get (skeletons_of rows)) n ∙ at_i in
      ap (λ (b : Bool). if b then Some (frees_of rows x) else None) (upper x r) ∙ same

  name_is_so : (at : Place) (G H : List Skeleton) (i j c : Option ℕ) (x : List ℕ) (w : Written) (s : Skeleton) → AreAlike i G j H → resolved_name at (head_named j c) (variable_of (names_of rows) x) ≡ Some w
      → WrittenHasSkeleton es (skeletons_of rows) H w s → name_skeleton es (frees_of rows) G (head_named i c) x ≡ Some s
  name_is_so at G H (Some i) (Some j) c x w s a e h =
      let w_is : written.bound j ≡ w = cc in
      a ∙ at_place H j s (subst (λ z. WrittenHasSkeleton es (skeletons_of rows) H z s) (sym w_is) h)
  name_is_so at G H None None (Some c) x w s a e h =
      let w_is : written.declared c at ≡ w = cc in
      entry_is c s (subst (λ z. WrittenHasSkeleton es (skeletons_of rows) H z s) (sym w_is) h)
  name_is_so at G H None None None x w s a e h = free_is G x (variable_of (names_of rows) x) at w s H refl e h
  name_is_so at G H (Some i) None c x w s a e h = absurd a
  name_is_so at G H None (Some j) c x w s a e h = absurd a

  -- what a name is as a family
  family_name_is : (at : Place) (G H : List Skeleton) (i j c : Option ℕ) (U : WrittenType) → AreAlike i G j H → resolved_family at (head_named j c) ≡ Some U
      → (a : ℕ) × (U ≡ written.family a at) × (head_named i c ≡ head_named None (Some a))
  family_name_is at G H i (Some j) c U a e = absurd cc
  family_name_is at G H None None (Some c) U a e = (c, cc, refl)
  family_name_is at G H None None None U a e = absurd cc
  family_name_is at G H (Some i) None c U a e = absurd a

  found_is : {A : Type 0} (x : Option A) (o : List Skeleton) (a : A) (q : List Skeleton) → found x o ≡ Some (a, q) → (x ≡ Some a) × (o ≡ q)
  found_is None o a q e = absurd cc
  found_is (Some b) o a q e = let s = parts_of b a o q e in (ap Some s.0, s.1)

  found_as : {A : Type 0} (x : Option A) (o : List Skeleton) (a : A) (q : List Skeleton) → x ≡ Some a → o ≡ q → found x o ≡ Some (a, q)
  found_as x o a q e r = ap (λ z. found z o) e ∙ same_rest a o q r

  -- a family that is a type of this skeleton, as it stands
  abbrev IsWhole : Family → Skeleton → Type 0
  IsWhole (known [] t) s = t ≡ s
  IsWhole (known (d ∷ ds) t) s = ⊥
  IsWhole (unknown t) s = t ≡ s

  whole_is : (F : Family) (s : Skeleton) (q : List Skeleton) → IsWhole F s → whole F q ≡ Some (s, q)
  whole_is (known [] t) s q h = ap (λ z. given z q) h
  whole_is (known (d ∷ ds) t) s q h = absurd h
  whole_is (unknown t) s q h = ap (λ z. given z q) h

  abbrev f : List ℕ → Skeleton
  f = frees_of rows

  abbrev ts : List Skeleton
  ts = skeletons_of rows

  abbrev free : Names
  free = names_of rows

  -- what the text has as a type, and as a family that is due something
  abbrev ReadsType : Names → List Skeleton → Term → List Skeleton → Skeleton → List Skeleton → Type 0
  ReadsType N G T o s q = (F : Family) × (family_skeleton es f N G T o ≡ Some (F, q)) × IsWhole F s

  abbrev ReadsFamily : Names → List Skeleton → Term → List Skeleton → ℕ → Skeleton → List Skeleton → Type 0
  ReadsFamily N G T o a t q = (ss : List Skeleton) × (t ≡ due_skeleton ss a) × (family_skeleton es f N G T o ≡ Some (known ss (base a), q))

  reads_type : (N : Names) (G : List Skeleton) (T : Term) (o : List Skeleton) (s : Skeleton) (q : List Skeleton) → ReadsType N G T o s q → type_skeleton es f N G T o ≡ Some (s, q)
  reads_type N G T o s q (F, e, h) = then_is (family_skeleton es f N G T o) whole F q (Some (s, q)) e (whole_is F s q h)

  -- a family that is due nothing is a type
  none_due : (N : Names) (G : List Skeleton) (T : Term) (o : List Skeleton) (a : ℕ) (q : List Skeleton) → ReadsFamily N G T o a (base a) q → ReadsType N G T o (base a) q
  none_due N G T o a q ([], t, e) = (known [] (base a), e, refl)
  none_due N G T o a q (s ∷ ss, t, e) = absurd cc

  -- a family on an argument
  on_argument_is : (N : Names) (G : List Skeleton) (T P : Term) (o p q : List Skeleton) (a : ℕ) (x t : Skeleton) → ReadsFamily N G T o a (arrow_skeleton x t) p → term_skeleton es f N G P p ≡ Some (x, q) → ReadsFamily N G (application T P) o a t q
  on_argument_is N G T P o p q a x t ([], d, e) g = absurd cc
  on_argument_is N G T P o p q a x t (s ∷ ss, d, e) g =
      let s_is : s ≡ x = cc in
      let t_is : t ≡ due_skeleton ss a = cc in (
        ss,
        t_is,
        then_is (family_skeleton es f N G T o) (λ F r. and_then (term_skeleton es f N G P r) (family_applied F)) (known (s ∷ ss) (base a)) p (Some (known ss (base a), q)) e
            (then_is (term_skeleton es f N G P p) (family_applied (known (s ∷ ss) (base a))) x q (Some (known ss (base a), q)) g (passed (same_skeleton s x) (known ss (base a)) q (skeletons_same s x s_is))),
      )

  -- a family with its kind
  of_kind_is : (N : Names) (G : List Skeleton) (T K : Term) (o p q ds : List Skeleton) (a : ℕ) (t : Skeleton) → ReadsFamily N G T o a t p → t ≡ due_skeleton ds a → kind_due es f N G K p ≡ Some (ds, q) → ReadsFamily N G (ascription T K) o a t q
  of_kind_is N G T K o p q ds a t (ss, d, e) h g = (
    ss,
    d,
    then_is (family_skeleton es f N G T o) (λ F r. and_then (kind_due es f N G K r) (family_ascribed F)) (known ss (base a)) p (Some (known ss (base a), q)) e
        (then_is (kind_due es f N G K p) (family_ascribed (known ss (base a))) ds q (Some (known ss (base a), q)) g (passed (same_skeletons ss ds) (known ss (base a)) q (lists_same ss ds (same_dues ss ds a (sym d ∙ h))))),
  )

  whole_ascribed : (F : Family) (s : Skeleton) (q : List Skeleton) → IsWhole F s → family_ascribed F [] q ≡ Some (known [] s, q)
  whole_ascribed (known [] t) s q h = ap (λ z. given (known [] z) q) h
  whole_ascribed (known (d ∷ ds) t) s q h = absurd h
  whole_ascribed (unknown t) s q h = ap (λ z. given (known [] z) q) h

  of_type_is : (N : Names) (G : List Skeleton) (T K : Term) (o p q : List Skeleton) (s : Skeleton) → ReadsType N G T o s p → kind_due es f N G K p ≡ Some ([], q) → ReadsType N G (ascription T K) o s q
  of_type_is N G T K o p q s (F, e, h) g = (
    known [] s,
    then_is (family_skeleton es f N G T o) (λ X r. and_then (kind_due es f N G K r) (family_ascribed X)) F p (Some (known [] s, q)) e
        (then_is (kind_due es f N G K p) (family_ascribed F) [] q (Some (known [] s, q)) g (whole_ascribed F s q h)),
    refl,
  )

  unless_made : {A : Type 0} (b : Bool) (x y : A) (p q : List Skeleton) → (if b then None else given x p) ≡ given y q → (x ≡ y) × (p ≡ q)
  unless_made true x y p q e = absurd cc
  unless_made false x y p q e = parts_of x y p q e

  kind_of_star : (ds : List Skeleton) → base zero ≡ due_skeleton ds zero → ds ≡ []
  kind_of_star [] e = refl
  kind_of_star (d ∷ ds) e = absurd cc

  -- In the scope N with the skeletons G the text is read, and in the scope M with H it was resolved.
  function_fits : (x : List ℕ) (at : TextPlace) (D : Domain) (T : Term) (N : Names) (G H o q : List Skeleton) (s : Skeleton) (d : WrittenDomain) (p : List Skeleton) (w : Written) (r : List Skeleton)
      → ((a : Skeleton) → DomainHasSkeleton es ts H d a → domain_skeleton es f N G D o ≡ Some (a, p))
      → ((a b : Skeleton) → WrittenHasSkeleton es ts (a ∷ H) w b → term_skeleton es f (binder_name x ∷ N) (a ∷ G) T p ≡ Some (b, r))
      → r ≡ q → WrittenHasSkeleton es ts H (written.function d w) s → term_skeleton es f N G (lambda x at D T) o ≡ Some (s, q)
  function_fits x at D T N G H o q (base c) d p w r one two same h = absurd h
  function_fits x at D T N G H o q (arrow_skeleton a b) d p w r one two same (h, k) =
      then_is (domain_skeleton es f N G D o) (λ y n. and_then (term_skeleton es f (binder_name x ∷ N) (y ∷ G) T n) (λ l m. given (arrow_skeleton y l) m)) a p (Some (arrow_skeleton a b, q)) (one a h)
      (then_is (term_skeleton es f (binder_name x ∷ N) (a ∷ G) T p) (λ l m. given (arrow_skeleton a l) m) b r (Some (arrow_skeleton a b, q)) (two a b k) (same_rest (arrow_skeleton a b) r q same))

  family_named_fits : (x : List ℕ) (at : TextPlace) (N : Names) (G : List Skeleton) (o q : List Skeleton) (a : ℕ) (u : Skeleton) → named es N x ≡ head_named None (Some a) → o ≡ q → FamilyNameLeaves es ts a u → ReadsFamily N G (identifier x at) o a u q
  family_named_fits x at N G o q a u n same h =
      let (ss, d, e) = family_is a u h in
      (ss, d, found_as (family_named es (named es N x)) o (known ss (base a)) q (ap (family_named es) n ∙ e) same)

  named_fits : (x : List ℕ) (at : TextPlace) (N : Names) (G H : List Skeleton) (o q : List Skeleton) (a : ℕ) (s : Skeleton) → named es N x ≡ head_named None (Some a) → o ≡ q → WrittenTypeHasSkeleton es ts H (written.family a (place_of at)) s → ReadsType N G (identifier x at) o s q
  named_fits x at N G H o q a (arrow_skeleton b c) n same h = absurd h
  named_fits x at N G H o q a (base b) n same (p, h) =
      subst (λ z. ReadsType N G (identifier x at) o (base z) q) p (none_due N G (identifier x at) o a q (family_named_fits x at N G o q a (base a) n same (subst (λ z. FamilyNameLeaves es ts a (base z)) (sym p) h)))

  arrow_fits : (A B : Term) (N : Names) (G H o q : List Skeleton) (s : Skeleton) (U : WrittenType) (p : List Skeleton) (V : WrittenType) (r : List Skeleton)
      → ((a : Skeleton) → WrittenTypeHasSkeleton es ts H U a → ReadsType N G A o a p)
      → ((a b : Skeleton) → WrittenTypeHasSkeleton es ts H V b → ReadsType (None ∷ N) (a ∷ G) B p b r)
      → r ≡ q → WrittenTypeHasSkeleton es ts H (written.arrow U V) s → ReadsType N G (arrow A B) o s q
  arrow_fits A B N G H o q (base c) U p V r one two same h = absurd h
  arrow_fits A B N G H o q (arrow_skeleton a b) U p V r one two same (h, k) = (
    known [] (arrow_skeleton a b),
    then_is (type_skeleton es f N G A o) (λ y n. and_then (type_skeleton es f (None ∷ N) (y ∷ G) B n) (λ l m. given (known [] (arrow_skeleton y l)) m)) a p (Some (known [] (arrow_skeleton a b), q)) (reads_type N G A o a p (one a h))
        (then_is (type_skeleton es f (None ∷ N) (a ∷ G) B p) (λ l m. given (known [] (arrow_skeleton a l)) m) b r (Some (known [] (arrow_skeleton a b), q)) (reads_type (None ∷ N) (a ∷ G) B p b r (two a b k)) (same_rest (known [] (arrow_skeleton a b)) r q same)),
    refl,
  )

  quantified_fits : (x : List ℕ) (at : TextPlace) (D : Domain) (B : Term) (N : Names) (G H o q : List Skeleton) (s : Skeleton) (d : WrittenDomain) (p : List Skeleton) (V : WrittenType) (r : List Skeleton)
      → ((a : Skeleton) → DomainHasSkeleton es ts H d a → domain_skeleton es f N G D o ≡ Some (a, p))
      → ((a b : Skeleton) → WrittenTypeHasSkeleton es ts (a ∷ H) V b → ReadsType (binder_name x ∷ N) (a ∷ G) B p b r)
      → r ≡ q → WrittenTypeHasSkeleton es ts H (written.quantified d V) s → ReadsType N G (pi x at D B) o s q
  quantified_fits x at D B N G H o q (base c) d p V r one two same h = absurd h
  quantified_fits x at D B N G H o q (arrow_skeleton a b) d p V r one two same (h, k) = (
    known [] (arrow_skeleton a b),
    then_is (domain_skeleton es f N G D o) (λ y n. and_then (type_skeleton es f (binder_name x ∷ N) (y ∷ G) B n) (λ l m. given (known [] (arrow_skeleton y l)) m)) a p (Some (known [] (arrow_skeleton a b), q)) (one a h)
        (then_is (type_skeleton es f (binder_name x ∷ N) (a ∷ G) B p) (λ l m. given (known [] (arrow_skeleton a l)) m) b r (Some (known [] (arrow_skeleton a b), q)) (reads_type (binder_name x ∷ N) (a ∷ G) B p b r (two a b k)) (same_rest (known [] (arrow_skeleton a b)) r q same)),
    refl,
  )

  applied_fits : (T P : Term) (N : Names) (G H o q : List Skeleton) (s : Skeleton) (U : WrittenType) (p : List Skeleton) (w : Written) (r : List Skeleton)
      → ((a : ℕ) (u : Skeleton) → FamilyHasSkeleton es ts H U a u → ReadsFamily N G T o a u p)
      → ((x : Skeleton) → WrittenHasSkeleton es ts H w x → term_skeleton es f N G P p ≡ Some (x, r))
      → r ≡ q → WrittenTypeHasSkeleton es ts H (written.family_applied U w) s → ReadsType N G (application T P) o s q
  applied_fits T P N G H o q (arrow_skeleton b c) U p w r one two same h = absurd h
  applied_fits T P N G H o q (base a) U p w r one two same (x, h, k) =
      subst (ReadsType N G (application T P) o (base a)) same (none_due N G (application T P) o a r (on_argument_is N G T P o p r a x (base a) (one a (arrow_skeleton x (base a)) h) (two x k)))

  -- the arguments that are due to a family of a kind
  abbrev ReadsKind : Names → List Skeleton → Term → List Skeleton → ℕ → Skeleton → List Skeleton → Type 0
  ReadsKind N G K o a u q = (ds : List Skeleton) × (u ≡ due_skeleton ds a) × (kind_due es f N G K o ≡ Some (ds, q))

  ascribed_fits : (T K : Term) (N : Names) (G H o q : List Skeleton) (s : Skeleton) (U : WrittenType) (p : List Skeleton) (k : WrittenKind) (r : List Skeleton)
      → (WrittenTypeHasSkeleton es ts H U s → ReadsType N G T o s p)
      → ((a : ℕ) (u : Skeleton) → KindHasSkeleton es ts H k a u → ReadsKind N G K p a u r)
      → r ≡ q → WrittenTypeHasSkeleton es ts H (written.family_ascribed U k) s → ReadsType N G (ascription T K) o s q
  ascribed_fits T K N G H o q s U p written_star r one two same h =
      let (ds, d, c) = two zero (base zero) refl in
      subst (ReadsType N G (ascription T K) o s) same (of_type_is N G T K o p r s (one h) (c ∙ ap (λ z. given z r) (kind_of_star ds d)))
  ascribed_fits T K N G H o q s U p (written.kind_arrow A k) r one two same h = absurd h
  ascribed_fits T K N G H o q s U p (written.kind_quantified d k) r one two same h = absurd h

  kind_arrow_fits : (A K : Term) (N : Names) (G H o q : List Skeleton) (a : ℕ) (u : Skeleton) (U : WrittenType) (p : List Skeleton) (k : WrittenKind) (r : List Skeleton)
      → ((x : Skeleton) → WrittenTypeHasSkeleton es ts H U x → ReadsType N G A o x p)
      → ((x y : Skeleton) → KindHasSkeleton es ts H k a y → ReadsKind (None ∷ N) (x ∷ G) K p a y r)
      → r ≡ q → KindHasSkeleton es ts H (written.kind_arrow U k) a u → ReadsKind N G (arrow A K) o a u q
  kind_arrow_fits A K N G H o q a (base c) U p k r one two same h = absurd h
  kind_arrow_fits A K N G H o q a (arrow_skeleton x y) U p k r one two same (h, i) =
      let (ds, d, c) = two x y i in (
        x ∷ ds,
        ap (arrow_skeleton x) d,
        then_is (type_skeleton es f N G A o) (λ z n. and_then (kind_due es f (None ∷ N) (z ∷ G) K n) (λ l m. given (z ∷ l) m)) x p (Some (x ∷ ds, q)) (reads_type N G A o x p (one x h))
            (then_is (kind_due es f (None ∷ N) (x ∷ G) K p) (λ l m. given (x ∷ l) m) ds r (Some (x ∷ ds, q)) c (same_rest (x ∷ ds) r q same)),
      )

  kind_quantified_fits : (x : List ℕ) (at : TextPlace) (D : Domain) (K : Term) (N : Names) (G H o q : List Skeleton) (a : ℕ) (u : Skeleton) (d : WrittenDomain) (p : List Skeleton) (k : WrittenKind) (r : List Skeleton)
      → ((y : Skeleton) → DomainHasSkeleton es ts H d y → domain_skeleton es f N G D o ≡ Some (y, p))
      → ((y z : Skeleton) → KindHasSkeleton es ts (y ∷ H) k a z → ReadsKind (binder_name x ∷ N) (y ∷ G) K p a z r)
      → r ≡ q → KindHasSkeleton es ts H (written.kind_quantified d k) a u → ReadsKind N G (pi x at D K) o a u q
  kind_quantified_fits x at D K N G H o q a (base c) d p k r one two same h = absurd h
  kind_quantified_fits x at D K N G H o q a (arrow_skeleton y z) d p k r one two same (h, i) =
      let (ds, v, c) = two y z i in (
        y ∷ ds,
        ap (arrow_skeleton y) v,
        then_is (domain_skeleton es f N G D o) (λ b n. and_then (kind_due es f (binder_name x ∷ N) (b ∷ G) K n) (λ l m. given (b ∷ l) m)) y p (Some (y ∷ ds, q)) (one y h)
            (then_is (kind_due es f (binder_name x ∷ N) (y ∷ G) K p) (λ l m. given (y ∷ l) m) ds r (Some (y ∷ ds, q)) c (same_rest (y ∷ ds) r q same)),
      )

  mutual
    term_fits : (T : Term) (N : Names) (G : List Skeleton) (M : Names) (H : List Skeleton) → IsThinner N G M H → (o : List Skeleton) (w : Written) (q : List Skeleton) (s : Skeleton) → resolved_term es free M T o ≡ Some (w, q) → WrittenHasSkeleton es ts H w s → term_skeleton es f N G T o ≡ Some (s, q)
    term_fits (identifier x at) N G M H t o w q s e h =
        let r = found_is (resolved_name (place_of at) (named es M x) (variable_of free x)) o w q e in
        found_as (name_skeleton es f G (named es N x) x) o s q (name_is_so (place_of at) G H (variable_of N x) (variable_of M x) (number_of es x) x w s (t x) r.0 h) r.1
    term_fits (hole at) N G M H t [] w q s e h = absurd cc
    term_fits (hole at) N G M H t (k ∷ o) w q s e h =
        let r = parts_of (written.hole k (place_of at)) w o q e in
        let k_is : k ≡ s = (subst (λ z. WrittenHasSkeleton es ts H z s) (sym r.0) h).0 in
        ap (λ z. given z o) k_is ∙ same_rest s o q r.1
    term_fits star N G M H t o w q s e h = absurd cc
    term_fits (arrow U V) N G M H t o w q s e h = absurd cc
    term_fits (pi x at D V) N G M H t o w q s e h = absurd cc
    term_fits (lambda x at D T) N G M H t o w q s e h =
        let r = two (made written.function) (resolved_domain es free M (place_of at) D o) (resolved_term es free (binder_name x ∷ M) T) w q e in
        let m = parts_of (written.function r.first r.second) w r.end q r.makes in
        function_fits x at D T N G H o q s r.first r.middle r.second r.end (λ a i. domain_fits D (place_of at) N G M H t o r.first r.middle a r.first_is i)
        (λ a b i. term_fits T (binder_name x ∷ N) (a ∷ G) (binder_name x ∷ M) (a ∷ H) (thinner_under (binder_name x) a N M G H t) r.middle r.second r.end b r.second_is i) m.1 (subst (λ z. WrittenHasSkeleton es ts H z s) (sym m.0) h)
    term_fits (application T P) N G M H t o w q s e h =
        let r = two (made written.applied) (resolved_term es free M T o) (resolved_term es free M P) w q e in
        let m = parts_of (written.applied r.first r.second) w r.end q r.makes in
        let (a, g, k) = subst (λ z. WrittenHasSkeleton es ts H z s) (sym m.0) h in
        then_is (term_skeleton es f N G T o) (λ x p. and_then (term_skeleton es f N G P p) (applied x)) (arrow_skeleton a s) r.middle (Some (s, q)) (term_fits T N G M H t o r.first r.middle (arrow_skeleton a s) r.first_is g)
        (then_is (term_skeleton es f N G P r.middle) (applied (arrow_skeleton a s)) a r.end (Some (s, q)) (term_fits P N G M H t r.middle r.second r.end a r.second_is k)
        (passed (same_skeleton a a) s r.end (skeletons_same a a refl) ∙ same_rest s r.end q m.1))
    term_fits (ascription T A) N G M H t o w q s e h =
        let r = two (made written.ascribed) (resolved_term es free M T o) (resolved_type es free M A) w q e in
        let m = parts_of (written.ascribed r.first r.second) w r.end q r.makes in
        let (g, k) = subst (λ z. WrittenHasSkeleton es ts H z s) (sym m.0) h in
        then_is (term_skeleton es f N G T o) (λ x p. and_then (type_skeleton es f N G A p) (ascribed x)) s r.middle (Some (s, q)) (term_fits T N G M H t o r.first r.middle s r.first_is k)
        (then_is (type_skeleton es f N G A r.middle) (ascribed s) s r.end (Some (s, q)) (reads_type N G A r.middle s r.end (type_fits A N G M H t r.middle r.second r.end s r.second_is g))
        (passed (same_skeleton s s) s r.end (skeletons_same s s refl) ∙ same_rest s r.end q m.1))

    domain_fits : (D : Domain) (at : Place) (N : Names) (G : List Skeleton) (M : Names) (H : List Skeleton) → IsThinner N G M H → (o : List Skeleton) (d : WrittenDomain) (q : List Skeleton) (s : Skeleton) → resolved_domain es free M at D o ≡ Some (d, q) → DomainHasSkeleton es ts H d s → domain_skeleton es f N G D o ≡ Some (s, q)
    domain_fits untyped at N G M H t [] d q s e h = absurd cc
    domain_fits untyped at N G M H t (k ∷ o) d q s e h =
        let r = parts_of (written.of_skeleton k at) d o q e in
        let k_is : k ≡ s = (subst (λ z. DomainHasSkeleton es ts H z s) (sym r.0) h).0 in
        ap (λ z. given z o) k_is ∙ same_rest s o q r.1
    domain_fits (typed A) at N G M H t o d q s e h =
        let r = and_then_parts (resolved_type es free M A o) (λ U p. given (written.of_type U) p) d q e in
        let m = parts_of (written.of_type r.0) d r.1 q r.3 in
        reads_type N G A o s q (subst (ReadsType N G A o s) m.1 (type_fits A N G M H t o r.0 r.1 s r.2 (subst (λ z. DomainHasSkeleton es ts H z s) (sym m.0) h)))

    -- what is resolved as a type
    type_fits : (T : Term) (N : Names) (G : List Skeleton) (M : Names) (H : List Skeleton) → IsThinner N G M H → (o : List Skeleton) (U : WrittenType) (q : List Skeleton) (s : Skeleton) → resolved_type es free M T o ≡ Some (U, q) → WrittenTypeHasSkeleton es ts H U s → ReadsType N G T o s q
    type_fits (identifier x at) N G M H t o U q s e h =
        let r = found_is (resolved_family (place_of at) (named es M x)) o U q e in
        let (a, u, n) = family_name_is (place_of at) G H (variable_of N x) (variable_of M x) (number_of es x) U (t x) r.0 in
        named_fits x at N G H o q a s n r.1 (subst (λ z. WrittenTypeHasSkeleton es ts H z s) u h)
    type_fits (hole at) N G M H t [] U q s e h = absurd cc
    type_fits (hole at) N G M H t (k ∷ o) U q s e h =
        let r = parts_of (written.type_hole k (place_of at)) U o q e in
        let k_is : k ≡ s = (subst (λ z. WrittenTypeHasSkeleton es ts H z s) (sym r.0) h).0 in
        (unknown k, same_rest (unknown k) o q r.1, k_is)
    type_fits star N G M H t o U q s e h = absurd cc
    type_fits (lambda x at D T) N G M H t o U q s e h = absurd cc
    type_fits (arrow A B) N G M H t o U q s e h =
        let r = two (made written.arrow) (resolved_type es free M A o) (resolved_type es free M B) U q e in
        let m = parts_of (written.arrow r.first r.second) U r.end q r.makes in
        arrow_fits A B N G H o q s r.first r.middle r.second r.end (λ a i. type_fits A N G M H t o r.first r.middle a r.first_is i)
        (λ a b i. type_fits B (None ∷ N) (a ∷ G) M H (thinner_by a N M G H t) r.middle r.second r.end b r.second_is i) m.1 (subst (λ z. WrittenTypeHasSkeleton es ts H z s) (sym m.0) h)
    type_fits (pi x at D B) N G M H t o U q s e h =
        let r = two (made written.quantified) (resolved_domain es free M (place_of at) D o) (resolved_type es free (binder_name x ∷ M) B) U q e in
        let m = parts_of (written.quantified r.first r.second) U r.end q r.makes in
        quantified_fits x at D B N G H o q s r.first r.middle r.second r.end (λ a i. domain_fits D (place_of at) N G M H t o r.first r.middle a r.first_is i)
        (λ a b i. type_fits B (binder_name x ∷ N) (a ∷ G) (binder_name x ∷ M) (a ∷ H) (thinner_under (binder_name x) a N M G H t) r.middle r.second r.end b r.second_is i) m.1 (subst (λ z. WrittenTypeHasSkeleton es ts H z s) (sym m.0) h)
    type_fits (application T P) N G M H t o U q s e h =
        let r = two on_argument (resolved_type es free M T o) (resolved_term es free M P) U q e in
        let m = unless_made (is_type_hole r.first) (written.family_applied r.first r.second) U r.end q r.makes in
        applied_fits T P N G H o q s r.first r.middle r.second r.end (λ a u i. family_fits T N G M H t o r.first r.middle a u r.first_is i)
        (λ x i. term_fits P N G M H t r.middle r.second r.end x r.second_is i) m.1 (subst (λ z. WrittenTypeHasSkeleton es ts H z s) (sym m.0) h)
    type_fits (ascription T K) N G M H t o U q s e h =
        let r = two of_kind (resolved_type es free M T o) (resolved_kind es free M K) U q e in
        let m = unless_made (is_type_hole r.first && is_higher r.second) (written.family_ascribed r.first r.second) U r.end q r.makes in
        ascribed_fits T K N G H o q s r.first r.middle r.second r.end (λ i. type_fits T N G M H t o r.first r.middle s r.first_is i)
        (λ a u i. kind_fits K N G M H t r.middle r.second r.end a u r.second_is i) m.1 (subst (λ z. WrittenTypeHasSkeleton es ts H z s) (sym m.0) h)

    -- what is resolved as a family on arguments
    family_fits : (T : Term) (N : Names) (G : List Skeleton) (M : Names) (H : List Skeleton) → IsThinner N G M H → (o : List Skeleton) (U : WrittenType) (q : List Skeleton) (a : ℕ) (u : Skeleton) → resolved_type es free M T o ≡ Some (U, q) → FamilyHasSkeleton es ts H U a u → ReadsFamily N G T o a u q
    family_fits (identifier x at) N G M H t o U q a u e h =
        let r = found_is (resolved_family (place_of at) (named es M x)) o U q e in
        let (b, v, n) = family_name_is (place_of at) G H (variable_of N x) (variable_of M x) (number_of es x) U (t x) r.0 in
        let (p, k) = subst (λ z. FamilyHasSkeleton es ts H z a u) v h in
        subst (λ z. ReadsFamily N G (identifier x at) o z u q) p (family_named_fits x at N G o q b u n r.1 k)
    family_fits (hole at) N G M H t [] U q a u e h = absurd cc
    family_fits (hole at) N G M H t (k ∷ o) U q a u e h =
        let r = parts_of (written.type_hole k (place_of at)) U o q e in
        absurd (subst (λ z. FamilyHasSkeleton es ts H z a u) (sym r.0) h)
    family_fits star N G M H t o U q a u e h = absurd cc
    family_fits (lambda x at D T) N G M H t o U q a u e h = absurd cc
    family_fits (arrow A B) N G M H t o U q a u e h =
        let r = two (made written.arrow) (resolved_type es free M A o) (resolved_type es free M B) U q e in
        let m = parts_of (written.arrow r.first r.second) U r.end q r.makes in
        absurd (subst (λ z. FamilyHasSkeleton es ts H z a u) (sym m.0) h)
    family_fits (pi x at D B) N G M H t o U q a u e h =
        let r = two (made written.quantified) (resolved_domain es free M (place_of at) D o) (resolved_type es free (binder_name x ∷ M) B) U q e in
        let m = parts_of (written.quantified r.first r.second) U r.end q r.makes in
        absurd (subst (λ z. FamilyHasSkeleton es ts H z a u) (sym m.0) h)
    family_fits (application T P) N G M H t o U q a u e h =
        let r = two on_argument (resolved_type es free M T o) (resolved_term es free M P) U q e in
        let m = unless_made (is_type_hole r.first) (written.family_applied r.first r.second) U r.end q r.makes in
        let (x, g, k) = subst (λ z. FamilyHasSkeleton es ts H z a u) (sym m.0) h in
        subst (ReadsFamily N G (application T P) o a u) m.1 (on_argument_is N G T P o r.middle r.end a x u (family_fits T N G M H t o r.first r.middle a (arrow_skeleton x u) r.first_is g) (term_fits P N G M H t r.middle r.second r.end x r.second_is k))
    family_fits (ascription T K) N G M H t o U q a u e h =
        let r = two of_kind (resolved_type es free M T o) (resolved_kind es free M K) U q e in
        let m = unless_made (is_type_hole r.first && is_higher r.second) (written.family_ascribed r.first r.second) U r.end q r.makes in
        let (g, k, i) = subst (λ z. FamilyHasSkeleton es ts H z a u) (sym m.0) h in
        let (ds, d, c) = kind_fits K N G M H t r.middle r.second r.end a u r.second_is g in
        subst (ReadsFamily N G (ascription T K) o a u) m.1 (of_kind_is N G T K o r.middle r.end ds a u (family_fits T N G M H t o r.first r.middle a u r.first_is k) d c)

    -- a kind
    kind_fits : (K : Term) (N : Names) (G : List Skeleton) (M : Names) (H : List Skeleton) → IsThinner N G M H → (o : List Skeleton) (k : WrittenKind) (q : List Skeleton) (a : ℕ) (u : Skeleton) → resolved_kind es free M K o ≡ Some (k, q) → KindHasSkeleton es ts H k a u
        → ReadsKind N G K o a u q
    kind_fits (identifier x at) N G M H t o k q a u e h = absurd cc
    kind_fits (hole at) N G M H t o k q a u e h = absurd cc
    kind_fits (lambda x at D T) N G M H t o k q a u e h = absurd cc
    kind_fits (application T P) N G M H t o k q a u e h = absurd cc
    kind_fits (ascription T A) N G M H t o k q a u e h = absurd cc
    kind_fits star N G M H t o k q a u e h =
        let r = parts_of written_star k o q e in
        let none : List Skeleton = [] in
        (none, subst (λ z. KindHasSkeleton es ts H z a u) (sym r.0) h, same_rest none o q r.1)
    kind_fits (arrow A K) N G M H t o k q a u e h =
        let r = two (made written.kind_arrow) (resolved_type es free M A o) (resolved_kind es free M K) k q e in
        let m = parts_of (written.kind_arrow r.first r.second) k r.end q r.makes in
        kind_arrow_fits A K N G H o q a u r.first r.middle r.second r.end (λ x i. type_fits A N G M H t o r.first r.middle x r.first_is i)
        (λ x y i. kind_fits K (None ∷ N) (x ∷ G) M H (thinner_by x N M G H t) r.middle r.second r.end a y r.second_is i) m.1 (subst (λ z. KindHasSkeleton es ts H z a u) (sym m.0) h)
    kind_fits (pi x at D K) N G M H t o k q a u e h =
        let r = two (made written.kind_quantified) (resolved_domain es free M (place_of at) D o) (resolved_kind es free (binder_name x ∷ M) K) k q e in
        let m = parts_of (written.kind_quantified r.first r.second) k r.end q r.makes in
        kind_quantified_fits x at D K N G H o q a u r.first r.middle r.second r.end (λ y i. domain_fits D (place_of at) N G M H t o r.first r.middle y r.first_is i)
        (λ y z i. kind_fits K (binder_name x ∷ N) (y ∷ G) (binder_name x ∷ M) (y ∷ H) (thinner_under (binder_name x) y N M G H t) r.middle r.second r.end a z r.second_is i) m.1 (subst (λ z. KindHasSkeleton es ts H z a u) (sym m.0) h)

  taken_is : {A : Type 0} (r : Reading A) (w : A) → taken_whole r ≡ Some w → r ≡ Some (w, [])
  taken_is None w e = absurd cc
  taken_is (Some (a, [])) w e = ap (λ z. given z []) (let p : Some a ≡ Some w = e in let q : a ≡ w = cc in q)
  taken_is (Some (a, s ∷ o)) w e = absurd cc

  classifier_fits : (U : Term) (o : List Skeleton) (w : WrittenBody) (b : Bool) → classifier_read es free [] b U o ≡ Some (w, []) → BodyHasSkeletons es ts w → FitsClassifier es f U o b
  classifier_fits U o w true e h =
      let r = and_then_parts (resolved_kind es free [] U o) (λ k p. given (written_family k) p) w [] e in
      let m = parts_of (written_family r.0) w r.1 [] r.3 in
      let (ds, g) = subst (BodyHasSkeletons es ts) (sym m.0) h in
      let (ss, d, c) = kind_fits U [] [] [] [] thinner_empty o r.0 r.1 zero (due_skeleton ds zero) r.2 (g zero) in
      (ss, c ∙ same_rest ss r.1 [] m.1)
  classifier_fits U o w false e h =
      let r = and_then_parts (resolved_type es free [] U o) (λ V p. given (written_constant V) p) w [] e in
      let m = parts_of (written_constant r.0) w r.1 [] r.3 in
      let (s, g) = subst (BodyHasSkeletons es ts) (sym m.0) h in
      (s, reads_type [] [] U o s [] (subst (ReadsType [] [] U o s) m.1 (type_fits U [] [] [] [] thinner_empty o r.0 r.1 s r.2 g)))

  definition_fits : (A : Option Term) (T : Term) (b : Bool) (o : List Skeleton) (w : WrittenBody) → definition_read es free [] A T b o ≡ Some (w, []) → BodyHasSkeletons es ts w → (s : Skeleton) × (definition_skeleton es f A T o ≡ Some (s, []))
  definition_fits None T b o w e h =
      let r = and_then_parts (resolved_term es free [] T o) (λ P p. given (written_definition P b) p) w [] e in
      let m = parts_of (written_definition r.0 b) w r.1 [] r.3 in
      let (s, g) = subst (BodyHasSkeletons es ts) (sym m.0) h in
      (s, term_fits T [] [] [] [] thinner_empty o r.0 r.1 s r.2 g ∙ same_rest s r.1 [] m.1)
  definition_fits (Some A) T b o w e h =
      let r = two (made (λ U P. written_definition_of P U b)) (resolved_type es free [] A o) (resolved_term es free [] T) w [] e in
      let m = parts_of (written_definition_of r.second r.first b) w r.end [] r.makes in
      let (s, g, k) = subst (BodyHasSkeletons es ts) (sym m.0) h in (
        s,
        then_is (type_skeleton es f [] [] A o) (λ x p. and_then (term_skeleton es f [] [] T p) (ascribed x)) s r.middle (Some (s, [])) (reads_type [] [] A o s r.middle (type_fits A [] [] [] [] thinner_empty o r.first r.middle s r.first_is g))
            (then_is (term_skeleton es f [] [] T r.middle) (ascribed s) s r.end (Some (s, [])) (term_fits T [] [] [] [] thinner_empty r.middle r.second r.end s r.second_is k)
            (passed (same_skeleton s s) s r.end (skeletons_same s s refl) ∙ same_rest s r.end [] m.1)),
      )

  body_fits : (d : Declaration) (o : List Skeleton) (w : WrittenBody) → body_read es free [] d o ≡ Some (w, []) → BodyHasSkeletons es ts w → Fits es f o d
  body_fits (declare c at U) o w e h = classifier_fits U o w (ends_in_type U) e h
  body_fits (define c A T b) o w e h = definition_fits A T b o w e h
  body_fits (prefer a x y) o w e h = absurd cc
  body_fits (give fix names) o w e h = absurd cc

-- a free variable is in upper case
mutual
  free_upper : (es : List Entry) (x : List ℕ) (T : Term) (N : Names) → IsFreeIn es x N T → is_uppercase x ≡ true
  free_upper es x (identifier y at) N (e, u, n) = subst (λ z. is_uppercase z ≡ true) e u
  free_upper es x (hole at) N h = absurd h
  free_upper es x star N h = absurd h
  free_upper es x (arrow U V) N (inl h) = free_upper es x U N h
  free_upper es x (arrow U V) N (inr h) = free_upper es x V (None ∷ N) h
  free_upper es x (pi y at D V) N (inl h) = free_upper_domain es x D N h
  free_upper es x (pi y at D V) N (inr h) = free_upper es x V (binder_name y ∷ N) h
  free_upper es x (lambda y at D T) N (inl h) = free_upper_domain es x D N h
  free_upper es x (lambda y at D T) N (inr h) = free_upper es x T (binder_name y ∷ N) h
  free_upper es x (application T P) N (inl h) = free_upper es x T N h
  free_upper es x (application T P) N (inr h) = free_upper es x P N h
  free_upper es x (ascription T A) N (inl h) = free_upper es x T N h
  free_upper es x (ascription T A) N (inr h) = free_upper es x A N h

  free_upper_domain : (es : List Entry) (x : List ℕ) (D : Domain) (N : Names) → IsFreeInDomain es x N D → is_uppercase x ≡ true
  free_upper_domain es x untyped N h = absurd h
  free_upper_domain es x (typed A) N h = free_upper es x A N h

variable_upper : (es : List Entry) (x : List ℕ) (d : Declaration) → IsFreeVariable es x d → is_uppercase x ≡ true
variable_upper es x (declare c at U) h = free_upper es x U [] h
variable_upper es x (define c None T b) (inl h) = absurd h
variable_upper es x (define c (Some A) T b) (inl h) = free_upper es x A [] h
variable_upper es x (define c A T b) (inr h) = free_upper es x T [] h
variable_upper es x (prefer a y z) h = absurd h
variable_upper es x (give fix names) h = absurd h

pub fits : ResolvedFits
fits es d rows o w are e h = body_fits es rows (λ x r. variable_upper es x d (are.row_is_free x r)) d o w (taken_is es rows (λ x r. variable_upper es x d (are.row_is_free x r)) (body_read es (names_of rows) [] d o) w e) h
