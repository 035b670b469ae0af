-- Families, types and kinds, read part by part.
use Rattle.std.proofs.Common.{◌≡◌, ℕ, ◌≤◌, List, [], ◌∷◌, Option, None, Some, refl, sym, ap, ◌∙◌, subst}
use Rattle.lf.specs.Entries.{Entry}
use Rattle.lf.specs.Syntax.{Skeleton, arrow as arrow_skeleton}
use Rattle.tw_parse.specs.Applied.{applied_to}
use Rattle.tw_approx.specs.Names.{IsFreeIn}
use Rattle.tw_approx.specs.Reading.{due_of, family_at, FamilyWithin, ReadsFamily, IsFamilyRead, ReadsDue, IsDueRead, KindIsRead, RangeIsRead, RestIsRead}
use Rattle.tw_approx.specs.Readings.{Reading, take, and_then}
use Rattle.tw_approx.specs.Skeletons.{Frees, Family, known, unknown, family_applied, family_ascribed, term_skeleton, family_skeleton, type_skeleton, kind_due}
use Rattle.tw_approx.specs.Walks.{Assignment, Readings, State, SameBelow, ShapesWithin, filled_all, IsSound, Refuses, ReadsShape, Nothing, inside, outside}
use Rattle.tw_approx.specs.declared.family.FamilyShape.{FamilyShape}
use Rattle.tw_approx.specs.declared.family.FamilyShape.TheVariants.{Known, Unknown}
use Rattle.tw_approx.specs.declared.family.Due.{Due}
use Rattle.tw_approx.specs.declared.family.Due.TheVariants.{Nothing as nothing_due}
use Rattle.tw_approx.proofs.Views.{due_of-Nothing}
use Rattle.tw_parse.specs.Syntax.{Term, star, application, ascription}
use Rattle.tw_fixity.specs.Names.{Names}
use Rattle.tw_shapes.specs.Shapes as plain
use Rattle.tw_shapes.specs.Shapes.{Shape, filled, IsWithin, count_of}
use Rattle.tw_shapes.specs.View.{shape_of}
use Rattle.tw_shapes.specs.declared.shape.Shape as program
use Rattle.tw_approx.proofs.Assigning.{filled_below, all_below, shape_more, shapes_more}
use Rattle.tw_approx.proofs.Forms.{both_nothing, both_parts, term_placed, type_placed, kind_placed}
use Rattle.tw_approx.proofs.Known.{value_reads}
use Rattle.tw_approx.proofs.Sequences.{given, IsFixed, Both, then_reads, made_reads, first_refuses, second_refuses}
use Rattle.tw_approx.proofs.Surroundings.{Placed, at_state, at_inside, beside_reads, beside_refuses, outside_reads, outside_refuses}

pub family_at_below : (n : ℕ) (θ ρ : Assignment) (G : FamilyShape) → FamilyWithin n G → SameBelow n θ ρ → family_at G θ ≡ family_at G ρ
family_at_below n θ ρ (Known d S) w e = ap (λ ks. known ks (filled θ (shape_of S))) (all_below n θ ρ (due_of d) w.0 e) ∙ ap (known (filled_all ρ (due_of d))) (filled_below n θ ρ (shape_of S) w.1 e)
family_at_below n θ ρ (Unknown S) w e = ap unknown (filled_below n θ ρ (shape_of S) w e)

module _ (es : List Entry) (s : State) (sound : IsSound s) where
  abbrev family_placed : Term → Placed Family
  family_placed A f θ N G = family_skeleton es f N G A

  abbrev free_at : Term → List ℕ → Type 0
  free_at M y = IsFreeIn es y s.names M

  abbrev free_placed : Term → Names → List ℕ → Type 0
  free_placed M N x = IsFreeIn es x N M

  -- a hole for a type
  pub hole_reads : (t : State) (S : program.Shape) → ReadsShape (λ f θ. take) Nothing s t (shape_of S) → ReadsFamily (λ f θ o. and_then (take o) (λ k p. Some (unknown k, p))) Nothing s t (Unknown S)
  hole_reads t S r = record { reading = made_reads (λ f θ. take) (λ θ k. unknown k) Nothing s t (λ θ. filled θ (shape_of S)) (λ θ ρ k e. refl) r.reading; within = r.within }

  -- a family on an argument
  abbrev argument_rest : Term → Frees → Assignment → Family → List Skeleton → Reading Family
  argument_rest P f θ F p = and_then (term_skeleton es f s.names (filled_all θ s.context) P p) (family_applied F)

  argument_fixed : (P : Term) → IsFixed (count_of s.store) (argument_rest P)
  argument_fixed P f θ ρ F o e = ap (λ G. and_then (term_skeleton es f s.names G P o) (family_applied F)) (all_below (count_of s.store) θ ρ s.context sound.context e)

  pub family_application_reads : (M P : Term) (t u w : State) (G H : FamilyShape) (U : Shape) → ReadsFamily (at_state (family_placed M) s) (free_at M) s t G
      → ReadsShape (at_state (term_placed es P) t) (λ y. IsFreeIn es y t.names P) t u U → ReadsFamily (λ f θ. family_applied (family_at G θ) (filled θ U)) Nothing u w H
      → ReadsFamily (at_state (family_placed (application M P)) s) (free_at (application M P)) s w H
  family_application_reads M P t u w G H U one two three =
      let argument = beside_reads (term_placed es P) (free_placed P) s t u (λ θ. filled θ U) one.reading.names one.reading.context two.reading in
      let rest = then_reads (at_state (term_placed es P) s) (λ f θ k. family_applied (family_at G θ) k) (free_at P) Nothing (free_at P) t u w (λ θ. filled θ U) (family_at H) (λ f θ ρ k o e. ap (λ F. family_applied F k o) (family_at_below (count_of t.store) θ ρ G one.within e)) (both_nothing (free_at P)) argument three.reading in
      record {
        reading = then_reads (at_state (family_placed M) s) (argument_rest P) (free_at M) (free_at P) (free_at (application M P)) s t w (family_at G) (family_at H) (argument_fixed P) (both_parts (free_at M) (free_at P)) one.reading rest;
        within = three.within;
      }

  pub family_application_refuses_family : (M P : Term) → Refuses (at_state (family_placed M) s) s → Refuses (at_state (family_placed (application M P)) s) s
  family_application_refuses_family M P r = first_refuses (at_state (family_placed M) s) (argument_rest P) s r

  pub family_arguments_refuse : (M : Term) (Ps : List Term) → Refuses (at_state (family_placed M) s) s → Refuses (at_state (family_placed (applied_to M Ps)) s) s
  family_arguments_refuse M [] r = r
  family_arguments_refuse M (P ∷ Ps) r = family_application_refuses_family (applied_to M Ps) P (family_arguments_refuse M Ps r)

  pub family_application_refuses_argument : (M P : Term) (t : State) (G : FamilyShape) → ReadsFamily (at_state (family_placed M) s) (free_at M) s t G
      → Refuses (at_state (term_placed es P) t) t → Refuses (at_state (family_placed (application M P)) s) s
  family_application_refuses_argument M P t G one two =
      second_refuses (at_state (family_placed M) s) (argument_rest P) (free_at M) s t (family_at G) (argument_fixed P) one.reading
      (first_refuses (at_state (term_placed es P) s) (λ f θ k. family_applied (family_at G θ) k) t (beside_refuses (term_placed es P) s t one.reading.names one.reading.context two))

  pub family_application_refuses : (M P : Term) (t u : State) (G : FamilyShape) (U : Shape) → ReadsFamily (at_state (family_placed M) s) (free_at M) s t G
      → ReadsShape (at_state (term_placed es P) t) (λ y. IsFreeIn es y t.names P) t u U → Refuses (λ f θ. family_applied (family_at G θ) (filled θ U)) u → Refuses (at_state (family_placed (application M P)) s) s
  family_application_refuses M P t u G U one two three =
      let argument = beside_reads (term_placed es P) (free_placed P) s t u (λ θ. filled θ U) one.reading.names one.reading.context two.reading in
      second_refuses (at_state (family_placed M) s) (argument_rest P) (free_at M) s t (family_at G) (argument_fixed P) one.reading
      (second_refuses (at_state (term_placed es P) s) (λ f θ k. family_applied (family_at G θ) k) (free_at P) t u (λ θ. filled θ U) (λ f θ ρ k o e. ap (λ F. family_applied F k o) (family_at_below (count_of t.store) θ ρ G one.within e)) argument three)

  -- a family with its kind
  abbrev kind_rest : Term → Frees → Assignment → Family → List Skeleton → Reading Family
  kind_rest K f θ F p = and_then (kind_due es f s.names (filled_all θ s.context) K p) (family_ascribed F)

  kind_fixed : (K : Term) → IsFixed (count_of s.store) (kind_rest K)
  kind_fixed K f θ ρ F o e = ap (λ G. and_then (kind_due es f s.names G K o) (family_ascribed F)) (all_below (count_of s.store) θ ρ s.context sound.context e)

  pub family_ascription_reads : (M K : Term) (t u w : State) (G H : FamilyShape) (Ss : List Shape) → ReadsFamily (at_state (family_placed M) s) (free_at M) s t G
      → ReadsDue (at_state (kind_placed es K) t) (λ y. IsFreeIn es y t.names K) t u Ss → ReadsFamily (λ f θ. family_ascribed (family_at G θ) (filled_all θ Ss)) Nothing u w H
      → ReadsFamily (at_state (family_placed (ascription M K)) s) (free_at (ascription M K)) s w H
  family_ascription_reads M K t u w G H Ss one two three =
      let kind = beside_reads (kind_placed es K) (free_placed K) s t u (λ θ. filled_all θ Ss) one.reading.names one.reading.context two.reading in
      let rest = then_reads (at_state (kind_placed es K) s) (λ f θ ks. family_ascribed (family_at G θ) ks) (free_at K) Nothing (free_at K) t u w (λ θ. filled_all θ Ss) (family_at H) (λ f θ ρ ks o e. ap (λ F. family_ascribed F ks o) (family_at_below (count_of t.store) θ ρ G one.within e)) (both_nothing (free_at K)) kind three.reading in
      record {
        reading = then_reads (at_state (family_placed M) s) (kind_rest K) (free_at M) (free_at K) (free_at (ascription M K)) s t w (family_at G) (family_at H) (kind_fixed K) (both_parts (free_at M) (free_at K)) one.reading rest;
        within = three.within;
      }

  pub family_ascription_refuses_family : (M K : Term) → Refuses (at_state (family_placed M) s) s → Refuses (at_state (family_placed (ascription M K)) s) s
  family_ascription_refuses_family M K r = first_refuses (at_state (family_placed M) s) (kind_rest K) s r

  pub family_ascription_refuses_kind : (M K : Term) (t : State) (G : FamilyShape) → ReadsFamily (at_state (family_placed M) s) (free_at M) s t G
      → Refuses (at_state (kind_placed es K) t) t → Refuses (at_state (family_placed (ascription M K)) s) s
  family_ascription_refuses_kind M K t G one two =
      second_refuses (at_state (family_placed M) s) (kind_rest K) (free_at M) s t (family_at G) (kind_fixed K) one.reading
      (first_refuses (at_state (kind_placed es K) s) (λ f θ ks. family_ascribed (family_at G θ) ks) t (beside_refuses (kind_placed es K) s t one.reading.names one.reading.context two))

  pub family_ascription_refuses : (M K : Term) (t u : State) (G : FamilyShape) (Ss : List Shape) → ReadsFamily (at_state (family_placed M) s) (free_at M) s t G
      → ReadsDue (at_state (kind_placed es K) t) (λ y. IsFreeIn es y t.names K) t u Ss → Refuses (λ f θ. family_ascribed (family_at G θ) (filled_all θ Ss)) u → Refuses (at_state (family_placed (ascription M K)) s) s
  family_ascription_refuses M K t u G Ss one two three =
      let kind = beside_reads (kind_placed es K) (free_placed K) s t u (λ θ. filled_all θ Ss) one.reading.names one.reading.context two.reading in
      second_refuses (at_state (family_placed M) s) (kind_rest K) (free_at M) s t (family_at G) (kind_fixed K) one.reading
      (second_refuses (at_state (kind_placed es K) s) (λ f θ ks. family_ascribed (family_at G θ) ks) (free_at K) t u (λ θ. filled_all θ Ss) (λ f θ ρ ks o e. ap (λ F. family_ascribed F ks o) (family_at_below (count_of t.store) θ ρ G one.within e)) kind three)

  -- A type or a kind behind a domain, which is read first.
  abbrev range_rest : Option (List ℕ) → Term → Frees → Assignment → Skeleton → List Skeleton → Reading Family
  range_rest x V f θ k p = and_then (type_skeleton es f (x ∷ s.names) (k ∷ filled_all θ s.context) V p) (λ l q. Some (known [] (arrow_skeleton k l), q))

  range_fixed : (x : Option (List ℕ)) (V : Term) → IsFixed (count_of s.store) (range_rest x V)
  range_fixed x V f θ ρ k o e = ap (λ G. and_then (type_skeleton es f (x ∷ s.names) (k ∷ G) V o) (λ l q. given (known [] (arrow_skeleton k l)) q)) (all_below (count_of s.store) θ ρ s.context sound.context e)

  abbrev range_placed : Option (List ℕ) → Shape → Term → Placed Family
  range_placed x S V f θ N G p = and_then (type_skeleton es f (x ∷ N) (filled θ S ∷ G) V p) (λ l q. Some (known [] (arrow_skeleton (filled θ S) l), q))

  pub quantifier_read : (R : Readings Skeleton) (F H : List ℕ → Type 0) (x : Option (List ℕ)) (V : Term) (t u : State) (S : Shape) → Both F (λ y. IsFreeIn es y (x ∷ s.names) V) H → ReadsShape R F s t S
      → (o : Option FamilyShape) → RangeIsRead es t u x S V o → IsFamilyRead (λ f θ p. and_then (R f θ p) (range_rest x V f θ)) H s u o
  quantifier_read R F H x V t u S both one None two =
      second_refuses R (range_rest x V) F s t (λ θ. filled θ S) (range_fixed x V) one.reading (beside_refuses (range_placed x S V) s t one.reading.names one.reading.context two)
  quantifier_read R F H x V t u S both one (Some G) two = record {
    reading = then_reads R (range_rest x V) F (λ y. IsFreeIn es y (x ∷ s.names) V) H s t u (λ θ. filled θ S) (family_at G) (range_fixed x V) both one.reading
        (beside_reads (range_placed x S V) (λ N y. IsFreeIn es y (x ∷ N) V) s t u (family_at G) one.reading.names one.reading.context two.reading);
    within = two.within;
  }

  pub quantifier_refuses : (R : Readings Skeleton) (x : Option (List ℕ)) (V : Term) → Refuses R s → Refuses (λ f θ p. and_then (R f θ p) (range_rest x V f θ)) s
  quantifier_refuses R x V r = first_refuses R (range_rest x V) s r

  abbrev due_rest : Option (List ℕ) → Term → Frees → Assignment → Skeleton → List Skeleton → Reading (List Skeleton)
  due_rest x K f θ k p = and_then (kind_due es f (x ∷ s.names) (k ∷ filled_all θ s.context) K p) (λ ks q. Some (k ∷ ks, q))

  due_fixed : (x : Option (List ℕ)) (K : Term) → IsFixed (count_of s.store) (due_rest x K)
  due_fixed x K f θ ρ k o e = ap (λ G. and_then (kind_due es f (x ∷ s.names) (k ∷ G) K o) (λ ks q. given (k ∷ ks) q)) (all_below (count_of s.store) θ ρ s.context sound.context e)

  abbrev due_placed : Option (List ℕ) → Shape → Term → Placed (List Skeleton)
  due_placed x S K f θ N G p = and_then (kind_due es f (x ∷ N) (filled θ S ∷ G) K p) (λ ks q. Some (filled θ S ∷ ks, q))

  pub rest_read : (R : Readings Skeleton) (F H : List ℕ → Type 0) (x : Option (List ℕ)) (K : Term) (t u : State) (S : Shape) → Both F (λ y. IsFreeIn es y (x ∷ s.names) K) H → ReadsShape R F s t S
      → (o : Option Due) → RestIsRead es t u x S K o → IsDueRead (λ f θ p. and_then (R f θ p) (due_rest x K f θ)) H s u o
  rest_read R F H x K t u S both one None two =
      second_refuses R (due_rest x K) F s t (λ θ. filled θ S) (due_fixed x K) one.reading (beside_refuses (due_placed x S K) s t one.reading.names one.reading.context two)
  rest_read R F H x K t u S both one (Some d) two = record {
    reading = then_reads R (due_rest x K) F (λ y. IsFreeIn es y (x ∷ s.names) K) H s t u (λ θ. filled θ S) (λ θ. filled_all θ (due_of d)) (due_fixed x K) both one.reading
        (beside_reads (due_placed x S K) (λ N y. IsFreeIn es y (x ∷ N) K) s t u (λ θ. filled_all θ (due_of d)) one.reading.names one.reading.context two.reading);
    within = two.within;
  }

  pub rest_refuses : (R : Readings Skeleton) (x : Option (List ℕ)) (K : Term) → Refuses R s → Refuses (λ f θ p. and_then (R f θ p) (due_rest x K f θ)) s
  rest_refuses R x K r = first_refuses R (due_rest x K) s r

  -- behind the domain
  pub range_reads : (x : Option (List ℕ)) (S : Shape) (V : Term) (i u w : State) (T : Shape) (d : Due) (A : program.Shape) → i ≡ inside x S s → w ≡ outside u → due_of d ≡ [] → shape_of A ≡ plain.arrow S T → IsWithin (count_of s.store) S
      → ReadsShape (at_state (type_placed es V) i) (λ y. IsFreeIn es y i.names V) i u T → RangeIsRead es s w x S V (Some (Known d A))
  range_reads x S V i u w T d A e g n a within r =
      let moved : ReadsShape (at_inside (type_placed es V) x S s) (λ y. IsFreeIn es y (x ∷ s.names) V) (inside x S s) u T = subst (λ j. ReadsShape (at_state (type_placed es V) j) (λ y. IsFreeIn es y j.names V) j u T) e r in
      let out = outside_reads (at_inside (type_placed es V) x S s) (λ y. IsFreeIn es y (x ∷ s.names) V) x S s u (λ θ. filled θ T) moved.reading in
      let made = made_reads (at_inside (type_placed es V) x S s) (λ θ l. known [] (arrow_skeleton (filled θ S) l)) (λ y. IsFreeIn es y (x ∷ s.names) V) s (outside u) (λ θ. filled θ T) (λ θ ρ l h. ap (λ k. known [] (arrow_skeleton k l)) (filled_below (count_of s.store) θ ρ S within h)) out in
      let value : (θ : Assignment) → family_at (Known d A) θ ≡ known [] (arrow_skeleton (filled θ S) (filled θ T)) = λ θ. ap (λ Ss. known (filled_all θ Ss) (filled θ (shape_of A))) n ∙ ap (λ X. known [] (filled θ X)) a in
      subst (λ z. RangeIsRead es s z x S V (Some (Known d A))) (sym g) (record {
        reading = record {
          names = made.names;
          context = made.context;
          count = made.count;
          sound = made.sound;
          kept = made.kept;
          agrees = made.agrees;
          free = made.free;
          more = made.more;
          added = made.added;
          stable = λ θ ρ h. value θ ∙ made.stable θ ρ h ∙ sym (value ρ);
          reads = λ f θ o h b. made.reads f θ o h b ∙ ap (λ F. given F o) (sym (value θ));
          every = λ f θ p k q h b c. let z = made.every f θ p k q h b c in (z.0, z.1, z.2, z.3, z.4, z.5 ∙ sym (value z.0));
        };
        within = (subst (ShapesWithin (count_of u.store)) (sym n) tt, subst (IsWithin (count_of u.store)) (sym a) (shape_more (count_of s.store) (count_of u.store) S out.count within, moved.within));
      })

  pub range_refuses : (x : Option (List ℕ)) (S : Shape) (V : Term) (i w : State) → i ≡ inside x S s → Refuses (at_state (type_placed es V) i) i → RangeIsRead es s w x S V None
  range_refuses x S V i w e r =
      let moved : Refuses (at_inside (type_placed es V) x S s) (inside x S s) = subst (λ j. Refuses (at_state (type_placed es V) j) j) e r in
      first_refuses (at_inside (type_placed es V) x S s) (λ f θ l q. Some (known [] (arrow_skeleton (filled θ S) l), q)) s (outside_refuses (at_inside (type_placed es V) x S s) x S s moved)

  pub due_reads : (x : Option (List ℕ)) (S : Shape) (K : Term) (i u w : State) (rest d : Due) → i ≡ inside x S s → w ≡ outside u → due_of d ≡ S ∷ due_of rest → IsWithin (count_of s.store) S
      → ReadsDue (at_state (kind_placed es K) i) (λ y. IsFreeIn es y i.names K) i u (due_of rest) → RestIsRead es s w x S K (Some d)
  due_reads x S K i u w rest d e g n within r =
      let moved : ReadsDue (at_inside (kind_placed es K) x S s) (λ y. IsFreeIn es y (x ∷ s.names) K) (inside x S s) u (due_of rest) = subst (λ j. ReadsDue (at_state (kind_placed es K) j) (λ y. IsFreeIn es y j.names K) j u (due_of rest)) e r in
      let out = outside_reads (at_inside (kind_placed es K) x S s) (λ y. IsFreeIn es y (x ∷ s.names) K) x S s u (λ θ. filled_all θ (due_of rest)) moved.reading in
      let made = made_reads (at_inside (kind_placed es K) x S s) (λ θ ks. filled θ S ∷ ks) (λ y. IsFreeIn es y (x ∷ s.names) K) s (outside u) (λ θ. filled_all θ (due_of rest)) (λ θ ρ ks h. ap (λ k. k ∷ ks) (filled_below (count_of s.store) θ ρ S within h)) out in
      subst (λ z. RestIsRead es s z x S K (Some d)) (sym g)
      (subst (λ Ss. ReadsDue (λ f θ p. and_then (kind_due es f (x ∷ s.names) (filled θ S ∷ filled_all θ s.context) K p) (λ ks q. Some (filled θ S ∷ ks, q))) (λ y. IsFreeIn es y (x ∷ s.names) K) s (outside u) Ss) (sym n) (record {
        reading = made;
        within = (shape_more (count_of s.store) (count_of u.store) S out.count within, moved.within);
      }))

  pub due_refuses : (x : Option (List ℕ)) (S : Shape) (K : Term) (i w : State) → i ≡ inside x S s → Refuses (at_state (kind_placed es K) i) i → RestIsRead es s w x S K None
  due_refuses x S K i w e r =
      let moved : Refuses (at_inside (kind_placed es K) x S s) (inside x S s) = subst (λ j. Refuses (at_state (kind_placed es K) j) j) e r in
      first_refuses (at_inside (kind_placed es K) x S s) (λ f θ ks q. Some (filled θ S ∷ ks, q)) s (outside_refuses (at_inside (kind_placed es K) x S s) x S s moved)

pub family_more : (m n : ℕ) (G : FamilyShape) → m ≤ n → FamilyWithin m G → FamilyWithin n G
family_more m n (Known d S) le w = (shapes_more m n (due_of d) le w.0, shape_more m n (shape_of S) le w.1)
family_more m n (Unknown S) le w = shape_more m n (shape_of S) le w

-- `type` is due nothing
pub star_reads : (es : List Entry) (s : State) → IsSound s → KindIsRead es s s star (Some nothing_due)
star_reads es s sound = subst (ReadsDue (λ f θ o. Some ([], o)) (λ x. ⊥) s s) (sym due_of-Nothing) (record { reading = value_reads (λ θ. []) s sound (λ θ ρ e. refl); within = tt })
