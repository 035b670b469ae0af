-- The forms of text, read part by part.
use Rattle.std.proofs.Common.{◌≡◌, ℕ, List, [], ◌∷◌, Option, Some, ◌⊎◌, inl, inr, refl, ap}
use Rattle.lf.specs.Entries.{Entry}
use Rattle.lf.specs.Syntax.{Skeleton, arrow as arrow_skeleton}
use Rattle.tw_parse.specs.Applied.{applied_to}
use Rattle.tw_approx.specs.Names.{IsFreeIn, IsFreeInDomain}
use Rattle.tw_approx.specs.Reading.{family_at, ReadsFamily}
use Rattle.tw_approx.specs.Readings.{Reading, and_then}
use Rattle.tw_approx.specs.Skeletons.{Frees, applied, ascribed, whole, term_skeleton, family_skeleton, type_skeleton, domain_skeleton, kind_due}
use Rattle.tw_approx.specs.Walks.{Assignment, State, SameBelow, filled_all, IsSound, Refuses, ReadsShape, Nothing, inside, outside}
use Rattle.tw_approx.specs.declared.family.FamilyShape.{FamilyShape}
use Rattle.tw_names.specs.Scope.{binder_name}
use Rattle.tw_lexer.specs.declared.place.Place.{Place}
use Rattle.tw_parse.specs.Syntax.{Term, Domain, lambda, application, ascription}
use Rattle.tw_fixity.specs.Names.{Names}
use Rattle.tw_shapes.specs.Shapes as plain
use Rattle.tw_shapes.specs.Shapes.{Shape, filled, IsWithin, count_of}
use Rattle.tw_approx.proofs.Assigning.{filled_below, all_below, shape_more}
use Rattle.tw_approx.proofs.Sequences.{IsFixed, Both, then_reads, made_reads, first_refuses, second_refuses}
use Rattle.tw_approx.proofs.Surroundings.{Placed, at_state, at_inside, beside_reads, beside_refuses, beside_inside_reads, beside_inside_refuses, outside_reads, outside_refuses}

-- a part that finds no free variables
pub both_nothing : (F : List ℕ → Type 0) → Both F Nothing F
both_nothing F x = (λ a. inl a, λ d. elim d as (λ _. F x) [ inl a ↦ a | inr b ↦ absurd b ])

pub both_parts : (F E : List ℕ → Type 0) → Both F E (λ x. F x ⊎ E x)
both_parts F E x = (λ a. a, λ a. a)

-- what is read in these surroundings depends on the variables of their shapes
pub placed_fixed : {A : Type 0} (P : Frees → Names → List Skeleton → List Skeleton → Reading A) (s : State) → IsSound s → (f : Frees) (θ ρ : Assignment) (o : List Skeleton) → SameBelow (count_of s.store) θ ρ
    → P f s.names (filled_all θ s.context) o ≡ P f s.names (filled_all ρ s.context) o
placed_fixed P s h f θ ρ o e = ap (λ G. P f s.names G o) (all_below (count_of s.store) θ ρ s.context h.context e)

module _ (es : List Entry) where
  -- the readings, where these are in scope
  abbrev pub term_placed : Term → Placed Skeleton
  term_placed M f θ N G = term_skeleton es f N G M

  abbrev pub type_placed : Term → Placed Skeleton
  type_placed A f θ N G = type_skeleton es f N G A

  abbrev pub kind_placed : Term → Placed (List Skeleton)
  kind_placed K f θ N G = kind_due es f N G K

  abbrev free_placed : Term → Names → List ℕ → Type 0
  free_placed M N x = IsFreeIn es x N M

  module _ (s : State) (sound : IsSound s) where
    -- a family that is whole
    pub type_reads : (A : Term) (t u : State) (G : FamilyShape) (S : Shape) → ReadsFamily (λ f θ. family_skeleton es f s.names (filled_all θ s.context) A) (λ x. IsFreeIn es x s.names A) s t G
        → ReadsShape (λ f θ. whole (family_at G θ)) Nothing t u S → ReadsShape (λ f θ. type_skeleton es f s.names (filled_all θ s.context) A) (λ x. IsFreeIn es x s.names A) s u S
    type_reads A t u G S one two = record {
      reading = then_reads (λ f θ. family_skeleton es f s.names (filled_all θ s.context) A) (λ f θ. whole) (λ x. IsFreeIn es x s.names A) Nothing (λ x. IsFreeIn es x s.names A) s t u (family_at G) (λ θ. filled θ S) (λ f θ ρ a o e. refl) (both_nothing (λ x. IsFreeIn es x s.names A)) one.reading two.reading;
      within = two.within;
    }

    pub type_refuses_family : (A : Term) → Refuses (λ f θ. family_skeleton es f s.names (filled_all θ s.context) A) s → Refuses (λ f θ. type_skeleton es f s.names (filled_all θ s.context) A) s
    type_refuses_family A r = first_refuses (λ f θ. family_skeleton es f s.names (filled_all θ s.context) A) (λ f θ. whole) s r

    pub type_refuses_whole : (A : Term) (t : State) (G : FamilyShape) → ReadsFamily (λ f θ. family_skeleton es f s.names (filled_all θ s.context) A) (λ x. IsFreeIn es x s.names A) s t G
        → Refuses (λ f θ. whole (family_at G θ)) t → Refuses (λ f θ. type_skeleton es f s.names (filled_all θ s.context) A) s
    type_refuses_whole A t G one two = second_refuses (λ f θ. family_skeleton es f s.names (filled_all θ s.context) A) (λ f θ. whole) (λ x. IsFreeIn es x s.names A) s t (family_at G) (λ f θ ρ a o e. refl) one.reading two

    -- what stands under a binder, behind its domain
    abbrev lambda_rest : Option (List ℕ) → Term → Frees → Assignment → Skeleton → List Skeleton → Reading Skeleton
    lambda_rest x M f θ k p = and_then (term_skeleton es f (x ∷ s.names) (k ∷ filled_all θ s.context) M p) (λ l q. Some (arrow_skeleton k l, q))

    lambda_fixed : (x : Option (List ℕ)) (M : Term) → IsFixed (count_of s.store) (lambda_rest x M)
    lambda_fixed x M f θ ρ k o e = ap (λ G. and_then (term_skeleton es f (x ∷ s.names) (k ∷ G) M o) (λ l q. Some (arrow_skeleton k l, q))) (all_below (count_of s.store) θ ρ s.context sound.context e)

    pub lambda_reads : (x : List ℕ) (at : Place) (D : Domain) (M : Term) (t u : State) (S T : Shape) → ReadsShape (λ f θ. domain_skeleton es f s.names (filled_all θ s.context) D) (λ y. IsFreeInDomain es y s.names D) s t S
        → ReadsShape (at_state (term_placed M) (inside (binder_name x) S t)) (λ y. IsFreeIn es y (binder_name x ∷ t.names) M) (inside (binder_name x) S t) u T
        → ReadsShape (λ f θ. term_skeleton es f s.names (filled_all θ s.context) (lambda x at D M)) (λ y. IsFreeIn es y s.names (lambda x at D M)) s (outside u) (plain.arrow S T)
    lambda_reads x at D M t u S T one two =
        let n = binder_name x in
        let body = beside_inside_reads (term_placed M) (free_placed M) n S s t (outside u) (λ θ. filled θ T) one.reading.names one.reading.context (outside_reads (at_state (term_placed M) (inside n S t)) (λ y. IsFreeIn es y (n ∷ t.names) M) n S t u (λ θ. filled θ T) two.reading) in
        let whole_body = made_reads (at_inside (term_placed M) n S s) (λ θ k. arrow_skeleton (filled θ S) k) (λ y. IsFreeIn es y (n ∷ s.names) M) t (outside u) (λ θ. filled θ T) (λ θ ρ k e. ap (λ l. arrow_skeleton l k) (filled_below (count_of t.store) θ ρ S one.within e)) body in
        record {
          reading = then_reads (λ f θ. domain_skeleton es f s.names (filled_all θ s.context) D) (lambda_rest n M) (λ y. IsFreeInDomain es y s.names D) (λ y. IsFreeIn es y (n ∷ s.names) M) (λ y. IsFreeIn es y s.names (lambda x at D M)) s t (outside u) (λ θ. filled θ S) (λ θ. filled θ (plain.arrow S T)) (lambda_fixed n M) (both_parts (λ y. IsFreeInDomain es y s.names D) (λ y. IsFreeIn es y (n ∷ s.names) M)) one.reading whole_body;
          within = (shape_more (count_of t.store) (count_of u.store) S two.reading.count one.within, two.within);
        }

    pub lambda_refuses_domain : (x : List ℕ) (at : Place) (D : Domain) (M : Term) → Refuses (λ f θ. domain_skeleton es f s.names (filled_all θ s.context) D) s → Refuses (λ f θ. term_skeleton es f s.names (filled_all θ s.context) (lambda x at D M)) s
    lambda_refuses_domain x at D M r = first_refuses (λ f θ. domain_skeleton es f s.names (filled_all θ s.context) D) (lambda_rest (binder_name x) M) s r

    pub lambda_refuses_body : (x : List ℕ) (at : Place) (D : Domain) (M : Term) (t : State) (S : Shape) → ReadsShape (λ f θ. domain_skeleton es f s.names (filled_all θ s.context) D) (λ y. IsFreeInDomain es y s.names D) s t S
        → Refuses (at_state (term_placed M) (inside (binder_name x) S t)) (inside (binder_name x) S t) → Refuses (λ f θ. term_skeleton es f s.names (filled_all θ s.context) (lambda x at D M)) s
    lambda_refuses_body x at D M t S one two =
        let n = binder_name x in
        let body = beside_inside_refuses (term_placed M) n S s t one.reading.names one.reading.context (outside_refuses (at_state (term_placed M) (inside n S t)) n S t two) in
        second_refuses (λ f θ. domain_skeleton es f s.names (filled_all θ s.context) D) (lambda_rest n M) (λ y. IsFreeInDomain es y s.names D) s t (λ θ. filled θ S) (lambda_fixed n M) one.reading
        (first_refuses (at_inside (term_placed M) n S s) (λ f θ l q. Some (arrow_skeleton (filled θ S) l, q)) t body)

    -- a term on an argument
    abbrev application_rest : Term → Frees → Assignment → Skeleton → List Skeleton → Reading Skeleton
    application_rest P f θ k p = and_then (term_skeleton es f s.names (filled_all θ s.context) P p) (applied k)

    application_fixed : (P : Term) → IsFixed (count_of s.store) (application_rest P)
    application_fixed P f θ ρ k o e = ap (λ G. and_then (term_skeleton es f s.names G P o) (applied k)) (all_below (count_of s.store) θ ρ s.context sound.context e)

    pub application_reads : (M P : Term) (t u w : State) (S U T : Shape) → ReadsShape (λ f θ. term_skeleton es f s.names (filled_all θ s.context) M) (λ y. IsFreeIn es y s.names M) s t S
        → ReadsShape (at_state (term_placed P) t) (λ y. IsFreeIn es y t.names P) t u U → ReadsShape (λ f θ. applied (filled θ S) (filled θ U)) Nothing u w T
        → ReadsShape (λ f θ. term_skeleton es f s.names (filled_all θ s.context) (application M P)) (λ y. IsFreeIn es y s.names (application M P)) s w T
    application_reads M P t u w S U T one two three =
        let argument = beside_reads (term_placed P) (free_placed P) s t u (λ θ. filled θ U) one.reading.names one.reading.context two.reading in
        let rest = then_reads (at_state (term_placed P) s) (λ f θ k. applied (filled θ S) k) (λ y. IsFreeIn es y s.names P) Nothing (λ y. IsFreeIn es y s.names P) t u w (λ θ. filled θ U) (λ θ. filled θ T) (λ f θ ρ k o e. ap (λ l. applied l k o) (filled_below (count_of t.store) θ ρ S one.within e)) (both_nothing (λ y. IsFreeIn es y s.names P)) argument three.reading in
        record {
          reading = then_reads (λ f θ. term_skeleton es f s.names (filled_all θ s.context) M) (application_rest P) (λ y. IsFreeIn es y s.names M) (λ y. IsFreeIn es y s.names P) (λ y. IsFreeIn es y s.names (application M P)) s t w (λ θ. filled θ S) (λ θ. filled θ T) (application_fixed P) (both_parts (λ y. IsFreeIn es y s.names M) (λ y. IsFreeIn es y s.names P)) one.reading rest;
          within = three.within;
        }

    pub application_refuses_function : (M P : Term) → Refuses (λ f θ. term_skeleton es f s.names (filled_all θ s.context) M) s → Refuses (λ f θ. term_skeleton es f s.names (filled_all θ s.context) (application M P)) s
    application_refuses_function M P r = first_refuses (λ f θ. term_skeleton es f s.names (filled_all θ s.context) M) (application_rest P) s r

    pub application_refuses_argument : (M P : Term) (t : State) (S : Shape) → ReadsShape (λ f θ. term_skeleton es f s.names (filled_all θ s.context) M) (λ y. IsFreeIn es y s.names M) s t S
        → Refuses (at_state (term_placed P) t) t → Refuses (λ f θ. term_skeleton es f s.names (filled_all θ s.context) (application M P)) s
    application_refuses_argument M P t S one two =
        second_refuses (λ f θ. term_skeleton es f s.names (filled_all θ s.context) M) (application_rest P) (λ y. IsFreeIn es y s.names M) s t (λ θ. filled θ S) (application_fixed P) one.reading
        (first_refuses (at_state (term_placed P) s) (λ f θ k. applied (filled θ S) k) t (beside_refuses (term_placed P) s t one.reading.names one.reading.context two))

    pub application_refuses : (M P : Term) (t u : State) (S U : Shape) → ReadsShape (λ f θ. term_skeleton es f s.names (filled_all θ s.context) M) (λ y. IsFreeIn es y s.names M) s t S
        → ReadsShape (at_state (term_placed P) t) (λ y. IsFreeIn es y t.names P) t u U → Refuses (λ f θ. applied (filled θ S) (filled θ U)) u → Refuses (λ f θ. term_skeleton es f s.names (filled_all θ s.context) (application M P)) s
    application_refuses M P t u S U one two three =
        let argument = beside_reads (term_placed P) (free_placed P) s t u (λ θ. filled θ U) one.reading.names one.reading.context two.reading in
        second_refuses (λ f θ. term_skeleton es f s.names (filled_all θ s.context) M) (application_rest P) (λ y. IsFreeIn es y s.names M) s t (λ θ. filled θ S) (application_fixed P) one.reading
        (second_refuses (at_state (term_placed P) s) (λ f θ k. applied (filled θ S) k) (λ y. IsFreeIn es y s.names P) t u (λ θ. filled θ U) (λ f θ ρ k o e. ap (λ l. applied l k o) (filled_below (count_of t.store) θ ρ S one.within e)) argument three)

    pub arguments_refuse : (M : Term) (Ps : List Term) → Refuses (λ f θ. term_skeleton es f s.names (filled_all θ s.context) M) s → Refuses (λ f θ. term_skeleton es f s.names (filled_all θ s.context) (applied_to M Ps)) s
    arguments_refuse M [] r = r
    arguments_refuse M (P ∷ Ps) r = application_refuses_function (applied_to M Ps) P (arguments_refuse M Ps r)

    -- a term with its type
    abbrev ascription_rest : Term → Frees → Assignment → Skeleton → List Skeleton → Reading Skeleton
    ascription_rest A f θ k p = and_then (type_skeleton es f s.names (filled_all θ s.context) A p) (ascribed k)

    ascription_fixed : (A : Term) → IsFixed (count_of s.store) (ascription_rest A)
    ascription_fixed A f θ ρ k o e = ap (λ G. and_then (type_skeleton es f s.names G A o) (ascribed k)) (all_below (count_of s.store) θ ρ s.context sound.context e)

    pub ascription_reads : (M A : Term) (t u w : State) (S U T : Shape) → ReadsShape (λ f θ. term_skeleton es f s.names (filled_all θ s.context) M) (λ y. IsFreeIn es y s.names M) s t S
        → ReadsShape (at_state (type_placed A) t) (λ y. IsFreeIn es y t.names A) t u U → ReadsShape (λ f θ. ascribed (filled θ S) (filled θ U)) Nothing u w T
        → ReadsShape (λ f θ. term_skeleton es f s.names (filled_all θ s.context) (ascription M A)) (λ y. IsFreeIn es y s.names (ascription M A)) s w T
    ascription_reads M A t u w S U T one two three =
        let ty = beside_reads (type_placed A) (free_placed A) s t u (λ θ. filled θ U) one.reading.names one.reading.context two.reading in
        let rest = then_reads (at_state (type_placed A) s) (λ f θ k. ascribed (filled θ S) k) (λ y. IsFreeIn es y s.names A) Nothing (λ y. IsFreeIn es y s.names A) t u w (λ θ. filled θ U) (λ θ. filled θ T) (λ f θ ρ k o e. ap (λ l. ascribed l k o) (filled_below (count_of t.store) θ ρ S one.within e)) (both_nothing (λ y. IsFreeIn es y s.names A)) ty three.reading in
        record {
          reading = then_reads (λ f θ. term_skeleton es f s.names (filled_all θ s.context) M) (ascription_rest A) (λ y. IsFreeIn es y s.names M) (λ y. IsFreeIn es y s.names A) (λ y. IsFreeIn es y s.names (ascription M A)) s t w (λ θ. filled θ S) (λ θ. filled θ T) (ascription_fixed A) (both_parts (λ y. IsFreeIn es y s.names M) (λ y. IsFreeIn es y s.names A)) one.reading rest;
          within = three.within;
        }

    pub ascription_refuses_term : (M A : Term) → Refuses (λ f θ. term_skeleton es f s.names (filled_all θ s.context) M) s → Refuses (λ f θ. term_skeleton es f s.names (filled_all θ s.context) (ascription M A)) s
    ascription_refuses_term M A r = first_refuses (λ f θ. term_skeleton es f s.names (filled_all θ s.context) M) (ascription_rest A) s r

    pub ascription_refuses_type : (M A : Term) (t : State) (S : Shape) → ReadsShape (λ f θ. term_skeleton es f s.names (filled_all θ s.context) M) (λ y. IsFreeIn es y s.names M) s t S
        → Refuses (at_state (type_placed A) t) t → Refuses (λ f θ. term_skeleton es f s.names (filled_all θ s.context) (ascription M A)) s
    ascription_refuses_type M A t S one two =
        second_refuses (λ f θ. term_skeleton es f s.names (filled_all θ s.context) M) (ascription_rest A) (λ y. IsFreeIn es y s.names M) s t (λ θ. filled θ S) (ascription_fixed A) one.reading
        (first_refuses (at_state (type_placed A) s) (λ f θ k. ascribed (filled θ S) k) t (beside_refuses (type_placed A) s t one.reading.names one.reading.context two))

    pub ascription_refuses : (M A : Term) (t u : State) (S U : Shape) → ReadsShape (λ f θ. term_skeleton es f s.names (filled_all θ s.context) M) (λ y. IsFreeIn es y s.names M) s t S
        → ReadsShape (at_state (type_placed A) t) (λ y. IsFreeIn es y t.names A) t u U → Refuses (λ f θ. ascribed (filled θ S) (filled θ U)) u → Refuses (λ f θ. term_skeleton es f s.names (filled_all θ s.context) (ascription M A)) s
    ascription_refuses M A t u S U one two three =
        let ty = beside_reads (type_placed A) (free_placed A) s t u (λ θ. filled θ U) one.reading.names one.reading.context two.reading in
        second_refuses (λ f θ. term_skeleton es f s.names (filled_all θ s.context) M) (ascription_rest A) (λ y. IsFreeIn es y s.names M) s t (λ θ. filled θ S) (ascription_fixed A) one.reading
        (second_refuses (at_state (type_placed A) s) (λ f θ k. ascribed (filled θ S) k) (λ y. IsFreeIn es y s.names A) t u (λ θ. filled θ U) (λ f θ ρ k o e. ap (λ l. ascribed l k o) (filled_below (count_of t.store) θ ρ S one.within e)) ty three)
