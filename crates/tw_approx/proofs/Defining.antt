-- Definitions, with the type that is written for them.
use Rattle.std.proofs.Common.{◌≡◌, ℕ, List, [], Option, None, Some, ◌⊎◌, inl, inr, ◌↔◌, refl, ap, subst}
use Rattle.lf.specs.Entries.{Entry}
use Rattle.lf.specs.Syntax.{Skeleton}
use Rattle.tw_approx.specs.Names.{IsFreeIn}
use Rattle.tw_approx.specs.Reading.{TermIsRead, TypeIsRead, IsAscribed}
use Rattle.tw_approx.specs.Readings.{Reading, and_then}
use Rattle.tw_approx.specs.Skeletons.{Frees, ascribed, term_skeleton, type_skeleton}
use Rattle.tw_approx.specs.Solving.{DefinitionIsRead}
use Rattle.tw_approx.specs.Walks.{Assignment, Readings, State, empty_state, Reads, Nothing}
use Rattle.tw_parse.specs.Syntax.{Term}
use Rattle.tw_shapes.specs.Shapes.{filled, count_of}
use Rattle.tw_shapes.specs.View.{shape_of}
use Rattle.tw_shapes.specs.declared.shape.Shape as program
use Rattle.tw_approx.proofs.Assigning.{filled_below}
use Rattle.tw_approx.proofs.Forms.{both_nothing, both_parts, term_placed}
use Rattle.tw_approx.proofs.Sequences.{then_reads, first_refuses, second_refuses}
use Rattle.tw_approx.proofs.Surroundings.{beside_reads, beside_refuses}

none_more : {A B C : Type 0} → A ↔ (B ⊎ C) → A ↔ (B ⊎ (⊥ ⊎ C))
none_more {A} {B} {C} e = (
  λ a. elim (e.0 a) as (λ _. B ⊎ (⊥ ⊎ C)) [ inl b ↦ inl b | inr c ↦ inr (inr c) ],
  λ d. elim d as (λ _. A) [ inl b ↦ e.1 (inl b) | inr r ↦ elim r as (λ _. A) [ inl n ↦ absurd n | inr c ↦ e.1 (inr c) ] ],
)

with_none : {A : Type 0} (R : Readings A) (F : List ℕ → Type 0) (s t : State) (v : Assignment → A) → Reads R F s t v → Reads R (λ x. ⊥ ⊎ F x) s t v
with_none R F s t v r = record {
  names = r.names;
  context = r.context;
  count = r.count;
  sound = r.sound;
  kept = r.kept;
  agrees = r.agrees;
  free = λ x. none_more (r.free x);
  more = r.more;
  added = r.added;
  stable = r.stable;
  reads = r.reads;
  every = r.every;
}

module _ (es : List Entry) where
  pub term_defined : (M : Term) (s t : State) (o : Option program.Shape) → s ≡ empty_state → TermIsRead es s t M o → DefinitionIsRead es empty_state t None M o
  term_defined M s t None e r = subst (λ z. TermIsRead es z t M None) e r
  term_defined M s t (Some S) e r =
      let moved = subst (λ z. TermIsRead es z t M (Some S)) e r in
      record { reading = with_none (λ f θ. term_skeleton es f [] [] M) (λ x. IsFreeIn es x [] M) empty_state t (λ θ. filled θ (shape_of S)) moved.reading; within = moved.within }

  abbrev definition_rest : Term → Frees → Assignment → Skeleton → List Skeleton → Reading Skeleton
  definition_rest M f θ k p = and_then (term_skeleton es f [] [] M p) (ascribed k)

  pub typed_refuses : (A M : Term) (s : State) (t : State) → s ≡ empty_state → TypeIsRead es s t A None → DefinitionIsRead es empty_state t (Some A) M None
  typed_refuses A M s t e r = first_refuses (λ f θ. type_skeleton es f [] [] A) (definition_rest M) empty_state (subst (λ z. TypeIsRead es z t A None) e r)

  pub typed_refuses_term : (A M : Term) (s t u : State) (S : program.Shape) → s ≡ empty_state → TypeIsRead es s t A (Some S) → TermIsRead es t u M None → DefinitionIsRead es empty_state u (Some A) M None
  typed_refuses_term A M s t u S e r two =
      let one = subst (λ z. TypeIsRead es z t A (Some S)) e r in
      second_refuses (λ f θ. type_skeleton es f [] [] A) (definition_rest M) (λ x. IsFreeIn es x [] A) empty_state t (λ θ. filled θ (shape_of S)) (λ f θ ρ k o h. refl) one.reading
      (first_refuses (λ f θ. term_skeleton es f [] [] M) (λ f θ k. ascribed (filled θ (shape_of S)) k) t (beside_refuses (term_placed es M) empty_state t one.reading.names one.reading.context two))

  pub typed_defined : (A M : Term) (s t u w : State) (S U : program.Shape) → s ≡ empty_state → TypeIsRead es s t A (Some S) → TermIsRead es t u M (Some U) → (o : Option program.Shape) → IsAscribed u w (shape_of S) (shape_of U) o → DefinitionIsRead es empty_state w (Some A) M o
  typed_defined A M s t u w S U e r two None three =
      let one = subst (λ z. TypeIsRead es z t A (Some S)) e r in
      let term = beside_reads (term_placed es M) (λ N x. IsFreeIn es x N M) empty_state t u (λ θ. filled θ (shape_of U)) one.reading.names one.reading.context two.reading in
      second_refuses (λ f θ. type_skeleton es f [] [] A) (definition_rest M) (λ x. IsFreeIn es x [] A) empty_state t (λ θ. filled θ (shape_of S)) (λ f θ ρ k o h. refl) one.reading
      (second_refuses (λ f θ. term_skeleton es f [] [] M) (λ f θ k. ascribed (filled θ (shape_of S)) k) (λ x. IsFreeIn es x [] M) t u (λ θ. filled θ (shape_of U)) (λ f θ ρ k o h. ap (λ l. ascribed l k o) (filled_below (count_of t.store) θ ρ (shape_of S) one.within h)) term three)
  typed_defined A M s t u w S U e r two (Some T) three =
      let one = subst (λ z. TypeIsRead es z t A (Some S)) e r in
      let term = beside_reads (term_placed es M) (λ N x. IsFreeIn es x N M) empty_state t u (λ θ. filled θ (shape_of U)) one.reading.names one.reading.context two.reading in
      let rest = then_reads (λ f θ. term_skeleton es f [] [] M) (λ f θ k. ascribed (filled θ (shape_of S)) k) (λ x. IsFreeIn es x [] M) Nothing (λ x. IsFreeIn es x [] M) t u w (λ θ. filled θ (shape_of U)) (λ θ. filled θ (shape_of T)) (λ f θ ρ k o h. ap (λ l. ascribed l k o) (filled_below (count_of t.store) θ ρ (shape_of S) one.within h)) (both_nothing (λ x. IsFreeIn es x [] M)) term three.reading in
      record {
        reading = then_reads (λ f θ. type_skeleton es f [] [] A) (definition_rest M) (λ x. IsFreeIn es x [] A) (λ x. IsFreeIn es x [] M) (λ x. IsFreeIn es x [] A ⊎ IsFreeIn es x [] M) empty_state t w (λ θ. filled θ (shape_of S)) (λ θ. filled θ (shape_of T)) (λ f θ ρ k o h. refl) (both_parts (λ x. IsFreeIn es x [] A) (λ x. IsFreeIn es x [] M)) one.reading rest;
        within = three.within;
      }
