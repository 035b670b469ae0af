-- One part of a walk behind another.
use Rattle.std.proofs.Common.{◌≡◌, ℕ, List, ◌++◌, map, None, Some, ◌⊎◌, inl, inr, ◌↔◌, append_assoc, arith, refl, sym, ap, ◌∙◌, subst}
use Rattle.std.proofs.lemmas.List.{map-append}
use Rattle.lf.specs.Syntax.{Skeleton}
use Rattle.tw_approx.specs.Readings.{Reading, and_then}
use Rattle.tw_approx.specs.Skeletons.{Frees}
use Rattle.tw_approx.specs.Walks.{Assignment, Readings, State, SameBelow, NumbersWithin, Reads, Refuses}
use Rattle.tw_shapes.specs.Shapes.{count_of}
use Rattle.tw_approx.proofs.Assigning.{numbers_below, numbers_behind, fewer_below}

some_inj : {X : Type 0} {x y : X} → Some x ≡ Some y → x ≡ y
some_inj e = cc

-- a value with what is left of the list
abbrev pub given : {A : Type 0} → A → List Skeleton → Reading A
given a p = Some (a, p)

pub parts_of : {A : Type 0} (a b : A) (p q : List Skeleton) → given a p ≡ given b q → (a ≡ b) × (p ≡ q)
parts_of {A} a b p q e = (ap (λ (x : A × List Skeleton). x.0) (some_inj e), ap (λ (x : A × List Skeleton). x.1) (some_inj e))

pub and_then_parts : {A B : Type 0} (r : Reading A) (g : A → List Skeleton → Reading B) (k : B) (q : List Skeleton) → and_then r g ≡ Some (k, q) → (a : A) × (p : List Skeleton) × (r ≡ Some (a, p)) × (g a p ≡ Some (k, q))
and_then_parts None g k q e = absurd cc
and_then_parts (Some (a, p)) g k q e = (a, p, refl, e)

abbrev pub Both : (List ℕ → Type 0) → (List ℕ → Type 0) → (List ℕ → Type 0) → Type 0
Both F E H = (x : List ℕ) → H x ↔ (F x ⊎ E x)

free_both : {A B C F E H : Type 0} → A ↔ (B ⊎ F) → C ↔ (A ⊎ E) → H ↔ (F ⊎ E) → C ↔ (B ⊎ H)
free_both {A} {B} {C} {F} {E} {H} p q r = (
  λ c. elim (q.0 c) as (λ _. B ⊎ H) [
    | inl a ↦ elim (p.0 a) as (λ _. B ⊎ H) [ inl b ↦ inl b | inr f ↦ inr (r.1 (inl f)) ]
    | inr e ↦ inr (r.1 (inr e))
  ],
  λ d. elim d as (λ _. C) [
    | inl b ↦ q.1 (inl (p.1 (inl b)))
    | inr h ↦ elim (r.0 h) as (λ _. C) [ inl f ↦ q.1 (inl (p.1 (inr f))) | inr e ↦ q.1 (inr e) ]
  ],
)

-- what the second part reads depends on the first variables only
abbrev pub IsFixed : {A B : Type 0} → ℕ → (Frees → Assignment → A → List Skeleton → Reading B) → Type 0
IsFixed {A} n Q = (f : Frees) (θ ρ : Assignment) (a : A) (o : List Skeleton) → SameBelow n θ ρ → Q f θ a o ≡ Q f ρ a o

more_within : {A : Type 0} (R : Readings A) (F : List ℕ → Type 0) (s t : State) (v : Assignment → A) (r : Reads R F s t v) → NumbersWithin (count_of t.store) r.more
more_within R F s t v r = numbers_behind (count_of t.store) s.omitted r.more (subst (NumbersWithin (count_of t.store)) r.added r.sound.omitted)

pub then_reads : {A B : Type 0} (R : Readings A) (Q : Frees → Assignment → A → List Skeleton → Reading B) (F E H : List ℕ → Type 0) (s t u : State) (v : Assignment → A) (w : Assignment → B)
    → IsFixed (count_of s.store) Q → Both F E H → Reads R F s t v → Reads (λ f θ o. Q f θ (v θ) o) E t u w → Reads (λ f θ o. and_then (R f θ o) (Q f θ)) H s u w
then_reads {A} {B} R Q F E H s t u v w fixed both one two = record {
  names = two.names ∙ one.names;
  context = two.context ∙ one.context;
  count = omega (arith, one.count, two.count);
  sound = two.sound;
  kept = λ θ h. one.kept θ (two.kept θ h);
  agrees = λ f θ h. one.agrees f θ (two.agrees f θ h);
  free = λ x. free_both (one.free x) (two.free x) (both x);
  more = one.more ++ two.more;
  added = two.added ∙ ap (λ ms. ms ++ two.more) one.added ∙ append_assoc s.omitted one.more two.more;
  stable = two.stable;
  reads = λ f θ o h g.
      let list : map θ (one.more ++ two.more) ++ o ≡ map θ one.more ++ (map θ two.more ++ o) = ap (λ ms. ms ++ o) (map-append θ one.more two.more) ∙ append_assoc (map θ one.more) (map θ two.more) o in
      let first : R f θ (map θ one.more ++ (map θ two.more ++ o)) ≡ Some (v θ, map θ two.more ++ o) = one.reads f θ (map θ two.more ++ o) (two.kept θ h) (two.agrees f θ g) in
      ap (λ p. and_then (R f θ p) (Q f θ)) list ∙ ap (λ r. and_then r (Q f θ)) first ∙ two.reads f θ o h g;
  every = λ f θ p k q h g e.
      let parts = and_then_parts (R f θ p) (Q f θ) k q e in
      let a = one.every f θ p parts.0 parts.1 h g parts.2 in
      let ρ = a.0 in
      let moved : Q f ρ (v ρ) parts.1 ≡ Some (k, q) = ap (λ b. Q f ρ b parts.1) (sym a.5) ∙ sym (fixed f θ ρ parts.0 parts.1 a.1) ∙ parts.3 in
      let b = two.every f ρ parts.1 k q a.2 a.3 moved in
      let same : map ρ one.more ≡ map b.0 one.more = numbers_below (count_of t.store) ρ b.0 one.more (more_within R F s t v one) b.1 in
      let list : p ≡ map b.0 (one.more ++ two.more) ++ q = a.4 ∙ ap (λ x. map ρ one.more ++ x) b.4 ∙ ap (λ x. x ++ (map b.0 two.more ++ q)) same ∙ sym (append_assoc (map b.0 one.more) (map b.0 two.more) q) ∙ ap (λ x. x ++ q) (sym (map-append b.0 one.more two.more)) in
      (b.0, λ m lt. a.1 m lt ∙ b.1 m (omega (arith, one.count, lt)), b.2, b.3, list, b.5);
}

-- a value made of what is read
pub made_reads : {A B : Type 0} (R : Readings A) (g : Assignment → A → B) (F : List ℕ → Type 0) (s t : State) (v : Assignment → A)
    → ((θ ρ : Assignment) (a : A) → SameBelow (count_of s.store) θ ρ → g θ a ≡ g ρ a) → Reads R F s t v → Reads (λ f θ o. and_then (R f θ o) (λ a q. Some (g θ a, q))) F s t (λ θ. g θ (v θ))
made_reads {A} {B} R g F s t v fixed one = record {
  names = one.names;
  context = one.context;
  count = one.count;
  sound = one.sound;
  kept = one.kept;
  agrees = one.agrees;
  free = one.free;
  more = one.more;
  added = one.added;
  stable = λ θ ρ e. fixed θ ρ (v θ) (fewer_below (count_of s.store) (count_of t.store) θ ρ one.count e) ∙ ap (g ρ) (one.stable θ ρ e);
  reads = λ f θ o h a. ap (λ r. and_then r (λ b q. Some (g θ b, q))) (one.reads f θ o h a);
  every = λ f θ p k q h a e.
      let parts = and_then_parts (R f θ p) (λ b r. Some (g θ b, r)) k q e in
      let i = one.every f θ p parts.0 parts.1 h a parts.2 in
      let same = parts_of (g θ parts.0) k parts.1 q parts.3 in
      (i.0, i.1, i.2, i.3, i.4 ∙ ap (λ x. map i.0 one.more ++ x) same.1, sym same.0 ∙ fixed θ i.0 parts.0 i.1 ∙ ap (g i.0) i.5);
}

pub first_refuses : {A B : Type 0} (R : Readings A) (Q : Frees → Assignment → A → List Skeleton → Reading B) (s : State) → Refuses R s → Refuses (λ f θ o. and_then (R f θ o) (Q f θ)) s
first_refuses R Q s one = record {
  never = λ f θ p k q h g e.
      let parts = and_then_parts (R f θ p) (Q f θ) k q e in
      one.never f θ p parts.0 parts.1 h g parts.2;
}

pub second_refuses : {A B : Type 0} (R : Readings A) (Q : Frees → Assignment → A → List Skeleton → Reading B) (F : List ℕ → Type 0) (s t : State) (v : Assignment → A)
    → IsFixed (count_of s.store) Q → Reads R F s t v → Refuses (λ f θ o. Q f θ (v θ) o) t → Refuses (λ f θ o. and_then (R f θ o) (Q f θ)) s
second_refuses R Q F s t v fixed one two = record {
  never = λ f θ p k q h g e.
      let parts = and_then_parts (R f θ p) (Q f θ) k q e in
      let a = one.every f θ p parts.0 parts.1 h g parts.2 in
      let moved : Q f a.0 (v a.0) parts.1 ≡ Some (k, q) = ap (λ b. Q f a.0 b parts.1) (sym a.5) ∙ sym (fixed f θ a.0 parts.0 parts.1 a.1) ∙ parts.3 in
      two.never f a.0 parts.1 k q a.2 a.3 moved;
}
