-- Steps of a walk that make a shape variable or unify shapes.
use Rattle.std.proofs.Common.{◌≡◌, ◌≢◌, ℕ, ◌<◌, ◌≤◌, List, [], ◌∷◌, ◌++◌, Bool, true, false, ◌&&◌, ◌==◌, None, Some, ◌⊎◌, inl, inr, ◌↔◌, if◌then◌else◌, arith, refl, sym, ap, ◌∙◌, subst}
use Rattle.std.proofs.lemmas.Bool.Decides.{nat_tests}
use Rattle.std.proofs.lemmas.List.{append-nil}
use Rattle.lf.specs.Syntax.{Skeleton, base as base_skeleton, arrow as arrow_skeleton}
use Rattle.tw_approx.specs.Readings.{take}
use Rattle.tw_approx.specs.Skeletons.{same_skeleton, same_skeletons, applied, ascribed}
use Rattle.tw_approx.specs.Walks.{Assignment, State, SameBelow, IsSound, Reads, Refuses, ReadsShape, Nothing, with_store}
use Rattle.tw_shapes.specs.Shapes.{Shape, variable, arrow, filled, IsWithin, Store, count_of, Solves, SameSolutions, IsUnused, AddsEquation, Unifies}
use Rattle.tw_approx.proofs.Assigning.{filled_below, agrees_below, shape_more, shapes_more, variables_more, numbers_more, numbers_both, updated, updated_at, updated_off, updated_below}
use Rattle.tw_approx.proofs.Sequences.{given, parts_of}

pub both_true : (a b : Bool) → (a && b) ≡ true → (a ≡ true) × (b ≡ true)
both_true true true e = (refl, refl)
both_true true false e = absurd cc
both_true false b e = absurd cc

both_are_true : (a b : Bool) → a ≡ true → b ≡ true → (a && b) ≡ true
both_are_true true true e f = refl
both_are_true true false e f = absurd cc
both_are_true false b e f = absurd cc

number_test : (a b : ℕ) → (a == b) ≡ true → a ≡ b
number_test a b e = grind (arith, nat_tests, e)

number_same : (a : ℕ) → (a == a) ≡ true
number_same a = grind (arith, nat_tests)

pub equal_skeletons : (k l : Skeleton) → same_skeleton k l ≡ true → k ≡ l
equal_skeletons (base_skeleton a) (base_skeleton b) e = ap base_skeleton (number_test a b e)
equal_skeletons (base_skeleton a) (arrow_skeleton u v) e = absurd cc
equal_skeletons (arrow_skeleton k l) (base_skeleton b) e = absurd cc
equal_skeletons (arrow_skeleton k l) (arrow_skeleton u v) e =
    let p = both_true (same_skeleton k u) (same_skeleton l v) e in
    let a = equal_skeletons k u p.0 in
    let b = equal_skeletons l v p.1 in
    cc (a, b)

same_itself : (k : Skeleton) → same_skeleton k k ≡ true
same_itself (base_skeleton a) = number_same a
same_itself (arrow_skeleton k l) = both_are_true (same_skeleton k k) (same_skeleton l l) (same_itself k) (same_itself l)

pub skeletons_same : (k l : Skeleton) → k ≡ l → same_skeleton k l ≡ true
skeletons_same k l e = subst (λ m. same_skeleton k m ≡ true) e (same_itself k)

pub equal_lists : (ks ls : List Skeleton) → same_skeletons ks ls ≡ true → ks ≡ ls
equal_lists [] [] e = refl
equal_lists [] (l ∷ ls) e = absurd cc
equal_lists (k ∷ ks) [] e = absurd cc
equal_lists (k ∷ ks) (l ∷ ls) e =
    let p = both_true (same_skeleton k l) (same_skeletons ks ls) e in
    let a = equal_skeletons k l p.0 in
    let b = equal_lists ks ls p.1 in
    cc (a, b)

lists_itself : (ks : List Skeleton) → same_skeletons ks ks ≡ true
lists_itself [] = refl
lists_itself (k ∷ ks) = both_are_true (same_skeleton k k) (same_skeletons ks ks) (same_itself k) (lists_itself ks)

pub lists_same : (ks ls : List Skeleton) → ks ≡ ls → same_skeletons ks ls ≡ true
lists_same ks ls e = subst (λ ms. same_skeletons ks ms ≡ true) e (lists_itself ks)

-- a test that is passed
pub passed : {A : Type 0} (b : Bool) (x : A) (p : List Skeleton) → b ≡ true → (if b then given x p else None) ≡ given x p
passed b x p e = ap (λ (c : Bool). if c then given x p else None) e

pub if_passed : {A : Type 0} (b : Bool) (x k : A) (p q : List Skeleton) → (if b then given x p else None) ≡ given k q → (b ≡ true) × (x ≡ k) × (p ≡ q)
if_passed true x k p q e = let s = parts_of x k p q e in (refl, s.0, s.1)
if_passed false x k p q e = absurd cc

pub nothing_more : {A : Type 0} → A ↔ (A ⊎ ⊥)
nothing_more {A} = (λ a. inl a, λ d. elim d as (λ _. A) [ inl a ↦ a | inr b ↦ absurd b ])

pub store_sound : (s : State) (store : Store) → count_of s.store ≤ count_of store → IsSound s → IsSound (with_store store s)
store_sound s store le h = record {
  context = shapes_more (count_of s.store) (count_of store) s.context le h.context;
  variables = variables_more (count_of s.store) (count_of store) s.variables le h.variables;
  omitted = numbers_more (count_of s.store) (count_of store) s.omitted le h.omitted;
  differ = h.differ;
}

-- The store's solutions are narrowed to those that pass a test.
pub narrowed_reads : {A : Type 0} (b : Assignment → Bool) (w : Assignment → A) (s : State) (store : Store) → IsSound s → count_of store ≡ count_of s.store
    → ((θ : Assignment) → Solves θ store ↔ (Solves θ s.store × (b θ ≡ true)))
    → ((θ ρ : Assignment) → SameBelow (count_of s.store) θ ρ → w θ ≡ w ρ)
    → Reads (λ f θ o. if b θ then Some (w θ, o) else None) Nothing s (with_store store s) w
narrowed_reads b w s store h n solutions stable = record {
  names = refl;
  context = refl;
  count = omega arith;
  sound = store_sound s store (omega arith) h;
  kept = λ θ g. ((solutions θ).0 g).0;
  agrees = λ f θ g. g;
  free = λ x. nothing_more;
  more = [];
  added = sym (append-nil s.omitted);
  stable = λ θ ρ e. stable θ ρ (subst (λ c. SameBelow c θ ρ) n e);
  reads = λ f θ o g a. passed (b θ) (w θ) o ((solutions θ).0 g).1;
  every = λ f θ p k q g a e.
      let t = if_passed (b θ) (w θ) k p q e in
      (θ, λ m lt. refl, (solutions θ).1 (g, t.0), a, t.2, sym t.1);
}

pub narrowed_refuses : {A : Type 0} (b : Assignment → Bool) (w : Assignment → A) (s : State) → ((θ : Assignment) → Solves θ s.store → b θ ≡ true → ⊥) → Refuses (λ f θ o. if b θ then Some (w θ, o) else None) s
narrowed_refuses b w s never = record { never = λ f θ p k q g a e. never θ g (if_passed (b θ) (w θ) k p q e).0 }

-- two shapes made equal
pub equal_solutions : (s : Store) (t : Store) (S T : Shape) → AddsEquation s t S T → (θ : Assignment) → Solves θ t ↔ (Solves θ s × (same_skeleton (filled θ S) (filled θ T) ≡ true))
equal_solutions s t S T u θ = (
  λ g. let p = (u.solutions θ).0 g in (p.0, skeletons_same (filled θ S) (filled θ T) p.1),
  λ g. (u.solutions θ).1 (g.0, equal_skeletons (filled θ S) (filled θ T) g.1),
)

pub ascribed_reads : (s : State) (store : Store) (S T : Shape) → IsSound s → IsWithin (count_of s.store) S → AddsEquation s.store store S T → ReadsShape (λ f θ. ascribed (filled θ S) (filled θ T)) Nothing s (with_store store s) S
ascribed_reads s store S T h w u = record {
  reading = narrowed_reads (λ θ. same_skeleton (filled θ S) (filled θ T)) (λ θ. filled θ S) s store h u.count (equal_solutions s.store store S T u) (λ θ ρ e. filled_below (count_of s.store) θ ρ S w e);
  within = shape_more (count_of s.store) (count_of store) S (omega (arith, u.count)) w;
}

pub ascribed_refuses : (s : State) (S T : Shape) → ((θ : Assignment) → Solves θ s.store → filled θ S ≢ filled θ T) → Refuses (λ f θ. ascribed (filled θ S) (filled θ T)) s
ascribed_refuses s S T never = narrowed_refuses (λ θ. same_skeleton (filled θ S) (filled θ T)) (λ θ. filled θ S) s (λ θ g e. never θ g (equal_skeletons (filled θ S) (filled θ T) e))

pub arrow_reads : (s : State) (store : Store) (S T U : Shape) → IsSound s → IsWithin (count_of s.store) T → AddsEquation s.store store S U → ReadsShape (λ f θ. applied (filled θ (arrow S T)) (filled θ U)) Nothing s (with_store store s) T
arrow_reads s store S T U h w u = record {
  reading = narrowed_reads (λ θ. same_skeleton (filled θ S) (filled θ U)) (λ θ. filled θ T) s store h u.count (equal_solutions s.store store S U u) (λ θ ρ e. filled_below (count_of s.store) θ ρ T w e);
  within = shape_more (count_of s.store) (count_of store) T (omega (arith, u.count)) w;
}

pub arrow_refuses : (s : State) (S T U : Shape) → ((θ : Assignment) → Solves θ s.store → filled θ S ≢ filled θ U) → Refuses (λ f θ. applied (filled θ (arrow S T)) (filled θ U)) s
arrow_refuses s S T U never = narrowed_refuses (λ θ. same_skeleton (filled θ S) (filled θ U)) (λ θ. filled θ T) s (λ θ g e. never θ g (equal_skeletons (filled θ S) (filled θ U) e))

-- a new shape variable
pub record IsFresh (old new : Store) (m : ℕ) : Type 0 where
  pub number : m ≡ count_of old
  pub within : m < count_of new
  pub count : count_of old ≤ count_of new
  pub same : SameSolutions old new
  pub unused : IsUnused new m

-- each solution is one with any skeleton for it
pub fresh_solves : (old new : Store) (m : ℕ) (θ : Assignment) (k : Skeleton) → IsFresh old new m → Solves θ old → Solves (updated θ m k) new
fresh_solves old new m θ k h g = h.unused.any θ (updated θ m k) (λ n d. updated_off θ m k n d) ((h.same θ).0 g)

pub fresh_below : (old new : Store) (m : ℕ) (θ : Assignment) (k : Skeleton) → IsFresh old new m → SameBelow (count_of old) θ (updated θ m k)
fresh_below old new m θ k h = subst (λ c. SameBelow c θ (updated θ m k)) h.number (updated_below θ m k)

pub take_parts : (p : List Skeleton) (k : Skeleton) (q : List Skeleton) → take p ≡ Some (k, q) → p ≡ k ∷ q
take_parts [] k q e = absurd cc
take_parts (l ∷ p) k q e = let s = parts_of l k p q e in cc (s.0, s.1)

abbrev pub with_omitted : Store → ℕ → State → State
with_omitted store m s = record { names = s.names; context = s.context; store = store; variables = s.variables; omitted = s.omitted ++ m ∷ [] }

pub omitted_reads : (s : State) (store : Store) (m : ℕ) → IsSound s → IsFresh s.store store m → ReadsShape (λ f θ. take) Nothing s (with_omitted store m s) (variable m)
omitted_reads s store m h fresh = record {
  reading = record {
    names = refl;
    context = refl;
    count = fresh.count;
    sound =
        let w = store_sound s store fresh.count h in
        record { context = w.context; variables = w.variables; omitted = numbers_both (count_of store) s.omitted (m ∷ []) w.omitted (fresh.within, tt); differ = h.differ };
    kept = λ θ g. (fresh.same θ).1 g;
    agrees = λ f θ g. g;
    free = λ x. nothing_more;
    more = m ∷ [];
    added = refl;
    stable = λ θ ρ e. e m fresh.within;
    reads = λ f θ o g a. refl;
    every = λ f θ p k q g a e.
        let ρ = updated θ m k in
        let b = fresh_below s.store store m θ k fresh in
        let v : ρ m ≡ k = updated_at θ m k in
        (ρ, b, fresh_solves s.store store m θ k fresh g, agrees_below (count_of s.store) f θ ρ s.variables h.variables b a, take_parts p k q e ∙ ap (λ l. l ∷ q) (sym v), sym v);
  };
  within = fresh.within;
}

-- a term whose skeleton may not be known, on an argument
applied_parts : (k l : Skeleton) (p : List Skeleton) (r : Skeleton) (q : List Skeleton) → applied k l p ≡ Some (r, q) → (k ≡ arrow_skeleton l r) × (p ≡ q)
applied_parts (base_skeleton a) l p r q e = absurd cc
applied_parts (arrow_skeleton u v) l p r q e =
    let t = if_passed (same_skeleton u l) v r p q e in
    let a = equal_skeletons u l t.0 in
    (cc (a, t.1), t.2)

applied_known : (k l r : Skeleton) (o : List Skeleton) → k ≡ arrow_skeleton l r → applied k l o ≡ Some (r, o)
applied_known k l r o e = ap (λ x. applied x l o) e ∙ passed (same_skeleton l l) r o (same_itself l)

pub unknown_reads : (s : State) (middle store : Store) (m : ℕ) (S U : Shape) → IsSound s → IsWithin (count_of s.store) S → IsWithin (count_of s.store) U → IsFresh s.store middle m → AddsEquation middle store S (arrow U (variable m))
    → ReadsShape (λ f θ. applied (filled θ S) (filled θ U)) Nothing s (with_store store s) (variable m)
unknown_reads s middle store m S U h w y fresh u = record {
  reading = record {
    names = refl;
    context = refl;
    count = omega (arith, fresh.count, u.count);
    sound = store_sound s store (omega (arith, fresh.count, u.count)) h;
    kept = λ θ g. (fresh.same θ).1 ((u.solutions θ).0 g).0;
    agrees = λ f θ g. g;
    free = λ x. nothing_more;
    more = [];
    added = sym (append-nil s.omitted);
    stable = λ θ ρ e. e m (omega (arith, fresh.within, u.count));
    reads = λ f θ o g a. applied_known (filled θ S) (filled θ U) (θ m) o ((u.solutions θ).0 g).1;
    every = λ f θ p k q g a e.
        let ρ = updated θ m k in
        let b = fresh_below s.store middle m θ k fresh in
        let v : ρ m ≡ k = updated_at θ m k in
        let t = applied_parts (filled θ S) (filled θ U) p k q e in
        let left = filled_below (count_of s.store) θ ρ S w b in
        let right = filled_below (count_of s.store) θ ρ U y b in
        let equal : filled ρ S ≡ arrow_skeleton (filled ρ U) (ρ m) = sym left ∙ t.0 ∙ ap (λ x. arrow_skeleton x k) right ∙ ap (arrow_skeleton (filled ρ U)) (sym v) in
        (ρ, b, (u.solutions ρ).1 (fresh_solves s.store middle m θ k fresh g, equal), agrees_below (count_of s.store) f θ ρ s.variables h.variables b a, t.1, sym v);
  };
  within = omega (arith, fresh.within, u.count);
}

pub unknown_refuses : (s : State) (middle : Store) (m : ℕ) (S U : Shape) → IsSound s → IsWithin (count_of s.store) S → IsWithin (count_of s.store) U → IsFresh s.store middle m
    → ((θ : Assignment) → Solves θ middle → filled θ S ≢ filled θ (arrow U (variable m))) → Refuses (λ f θ. applied (filled θ S) (filled θ U)) s
unknown_refuses s middle m S U h w y fresh never = record {
  never = λ f θ p k q g a e.
      let ρ = updated θ m k in
      let b = fresh_below s.store middle m θ k fresh in
      let v : ρ m ≡ k = updated_at θ m k in
      let t = applied_parts (filled θ S) (filled θ U) p k q e in
      let left = filled_below (count_of s.store) θ ρ S w b in
      let right = filled_below (count_of s.store) θ ρ U y b in
      let equal : filled ρ S ≡ arrow_skeleton (filled ρ U) (ρ m) = sym left ∙ t.0 ∙ ap (λ x. arrow_skeleton x k) right ∙ ap (arrow_skeleton (filled ρ U)) (sym v) in
      never ρ (fresh_solves s.store middle m θ k fresh g) equal;
}

-- what unification answered
pub unified : (old new : Store) (S T U : Shape) (b : Bool) → b ≡ true → T ≡ U → Unifies old new S T b → AddsEquation old new S U
unified old new S T U true e t u = subst (AddsEquation old new S) t u
unified old new S T U false e t u = absurd cc

pub not_unified : (old new : Store) (S T U : Shape) (b : Bool) → b ≡ false → T ≡ U → Unifies old new S T b → (θ : Assignment) → Solves θ old → filled θ S ≢ filled θ U
not_unified old new S T U true e t u = absurd cc
not_unified old new S T U false e t u = λ θ g q. u.0 θ g (q ∙ ap (filled θ) (sym t))

pub arrow_reads_at : (s : State) (store : Store) (F S T U : Shape) → F ≡ arrow S T → IsSound s → IsWithin (count_of s.store) F → AddsEquation s.store store S U → ReadsShape (λ f θ. applied (filled θ F) (filled θ U)) Nothing s (with_store store s) T
arrow_reads_at s store F S T U e h w u = subst (λ X. ReadsShape (λ f θ. applied (filled θ X) (filled θ U)) Nothing s (with_store store s) T) (sym e) (arrow_reads s store S T U h (subst (IsWithin (count_of s.store)) e w).1 u)

pub arrow_refuses_at : (s : State) (F S T U : Shape) → F ≡ arrow S T → ((θ : Assignment) → Solves θ s.store → filled θ S ≢ filled θ U) → Refuses (λ f θ. applied (filled θ F) (filled θ U)) s
arrow_refuses_at s F S T U e never = subst (λ X. Refuses (λ f θ. applied (filled θ X) (filled θ U)) s) (sym e) (arrow_refuses s S T U never)
