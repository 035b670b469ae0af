-- Free variables by name.
use Rattle.std.proofs.Common.{◌≡◌, ℕ, zero, suc, ◌<◌, List, [], ◌∷◌, ◌++◌, map, reverse, slice_get, option_map, Bool, true, false, Option, None, Some, ◌⊎◌, inl, inr, ◌↔◌, if◌then◌else◌, arith, refl, sym, ap, ◌∙◌, subst}
use Rattle.std.proofs.lemmas.List.{append-nil, reverse-append, map-append}
use Rattle.std.proofs.lemmas.Slice.Eq.{bytes_eq-Decides}
use Rattle.std.specs.Str.{bytes_eq}
use Rattle.lf.specs.Syntax.{Skeleton, Head}
use Rattle.tw_approx.specs.Readings.{found}
use Rattle.tw_approx.specs.Skeletons.{Frees}
use Rattle.tw_approx.specs.Walks.{Assignment, State, Variables, variable_named, HasVariable, Agrees, VariablesWithin, IsSound, ReadsShape, Refuses}
use Rattle.tw_names.specs.Unknown.{is_uppercase}
use Rattle.tw_fixity.specs.Names.{Names, variable_of}
use Rattle.tw_shapes.specs.Shapes.{variable, Store, count_of}
use Rattle.tw_approx.proofs.Assigning.{agrees_below, updated, updated_at}
use Rattle.tw_approx.proofs.Sequences.{given, parts_of}
use Rattle.tw_approx.proofs.Unifying.{IsFresh, fresh_solves, fresh_below, store_sound}

pub name_is : (y x : List ℕ) → bytes_eq y x ≡ true → y ≡ x
name_is y x e = (bytes_eq-Decides y x).0 e

pub is_name : (y x : List ℕ) → y ≡ x → bytes_eq y x ≡ true
is_name y x e = (bytes_eq-Decides y x).1 e

-- the names
abbrev pub names_of : Variables → Names
names_of xs = map (λ p. Some p.0) xs

-- the shape variable at a place
abbrev pub shape_at : Variables → ℕ → Option ℕ
shape_at xs i = option_map (λ p. p.1) (slice_get xs i)

abbrev shape_at_place : Variables → Option ℕ → Option ℕ
shape_at_place xs (Some i) = shape_at xs i
shape_at_place xs None = None

further : (p : List ℕ × ℕ) (xs : Variables) (o : Option ℕ) → shape_at_place (p ∷ xs) (option_map suc o) ≡ shape_at_place xs o
further p xs (Some i) = refl
further p xs None = refl

found_first : (y : List ℕ) (m : ℕ) (xs : Variables) (x : List ℕ) (b : Bool) → variable_named xs x ≡ shape_at_place xs (variable_of (names_of xs) x)
    → (if b then Some m else variable_named xs x) ≡ shape_at_place ((y, m) ∷ xs) (if b then Some zero else option_map suc (variable_of (names_of xs) x))
found_first y m xs x true e = refl
found_first y m xs x false e = e ∙ sym (further (y, m) xs (variable_of (names_of xs) x))

pub found_named : (xs : Variables) (x : List ℕ) → variable_named xs x ≡ shape_at_place xs (variable_of (names_of xs) x)
found_named [] x = refl
found_named ((y, m) ∷ xs) x = found_first y m xs x (bytes_eq y x) (found_named xs x)

pub named_at : (xs : Variables) (x : List ℕ) (i : ℕ) → variable_of (names_of xs) x ≡ Some i → shape_at xs i ≡ variable_named xs x
named_at xs x i e = sym (found_named xs x ∙ ap (shape_at_place xs) e)

pub not_named : (xs : Variables) (x : List ℕ) → variable_of (names_of xs) x ≡ None → None ≡ variable_named xs x
not_named xs x e = sym (found_named xs x ∙ ap (shape_at_place xs) e)

-- the names of a list that has the oldest first
pub names_reversed : {A : Type 0} (g : A → List ℕ × ℕ) (rows : List A) → names_of (reverse (map g rows)) ≡ reverse (map (λ r. Some (g r).0) rows)
names_reversed g [] = refl
names_reversed {A} g (r ∷ rows) =
    ap names_of (reverse-append (g r ∷ []) (map g rows)) ∙ map-append (λ (p : List ℕ × ℕ). Some p.0) (reverse (map g rows)) (g r ∷ []) ∙ ap (λ N. N ++ Some (g r).0 ∷ []) (names_reversed g rows)
    ∙ sym (reverse-append (Some (g r).0 ∷ []) (map (λ q. Some (g q).0) rows))

-- a name that has a shape variable
agrees_first : (f : Frees) (θ : Assignment) (y x : List ℕ) (n m : ℕ) (xs : Variables) (b : Bool) → bytes_eq y x ≡ b → (if b then Some n else variable_named xs x) ≡ Some m → f y ≡ θ n → (variable_named xs x ≡ Some m → f x ≡ θ m) → f x ≡ θ m
agrees_first f θ y x n m xs true t e a below = let same : n ≡ m = cc in ap f (sym (name_is y x t)) ∙ a ∙ ap θ same
agrees_first f θ y x n m xs false t e a below = below e

pub agrees_named : (f : Frees) (θ : Assignment) (xs : Variables) (x : List ℕ) (m : ℕ) → variable_named xs x ≡ Some m → Agrees f θ xs → f x ≡ θ m
agrees_named f θ [] x m e a = absurd cc
agrees_named f θ ((y, n) ∷ xs) x m e (a, b) = agrees_first f θ y x n m xs (bytes_eq y x) refl e a (λ h. agrees_named f θ xs x m h b)

within_first : (count n m : ℕ) (x : List ℕ) (xs : Variables) (b : Bool) → (if b then Some n else variable_named xs x) ≡ Some m → n < count → (variable_named xs x ≡ Some m → m < count) → m < count
within_first count n m x xs true e w below = let same : n ≡ m = cc in omega arith
within_first count n m x xs false e w below = below e

pub within_named : (count : ℕ) (xs : Variables) (x : List ℕ) (m : ℕ) → variable_named xs x ≡ Some m → VariablesWithin count xs → m < count
within_named count [] x m e w = absurd cc
within_named count ((y, n) ∷ xs) x m e (w, v) = within_first count n m x xs (bytes_eq y x) e w (λ h. within_named count xs x m h v)

has_first : (y x : List ℕ) (n m : ℕ) (xs : Variables) (b : Bool) → bytes_eq y x ≡ b → (if b then Some n else variable_named xs x) ≡ Some m → (variable_named xs x ≡ Some m → HasVariable x xs) → (y ≡ x) ⊎ HasVariable x xs
has_first y x n m xs true t e below = inl (name_is y x t)
has_first y x n m xs false t e below = inr (below e)

pub has_named : (xs : Variables) (x : List ℕ) (m : ℕ) → variable_named xs x ≡ Some m → HasVariable x xs
has_named [] x m e = absurd cc
has_named ((y, n) ∷ xs) x m e = has_first y x n m xs (bytes_eq y x) refl e (λ h. has_named xs x m h)

never_first : (y x : List ℕ) (n : ℕ) (xs : Variables) (b : Bool) → bytes_eq y x ≡ b → (if b then Some n else variable_named xs x) ≡ None → (y ≡ x) ⊎ HasVariable x xs → (variable_named xs x ≡ None → HasVariable x xs → ⊥) → ⊥
never_first y x n xs true t e h below = cc
never_first y x n xs false t e (inl s) below = let u = is_name y x s in cc
never_first y x n xs false t e (inr s) below = below e s

pub never_named : (xs : Variables) (x : List ℕ) → variable_named xs x ≡ None → HasVariable x xs → ⊥
never_named [] x e h = h
never_named ((y, n) ∷ xs) x e h = never_first y x n xs (bytes_eq y x) refl e h (λ a b. never_named xs x a b)

-- what a free variable is, if its name is in upper case
abbrev pub free_skeleton : Frees → List ℕ → Option Skeleton
free_skeleton f x = if is_uppercase x then Some (f x) else None

abbrev pub IsFreeName : List ℕ → List ℕ → Type 0
IsFreeName x y = (x ≡ y) × (is_uppercase x ≡ true) × (◌≡◌ {A = Option Head} None None)

uppercase_read : (f : Frees) (x : List ℕ) (o : List Skeleton) → is_uppercase x ≡ true → found (free_skeleton f x) o ≡ given (f x) o
uppercase_read f x o e = ap (λ b. found (if b then Some (f x) else None) o) e

pub lowercase_refuses : (x : List ℕ) (s : State) → is_uppercase x ≡ false → Refuses (λ f θ. found (free_skeleton f x)) s
lowercase_refuses x s e = record { never = λ f θ p k q h g r. let n : found (free_skeleton f x) p ≡ None = ap (λ b. found (if b then Some (f x) else None) p) e in absurd cc }

known_free : (xs : Variables) (x y : List ℕ) (m : ℕ) → is_uppercase x ≡ true → variable_named xs x ≡ Some m → HasVariable y xs ↔ (HasVariable y xs ⊎ IsFreeName x y)
known_free xs x y m up e = (
  λ h. inl h,
  λ d. elim d as (λ _. HasVariable y xs) [ inl h ↦ h | inr i ↦ subst (λ z. HasVariable z xs) i.0 (has_named xs x m e) ],
)

pub known_reads : (s : State) (x : List ℕ) (m : ℕ) → IsSound s → is_uppercase x ≡ true → variable_named s.variables x ≡ Some m → ReadsShape (λ f θ. found (free_skeleton f x)) (IsFreeName x) s s (variable m)
known_reads s x m h up e = record {
  reading = record {
    names = refl;
    context = refl;
    count = omega arith;
    sound = h;
    kept = λ θ g. g;
    agrees = λ f θ g. g;
    free = λ y. known_free s.variables x y m up e;
    more = [];
    added = sym (append-nil s.omitted);
    stable = λ θ ρ g. g m (within_named (count_of s.store) s.variables x m e h.variables);
    reads = λ f θ o g a. uppercase_read f x o up ∙ ap (λ k. given k o) (agrees_named f θ s.variables x m e a);
    every = λ f θ p k q g a r.
        let t = parts_of (f x) k p q (sym (uppercase_read f x p up) ∙ r) in
        (θ, λ i lt. refl, g, a, t.1, sym t.0 ∙ agrees_named f θ s.variables x m e a);
  };
  within = within_named (count_of s.store) s.variables x m e h.variables;
}

abbrev pub with_variable_named : Store → List ℕ → ℕ → State → State
with_variable_named store x m s = record { names = s.names; context = s.context; store = store; variables = (x, m) ∷ s.variables; omitted = s.omitted }

new_free : (xs : Variables) (x y : List ℕ) (m : ℕ) → is_uppercase x ≡ true → HasVariable y ((x, m) ∷ xs) ↔ (HasVariable y xs ⊎ IsFreeName x y)
new_free xs x y m up = (
  λ h. elim h as (λ _. HasVariable y xs ⊎ IsFreeName x y) [ inl e ↦ inr (e, up, refl) | inr i ↦ inl i ],
  λ d. elim d as (λ _. (x ≡ y) ⊎ HasVariable y xs) [ inl h ↦ inr h | inr i ↦ inl i.0 ],
)

pub new_reads : (s : State) (store : Store) (x : List ℕ) (m : ℕ) → IsSound s → IsFresh s.store store m → is_uppercase x ≡ true → variable_named s.variables x ≡ None
    → ReadsShape (λ f θ. found (free_skeleton f x)) (IsFreeName x) s (with_variable_named store x m s) (variable m)
new_reads s store x m h fresh up e = record {
  reading = record {
    names = refl;
    context = refl;
    count = fresh.count;
    sound =
        let w = store_sound s store fresh.count h in
        record { context = w.context; variables = (fresh.within, w.variables); omitted = w.omitted; differ = (never_named s.variables x e, h.differ) };
    kept = λ θ g. (fresh.same θ).1 g;
    agrees = λ f θ g. g.1;
    free = λ y. new_free s.variables x y m up;
    more = [];
    added = sym (append-nil s.omitted);
    stable = λ θ ρ g. g m fresh.within;
    reads = λ f θ o g a. uppercase_read f x o up ∙ ap (λ k. given k o) a.0;
    every = λ f θ p k q g a r.
        let ρ = updated θ m (f x) in
        let b = fresh_below s.store store m θ (f x) fresh in
        let v : ρ m ≡ f x = updated_at θ m (f x) in
        let t = parts_of (f x) k p q (sym (uppercase_read f x p up) ∙ r) in
        (ρ, b, fresh_solves s.store store m θ (f x) fresh g, (sym v, agrees_below (count_of s.store) f θ ρ s.variables h.variables b a), t.1, sym t.0 ∙ sym v);
  };
  within = fresh.within;
}

pub seen_through : {A B C : Type 0} (f : A → B) (g : B → C) (o : Option A) (r : Option B) → option_map f o ≡ r → option_map (λ a. g (f a)) o ≡ option_map g r
seen_through f g None r e = ap (option_map g) e
seen_through f g (Some a) r e = ap (option_map g) e
