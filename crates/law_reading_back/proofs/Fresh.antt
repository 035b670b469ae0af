-- A chosen name isn't taken: some candidate is free, since the names that are taken are fewer than the candidates.
use Rattle.std.proofs.Common.{◌≡◌, ℕ, zero, suc, ◌+◌, ◌≤◌, ◌<◌, ◌^◌, List, [], ◌∷◌, ◌++◌, length, map, Bool, true, false, cond, Some, None, refl, sym, ap, ◌∙◌, arith, ◌⊎◌, inl, inr, length-append}
use Rattle.std.specs.Prelude.{◌||◌, is_some, decimal}
use Rattle.std.specs.List.{list_any}
use Rattle.std.specs.Str.{bytes_eq}
use Rattle.std.specs.Cmp.Lexicographic.{bytes_decides}
use Rattle.std.specs.FinMap as finite
use Rattle.std.specs.Ordering.{eq_by_cmp, is_eq}
use Rattle.std.specs.declared.cmp.Ordering.{Ordering}
use Rattle.std.specs.declared.cmp.Ordering.TheVariants.{Less, Equal, Greater}
use Rattle.std.proofs.lemmas.Fmt.{decimal_injective, decimal_nonempty}
use Rattle.std.proofs.lemmas.List.{append_cancel_left, length-map}
use Rattle.lf.specs.Entries.{Entry}
use Rattle.tw_fixity.specs.Rows.{name_order}
use Rattle.tw_fixity.specs.declared.table.Fix.{Fix}
use Rattle.tw_fixity.specs.Names.{Names as Scope, is_in_scope}
use Rattle.tw_print.specs.Names.{Scene, is_taken, candidate, candidates, candidates_is, first_free, fresh_name}
use Rattle.tw_print.specs.Shown.{nesting_limit}
use Rattle.tw_signature.specs.Names.{number_of}
use Rattle.law_reading_back.specs.Names.{HasRoom}

abbrev IsIn : List ℕ → List (List ℕ) → Type 0
IsIn x [] = ⊥
IsIn x (y ∷ ys) = (x ≡ y) ⊎ IsIn x ys

-- the list without the first of this name
abbrev without : List ℕ → List (List ℕ) → List (List ℕ)
without x [] = []
without x (y ∷ ys) = cond (bytes_eq x y) ys (y ∷ without x ys)

shorter : (x : List ℕ) (ys : List (List ℕ)) → IsIn x ys → length (without x ys) + 1 ≤ length ys
shorter x [] h = absurd h
shorter x (y ∷ ys) h = by_test (bytes_eq x y) refl h (λ k. shorter x ys k)
  where
    by_test : (b : Bool) → bytes_eq x y ≡ b → (x ≡ y) ⊎ IsIn x ys → (IsIn x ys → length (without x ys) + 1 ≤ length ys) → length (cond b ys (y ∷ without x ys)) + 1 ≤ suc (length ys)
    by_test true q k f = omega arith
    by_test false q (inl e) f = let t : true ≡ false = sym ((bytes_decides x y).1 e) ∙ q in cc
    by_test false q (inr k) f = let r = f k in omega (arith, r)

still : (x z : List ℕ) (ys : List (List ℕ)) → (z ≡ x → ⊥) → IsIn z ys → IsIn z (without x ys)
still x z [] n h = absurd h
still x z (y ∷ ys) n h = by_test (bytes_eq x y) refl h (λ k. still x z ys n k)
  where
    by_test : (b : Bool) → bytes_eq x y ≡ b → (z ≡ y) ⊎ IsIn z ys → (IsIn z ys → IsIn z (without x ys)) → IsIn z (cond b ys (y ∷ without x ys))
    by_test true q (inl e) f = absurd (n (e ∙ sym ((bytes_decides x y).0 q)))
    by_test true q (inr k) f = k
    by_test false q (inl e) f = inl e
    by_test false q (inr k) f = inr (f k)

-- candidates differ
longer : (base ds : List ℕ) → 0 < length ds → base ≡ base ++ ds → ⊥
longer base ds h e = let n = ap length e in omega (arith, length-append base ds, n, h)

candidates_differ : (base : List ℕ) (j k : ℕ) → j < 2 ^ 64 → k < 2 ^ 64 → candidate base j ≡ candidate base k → j ≡ k
candidates_differ base zero zero h g e = refl
candidates_differ base zero (suc k) h g e = absurd (longer base (decimal (suc k)) (decimal_nonempty (suc k) g) e)
candidates_differ base (suc j) zero h g e = absurd (longer base (decimal (suc j)) (decimal_nonempty (suc j) h) (sym e))
candidates_differ base (suc j) (suc k) h g e = decimal_injective (suc j) (suc k) h g (append_cancel_left base (decimal (suc j)) (decimal (suc k)) e)

-- a candidate that isn't taken
pub record IsFree (s : Scene) (ns : Scope) (base x : List ℕ) : Type 0 where
  pub number : ℕ
  pub small : number < 2 ^ 64
  pub is : x ≡ candidate base number
  pub untaken : is_taken s ns x ≡ false

module _ (s : Scene) (ns : Scope) (base : List ℕ) where
  free : (count k : ℕ) (used : List (List ℕ)) → k + count ≤ 2 ^ 64 → ((j : ℕ) → k ≤ j → j < 2 ^ 64 → is_taken s ns (candidate base j) ≡ true → IsIn (candidate base j) used)
      → length used < count → IsFree s ns base (first_free count s ns base k)
  free zero k used room covers h = absurd (omega (arith, h))
  free (suc count) k used room covers h = by_test (is_taken s ns (candidate base k)) refl (λ less here. free count (suc k) (without (candidate base k) used) (omega (arith, room))
      (λ j above below t. still (candidate base k) (candidate base j) used (λ e. let same = candidates_differ base j k below (omega (arith, room)) e in omega (arith, same, above)) (covers j (omega (arith, above)) below t)) less)
    where
      by_test : (b : Bool) → is_taken s ns (candidate base k) ≡ b → (length (without (candidate base k) used) < count → IsIn (candidate base k) used → IsFree s ns base (first_free count s ns base (suc k)))
          → IsFree s ns base (cond b (first_free count s ns base (suc k)) (candidate base k))
      by_test true q f =
          let here : IsIn (candidate base k) used = covers k (omega arith) (omega (arith, room)) q in
          let less = shorter (candidate base k) used here in
          f (omega (arith, less, h)) here
      by_test false q f = record { number = k; small = omega (arith, room); is = refl; untaken = q }

-- the names that are taken
abbrev scope_names : Scope → List (List ℕ)
scope_names [] = []
scope_names (None ∷ ns) = scope_names ns
scope_names (Some x ∷ ns) = x ∷ scope_names ns

scope_names_few : (ns : Scope) → length (scope_names ns) ≤ length ns
scope_names_few [] = omega arith
scope_names_few (None ∷ ns) = let h = scope_names_few ns in omega (arith, h)
scope_names_few (Some x ∷ ns) = let h = scope_names_few ns in omega (arith, h)

either : (a b : Bool) → a || b ≡ true → (a ≡ true) ⊎ (b ≡ true)
either true b e = inl refl
either false b e = inr e

in_scope : (ns : Scope) (x : List ℕ) → is_in_scope ns x ≡ true → IsIn x (scope_names ns)
in_scope [] x e = cc
in_scope (None ∷ ns) x e = in_scope ns x e
in_scope (Some y ∷ ns) x e = by_case (either (bytes_eq y x) (is_in_scope ns x) e) (λ q. in_scope ns x q)
  where
    by_case : (bytes_eq y x ≡ true) ⊎ (is_in_scope ns x ≡ true) → (is_in_scope ns x ≡ true → IsIn x (scope_names ns)) → (x ≡ y) ⊎ IsIn x (scope_names ns)
    by_case (inl q) f = inl (sym ((bytes_decides y x).0 q))
    by_case (inr q) f = inr (f q)

declared : (es : List Entry) (x : List ℕ) → is_some (number_of es x) ≡ true → IsIn x (map (λ e. e.name) es)
declared [] x e = cc
declared (f ∷ es) x e = by_test (bytes_eq f.name x) refl e (λ t. declared es x t)
  where
    by_test : (b : Bool) → bytes_eq f.name x ≡ b → is_some (cond b (Some (length es)) (number_of es x)) ≡ true → (is_some (number_of es x) ≡ true → IsIn x (map (λ e. e.name) es)) → (x ≡ f.name) ⊎ IsIn x (map (λ e. e.name) es)
    by_test true q t g = inl (sym ((bytes_decides f.name x).0 q))
    by_test false q t g = inr (g t)

same_key : (x k : List ℕ) → eq_by_cmp name_order x k ≡ true → x ≡ k
same_key x k e = finite.slice_cmp-IsAntisymmetric finite.nat_cmp-IsAntisymmetric x k (equal (name_order x k) e)
  where
    equal : (r : Ordering) → is_eq r ≡ true → r ≡ Equal
    equal Equal e = refl
    equal Less e = cc
    equal Greater e = cc

keyed : (ks : List (List ℕ)) (x : List ℕ) → list_any (eq_by_cmp name_order x) ks ≡ true → IsIn x ks
keyed [] x e = cc
keyed (k ∷ ks) x e = by_case (either (eq_by_cmp name_order x k) (list_any (eq_by_cmp name_order x) ks) e) (λ q. keyed ks x q)
  where
    by_case : (eq_by_cmp name_order x k ≡ true) ⊎ (list_any (eq_by_cmp name_order x) ks ≡ true) → (list_any (eq_by_cmp name_order x) ks ≡ true → IsIn x ks) → (x ≡ k) ⊎ IsIn x ks
    by_case (inl q) f = inl (same_key x k q)
    by_case (inr q) f = inr (f q)

left_in : (x : List ℕ) (xs ys : List (List ℕ)) → IsIn x xs → IsIn x (xs ++ ys)
left_in x [] ys h = absurd h
left_in x (y ∷ xs) ys (inl e) = inl e
left_in x (y ∷ xs) ys (inr h) = inr (left_in x xs ys h)

right_in : (x : List ℕ) (xs ys : List (List ℕ)) → IsIn x ys → IsIn x (xs ++ ys)
right_in x [] ys h = h
right_in x (y ∷ xs) ys h = inr (right_in x xs ys h)

module _ (s : Scene) (ns : Scope) where
  used : List (List ℕ)
  used = scope_names ns ++ (map (λ e. e.name) s.entries ++ finite.keys s.rows)

  used_few : length used ≤ length ns + (length s.entries + finite.len s.rows)
  unfolding used
  used_few =
      let a = length-append (scope_names ns) (map (λ e. e.name) s.entries ++ finite.keys s.rows) in
      let b = length-append (map (λ (e : Entry). e.name) s.entries) (finite.keys s.rows) in
      let c = length-map s.entries (λ (e : Entry). e.name) in
      let d = length-map (finite.entries s.rows) (λ (e : List ℕ × Fix). e.0) in
      let f = finite.len-entries s.rows in
      let g = scope_names_few ns in
      omega (arith, a, b, c, d, f, g)

  taken_used : (x : List ℕ) → is_taken s ns x ≡ true → IsIn x used
  unfolding used
  taken_used x e = by_case (either (is_in_scope ns x) (is_some (number_of s.entries x) || is_some (finite.get s.rows x)) e)
    where
      by_rest : (is_some (number_of s.entries x) ≡ true) ⊎ (is_some (finite.get s.rows x) ≡ true) → IsIn x (scope_names ns ++ (map (λ e. e.name) s.entries ++ finite.keys s.rows))
      by_rest (inl q) = right_in x (scope_names ns) _ (left_in x (map (λ e. e.name) s.entries) (finite.keys s.rows) (declared s.entries x q))
      by_rest (inr q) = right_in x (scope_names ns) _ (right_in x (map (λ e. e.name) s.entries) (finite.keys s.rows) (keyed (finite.keys s.rows) x (sym (finite.contains_key-keys s.rows x) ∙ q)))

      by_case : (is_in_scope ns x ≡ true) ⊎ (is_some (number_of s.entries x) || is_some (finite.get s.rows x) ≡ true) → IsIn x (scope_names ns ++ (map (λ e. e.name) s.entries ++ finite.keys s.rows))
      by_case (inl q) = left_in x (scope_names ns) _ (in_scope ns x q)
      by_case (inr q) = by_rest (either (is_some (number_of s.entries x)) (is_some (finite.get s.rows x)) q)

  pub fresh_is_free : HasRoom s → length ns ≤ nesting_limit → (base : List ℕ) → IsFree s ns base (fresh_name s ns base)
  fresh_is_free room deep base =
      free s ns base candidates zero used (let e = candidates_is in omega (arith, e)) (λ j above below t. taken_used (candidate base j) t)
      (let e = candidates_is in let f = used_few in omega (arith, e, f, room, deep))
