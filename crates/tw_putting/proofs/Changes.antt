-- The store's view along its changes.
use Rattle.std.proofs.Common.{◌≡◌, ℕ, zero, suc, ◌<◌, ◌≤◌, ◌+◌, List, [], ◌∷◌, ◌++◌, length, Option, Some, None, ◌⊎◌, inl, inr, refl, sym, ap, ◌∙◌, subst, slice_set, length-append, arith}
use Rattle.std.specs.List.{slice_get}
use Rattle.std.specs.Option.{option_map}
use mathlib.Core.Path.{fun_ext}
use Rattle.lf.specs.Subordination.{Member}
use Rattle.lf.specs.Syntax.{LfType, Term}
use Rattle.lf_unification.specs.OpenTyping.{set_at}
use Rattle.lf_unification.specs.Putting.{Unbound}
use Rattle.lf_unification.specs.Unifiers.{Binding, Equation}
use Rattle.tw_metas.specs.State.{Declaration, IsUnbound, State, joined, with_declared, with_equation, with_value, without_equation}
use Rattle.tw_putting.specs.Stores.{bindings_from, bindings_of, types_of, with_binding}
use Rattle.tw_putting.specs.Whole.{IsConsistent}
use Rattle.tw_putting.proofs.Views.{binding_of_value}

-- lists of values
set_here : {A : Type 0} (vs : List A) (m : ℕ) (v w : A) → slice_get vs m ≡ Some v → slice_get (slice_set vs m w) m ≡ Some w
set_here [] m v w e = absurd cc
set_here (x ∷ vs) zero v w e = refl
set_here (x ∷ vs) (suc m) v w e = set_here vs m v w e

set_elsewhere : {A : Type 0} (vs : List A) (m k : ℕ) (w : A) → (k ≡ m → ⊥) → slice_get (slice_set vs m w) k ≡ slice_get vs k
set_elsewhere [] m k w n = refl
set_elsewhere (x ∷ vs) zero zero w n = absurd (n refl)
set_elsewhere (x ∷ vs) zero (suc k) w n = refl
set_elsewhere (x ∷ vs) (suc m) zero w n = refl
set_elsewhere (x ∷ vs) (suc m) (suc k) w n = set_elsewhere vs m k w (λ e. n (ap suc e))

set_length : {A : Type 0} (vs : List A) (m : ℕ) (w : A) → length (slice_set vs m w) ≡ length vs
set_length [] m w = refl
set_length (x ∷ vs) zero w = refl
set_length (x ∷ vs) (suc m) w = ap suc (set_length vs m w)

pub there_is : {A : Type 0} (vs : List A) (m : ℕ) → m < length vs → (v : A) × (slice_get vs m ≡ Some v)
there_is [] m h = absurd (omega arith)
there_is (v ∷ vs) zero h = (v, refl)
there_is (v ∷ vs) (suc m) h = there_is vs m (omega arith)

pub within : {A : Type 0} (vs : List A) (m : ℕ) (v : A) → slice_get vs m ≡ Some v → m < length vs
within [] m v e = absurd cc
within (w ∷ vs) zero v e = omega arith
within (w ∷ vs) (suc m) v e = let h = within vs m v e in omega arith

pub past_end : {A : Type 0} (vs : List A) (m : ℕ) → length vs ≤ m → slice_get vs m ≡ None
past_end [] m h = refl
past_end (v ∷ vs) zero h = absurd (omega arith)
past_end (v ∷ vs) (suc m) h = past_end vs m (omega arith)

-- the same values for these metavariables give the same bindings
same_bindings : (ms : List ℕ) (vs ws : List (Option Term)) → ((k : ℕ) → Member k ms → joined (slice_get ws k) ≡ joined (slice_get vs k)) → bindings_from ms ws ≡ bindings_from ms vs
same_bindings [] vs ws f = refl
same_bindings (m ∷ ms) vs ws f = ap (λ v. with_binding m v (bindings_from ms ws)) (f m (inl refl)) ∙ ap (with_binding m (joined (slice_get vs m))) (same_bindings ms vs ws (λ k h. f k (inr h)))

module _ (s : State) (c : IsConsistent s) where
  -- a metavariable that isn't bound has no value
  not_yet_bound : (m : ℕ) → IsUnbound s m → Member m s.bound → ⊥
  not_yet_bound m u h = let (N, e) = c.bound_have_values m h in let no : Some None ≡ Some (Some N) = sym u ∙ e in absurd cc

  binding_there : (bs : List Binding) (b : Binding) → Member b bs → Unbound bs b.of → ⊥
  binding_there [] b h u = h
  binding_there (d ∷ bs) b (inl e) (n, u) = n (ap (λ (x : Binding). x.of) e)
  binding_there (d ∷ bs) b (inr h) (n, u) = binding_there bs b h u

  unbound_value : (m : ℕ) (v : Option Term) → slice_get s.values m ≡ Some v → Unbound (bindings_of s) m → v ≡ None
  unbound_value m None e u = refl
  unbound_value m (Some N) e u =
      let is : joined (slice_get s.values m) ≡ Some N = ap joined e in
      absurd (binding_there (bindings_of s) (record { of = m; value = N }) (binding_of_value s.bound s.values m N (c.values_are_bound m N is) is) u)

  -- a declared metavariable that no binding is for
  pub is_unbound : (m : ℕ) (A : LfType) → types_of s m ≡ Some A → Unbound (bindings_of s) m → IsUnbound s m
  is_unbound m A d u =
      let place : m < length s.values = subst (λ n. m < n) (sym c.places) (declared_within s.declared m A d) in
      let (v, e) = there_is s.values m place in
      e ∙ ap Some (unbound_value m v e u)
    where
      declared_within : (ds : List Declaration) (k : ℕ) (B : LfType) → option_map (λ (d : Declaration). d.of_type) (slice_get ds k) ≡ Some B → k < length ds
      declared_within [] k B e = absurd cc
      declared_within (d ∷ ds) zero B e = omega arith
      declared_within (d ∷ ds) (suc k) B e = let h = declared_within ds k B e in omega arith

  -- it is bound now
  pub bindings_with_value : (m : ℕ) (N : Term) → IsUnbound s m → bindings_of (with_value s m N) ≡ record { of = m; value = N } ∷ bindings_of s
  bindings_with_value m N u =
      ap (λ v. with_binding m v (bindings_from s.bound (slice_set s.values m (Some N)))) (ap joined (set_here s.values m None (Some N) u))
      ∙ ap (λ bs. record { of = m; value = N } ∷ bs) (same_bindings s.bound s.values (slice_set s.values m (Some N))
      (λ k h. ap joined (set_elsewhere s.values m k (Some N) (λ e. not_yet_bound m u (subst (λ j. Member j s.bound) e h)))))

  bound_value : (m : ℕ) (N : Term) → IsUnbound s m → (k : ℕ) → Member k (m ∷ s.bound) → (M : Term) × (slice_get (slice_set s.values m (Some N)) k ≡ Some (Some M))
  bound_value m N u k (inl e) = (N, ap (slice_get (slice_set s.values m (Some N))) e ∙ set_here s.values m None (Some N) u)
  bound_value m N u k (inr h) =
      let (M, e) = c.bound_have_values k h in
      (M, set_elsewhere s.values m k (Some N) (λ f. not_yet_bound m u (subst (λ j. Member j s.bound) f h)) ∙ e)

  same_or_other : (k m : ℕ) → (k ≡ m) ⊎ (k ≡ m → ⊥)
  same_or_other zero zero = inl refl
  same_or_other zero (suc m) = inr (λ e. cc)
  same_or_other (suc k) zero = inr (λ e. cc)
  same_or_other (suc k) (suc m) = elim (same_or_other k m) [ inl e ↦ inl (ap suc e) | inr n ↦ inr (λ e. n (let f : k ≡ m = cc in f)) ]

  pub consistent_with_value : (m : ℕ) (N : Term) → IsUnbound s m → IsConsistent (with_value s m N)
  consistent_with_value m N u = record {
    places = set_length s.values m (Some N) ∙ c.places;
    bound_have_values = bound_value m N u;
    values_are_bound = λ k M e. elim (same_or_other k m) [
      | inl f ↦ inl f
      | inr n ↦ inr (c.values_are_bound k M (sym (ap joined (set_elsewhere s.values m k (Some N) n)) ∙ e))
    ];
    distinct = (not_yet_bound m u, c.distinct);
  }

one_more_value : (vs : List (Option Term)) (k : ℕ) → joined (slice_get (vs ++ None ∷ []) k) ≡ joined (slice_get vs k)
one_more_value [] zero = refl
one_more_value [] (suc k) = refl
one_more_value (v ∷ vs) zero = refl
one_more_value (v ∷ vs) (suc k) = one_more_value vs k

still_there : {A : Type 0} (vs ws : List A) (k : ℕ) (v : A) → slice_get vs k ≡ Some v → slice_get (vs ++ ws) k ≡ Some v
still_there [] ws k v e = absurd cc
still_there (w ∷ vs) ws zero v e = e
still_there (w ∷ vs) ws (suc k) v e = still_there vs ws k v e

one_more_type : (ds : List Declaration) (d : Declaration) (k : ℕ) → option_map (λ (e : Declaration). e.of_type) (slice_get (ds ++ d ∷ []) k) ≡ set_at (length ds) (Some d.of_type) (λ j. option_map (λ (e : Declaration). e.of_type) (slice_get ds j)) k
one_more_type [] d zero = refl
one_more_type [] d (suc k) = refl
one_more_type (x ∷ ds) d zero = refl
one_more_type (x ∷ ds) d (suc k) = one_more_type ds d k

-- one metavariable more
module _ (s : State) (G : List LfType) (Y : LfType) where
  pub types_with_declared : types_of (with_declared s G Y) ≡ set_at (length s.declared) (Some Y) (types_of s)
  types_with_declared = fun_ext (one_more_type s.declared (record { context = G; of_type = Y }))

  pub bindings_with_declared : bindings_of (with_declared s G Y) ≡ bindings_of s
  bindings_with_declared = same_bindings s.bound s.values (s.values ++ None ∷ []) (λ k h. one_more_value s.values k)

  pub consistent_with_declared : IsConsistent s → IsConsistent (with_declared s G Y)
  consistent_with_declared c = record {
    places = length-append s.values (None ∷ []) ∙ (ap (λ n. n + 1) c.places ∙ sym (length-append s.declared (record { context = G; of_type = Y } ∷ [])));
    bound_have_values = λ k h. let (M, e) = c.bound_have_values k h in (M, still_there s.values (None ∷ []) k (Some M) e);
    values_are_bound = λ k M e. c.values_are_bound k M (sym (one_more_value s.values k) ∙ e);
    distinct = c.distinct;
  }

  pub still_unbound : (m : ℕ) → IsUnbound s m → IsUnbound (with_declared s G Y) m
  still_unbound m u = still_there s.values (None ∷ []) m None u

-- other equations
pub consistent_with_equation : (s : State) (e : Equation) → IsConsistent s → IsConsistent (with_equation s e)
consistent_with_equation s e c = record { places = c.places; bound_have_values = c.bound_have_values; values_are_bound = c.values_are_bound; distinct = c.distinct }

pub consistent_without_equation : (s : State) (at : ℕ) → IsConsistent s → IsConsistent (without_equation s at)
consistent_without_equation s at c = record { places = c.places; bound_have_values = c.bound_have_values; values_are_bound = c.values_are_bound; distinct = c.distinct }
