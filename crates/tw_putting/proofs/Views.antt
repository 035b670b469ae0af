-- A store's state seen as a store of the theory, along its changes.
use Rattle.std.proofs.Common.{◌≡◌, ℕ, List, [], ◌∷◌, Option, Some, None, ◌⊎◌, inl, inr, refl, sym, ap, ◌∙◌}
use Rattle.std.specs.List.{slice_get}
use Rattle.lf.specs.Subordination.{Member}
use Rattle.lf.specs.Syntax.{Term, LfType}
use Rattle.lf_unification.specs.Unifiers.{Binding}
use Rattle.std.specs.Option.{option_map}
use Rattle.tw_metas.specs.State.{Declaration, State, joined}
use Rattle.tw_putting.specs.Stores.{bindings_from, types_of, with_binding}

first_value : (m : ℕ) (v : Option Term) (vs : List (Option Term)) (bs : List Binding) (b : Binding) → joined (slice_get vs m) ≡ v → (Member b bs → joined (slice_get vs b.of) ≡ Some b.value) → Member b (with_binding m v bs) → joined (slice_get vs b.of) ≡ Some b.value
first_value m None vs bs b e f h = f h
first_value m (Some N) vs bs b e f (inl g) = ap (λ (c : Binding). joined (slice_get vs c.of)) g ∙ e ∙ sym (ap (λ (c : Binding). Some c.value) g)
first_value m (Some N) vs bs b e f (inr g) = f g

-- a binding in the view is the value of its metavariable
pub value_of_binding : (ms : List ℕ) (vs : List (Option Term)) (b : Binding) → Member b (bindings_from ms vs) → joined (slice_get vs b.of) ≡ Some b.value
value_of_binding [] vs b h = absurd h
value_of_binding (m ∷ ms) vs b h = first_value m (joined (slice_get vs m)) vs (bindings_from ms vs) b refl (value_of_binding ms vs b) h

first_binding : (k m : ℕ) (N : Term) (v : Option Term) (vs : List (Option Term)) (bs : List Binding) → joined (slice_get vs m) ≡ Some N → joined (slice_get vs k) ≡ v → (m ≡ k) ⊎ Member (record { of = m; value = N }) bs → Member (record { of = m; value = N }) (with_binding k v bs)
first_binding k m N None vs bs e f (inl g) = let no : None ≡ Some N = sym f ∙ (sym (ap (λ j. joined (slice_get vs j)) g) ∙ e) in absurd cc
first_binding k m N None vs bs e f (inr h) = h
first_binding k m N (Some M) vs bs e f (inl g) =
    let same : Some M ≡ Some N = sym f ∙ (sym (ap (λ j. joined (slice_get vs j)) g) ∙ e) in
    let is : N ≡ M = cc in
    inl (ap (λ j. record { of = j; value = N }) g ∙ ap (λ X. record { of = k; value = X }) is)
first_binding k m N (Some M) vs bs e f (inr h) = inr h

either_place : (k m : ℕ) (ms : List ℕ) (P : Type 0) → (Member m ms → P) → Member m (k ∷ ms) → (m ≡ k) ⊎ P
either_place k m ms P f (inl e) = inl e
either_place k m ms P f (inr h) = inr (f h)

-- a bound metavariable's value is a binding in the view
pub binding_of_value : (ms : List ℕ) (vs : List (Option Term)) (m : ℕ) (N : Term) → Member m ms → joined (slice_get vs m) ≡ Some N → Member (record { of = m; value = N }) (bindings_from ms vs)
binding_of_value [] vs m N h e = absurd h
binding_of_value (k ∷ ms) vs m N h e =
    first_binding k m N (joined (slice_get vs k)) vs (bindings_from ms vs) e refl (either_place k m ms (Member (record { of = m; value = N }) (bindings_from ms vs)) (λ g. binding_of_value ms vs m N g e) h)

pub same_value : (vs : List (Option Term)) (m : ℕ) (b : Binding) (N : Term) → b.of ≡ m → joined (slice_get vs b.of) ≡ Some b.value → joined (slice_get vs m) ≡ Some N → N ≡ b.value
same_value vs m b N e f g = let same : Some N ≡ Some b.value = sym g ∙ (ap (λ j. joined (slice_get vs j)) (sym e) ∙ f) in cc

-- the type that a store tells of a metavariable
pub type_told : (s : State) (m : ℕ) (G : List LfType) (A : LfType) → Some (record { context = G; of_type = A }) ≡ slice_get s.declared m → types_of s m ≡ Some A
type_told s m G A e = sym (ap (option_map (λ (d : Declaration). d.of_type)) e)
