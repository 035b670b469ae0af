-- Metavariables whose types mention bound ones.
use Rattle.std.proofs.Common.{◌≡◌, ◌<◌, ℕ, List, [], ◌∷◌, length, slice_get, Bool, true, false, Some, None, inl, inr, refl, sym, ap, ◌∙◌, subst}
use Rattle.std.specs.Prelude.{not, IsTrue, ◌↔◌}
use Rattle.std.specs.Bool.{MatchBool}
use Rattle.std.specs.Option.{option_map}
use Rattle.lf.specs.Subordination.{Member}
use Rattle.lf.specs.Syntax.{LfType, Term}
use Rattle.lf_unification.specs.OpenTyping.{Declares, MetavariablesInType}
use Rattle.lf_unification.specs.Putting.{Unbound}
use Rattle.lf_unification.specs.Unifiers.{Binding}
use Rattle.tw_metas.specs.State.{Declaration, IsUnbound, State, value_of}
use Rattle.tw_putting.specs.Stores.{TypeAllIn, bindings_of, types_of}
use Rattle.tw_putting.specs.Whole.{IsConsistent}
use Rattle.tw_putting.proofs.Changes.{there_is, within}
use Rattle.tw_putting.proofs.Views.{binding_of_value}
use Rattle.tw_putting.proofs.Walks.{unbound_from}
use Rattle.tw_unify.specs.Moving.{IsFresh, NeedsRenewal}

same_type : (s : State) (m : ℕ) (A B : LfType) → types_of s m ≡ Some A → types_of s m ≡ Some B → A ≡ B
same_type s m A B d e = let h : Some A ≡ Some B = sym d ∙ e in cc

pub stale_or_fresh : (s : State) (m : ℕ) (A : LfType) (r : Bool) → types_of s m ≡ Some A → value_of s m ≡ None → IsTrue r ↔ TypeAllIn s A → MatchBool (not r) (NeedsRenewal s m) (IsFresh s m)
unfolding TypeAllIn
stale_or_fresh s m A true d v (f, g) = λ B u e. subst (MetavariablesInType (Unbound (bindings_of s))) (same_type s m A B d e) (f refl)
stale_or_fresh s m A false d v (f, g) = record { of_type = A; declared = d; unbound = unbound_from s.values m v s.bound; mentions = λ a. (let h : false ≡ true = g a in cc) }

not_unbound : (bs : List Binding) (b : Binding) → Member b bs → Unbound bs b.of → ⊥
not_unbound [] b h u = h
not_unbound (d ∷ bs) b (inl e) (n, u) = n (ap (λ (x : Binding). x.of) e)
not_unbound (d ∷ bs) b (inr h) (n, u) = not_unbound bs b h u

pub bound_fresh : (s : State) → IsConsistent s → (m : ℕ) (N : Term) → value_of s m ≡ Some N → IsFresh s m
bound_fresh s c m N v A u d = absurd (not_unbound (bindings_of s) (record { of = m; value = N }) (binding_of_value s.bound s.values m N (c.values_are_bound m N v) v) u)

-- what isn't bound is declared
pub is_there : (s : State) → IsConsistent s → (m : ℕ) → IsUnbound s m → slice_get s.declared m ≡ None → ⊥
is_there s c m u n =
    let place : m < length s.declared = subst (λ k. m < k) c.places (within s.values m None u) in
    let (d, e) = there_is s.declared m place in
    let no : Some d ≡ None = sym e ∙ n in cc

-- and has a type
pub unbound_declares : (s : State) → IsConsistent s → (m : ℕ) → IsUnbound s m → Declares (types_of s) m
unbound_declares s c m u =
    let place : m < length s.declared = subst (λ k. m < k) c.places (within s.values m None u) in
    let (d, e) = there_is s.declared m place in
    (d.of_type, ap (option_map (λ (x : Declaration). x.of_type)) e)

-- a store tells of what it declares
pub told_of : (s : State) (m : ℕ) → Declares (types_of s) m → slice_get s.declared m ≡ None → ⊥
told_of s m (A, d) n = let no : None ≡ Some A = sym (ap (option_map (λ (x : Declaration). x.of_type)) n) ∙ d in absurd cc
