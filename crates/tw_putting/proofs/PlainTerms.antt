-- Terms without bound metavariables, part by part.
use Rattle.std.proofs.Common.{◌≡◌, ℕ, List, [], ◌∷◌, Some, None, ◌↔◌, inl, inr, sym, ap, subst}
use Rattle.lf.specs.Subordination.{Member}
use Rattle.lf.specs.Syntax.{Spine, Term, LfType, app, atom, constant, lambda, metavariable, nil, pi, root, variable}
use Rattle.lf_unification.specs.OpenTyping.{MetavariablesIn, MetavariablesInSpine, MetavariablesInType}
use Rattle.lf_unification.specs.Putting.{Unbound, put_at_rigid, put_at_unbound, put_in_argument, put_in_atom, put_in_pi, put_nowhere, put_under_lambda}
use Rattle.lf_unification.specs.Unifiers.{Binding}
use Rattle.tw_metas.specs.State.{State, value_of}
use Rattle.tw_putting.specs.Stores.{AllIn, Puts, PutsSpine, PutsType, SpineAllIn, TypeAllIn, ValuesAreBound, bindings_of}
use Rattle.tw_putting.proofs.Walks.{member_from, unbound_from}

-- what is bound is not unbound
not_both : (bs : List Binding) (b : Binding) → Member b bs → Unbound bs b.of → ⊥
not_both [] b i u = i
not_both (c ∷ bs) b (inl q) (n, u) = n (ap (λ x. x.of) q)
not_both (c ∷ bs) b (inr i) (n, u) = not_both bs b i u

module _ (s : State) (P : Type 0) where
  pub at_lambda : (M N : Term) → M ≡ lambda N → P ↔ AllIn s N → P ↔ AllIn s M
  unfolding AllIn
  at_lambda M N p h = subst (λ X. P ↔ AllIn s X) (sym p) h

  pub at_constant : (M : Term) (c : ℕ) (S : Spine) → M ≡ root (constant c) S → P ↔ SpineAllIn s S → P ↔ AllIn s M
  unfolding AllIn SpineAllIn
  at_constant M c S p h = subst (λ X. P ↔ AllIn s X) (sym p) h

  pub at_variable : (M : Term) (i : ℕ) (S : Spine) → M ≡ root (variable i) S → P ↔ SpineAllIn s S → P ↔ AllIn s M
  unfolding AllIn SpineAllIn
  at_variable M i S p h = subst (λ X. P ↔ AllIn s X) (sym p) h

  pub at_unbound : (M : Term) (m : ℕ) (S : Spine) → M ≡ root (metavariable m) S → value_of s m ≡ None → P ↔ SpineAllIn s S → P ↔ AllIn s M
  unfolding AllIn SpineAllIn
  at_unbound M m S p v (f, g) = subst (λ X. P ↔ AllIn s X) (sym p) ((λ x. (unbound_from s.values m v s.bound, f x)), (λ y. g y.1))

  pub at_bound : (M : Term) (m : ℕ) (S : Spine) (N : Term) → M ≡ root (metavariable m) S → value_of s m ≡ Some N → ValuesAreBound s → (P → ⊥) → P ↔ AllIn s M
  unfolding AllIn
  at_bound M m S N p v h f = subst (λ X. P ↔ AllIn s X) (sym p) ((λ x. absurd (f x)), (λ y. absurd (not_both (bindings_of s) (record { of = m; value = N }) (member_from s.values m N v s.bound (h m N v)) y.0)))

  pub at_pi : (Q : Type 0) (C A B : LfType) → C ≡ pi A B → P ↔ TypeAllIn s A → Q ↔ TypeAllIn s B → (P × Q) ↔ TypeAllIn s C
  unfolding TypeAllIn
  at_pi Q C A B p (f, g) (f', g') = subst (λ X. (P × Q) ↔ TypeAllIn s X) (sym p) ((λ x. (f x.0, f' x.1)), (λ y. (g y.0, g' y.1)))

  pub at_atom : (C : LfType) (a : ℕ) (S : Spine) → C ≡ atom a S → P ↔ SpineAllIn s S → P ↔ TypeAllIn s C
  unfolding TypeAllIn SpineAllIn
  at_atom C a S p h = subst (λ X. P ↔ TypeAllIn s X) (sym p) h

-- spines
pub no_arguments_in : (s : State) → SpineAllIn s nil
unfolding SpineAllIn
no_arguments_in s = tt

pub argument_in : (s : State) (S : Spine) (M : Term) (T : Spine) → S ≡ app M T → AllIn s M → SpineAllIn s S ↔ SpineAllIn s T
unfolding AllIn SpineAllIn
argument_in s S M T p m = subst (λ X. SpineAllIn s X ↔ SpineAllIn s T) (sym p) ((λ x. x.1), (λ y. (m, y)))

pub argument_not_in : (s : State) (S : Spine) (M : Term) (T : Spine) → S ≡ app M T → (AllIn s M → ⊥) → SpineAllIn s S → ⊥
unfolding AllIn SpineAllIn
argument_not_in s S M T p m x = m (subst (SpineAllIn s) p x).0

-- what such terms give
mutual
  in_itself : (s : State) (k : ℕ) (M : Term) → MetavariablesIn (Unbound (bindings_of s)) M → Puts s k M M
  in_itself s k (lambda M) i = put_under_lambda (in_itself s _ M i)
  in_itself s k (root (constant c) S) i = put_at_rigid (constant c) tt (spine_in_itself s k S i)
  in_itself s k (root (variable j) S) i = put_at_rigid (variable j) tt (spine_in_itself s k S i)
  in_itself s k (root (metavariable m) S) (u, i) = put_at_unbound u (spine_in_itself s k S i)

  spine_in_itself : (s : State) (k : ℕ) (S : Spine) → MetavariablesInSpine (Unbound (bindings_of s)) S → PutsSpine s k S S
  spine_in_itself s k nil i = put_nowhere
  spine_in_itself s k (app M S) (i, j) = put_in_argument (in_itself s k M i) (spine_in_itself s k S j)

type_in_itself : (s : State) (k : ℕ) (A : LfType) → MetavariablesInType (Unbound (bindings_of s)) A → PutsType s k A A
type_in_itself s k (pi A B) (i, j) = put_in_pi (type_in_itself s k A i) (type_in_itself s _ B j)
type_in_itself s k (atom a S) i = put_in_atom (spine_in_itself s k S i)

-- THE theorem on them: putting in gives the term itself
pub all_in_puts : (s : State) (k : ℕ) (M : Term) → AllIn s M → Puts s k M M
unfolding AllIn
all_in_puts s k M i = in_itself s k M i

pub spine_all_in_puts : (s : State) (k : ℕ) (S : Spine) → SpineAllIn s S → PutsSpine s k S S
unfolding SpineAllIn
spine_all_in_puts s k S i = spine_in_itself s k S i

pub type_all_in_puts : (s : State) (k : ℕ) (A : LfType) → TypeAllIn s A → PutsType s k A A
unfolding TypeAllIn
type_all_in_puts s k A i = type_in_itself s k A i

pub domain_in : (s : State) (C A B : LfType) → C ≡ pi A B → TypeAllIn s C → TypeAllIn s A
unfolding TypeAllIn
domain_in s C A B p x = (subst (TypeAllIn s) p x).0
