-- Of a store that is ready, what is reached from an equation's sides is declared.
use Rattle.std.proofs.Common.{◌≡◌, ℕ, List, [], ◌∷◌, Some, inl, inr}
use Rattle.lf.specs.Syntax.{LfType, Term}
use Rattle.lf.specs.Typing.{Signature}
use Rattle.lf_unification.specs.OpenTyping.{Declares, MetavariablesIn}
use Rattle.lf_unification.specs.Outside.{ValuesIn}
use Rattle.lf_unification.specs.Reach.{IsReached}
use Rattle.lf_unification.specs.Scope.{MetavariablesInBindings}
use Rattle.lf_unification.specs.Unifiers.{Binding, Equation}
use Rattle.lf_unification.proofs.Reach.{reached_within}
use Rattle.tw_metas.specs.State.{State}
use Rattle.tw_putting.specs.Ready.{AllScoped, IsReady}
use Rattle.tw_putting.specs.Stores.{bindings_of, types_of}
use Rattle.tw_putting.proofs.Readiness.{ready_scoped}
use Rattle.tw_unify.specs.Flexible.{IsReachedFrom}

pub still_declared : (s t : State) → ((k : ℕ) (A : LfType) → types_of s k ≡ Some A → types_of t k ≡ Some A) → (k : ℕ) → Declares (types_of s) k → Declares (types_of t) k
still_declared s t grows k (A, d) = (A, grows k A d)

values : (V : ℕ → Type 0) (bs : List Binding) → MetavariablesInBindings V bs → ValuesIn V bs
values V [] i = tt
values V (b ∷ bs) (x, i, j) = ((λ v. i), values V bs j)

module _ (Σ : Signature) (s : State) (e : Equation) (es : List Equation) (r : IsReady Σ (e ∷ es) s) where
  scoped : AllScoped (e ∷ es) s
  scoped = ready_scoped Σ (e ∷ es) s r

  reached : (N : Term) → MetavariablesIn (Declares (types_of s)) N → (k : ℕ) → IsReached (types_of s) (bindings_of s) N k → Declares (types_of s) k
  reached N i k h = reached_within (types_of s) (bindings_of s) N (Declares (types_of s)) (λ j A d f. scoped.types j A f) (values (Declares (types_of s)) (bindings_of s) scoped.bindings) i h

  pub both_declared : (k : ℕ) → IsReachedFrom s e.left e.right k → Declares (types_of s) k
  both_declared k (inl h) = reached e.left scoped.equations.0 k h
  both_declared k (inr h) = reached e.right scoped.equations.1 k h
