-- The set that shows that a metavariable can be bound also orders the metavariables for it.
use Rattle.std.proofs.Common.{◌≡◌, ℕ, List, [], ◌∷◌, Option, Some, None, inl, inr, refl, sym, ap, ◌∙◌, subst}
use Rattle.std.specs.Prelude.{Bool, true, false}
use Rattle.lf.specs.Syntax.{Spine, Term, LfType, app, atom, constant, lambda, metavariable, nil, pi, rename, root, variable}
use Rattle.lf.specs.Typing.{Signature}
use Rattle.lf_unification.specs.OpenTyping.{MetavariablesIn, MetavariablesInSpine, MetavariablesInType, OpenHasType}
use Rattle.lf_unification.specs.Dependency.{ListedMetavariable, IsListed, IsDependencyOrder}
use Rattle.lf_unification.specs.Outside.{Avoids, CanBind, Holds, ValuesIn}
use Rattle.lf.specs.Subordination.{Member}
use Rattle.lf_unification.specs.Lists.{followed}
use Rattle.lf_unification.specs.Solving.{ValuesAreBindings}
use Rattle.lf_unification.specs.Reach.{IsReached, Mentions, SpineMentions, TypeMentions, in_term, in_type, in_value}
use Rattle.lf_unification.specs.Unifiers.{Binding}
use Rattle.lf_unification.proofs.Partition.{Closed, chosen, value_behind, ValueIn, pick}
use Rattle.lf_unification.proofs.Place.{Behind, bound, bound_ordered, partition_ordered}
use Rattle.lf_unification.proofs.Scope.{in_weaker, in_weaker_type}

abbrev As : (ℕ → Bool) → ℕ → Type 0
As r k = Holds (r k)

value_at : (V : ℕ → Type 0) (bs : List Binding) (b : Binding) → ValuesIn V bs → Member b bs → V b.of → MetavariablesIn V b.value
value_at V [] b w i v = absurd i
value_at V (c ∷ bs) b (w, ws) (inl e) v = subst (λ x. V x.of → MetavariablesIn V x.value) (sym e) w v
value_at V (c ∷ bs) b (w, ws) (inr i) v = value_at V bs b ws i v

same_truth : (b : Bool) → Rattle.lf_unification.proofs.Partition.is_true b → Holds b
same_truth true t = t
same_truth false t = t

truth_same : (b : Bool) → Holds b → Rattle.lf_unification.proofs.Partition.is_true b
truth_same true t = t
truth_same false t = t

module _ (Σ : Signature) (Ψ : ℕ → Option LfType) (U : (ℕ → Option Term) → Type 0) (bs : List Binding) (r : ℕ → Bool) (types : (k : ℕ) (A : LfType) → Holds (r k) → Ψ k ≡ Some A → MetavariablesInType (λ j. Holds (r j)) A) (vals : ValuesIn (λ j. Holds (r j)) bs) where
  to : (k : ℕ) → Holds (r k) → Rattle.lf_unification.proofs.Partition.is_true (r k)
  to k = truth_same (r k)

  pub closed_of : (is : List ListedMetavariable) → IsDependencyOrder Σ Ψ U is → ValuesAreBindings bs is → Closed r is
  closed_of [] o b = tt
  closed_of (it ∷ is) o (b, rest) = (
    (λ t. (in_weaker_type (λ j. Holds (r j)) (λ j. Rattle.lf_unification.proofs.Partition.is_true (r j)) to it.of_type (types it.of it.of_type (same_truth (r it.of) t) o.1), value it.value refl t)),
    closed_of is o.0 rest,
  )
    where
      value : (x : Option Term) → it.value ≡ x → Rattle.lf_unification.proofs.Partition.is_true (r it.of) → ValueIn (λ j. Rattle.lf_unification.proofs.Partition.is_true (r j)) x
      value None e t = tt
      value (Some N) e t = in_weaker (λ j. Holds (r j)) (λ j. Rattle.lf_unification.proofs.Partition.is_true (r j)) (λ k. truth_same (r k)) N (value_at (λ j. Holds (r j)) bs (record { of = it.of; value = N }) vals (b N e) (same_truth (r it.of) t))

  -- m, which is not reached, stands before all that N mentions
  behind_rest : (m : ℕ) (N : Term) (ys : List ListedMetavariable) → ((k : ℕ) → IsListed ys k → m ≡ k → ⊥) → MetavariablesIn (IsListed ys) N → (xs : List ListedMetavariable) → Behind m N (followed xs ys)
  behind_rest m N ys n i [] = front ys n
    where
      front : (zs : List ListedMetavariable) → ((k : ℕ) → IsListed zs k → m ≡ k → ⊥) → Behind m N zs
      front [] n = tt
      front (z ∷ zs) n = ((λ e. absurd (n z.of (inl refl) e)), front zs (λ k l. n k (inr l)))
  behind_rest m N ys n i (x ∷ xs) = ((λ e. in_weaker (IsListed ys) (IsListed (followed xs ys)) (λ k l. after xs k l) N i), behind_rest m N ys n i xs)
    where
      after : (zs : List ListedMetavariable) (k : ℕ) → IsListed ys k → IsListed (followed zs ys) k
      after [] k l = l
      after (z ∷ zs) k l = inr (after zs k l)

chosen_true : (r : ℕ → Bool) (is : List ListedMetavariable) (k : ℕ) → IsListed (chosen true r is) k → Holds (r k)
chosen_true r [] k l = absurd l
chosen_true r (it ∷ is) k l = go (r it.of) refl l (chosen_true r is k)
  where
    go : (b : Bool) → r it.of ≡ b → IsListed (pick true b it (chosen true r is)) k → (IsListed (chosen true r is) k → Holds (r k)) → Holds (r k)
    go true e (inl q) h = subst Holds (sym (ap r q ∙ e)) tt
    go true e (inr l) h = h l
    go false e l h = h l

-- THE theorem: the order after m is bound to N
pub can_bind_ordered : (Σ : Signature) (Ψ : ℕ → Option LfType) (U : (ℕ → Option Term) → Type 0) (bs : List Binding) (r : ℕ → Bool) (m : ℕ) (A : LfType) (N : Term) → Avoids Ψ bs m (λ k. Holds (r k)) → MetavariablesIn (λ k. Holds (r k)) N → Ψ m ≡ Some A → OpenHasType Σ [] Ψ U [] N A → ((ρ : ℕ → ℕ) → rename ρ N ≡ N) → (is : List ListedMetavariable) → IsDependencyOrder Σ Ψ U is → ValuesAreBindings bs is → MetavariablesIn (IsListed is) N →
    IsDependencyOrder Σ Ψ U (bound m N (followed (chosen false r is) (chosen true r is)))
can_bind_ordered Σ Ψ U bs r m A N (types, vals, out) w d t c is o b l =
    bound_ordered Σ Ψ U m A N d t c (followed (chosen false r is) (chosen true r is))
    (partition_ordered Σ Ψ U r is o (closed_of Σ Ψ U bs r types vals is o b))
    (behind_rest Σ Ψ U bs r types vals m N (chosen true r is) (λ k h e. out (subst (λ j. Holds (r j)) (sym e) (chosen_true r is k h)))
    (value_behind r is N l (in_weaker (λ k. Holds (r k)) (λ k. Rattle.lf_unification.proofs.Partition.is_true (r k)) (λ k. truth_same (r k)) N w))
    (chosen false r is))

-- what is reached from a term is in each set that holds the term's metavariables and is closed under types and values
mutual
  mentioned : (V : ℕ → Type 0) (m : ℕ) (M : Term) → MetavariablesIn V M → Mentions m M → V m
  mentioned V m (lambda M) i o = mentioned V m M i o
  mentioned V m (root (constant c) S) i o = mentioned_spine V m S i o
  mentioned V m (root (variable c) S) i o = mentioned_spine V m S i o
  mentioned V m (root (metavariable n) S) (v, i) (inl e) = subst V (sym e) v
  mentioned V m (root (metavariable n) S) (v, i) (inr o) = mentioned_spine V m S i o

  mentioned_spine : (V : ℕ → Type 0) (m : ℕ) (S : Spine) → MetavariablesInSpine V S → SpineMentions m S → V m
  mentioned_spine V m nil i o = absurd o
  mentioned_spine V m (app M S) (i, j) (inl o) = mentioned V m M i o
  mentioned_spine V m (app M S) (i, j) (inr o) = mentioned_spine V m S j o

pub mentioned_type : (V : ℕ → Type 0) (m : ℕ) (A : LfType) → MetavariablesInType V A → TypeMentions m A → V m
mentioned_type V m (pi A B) (i, j) (inl o) = mentioned_type V m A i o
mentioned_type V m (pi A B) (i, j) (inr o) = mentioned_type V m B j o
mentioned_type V m (atom a S) i o = mentioned_spine V m S i o

pub reached_within : (Ψ : ℕ → Option LfType) (bs : List Binding) (N : Term) (V : ℕ → Type 0) → ((k : ℕ) (A : LfType) → V k → Ψ k ≡ Some A → MetavariablesInType V A) → ValuesIn V bs → MetavariablesIn V N → {m : ℕ} → IsReached Ψ bs N m → V m
reached_within Ψ bs N V types vals i (in_term {m = m} o) = mentioned V m N i o
reached_within Ψ bs N V types vals i (in_type {m = m} {k = k} {A = A} r e o) = mentioned_type V m A (types k A (reached_within Ψ bs N V types vals i r) e) o
reached_within Ψ bs N V types vals i (in_value {m = m} b r j o) = mentioned V m b.value (value_at V bs b vals j (reached_within Ψ bs N V types vals i r)) o

-- a metavariable that can be bound is not reached from its value
pub not_reached : (Ψ : ℕ → Option LfType) (bs : List Binding) (D : List LfType) (m : ℕ) (xs : List ℕ) (N : Term) → CanBind Ψ bs D m xs N → IsReached Ψ bs N m → ⊥
not_reached Ψ bs D m xs N c r = c.avoids.2 (reached_within Ψ bs N (λ k. Holds (c.reached k)) c.avoids.0 c.avoids.1 c.within r)
