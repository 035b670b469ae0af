-- Every metavariable of a node comes from the query: each is among the first ones, or reached from the value of one of these.
use Rattle.std.proofs.Common.{◌≡◌, ℕ, suc, ◌≤◌, List, [], ◌∷◌, Option, Some, None, ◌⊎◌, inl, inr, refl, sym, ap, ◌∙◌, subst, arith}
use Rattle.lf.specs.Eta.{add_last, eta_expand, eta_long}
use Rattle.lf.specs.Subordination.{Member}
use Rattle.lf.specs.Syntax.{Head, LfType, Skeleton, Spine, Term, arrow, atom, base, constant, lambda, metavariable, nil, rename_spine, root, skeleton, variable}
use Rattle.lf.specs.Typing.{Signature}
use Rattle.lf_unification.specs.Offering.{AppliesToNew, applied_to_all, applied_to_next, lambda_over, local_arguments, pi_over, raised}
use Rattle.lf_unification.specs.OpenTyping.{Declares, set_at, skeletons_of}
use Rattle.lf_unification.specs.Patterns.{lambdas_of, pattern}
use Rattle.lf_unification.specs.Pruning.{pruned_type}
use Rattle.lf_unification.specs.Reach.{IsReached, Mentions, SpineMentions, in_term, in_type, in_value}
use Rattle.lf_unification.specs.Search.{OfferedHeadHasType}
use Rattle.lf_unification.specs.Steps.{Run, Step, bind, drop_equal, equal_heads, next_equation, no_step, open_lambdas, prune_both, prune_inside, put_bindings, renew, then_run}
use Rattle.lf_unification.specs.Unifiers.{Binding, Store}
use Rattle.lf_unification.proofs.Offer.{decide, set_other}

abbrev pub ComesFrom : (ℕ → Option LfType) → List Binding → ℕ → ℕ → Type 0
ComesFrom Ψ bs n m = (m ≤ n) ⊎ ((b : Binding) × Member b bs × (b.of ≤ n) × IsReached Ψ bs b.value m)

-- all that is declared comes from the first n metavariables and the one behind them
abbrev pub AllCome : (ℕ → Option LfType) → List Binding → ℕ → Type 0
AllCome Ψ bs n = (m : ℕ) → Declares Ψ m → ComesFrom Ψ bs n m

module _ (Ψ Ψ' : ℕ → Option LfType) (bs bs' : List Binding) (grows : (m : ℕ) (A : LfType) → Ψ m ≡ Some A → Ψ' m ≡ Some A) (more : (b : Binding) → Member b bs → Member b bs') where
  reached_more : (N : Term) {m : ℕ} → IsReached Ψ bs N m → IsReached Ψ' bs' N m
  reached_more N (in_term i) = in_term i
  reached_more N (in_type r e i) = in_type (reached_more N r) (grows _ _ e) i
  reached_more N (in_value b r j i) = in_value b (reached_more N r) (more b j) i

  pub comes_more : (n m : ℕ) → ComesFrom Ψ bs n m → ComesFrom Ψ' bs' n m
  comes_more n m (inl h) = inl h
  comes_more n m (inr (b, i, h, r)) = inr (b, more b i, h, reached_more b.value r)

-- through a value
pub comes_by_value : (Ψ : ℕ → Option LfType) (bs : List Binding) (n m : ℕ) (b : Binding) → Member b bs → ComesFrom Ψ bs n b.of → Mentions m b.value → ComesFrom Ψ bs n m
comes_by_value Ψ bs n m b i (inl h) q = inr (b, i, h, in_term q)
comes_by_value Ψ bs n m b i (inr (c, j, h, r)) q = inr (c, j, h, in_value b r i q)

-- eta-long metavariables mention themselves
mentions_eta : (a : Skeleton) (m : ℕ) (S : Spine) → Mentions m (eta_expand a (metavariable m) S)
mentions_eta (base c) m S = inl refl
mentions_eta (arrow a b) m S = mentions_eta b m (add_last (rename_spine suc S) (eta_expand a (variable 0) nil))

pub mentions_raised : (D : List LfType) (B : LfType) (m : ℕ) → Mentions m (raised D B m)
mentions_raised D B m = mentions_eta (skeleton B) m (local_arguments D)

mentions_under : (a : Skeleton) (m : ℕ) (M : Term) → Mentions m M → Mentions m (lambdas_of a M)
mentions_under (base c) m M i = i
mentions_under (arrow a b) m M i = mentions_under b m M i

pub mentions_over : (D : List LfType) (m : ℕ) (M : Term) → Mentions m M → Mentions m (lambda_over D M)
mentions_over [] m M i = i
mentions_over (A ∷ D) m M i = mentions_over D m (lambda M) i

-- what is declared when a head is applied was there, or stands in the spine
pub new_in_spine : {D : List LfType} {Ψ : ℕ → Option LfType} {n : ℕ} {A : LfType} {Ψ' : ℕ → Option LfType} {n' : ℕ} {S : Spine} {a : ℕ} {T : Spine} → AppliesToNew D Ψ n A Ψ' n' S a T → (m : ℕ) → Declares Ψ' m → Declares Ψ m ⊎ SpineMentions m S
new_in_spine applied_to_all m d = inl d
new_in_spine {D = D} (applied_to_next {Ψ = Ψ} {n = n} {B = B} {S = S} o) m d = go (new_in_spine o m d)
  where
    go : Declares (set_at n (Some (pi_over D B)) Ψ) m ⊎ SpineMentions m S → Declares Ψ m ⊎ (Mentions m (raised D B n) ⊎ SpineMentions m S)
    go (inr i) = inr (inr i)
    go (inl (X, e)) = at (decide m n)
      where
        at : (m ≡ n) ⊎ (m ≡ n → ⊥) → Declares Ψ m ⊎ (Mentions m (raised D B n) ⊎ SpineMentions m S)
        at (inl q) = inr (inl (subst (λ k. Mentions m (raised D B k)) q (mentions_raised D B m)))
        at (inr q) = inl (X, sym (set_other n (Some (pi_over D B)) Ψ m q) ∙ e)

-- the head's value mentions what its spine mentions
pub mentions_root : (Σ : Signature) (D : List LfType) (h : Head) (A : LfType) (S : Spine) (m : ℕ) → OfferedHeadHasType Σ D h A → SpineMentions m S → Mentions m (root h S)
mentions_root Σ D (constant c) A S m t i = i
mentions_root Σ D (variable x) A S m t i = i
mentions_root Σ D (metavariable k) A S m t i = absurd t

-- steps
module _ (Σ : Signature) (n : ℕ) where
  one_bound : (Ψ : ℕ → Option LfType) (bs : List Binding) (b : Binding) → AllCome Ψ bs n → AllCome Ψ (b ∷ bs) n
  one_bound Ψ bs b a m d = comes_more Ψ Ψ bs (b ∷ bs) (λ k A e. e) (λ c i. inr i) n m (a m d)

  -- a new metavariable that stands in the value of one that was there
  replaced : (Ψ : ℕ → Option LfType) (bs : List Binding) (k m : ℕ) (X : LfType) (V : Term) → Ψ k ≡ None → Declares Ψ m → Mentions k V → AllCome Ψ bs n → AllCome (set_at k (Some X) Ψ) (record { of = m; value = V } ∷ bs) n
  replaced Ψ bs k m X V new d i a j e = go (decide j k)
    where
      grows : (x : ℕ) (B : LfType) → Ψ x ≡ Some B → set_at k (Some X) Ψ x ≡ Some B
      grows x B q = set_other k (Some X) Ψ x (λ z. let no : None ≡ Some B = sym new ∙ ap Ψ (sym z) ∙ q in absurd cc) ∙ q

      more : (x : ℕ) → ComesFrom Ψ bs n x → ComesFrom (set_at k (Some X) Ψ) (record { of = m; value = V } ∷ bs) n x
      more x c = comes_more Ψ (set_at k (Some X) Ψ) bs (record { of = m; value = V } ∷ bs) grows (λ b q. inr q) n x c

      go : (j ≡ k) ⊎ (j ≡ k → ⊥) → ComesFrom (set_at k (Some X) Ψ) (record { of = m; value = V } ∷ bs) n j
      go (inl q) = comes_by_value (set_at k (Some X) Ψ) (record { of = m; value = V } ∷ bs) n j (record { of = m; value = V }) (inl refl) (more m (a m d)) (subst (λ y. Mentions y V) (sym q) i)
      go (inr q) = more j (a j (e.0, sym (set_other k (Some X) Ψ j q) ∙ e.1))

  step_comes : {s s' : Store} → Step Σ s s' → AllCome s.metavariables s.bindings n → AllCome s'.metavariables s'.bindings n
  step_comes (next_equation es e fs) a = a
  step_comes (put_bindings p q) a = a
  step_comes drop_equal a = a
  step_comes open_lambdas a = a
  step_comes (equal_heads h A r t) a = a
  step_comes (bind {Ψ = Ψ} {bs = bs} side D m xs N C e u p b) a = one_bound Ψ bs (record { of = m; value = lambdas_of (skeletons_of Ψ m) b.inverted.inversion }) a
  step_comes (prune_inside {Ψ = Ψ} {bs = bs} side D m xs N C e k p u j c) a =
      replaced Ψ bs j p.drop.m (pruned_type p.pruned) (lambdas_of (skeleton (pi_over p.pruned.local (atom p.pruned.family p.pruned.indices))) (root (metavariable j) (pattern (skeleton (pi_over p.pruned.kept_local (atom p.pruned.family p.pruned.kept_indices))) p.pruned.kept))) (c.fresh j (omega arith)) (pi_over p.pruned.local (atom p.pruned.family p.pruned.indices), p.pruned.declared) (mentions_under (skeleton (pi_over p.pruned.local (atom p.pruned.family p.pruned.indices))) j (root (metavariable j) (pattern (skeleton (pi_over p.pruned.kept_local (atom p.pruned.family p.pruned.kept_indices))) p.pruned.kept)) (inl refl)) a
  step_comes (prune_both {Ψ = Ψ} {bs = bs} {A = A} side D m xs N C e k p u j c) a =
      replaced Ψ bs j m (pruned_type p.pruned) (lambdas_of (skeleton (pi_over p.pruned.local (atom p.pruned.family p.pruned.indices))) (root (metavariable j) (pattern (skeleton (pi_over p.pruned.kept_local (atom p.pruned.family p.pruned.kept_indices))) p.pruned.kept))) (c.fresh j (omega arith)) (A, e) (mentions_under (skeleton (pi_over p.pruned.local (atom p.pruned.family p.pruned.indices))) j (root (metavariable j) (pattern (skeleton (pi_over p.pruned.kept_local (atom p.pruned.family p.pruned.kept_indices))) p.pruned.kept)) (inl refl)) a
  step_comes (renew {Ψ = Ψ} {bs = bs} m A A' e u t p j c) a =
      replaced Ψ bs j m A' (eta_long (skeleton A) (metavariable j)) (c.fresh j (omega arith)) (A, e) (mentions_eta (skeleton A) j nil) a

  pub run_comes : {s s' : Store} → Run Σ s s' → AllCome s.metavariables s.bindings n → AllCome s'.metavariables s'.bindings n
  run_comes no_step a = a
  run_comes (then_run p r) a = run_comes r (step_comes p a)
