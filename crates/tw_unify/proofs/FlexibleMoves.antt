-- Moves at a metavariable on a pattern, as steps of unification.
use Rattle.std.proofs.Common.{◌≡◌, ℕ, List, [], ◌∷◌, ◌++◌, length, Option, Some, inl, inr, refl, sym, ap, ◌∙◌, subst}
use Rattle.lf.specs.Eta.{arity, eta_arguments, eta_long, lambdas}
use Rattle.lf.specs.Syntax.{LfType, Skeleton, Spine, Term, arrow, atom, base, lambda, metavariable, root, skeleton}
use Rattle.lf.proofs.AtOnce.{eta_at_once}
use Rattle.lf.specs.Typing.{Signature}
use Rattle.lf_unification.specs.DeepEquations.{EquationsReach}
use Rattle.lf_unification.specs.Lists.{followed}
use Rattle.lf_unification.specs.Offering.{pi_over}
use Rattle.lf_unification.specs.OpenTyping.{MetavariablesInType, set_at, skeletons_of}
use Rattle.lf_unification.specs.Patterns.{lambdas_of, pattern}
use Rattle.lf_unification.specs.Pruning.{PrunedType, pruned_store}
use Rattle.lf_unification.specs.Putting.{Unbound}
use Rattle.lf_unification.specs.Skeletons.{skeleton_or_default}
use Rattle.lf_unification.specs.ReachedRuns.{ReachedRun}
use Rattle.lf_unification.specs.Renewing.{renewed_store}
use Rattle.lf_unification.specs.Steps.{CanRefute, IsRefuted, bind, drop_equal, no_step, prune_both, prune_inside, renew}
use Rattle.lf_unification.specs.Unifiers.{Binding, Equation, Side, Store, equation_on, on_left, on_right}
use Rattle.tw_metas.specs.State.{IsUnbound, State, with_declared, with_equation, with_value}
use Rattle.tw_terms.specs.OpenView.{open_spine_of, open_term_of, open_type_of}
use Rattle.tw_terms.specs.declared.open_terms.Open.{Open}
use Rattle.tw_terms.specs.declared.canonical.MetaId.{MetaId}
use Rattle.tw_prune.specs.declared.prune.Pruned.{Pruned}
use Rattle.tw_putting.specs.Stores.{bindings_of, types_of}
use Rattle.tw_putting.specs.Ready.{AllScoped}
use Rattle.tw_unify.specs.Flexible.{AllowsMove, far, near, pruned_state, pruned_value}
use Rattle.tw_unify.specs.Moving.{AgainstFits, GivesPruned, IsMove, IsRenewal, LosesInBoth, LosesInside, NeedsRenewal, on_pattern}
use Rattle.tw_putting.specs.Whole.{IsConsistent, whole}
use Rattle.tw_unify.specs.declared.moves.Move.TheVariants.{Bind, Lose, Refute}
use Rattle.tw_putting.proofs.Changes.{bindings_with_declared, bindings_with_value, consistent_with_declared, is_unbound, still_unbound, types_with_declared}
use Rattle.tw_unify.proofs.Orders.{followed_nothing, followed_twice, one_step, places_change}

pub joined_is_followed : {A : Type 0} (xs ys : List A) → xs ++ ys ≡ followed xs ys
joined_is_followed [] ys = refl
joined_is_followed (x ∷ xs) ys = ap (λ zs. x ∷ zs) (joined_is_followed xs ys)

lambdas_are : (t : Skeleton) (M : Term) → lambdas_of t M ≡ lambdas (arity t) M
lambdas_are (base c) M = refl
lambdas_are (arrow a b) M = ap lambda (lambdas_are b M)

-- the eta-long form of a metavariable, with its lambdas apart
eta_is_lambdas : (a : Skeleton) (n : ℕ) → eta_long a (metavariable n) ≡ lambdas_of a (root (metavariable n) (eta_arguments a))
eta_is_lambdas a n = eta_at_once a (metavariable n) ∙ sym (lambdas_are a (root (metavariable n) (eta_arguments a)))

module _ (Σ : Signature) (s : State) where
  abbrev holding : List Equation → Store
  holding fs = record { metavariables = types_of s; bindings = bindings_of s; equations = fs }

  -- the equation with M on this side and N on the other
  abbrev facing : Side → Equation → Term → Term → Equation
  facing side e M N = equation_on side e.local M N e.of_type

  -- an equation has its sides
  sides_are : (side : Side) (e : Equation) (M : Term) → near side e ≡ M → facing side e M (far side e) ≡ e
  sides_are on_left e M is = ap (λ X. record { local = e.local; left = X; right = e.right; of_type = e.of_type }) (sym is)
  sides_are on_right e M is = ap (λ X. record { local = e.local; left = e.left; right = X; of_type = e.of_type }) (sym is)

  -- a run from such an equation
  from_side : (side : Side) (e : Equation) (es : List Equation) (M : Term) → near side e ≡ M → (t : Equation → Store) → ReachedRun Σ (holding (facing side e M (far side e) ∷ followed es s.equations)) (t (facing side e M (far side e))) → ReachedRun Σ (whole (e ∷ es) s) (t e)
  from_side side e es M is t r = subst (λ (d : Equation). ReachedRun Σ (holding (d ∷ followed es s.equations)) (t d)) (sides_are side e M is) r

  -- a metavariable is bound
  bind_on : (side : Side) (e : Equation) (es : List Equation) (n : MetaId) (V : Open) → IsMove s e.local (near side e) (far side e) (Bind n V) → ReachedRun Σ (whole (e ∷ es) s) (whole es (with_value s n.0 (open_term_of V)))
  bind_on side e es n V v =
      let f = v.fits in
      let (same, b) = v.move in
      let unbound : IsUnbound s v.m = is_unbound s f.consistent v.m f.of_type f.declared f.unbound in
      let stepped : ReachedRun Σ (holding (facing side e (on_pattern s v.m v.xs) (far side e) ∷ followed es s.equations)) (record { metavariables = types_of s; bindings = record { of = v.m; value = lambdas_of (skeletons_of (types_of s) v.m) b.can.inverted.inversion } ∷ bindings_of s; equations = followed es s.equations }) =
      one_step Σ (bind side e.local v.m v.xs (far side e) e.of_type f.declared f.unbound f.is_pattern b.can) tt in
      let bound : bindings_of (with_value s v.m (open_term_of V)) ≡ record { of = v.m; value = lambdas_of (skeletons_of (types_of s) v.m) b.can.inverted.inversion } ∷ bindings_of s =
      bindings_with_value s f.consistent v.m (open_term_of V) unbound ∙ ap (λ X. record { of = v.m; value = X } ∷ bindings_of s) b.value in
      let there : ReachedRun Σ (holding (facing side e (on_pattern s v.m v.xs) (far side e) ∷ followed es s.equations)) (whole es (with_value s v.m (open_term_of V))) =
      subst (λ (bs : List Binding). ReachedRun Σ (holding (facing side e (on_pattern s v.m v.xs) (far side e) ∷ followed es s.equations)) (record { metavariables = types_of s; bindings = bs; equations = followed es s.equations })) (sym bound) stepped in
      subst (λ k. ReachedRun Σ (whole (e ∷ es) s) (whole es (with_value s k (open_term_of V)))) same
      (from_side side e es (on_pattern s v.m v.xs) v.is (λ d. whole es (with_value s v.m (open_term_of V))) there)

  pub bind_runs : (e : Equation) (es : List Equation) (n : MetaId) (V : Open) → AllowsMove s e (Bind n V) → ReachedRun Σ (whole (e ∷ es) s) (whole es (with_value s n.0 (open_term_of V)))
  bind_runs e es n V v = bind_on v.side e es n V v.move

  -- the store in which n is bound to a new metavariable of the type Y, on the arguments S
  to_new : (fs : List Equation) (n : ℕ) (Y : LfType) (S : Spine) → IsConsistent s → IsUnbound s n
      → whole fs (pruned_state s n Y S) ≡ record { metavariables = set_at (length s.declared) (Some Y) (types_of s); bindings = record { of = n; value = pruned_value s n (length s.declared) S } ∷ bindings_of s; equations = followed fs s.equations }
  to_new fs n Y S c u =
      let n' = length s.declared in
      let bound : bindings_of (pruned_state s n Y S) ≡ record { of = n; value = pruned_value s n n' S } ∷ bindings_of s =
      bindings_with_value (with_declared s [] Y) (consistent_with_declared s [] Y c) n (pruned_value s n n' S) (still_unbound s [] Y n u)
      ∙ ap (λ bs. record { of = n; value = pruned_value s n n' S } ∷ bs) (bindings_with_declared s [] Y) in
      ap (λ (Ψ : ℕ → Option LfType). made Ψ (bindings_of (pruned_state s n Y S))) (types_with_declared s [] Y)
      ∙ ap (λ bs. made (set_at n' (Some Y) (types_of s)) bs) bound
    where
      made : (ℕ → Option LfType) → List Binding → Store
      made Ψ bs = record { metavariables = Ψ; bindings = bs; equations = followed fs s.equations }

  -- the store after a pruning
  pruned_whole : (fs : List Equation) (n dropped : ℕ) (p : PrunedType (types_of s) n dropped) (Y : LfType) (S : Spine) → IsConsistent s → IsUnbound s n → GivesPruned p Y S
      → whole fs (pruned_state s n Y S) ≡ pruned_store (whole fs s) n dropped p (length s.declared)
  pruned_whole fs n dropped p Y S c u (y, k) =
      let n' = length s.declared in
      let shape : skeletons_of (types_of s) n ≡ skeleton (pi_over p.local (atom p.family p.indices)) = ap skeleton_or_default p.declared in
      let value : pruned_value s n n' S ≡ lambdas_of (skeleton (pi_over p.local (atom p.family p.indices))) (root (metavariable n') (pattern (skeleton (pi_over p.kept_local (atom p.family p.kept_indices))) p.kept)) =
      ap (λ t. lambdas_of t (root (metavariable n') S)) shape ∙ ap (λ T. lambdas_of (skeleton (pi_over p.local (atom p.family p.indices))) (root (metavariable n') T)) (sym k) in
      to_new fs n Y S c u
      ∙ ap (λ X. made (set_at n' (Some X) (types_of s)) (pruned_value s n n' S)) (sym y)
      ∙ ap (λ X. made (set_at n' (Some (pi_over p.kept_local (atom p.family p.kept_indices))) (types_of s)) X) value
    where
      made : (ℕ → Option LfType) → Term → Store
      made Ψ X = record { metavariables = Ψ; bindings = record { of = n; value = X } ∷ bindings_of s; equations = followed fs s.equations }

  -- the store after a renewal
  renewed_whole : (fs : List Equation) (m : ℕ) (Y : LfType) (S : Spine) → IsConsistent s → IsUnbound s m → (r : IsRenewal s m Y S) → whole fs (pruned_state s m Y S) ≡ renewed_store (whole fs s) m r.of_type Y (length s.declared)
  renewed_whole fs m Y S c u r =
      let n' = length s.declared in
      let shape : skeletons_of (types_of s) m ≡ skeleton r.of_type = ap skeleton_or_default r.declared in
      let value : pruned_value s m n' S ≡ eta_long (skeleton r.of_type) (metavariable n') =
      ap (λ t. lambdas_of t (root (metavariable n') S)) shape ∙ ap (λ T. lambdas_of (skeleton r.of_type) (root (metavariable n') T)) r.all ∙ sym (eta_is_lambdas (skeleton r.of_type) n') in
      to_new fs m Y S c u ∙ ap made value
    where
      made : Term → Store
      made X = record { metavariables = set_at (length s.declared) (Some Y) (types_of s); bindings = record { of = m; value = X } ∷ bindings_of s; equations = followed fs s.equations }

  unbound_from : (n : ℕ) (dropped : ℕ) (p : PrunedType (types_of s) n dropped) → IsConsistent s → Unbound (bindings_of s) n → IsUnbound s n
  unbound_from n dropped p c u = is_unbound s c n (pi_over p.local (atom p.family p.indices)) p.declared u

  module _ (side : Side) (e : Equation) (es : List Equation) (m : ℕ) (xs : List ℕ) (f : AgainstFits s e.local m xs (far side e)) (is : near side e ≡ on_pattern s m xs) (x : AllScoped (e ∷ es) s) where
    moved_scope : AllScoped (facing side e (on_pattern s m xs) (far side e) ∷ es) s
    moved_scope = subst (λ (d : Equation). AllScoped (d ∷ es) s) (sym (sides_are side e (on_pattern s m xs) is)) x

    -- a metavariable inside the other side loses an argument
    inside_runs : (n : ℕ) (Y : LfType) (S : Spine) → LosesInside s e.local m xs (far side e) n Y S → ReachedRun Σ (whole (e ∷ es) s) (whole (e ∷ es) (pruned_state s n Y S))
    inside_runs n Y S l =
        let k = l.can.drop.m in
        let there : ReachedRun Σ (whole (e ∷ es) s) (pruned_store (whole (e ∷ es) s) k l.can.dropped l.can.pruned (length s.declared)) =
        from_side side e es (on_pattern s m xs) is (λ (d : Equation). pruned_store (whole (d ∷ es) s) k l.can.dropped l.can.pruned (length s.declared))
        (one_step Σ (prune_inside side e.local m xs (far side e) e.of_type f.declared f.is_pattern l.can l.unbound (length s.declared) moved_scope) tt) in
        let same : ReachedRun Σ (whole (e ∷ es) s) (whole (e ∷ es) (pruned_state s k Y S)) =
        subst (ReachedRun Σ (whole (e ∷ es) s)) (sym (pruned_whole (e ∷ es) k l.can.dropped l.can.pruned Y S f.consistent (unbound_from k l.can.dropped l.can.pruned f.consistent l.unbound) l.gives)) there in
        subst (λ j. ReachedRun Σ (whole (e ∷ es) s) (whole (e ∷ es) (pruned_state s j Y S))) l.of same

    -- the metavariable of both sides does
    both_run : (n : ℕ) (Y : LfType) (S : Spine) → LosesInBoth s e.local m xs (far side e) n Y S → ReachedRun Σ (whole (e ∷ es) s) (whole (e ∷ es) (pruned_state s n Y S))
    both_run n Y S l =
        let there : ReachedRun Σ (whole (e ∷ es) s) (pruned_store (whole (e ∷ es) s) m l.can.dropped l.can.pruned (length s.declared)) =
        from_side side e es (on_pattern s m xs) is (λ (d : Equation). pruned_store (whole (d ∷ es) s) m l.can.dropped l.can.pruned (length s.declared))
        (one_step Σ (prune_both side e.local m xs (far side e) e.of_type f.declared f.is_pattern l.can f.unbound (length s.declared) moved_scope) tt) in
        let same : ReachedRun Σ (whole (e ∷ es) s) (whole (e ∷ es) (pruned_state s m Y S)) =
        subst (ReachedRun Σ (whole (e ∷ es) s)) (sym (pruned_whole (e ∷ es) m l.can.dropped l.can.pruned Y S f.consistent (unbound_from m l.can.dropped l.can.pruned f.consistent f.unbound) l.gives)) there in
        subst (λ j. ReachedRun Σ (whole (e ∷ es) s) (whole (e ∷ es) (pruned_state s j Y S))) l.of same

  pub lose_runs : (e : Equation) (es : List Equation) (n : MetaId) (p : Pruned) → AllScoped (e ∷ es) s → AllowsMove s e (Lose n p) → ReachedRun Σ (whole (e ∷ es) s) (whole (e ∷ es) (pruned_state s n.0 (open_type_of p.ty) (open_spine_of p.spine)))
  lose_runs e es n p x a = let v = a.move in elim v.move [
    | inl l ↦ inside_runs a.side e es v.m v.xs v.fits v.is x n.0 (open_type_of p.ty) (open_spine_of p.spine) l
    | inr l ↦ both_run a.side e es v.m v.xs v.fits v.is x n.0 (open_type_of p.ty) (open_spine_of p.spine) l
  ]

  -- what is bound so isn't bound yet
  pub lost_unbound : (e : Equation) (n : MetaId) (p : Pruned) → AllowsMove s e (Lose n p) → IsUnbound s n.0
  lost_unbound e n p a = let v = a.move in elim v.move [
    | inl l ↦ subst (IsUnbound s) l.of (unbound_from l.can.drop.m l.can.dropped l.can.pruned v.fits.consistent l.unbound)
    | inr l ↦ subst (IsUnbound s) l.of (unbound_from v.m l.can.dropped l.can.pruned v.fits.consistent v.fits.unbound)
  ]

  pub bound_unbound : (e : Equation) (n : MetaId) (V : Open) → AllowsMove s e (Bind n V) → IsUnbound s n.0
  bound_unbound e n V a = let v = a.move in subst (IsUnbound s) v.move.0 (is_unbound s v.fits.consistent v.m v.fits.of_type v.fits.declared v.fits.unbound)

  -- a refutation
  pub refutes : (e : Equation) (es : List Equation) → AllowsMove s e Refute → CanRefute Σ (whole (e ∷ es) s)
  refutes e es a = let v = a.move in record {
    reached = whole (e ∷ es) s;
    run = no_step;
    refuted = subst (λ (d : Equation). IsRefuted (holding (d ∷ followed es s.equations))) (sides_are a.side e (on_pattern s v.m v.xs) v.is) (v.move a.side (followed es s.equations) e.of_type);
  }

  -- a metavariable is renewed
  pub renew_runs : (fs : List Equation) (m : ℕ) (Y : LfType) (S : Spine) → IsConsistent s → AllScoped fs s → NeedsRenewal s m → IsRenewal s m Y S → EquationsReach (whole fs s) m → ReachedRun Σ (whole fs s) (whole fs (pruned_state s m Y S))
  renew_runs fs m Y S c x n r h =
      let same : n.of_type ≡ r.of_type = some_same (sym n.declared ∙ r.declared) in
      subst (ReachedRun Σ (whole fs s)) (sym (renewed_whole fs m Y S c (is_unbound s c m n.of_type n.declared n.unbound) r))
      (one_step Σ (renew m r.of_type Y r.declared n.unbound (λ a. n.mentions (subst (MetavariablesInType (Unbound (bindings_of s))) (sym same) a)) r.puts (length s.declared) x) h)
    where
      some_same : {A : Type 0} {a b : A} → Some a ≡ Some b → a ≡ b
      some_same e = cc

  -- equal sides
  pub equal_runs : (e : Equation) (es : List Equation) → e.left ≡ e.right → ReachedRun Σ (whole (e ∷ es) s) (whole es s)
  equal_runs e es h = subst (λ M. ReachedRun Σ (holding (record { local = e.local; left = M; right = e.right; of_type = e.of_type } ∷ followed es s.equations)) (whole es s)) (sym h) (one_step Σ drop_equal tt)

  -- an equation is postponed
  pub postpone_runs : (e : Equation) (es : List Equation) → ReachedRun Σ (whole (e ∷ es) s) (whole es (with_equation s e))
  postpone_runs e es =
      let moved : ReachedRun Σ (holding (e ∷ followed (followed es s.equations) [])) (holding (followed (followed es s.equations) (e ∷ []))) = places_change Σ (types_of s) (bindings_of s) (e ∷ []) (followed es s.equations) [] in
      let from : ReachedRun Σ (holding (e ∷ followed es s.equations)) (holding (followed (followed es s.equations) (e ∷ []))) =
      subst (λ fs. ReachedRun Σ (holding (e ∷ fs)) (holding (followed (followed es s.equations) (e ∷ [])))) (followed_nothing (followed es s.equations)) moved in
      let to : followed (followed es s.equations) (e ∷ []) ≡ followed es (s.equations ++ e ∷ []) = followed_twice es s.equations (e ∷ []) ∙ ap (followed es) (sym (joined_is_followed s.equations (e ∷ []))) in
      subst (λ fs. ReachedRun Σ (holding (e ∷ followed es s.equations)) (holding fs)) to from
