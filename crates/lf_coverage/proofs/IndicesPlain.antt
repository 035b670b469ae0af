-- What has no indices in its types isn't held by types.
use Rattle.std.proofs.Common.{◌≡◌, ℕ, zero, suc, ◌⊎◌, List, [], ◌∷◌, inl, inr, refl, sym, ap, ◌∙◌, subst}
use Rattle.std.specs.Prelude.{Option, Some, None}
use Rattle.lf.specs.Subordination.{Member}
use Rattle.lf.specs.Syntax.{constant, variable, metavariable, Term, Spine, lambda, root, nil, app, LfType, pi, atom, Skeleton, base, arrow}
use Rattle.lf_unification.specs.Inversion.{ElementAt, IsPattern, MustDrop, SameMetavariable}
use Rattle.lf_unification.specs.OpenTyping.{MetavariablesIn, MetavariablesInSpine, skeletons_of}
use Rattle.lf_unification.specs.Patterns.{PatternFits, beyond, local_skeletons, pattern}
use Rattle.lf_unification.specs.Pruning.{CanAgree, CanDrop, PrunedType}
use Rattle.lf_unification.specs.Putting.{Unbound}
use Rattle.lf_unification.specs.Reach.{IsReached, Mentions, SpineMentions, TypeMentions, in_term, in_type, in_value}
use Rattle.lf_unification.specs.Rigid.{Rigid, RigidInSpine, first, here, in_constant, in_lambda, in_variable, later, past_binders}
use Rattle.lf_unification.specs.Skeletons.{skeleton_or_default}
use Rattle.lf_unification.specs.Steps.{on_pattern}
use Rattle.lf_unification.specs.Unifiers.{Binding}
use Rattle.lf_unification.proofs.Offer.{decide}
use Rattle.lf_coverage.specs.IndicesLeft.{IsHeldByTypes, circular_by_type, keeps_both, keeps_inside}
use Rattle.lf_coverage.proofs.IndicesPruned.{PlainType, at_index, index_inside, index_of, plain_pruned}

-- so an argument that must go can
no_element : (Γ : List Skeleton) (c : ℕ) (ys : List ℕ) (j x : ℕ) → PatternFits Γ (base c) ys → ElementAt ys j x → ⊥
no_element Γ c [] j x f g = g
no_element Γ c (y ∷ ys) j x f g = f

module _ (Ψ : ℕ → Option LfType) where
  -- the declared type of a metavariable is such
  abbrev pub IsPlain : ℕ → Type 0
  IsPlain n = (A : LfType) → Ψ n ≡ Some A → PlainType A

  pruned_at : (Γ : List Skeleton) (n : ℕ) → IsPlain n → (ys : List ℕ) (j x : ℕ) → PatternFits Γ (skeletons_of Ψ n) ys → ElementAt ys j x → PrunedType Ψ n (index_of (skeletons_of Ψ n) j)
  pruned_at Γ n plain ys j x f g = by (Ψ n) refl
    where
      by : (y : Option LfType) → Ψ n ≡ y → PrunedType Ψ n (index_of (skeletons_of Ψ n) j)
      by None q = absurd (no_element Γ zero ys j x (subst (λ t. PatternFits Γ t ys) (ap skeleton_or_default q) f) g)
      by (Some A) q = plain_pruned Ψ n A q (plain A q) (index_of (skeletons_of Ψ n) j) (index_inside Γ A (skeletons_of Ψ n) ys j x (ap skeleton_or_default q) f g)

  can_drop : (D : List LfType) (t : Skeleton) (xs : List ℕ) (N : Term) → (d : MustDrop Ψ D t xs N) → IsPlain d.m → CanDrop Ψ D t xs N
  can_drop D t xs N d plain = record {
    drop = d;
    dropped = index_of (skeletons_of Ψ d.m) d.place;
    is_place = at_index (local_skeletons d.context []) (skeletons_of Ψ d.m) d.ys (λ j. past_binders d.depth (beyond D j)) d.place d.bad (d.is_pattern.places []) d.nth;
    pruned = pruned_at (local_skeletons d.context []) d.m plain d.ys d.place d.bad (d.is_pattern.places []) d.nth;
  }

  abbrev Differ : List ℕ → List ℕ → Type 0
  Differ xs ys = (j : ℕ) × (x : ℕ) × (y : ℕ) × ElementAt xs j x × ElementAt ys j y × (x ≡ y → ⊥)

  same_or_differ : (Γ : List Skeleton) (t : Skeleton) (xs ys : List ℕ) → PatternFits Γ t xs → PatternFits Γ t ys → (xs ≡ ys) ⊎ Differ xs ys
  same_or_differ Γ (base c) [] [] f g = inl refl
  same_or_differ Γ (base c) [] (y ∷ ys) f g = absurd g
  same_or_differ Γ (base c) (x ∷ xs) ys f g = absurd f
  same_or_differ Γ (arrow a b) [] ys f g = absurd f
  same_or_differ Γ (arrow a b) (x ∷ xs) [] f g = absurd g
  same_or_differ Γ (arrow a b) (x ∷ xs) (y ∷ ys) (h, f) (k, g) = by (decide x y) (same_or_differ Γ b xs ys f g)
    where
      by : (x ≡ y) ⊎ (x ≡ y → ⊥) → (xs ≡ ys) ⊎ Differ xs ys → (x ∷ xs ≡ y ∷ ys) ⊎ Differ (x ∷ xs) (y ∷ ys)
      by (inr n) r = inr (zero, x, y, refl, refl, n)
      by (inl e) (inl q) = inl (subst (λ z. x ∷ xs ≡ z ∷ ys) e (ap (λ zs. x ∷ zs) q))
      by (inl e) (inr (j, u, v, p, q, n)) = inr (suc j, u, v, p, q, n)

  can_agree : (D : List LfType) (m : ℕ) → IsPlain m → (xs : List ℕ) (N : Term) → IsPattern D (skeletons_of Ψ m) xs → (s : SameMetavariable Ψ D m xs N) → (on_pattern Ψ m xs ≡ N → ⊥) → CanAgree Ψ D m xs N
  can_agree D m plain xs N x s n = by (same_or_differ (local_skeletons D []) (skeletons_of Ψ m) xs s.ys (x.places []) (s.is_pattern.places []))
    where
      by : (xs ≡ s.ys) ⊎ Differ xs s.ys → CanAgree Ψ D m xs N
      by (inl e) = absurd (n (ap (λ zs. root (metavariable m) (pattern (skeletons_of Ψ m) zs)) e ∙ sym s.is))
      by (inr (j, u, v, p, q, d)) = record {
        same = s;
        dropped = index_of (skeletons_of Ψ m) j;
        differ = λ e. d (sym (at_index (local_skeletons D []) (skeletons_of Ψ m) xs (beyond D) j u (x.places []) p) ∙ e ∙ at_index (local_skeletons D []) (skeletons_of Ψ m) s.ys (beyond D) j v (s.is_pattern.places []) q);
        pruned = pruned_at (local_skeletons D []) m plain xs j u (x.places []) p;
      }

-- what is mentioned
mutual
  pub mentioned_in : (V : ℕ → Type 0) (k : ℕ) (M : Term) → MetavariablesIn V M → Mentions k M → V k
  mentioned_in V k (lambda M) v h = mentioned_in V k M v h
  mentioned_in V k (root (constant c) S) v h = spine_mentioned_in V k S v h
  mentioned_in V k (root (variable c) S) v h = spine_mentioned_in V k S v h
  mentioned_in V k (root (metavariable n) S) (x, v) (inl e) = subst V (sym e) x
  mentioned_in V k (root (metavariable n) S) (x, v) (inr h) = spine_mentioned_in V k S v h

  pub spine_mentioned_in : (V : ℕ → Type 0) (k : ℕ) (S : Spine) → MetavariablesInSpine V S → SpineMentions k S → V k
  spine_mentioned_in V k nil v h = absurd h
  spine_mentioned_in V k (app M S) (v, w) (inl h) = mentioned_in V k M v h
  spine_mentioned_in V k (app M S) (v, w) (inr h) = spine_mentioned_in V k S w h

plain_mentions : (k : ℕ) (A : LfType) → PlainType A → TypeMentions k A → ⊥
plain_mentions k (pi A B) (a, b) (inl h) = plain_mentions k A a h
plain_mentions k (pi A B) (a, b) (inr h) = plain_mentions k B b h
plain_mentions k (atom a S) e h = subst (SpineMentions k) e h

pub bound_is_bound : (bs : List Binding) (b : Binding) → Member b bs → Unbound bs b.of → ⊥
bound_is_bound [] b m u = m
bound_is_bound (c ∷ bs) b (inl q) (n, u) = n (ap (λ (y : Binding). y.of) q)
bound_is_bound (c ∷ bs) b (inr m) (n, u) = bound_is_bound bs b m u

mutual
  rigid_mentions : (n k : ℕ) (P N : Term) → Rigid P k N → Mentions n P → Mentions n N
  rigid_mentions n zero P N here h = h
  rigid_mentions n (suc k) P (lambda M) (in_lambda r) h = rigid_mentions n k P M r h
  rigid_mentions n k P (root (constant c) T) (in_constant r) h = spine_mentions n k P T r h
  rigid_mentions n k P (root (variable i) T) (in_variable r) h = spine_mentions n k P T r h

  spine_mentions : (n k : ℕ) (P : Term) (T : Spine) → RigidInSpine P k T → Mentions n P → SpineMentions n T
  spine_mentions n k P nil r h = elim r [ ]
  spine_mentions n k P (app M T) (first r) h = inl (rigid_mentions n k P M r h)
  spine_mentions n k P (app M T) (later r) h = inr (spine_mentions n k P T r h)

pub rigid_is_mentioned : (k n : ℕ) (S : Spine) (N : Term) → Rigid (root (metavariable n) S) k N → Mentions n N
rigid_is_mentioned k n S N r = rigid_mentions n k (root (metavariable n) S) N r (inl refl)

-- The metavariable m and those in N have such types.
module _ (Ψ : ℕ → Option LfType) (bs : List Binding) (N : Term) (plain : (k : ℕ) → Mentions k N → IsPlain Ψ k) (unbound : MetavariablesIn (Unbound bs) N) where
  reached_is_mentioned : {k : ℕ} → IsReached Ψ bs N k → Mentions k N
  reached_is_mentioned (in_term h) = h
  reached_is_mentioned (in_type {k = k} {A = A} r e h) = absurd (plain_mentions _ A (plain k (reached_is_mentioned r) A e) h)
  reached_is_mentioned (in_value b r m h) = absurd (bound_is_bound bs b m (mentioned_in (Unbound bs) b.of N unbound (reached_is_mentioned r)))

  pub never_held : (D : List LfType) (m : ℕ) → IsPlain Ψ m → (xs : List ℕ) → IsPattern D (skeletons_of Ψ m) xs → IsHeldByTypes Ψ bs D m xs N → ⊥
  never_held D m pm xs x (circular_by_type v r h) = h (reached_is_mentioned r)
  never_held D m pm xs x (keeps_inside d n) = n (can_drop Ψ D (skeletons_of Ψ m) xs N d (plain d.m (rigid_is_mentioned d.depth d.m (pattern (skeletons_of Ψ d.m) d.ys) N d.at)))
  never_held D m pm xs x (keeps_both s d n) = n (can_agree Ψ D m pm xs N x s d)
