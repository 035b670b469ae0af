-- Inversion is total: each term is inverted, or has a bad variable that no metavariable stands above, or a metavariable over a bad variable
-- that none stands above; and where that one stands on a pattern it has a last bad argument.
use Rattle.std.proofs.Common.{◌≡◌, ℕ, zero, suc, ◌<◌, List, [], ◌∷◌, Option, ◌⊎◌, inl, inr, refl, sym, ap, subst, arith}
use Rattle.lf.specs.Eta.{eta_expand, add_last}
use Rattle.lf.specs.Syntax.{Skeleton, Spine, Term, LfType, app, arrow, base, constant, lambda, metavariable, nil, rename, rename_spine, root, lift_renaming, variable}
use Rattle.lf_unification.specs.OpenTyping.{skeletons_of}
use Rattle.lf_unification.specs.Inversion.{Inversion, is_flexible, is_inverted, is_never, Allowed, IsUnderBinders, IsPattern, MustDrop, ElementAt}
use Rattle.lf_unification.specs.Patterns.{beyond, local_skeletons}
use Rattle.lf_unification.specs.Patterns.{InImage, FreeVariablesIn, FreeVariablesInSpine, PatternFits, LiftedSet, extend_renaming, pattern, pattern_renaming}
use Rattle.lf_unification.specs.Rigid.{LiftedSetBy, Rigid, RigidInSpine, first, here, in_constant, in_lambda, in_variable, later}
use Rattle.lf_unification.proofs.Inverse.{unren}
use Rattle.lf_unification.proofs.Offer.{decide}

abbrev pub Decided : (ℕ → Type 0) → Type 0
Decided P = (i : ℕ) → P i ⊎ (P i → ⊥)

decided_push : (P : ℕ → Type 0) → Decided P → Decided (LiftedSet P)
decided_push P d zero = inl tt
decided_push P d (suc i) = d i

pub decided_pushN : (k : ℕ) (P : ℕ → Type 0) → Decided P → Decided (LiftedSetBy k P)
decided_pushN zero P d i = d i
decided_pushN (suc k) P d i = decided_pushN k (LiftedSet P) (decided_push P d) i

-- the variables that a pattern has, with what stands outside, are decided
decided_ext : (x : ℕ) (τ : ℕ → ℕ) → Decided (InImage τ) → Decided (InImage (extend_renaming x τ))
decided_ext x τ d i = go (decide i x) (d i)
  where
    go : (i ≡ x) ⊎ (i ≡ x → ⊥) → InImage τ i ⊎ (InImage τ i → ⊥) → InImage (extend_renaming x τ) i ⊎ (InImage (extend_renaming x τ) i → ⊥)
    go (inl e) h = inl (zero, sym e)
    go (inr n) (inl (j, e)) = inl (suc j, e)
    go (inr n) (inr h) = inr none
      where
        none : InImage (extend_renaming x τ) i → ⊥
        none (zero, e) = n (sym e)
        none (suc j, e) = h (j, e)

pub decided_pattern : (t : Skeleton) (xs : List ℕ) (τ : ℕ → ℕ) → Decided (InImage τ) → Decided (InImage (pattern_renaming t xs τ))
decided_pattern (base c) xs τ d = d
decided_pattern (arrow a b) [] τ d = d
decided_pattern (arrow a b) (x ∷ xs) τ d = decided_pattern b xs (extend_renaming x τ) (decided_ext x τ d)

pub decided_beyond : (D : List LfType) → Decided (InImage (beyond D))
decided_beyond [] i = inl (i, refl)
decided_beyond (A ∷ D) zero = inr none
  where
    none : InImage (beyond (A ∷ D)) zero → ⊥
    none (j, e) = cc
decided_beyond (A ∷ D) (suc i) = go (decided_beyond D i)
  where
    go : InImage (beyond D) i ⊎ (InImage (beyond D) i → ⊥) → InImage (beyond (A ∷ D)) (suc i) ⊎ (InImage (beyond (A ∷ D)) (suc i) → ⊥)
    go (inl (j, e)) = inl (j, ap suc e)
    go (inr n) = inr none
      where
        none : InImage (beyond (A ∷ D)) (suc i) → ⊥
        none (j, e) = n (j, (let p : beyond D j ≡ i = cc in p))

mutual
  only_decided : (P : ℕ → Type 0) → Decided P → (M : Term) → FreeVariablesIn P M ⊎ (FreeVariablesIn P M → ⊥)
  only_decided P d (lambda M) = only_decided (LiftedSet P) (decided_push P d) M
  only_decided P d (root (constant c) S) = only_decided_spine P d S
  only_decided P d (root (metavariable c) S) = only_decided_spine P d S
  only_decided P d (root (variable i) S) = go (d i) (only_decided_spine P d S)
    where
      go : P i ⊎ (P i → ⊥) → FreeVariablesInSpine P S ⊎ (FreeVariablesInSpine P S → ⊥) → (P i × FreeVariablesInSpine P S) ⊎ (P i × FreeVariablesInSpine P S → ⊥)
      go (inl p) (inl q) = inl (p, q)
      go (inl p) (inr n) = inr (λ r. n r.1)
      go (inr n) q = inr (λ r. n r.0)

  only_decided_spine : (P : ℕ → Type 0) → Decided P → (S : Spine) → FreeVariablesInSpine P S ⊎ (FreeVariablesInSpine P S → ⊥)
  only_decided_spine P d nil = inl tt
  only_decided_spine P d (app M S) = go (only_decided P d M) (only_decided_spine P d S)
    where
      go : FreeVariablesIn P M ⊎ (FreeVariablesIn P M → ⊥) → FreeVariablesInSpine P S ⊎ (FreeVariablesInSpine P S → ⊥) → (FreeVariablesIn P M × FreeVariablesInSpine P S) ⊎ (FreeVariablesIn P M × FreeVariablesInSpine P S → ⊥)
      go (inl p) (inl q) = inl (p, q)
      go (inl p) (inr n) = inr (λ r. n r.1)
      go (inr n) q = inr (λ r. n r.0)

-- what stands in the way of P in a term, with no metavariable above it
pub data Obstacle (P : ℕ → Type 0) : Term → Type 0 where
  at_variable : {N : Term} (k i : ℕ) (S : Spine) → Rigid (root (variable i) S) k N → (LiftedSetBy k P i → ⊥) → Obstacle P N
  at_metavariable : {N : Term} (k n : ℕ) (S : Spine) → Rigid (root (metavariable n) S) k N → (FreeVariablesInSpine (LiftedSetBy k P) S → ⊥) → Obstacle P N

pub data ObstacleInSpine (P : ℕ → Type 0) : Spine → Type 0 where
  spine_variable : {T : Spine} (k i : ℕ) (S : Spine) → RigidInSpine (root (variable i) S) k T → (LiftedSetBy k P i → ⊥) → ObstacleInSpine P T
  spine_metavariable : {T : Spine} (k n : ℕ) (S : Spine) → RigidInSpine (root (metavariable n) S) k T → (FreeVariablesInSpine (LiftedSetBy k P) S → ⊥) → ObstacleInSpine P T

inside_lambda : (P : ℕ → Type 0) (M : Term) → Obstacle (LiftedSet P) M → Obstacle P (lambda M)
inside_lambda P M (at_variable k i S o n) = at_variable (suc k) i S (in_lambda o) n
inside_lambda P M (at_metavariable k m S o n) = at_metavariable (suc k) m S (in_lambda o) n

under_constant : (P : ℕ → Type 0) (c : ℕ) (T : Spine) → ObstacleInSpine P T → Obstacle P (root (constant c) T)
under_constant P c T (spine_variable k i S o n) = at_variable k i S (in_constant o) n
under_constant P c T (spine_metavariable k m S o n) = at_metavariable k m S (in_constant o) n

under_variable : (P : ℕ → Type 0) (c : ℕ) (T : Spine) → ObstacleInSpine P T → Obstacle P (root (variable c) T)
under_variable P c T (spine_variable k i S o n) = at_variable k i S (in_variable o) n
under_variable P c T (spine_metavariable k m S o n) = at_metavariable k m S (in_variable o) n

at_first : (P : ℕ → Type 0) (M : Term) (T : Spine) → Obstacle P M → ObstacleInSpine P (app M T)
at_first P M T (at_variable k i S o n) = spine_variable k i S (first o) n
at_first P M T (at_metavariable k m S o n) = spine_metavariable k m S (first o) n

at_later : (P : ℕ → Type 0) (M : Term) (T : Spine) → ObstacleInSpine P T → ObstacleInSpine P (app M T)
at_later P M T (spine_variable k i S o n) = spine_variable k i S (later o) n
at_later P M T (spine_metavariable k m S o n) = spine_metavariable k m S (later o) n

mutual
  pub clear_or_not : (P : ℕ → Type 0) → Decided P → (M : Term) → FreeVariablesIn P M ⊎ Obstacle P M
  clear_or_not P d (lambda M) = go (clear_or_not (LiftedSet P) (decided_push P d) M)
    where
      go : FreeVariablesIn (LiftedSet P) M ⊎ Obstacle (LiftedSet P) M → FreeVariablesIn P (lambda M) ⊎ Obstacle P (lambda M)
      go (inl h) = inl h
      go (inr o) = inr (inside_lambda P M o)
  clear_or_not P d (root (constant c) S) = go (clear_or_not_spine P d S)
    where
      go : FreeVariablesInSpine P S ⊎ ObstacleInSpine P S → FreeVariablesIn P (root (constant c) S) ⊎ Obstacle P (root (constant c) S)
      go (inl h) = inl h
      go (inr o) = inr (under_constant P c S o)
  clear_or_not P d (root (metavariable c) S) = go (only_decided_spine P d S)
    where
      go : FreeVariablesInSpine P S ⊎ (FreeVariablesInSpine P S → ⊥) → FreeVariablesIn P (root (metavariable c) S) ⊎ Obstacle P (root (metavariable c) S)
      go (inl h) = inl h
      go (inr n) = inr (at_metavariable zero c S here n)
  clear_or_not P d (root (variable i) S) = go (d i) (clear_or_not_spine P d S)
    where
      go : P i ⊎ (P i → ⊥) → FreeVariablesInSpine P S ⊎ ObstacleInSpine P S → FreeVariablesIn P (root (variable i) S) ⊎ Obstacle P (root (variable i) S)
      go (inl p) (inl h) = inl (p, h)
      go (inl p) (inr o) = inr (under_variable P i S o)
      go (inr n) h = inr (at_variable zero i S here n)

  clear_or_not_spine : (P : ℕ → Type 0) → Decided P → (S : Spine) → FreeVariablesInSpine P S ⊎ ObstacleInSpine P S
  clear_or_not_spine P d nil = inl tt
  clear_or_not_spine P d (app M S) = go (clear_or_not P d M) (clear_or_not_spine P d S)
    where
      go : FreeVariablesIn P M ⊎ Obstacle P M → FreeVariablesInSpine P S ⊎ ObstacleInSpine P S → FreeVariablesInSpine P (app M S) ⊎ ObstacleInSpine P (app M S)
      go (inl p) (inl q) = inl (p, q)
      go (inl p) (inr o) = inr (at_later P M S o)
      go (inr o) q = inr (at_first P M S o)

-- THE theorem on inversion
pub inversion_total : (Ψ : ℕ → Option LfType) (D : List LfType) (t : Skeleton) (xs : List ℕ) (N : Term) → Inversion Ψ D t xs N
inversion_total Ψ D t xs N = go (clear_or_not (InImage (pattern_renaming t xs (beyond D))) (decided_pattern t xs (beyond D) (decided_beyond D)) N)
  where
    go : FreeVariablesIn (InImage (pattern_renaming t xs (beyond D))) N ⊎ Obstacle (InImage (pattern_renaming t xs (beyond D))) N → Inversion Ψ D t xs N
    go (inl o) = let (B, e) = unren (pattern_renaming t xs (beyond D)) N o in is_inverted (record { inversion = B; is = e })
    go (inr (at_variable k i S o n)) = is_never (record { depth = k; bad = i; spine = S; at = o; is_bad = n })
    go (inr (at_metavariable k n S o h)) = is_flexible k n S o h

-- eta-long variables and their variable
pub push_forth : (P Q : ℕ → Type 0) (ρ : ℕ → ℕ) → ((i : ℕ) → P i → Q (ρ i)) → (i : ℕ) → LiftedSet P i → LiftedSet Q (lift_renaming ρ i)
push_forth P Q ρ h zero p = p
push_forth P Q ρ h (suc i) p = h i p

mutual
  pub only_forth : (P Q : ℕ → Type 0) (ρ : ℕ → ℕ) → ((i : ℕ) → P i → Q (ρ i)) → (M : Term) → FreeVariablesIn P M → FreeVariablesIn Q (rename ρ M)
  only_forth P Q ρ h (lambda M) o = only_forth (LiftedSet P) (LiftedSet Q) (lift_renaming ρ) (push_forth P Q ρ h) M o
  only_forth P Q ρ h (root (constant c) S) o = only_forth_spine P Q ρ h S o
  only_forth P Q ρ h (root (metavariable c) S) o = only_forth_spine P Q ρ h S o
  only_forth P Q ρ h (root (variable i) S) (p, o) = (h i p, only_forth_spine P Q ρ h S o)

  pub only_forth_spine : (P Q : ℕ → Type 0) (ρ : ℕ → ℕ) → ((i : ℕ) → P i → Q (ρ i)) → (S : Spine) → FreeVariablesInSpine P S → FreeVariablesInSpine Q (rename_spine ρ S)
  only_forth_spine P Q ρ h nil o = o
  only_forth_spine P Q ρ h (app M S) (o, p) = (only_forth P Q ρ h M o, only_forth_spine P Q ρ h S p)

only_snoc : (P : ℕ → Type 0) (S : Spine) (N : Term) → FreeVariablesInSpine P S → FreeVariablesIn P N → FreeVariablesInSpine P (add_last S N)
only_snoc P nil N o p = (p, o)
only_snoc P (app M S) N (m, o) p = (m, only_snoc P S N o p)

only_eta_on : (P : ℕ → Type 0) (a : Skeleton) (x : ℕ) (S : Spine) → P x → FreeVariablesInSpine P S → FreeVariablesIn P (eta_expand a (variable x) S)
only_eta_on P (base c) x S p o = (p, o)
only_eta_on P (arrow a b) x S p o = only_eta_on (LiftedSet P) b (suc x) (add_last (rename_spine suc S) (eta_expand a (variable zero) nil)) p (only_snoc (LiftedSet P) (rename_spine suc S) (eta_expand a (variable zero) nil) (only_forth_spine P (LiftedSet P) suc (λ i q. q) S o) (only_eta_on (LiftedSet P) a zero nil tt tt))

eta_on_only : (P : ℕ → Type 0) (a : Skeleton) (x : ℕ) (S : Spine) → FreeVariablesIn P (eta_expand a (variable x) S) → P x
eta_on_only P (base c) x S o = o.0
eta_on_only P (arrow a b) x S o = eta_on_only (LiftedSet P) b (suc x) (add_last (rename_spine suc S) (eta_expand a (variable zero) nil)) o

each_allowed : (P : ℕ → Type 0) (Δ : List Skeleton) (t : Skeleton) (ys : List ℕ) → PatternFits Δ t ys → FreeVariablesInSpine P (pattern t ys) → (j y : ℕ) → ElementAt ys j y → P y
each_allowed P Δ (base c) [] p o j y n = absurd n
each_allowed P Δ (base c) (x ∷ ys) p o j y n = absurd p
each_allowed P Δ (arrow a b) [] p o j y n = absurd n
each_allowed P Δ (arrow a b) (x ∷ ys) (e, p) (o, os) zero y n = subst P n (eta_on_only P a x nil o)
each_allowed P Δ (arrow a b) (x ∷ ys) (e, p) (o, os) (suc j) y n = each_allowed P Δ b ys p os j y n

-- THE theorem on pruning: a pattern with a bad variable has a last one
pub last_bad : (P : ℕ → Type 0) → Decided P → (Δ : List Skeleton) (t : Skeleton) (ys : List ℕ) → PatternFits Δ t ys → (FreeVariablesInSpine P (pattern t ys) → ⊥) →
    (place : ℕ) × (bad : ℕ) × ElementAt ys place bad × (P bad → ⊥) × ((j y : ℕ) → place < j → ElementAt ys j y → P y)
last_bad P d Δ (base c) [] p n = absurd (n tt)
last_bad P d Δ (base c) (x ∷ ys) p n = absurd p
last_bad P d Δ (arrow a b) [] p n = absurd p
last_bad P d Δ (arrow a b) (x ∷ ys) (e, p) n = go (only_decided_spine P d (pattern b ys)) (last_bad P d Δ b ys p)
  where
    go : FreeVariablesInSpine P (pattern b ys) ⊎ (FreeVariablesInSpine P (pattern b ys) → ⊥) → ((FreeVariablesInSpine P (pattern b ys) → ⊥) → (place : ℕ) × (bad : ℕ) × ElementAt ys place bad × (P bad → ⊥) × ((j y : ℕ) → place < j → ElementAt ys j y → P y)) → (place : ℕ) × (bad : ℕ) × ElementAt (x ∷ ys) place bad × (P bad → ⊥) × ((j y : ℕ) → place < j → ElementAt (x ∷ ys) j y → P y)
    go (inl o) r = (zero, x, refl, (λ q. n (only_eta_on P a x nil q tt, o)), after)
      where
        after : (j y : ℕ) → zero < j → ElementAt (x ∷ ys) j y → P y
        after zero y l m = absurd (omega arith)
        after (suc j) y l m = each_allowed P Δ b ys p o j y m
    go (inr h) r = let (k, y, m, q, f) = r h in (suc k, y, m, q, λ j z l g. shift k f j z l g)
      where
        shift : (k : ℕ) → ((j y : ℕ) → k < j → ElementAt ys j y → P y) → (j z : ℕ) → suc k < j → ElementAt (x ∷ ys) j z → P z
        shift k f zero z l g = absurd (omega arith)
        shift k f (suc j) z l g = f j z (omega arith) g

pub must_drop : (Ψ : ℕ → Option LfType) (D : List LfType) (t : Skeleton) (xs : List ℕ) (N : Term) (depth n : ℕ) (E : List LfType) (ys : List ℕ) → IsUnderBinders D depth E → IsPattern E (skeletons_of Ψ n) ys → Rigid (root (metavariable n) (pattern (skeletons_of Ψ n) ys)) depth N → (FreeVariablesInSpine (Allowed D t xs depth) (pattern (skeletons_of Ψ n) ys) → ⊥) → MustDrop Ψ D t xs N
must_drop Ψ D t xs N depth n E ys x p o h =
    let (k, y, m, q, f) = last_bad (Allowed D t xs depth) (decided_pushN depth (InImage (pattern_renaming t xs (beyond D))) (decided_pattern t xs (beyond D) (decided_beyond D))) (local_skeletons E []) (skeletons_of Ψ n) ys (p.places []) h in
    record { m = n; depth = depth; context = E; context_is = x; ys = ys; is_pattern = p; at = o; place = k; bad = y; nth = m; is_bad = q; last = f }
