-- A set of variables without one that doesn't occur.
use Rattle.std.proofs.Common.{◌≡◌, ℕ, zero, suc, Bool, true, false, refl, sym, ap, ◌∙◌, eq-eqb}
use Rattle.std.specs.Prelude.{◌||◌, ◌==◌}
use Rattle.lf.specs.Syntax.{constant, variable, metavariable, Term, Spine, lambda, root, nil, app, LfType, Kind, pi, atom, kind_pi, star}
use Rattle.lf.specs.Variables.{under, Uses, UsesSpine, UsesType}
use Rattle.tw_print.specs.Arguments.{kind_as_type}
use Rattle.tw_print.specs.Variables.{occurs, occurs_in_spine, occurs_in_type, occurs_in_kind}

neither : (a b : Bool) → a || b ≡ false → (a ≡ false) × (b ≡ false)
neither true b e = cc
neither false b e = (refl, e)

-- every variable of U but k is one of V
abbrev Without : ℕ → (ℕ → Bool) → (ℕ → Bool) → Type 0
Without k U V = (i : ℕ) → U i ≡ true → (i ≡ k → ⊥) → V i ≡ true

lower : (i k : ℕ) → suc i ≡ suc k → i ≡ k
lower i k e = cc

without_under : (k : ℕ) (U V : ℕ → Bool) → Without k U V → Without (suc k) (under U) (under V)
without_under k U V h zero e n = refl
without_under k U V h (suc i) e n = h i e (λ q. n (ap suc q))

differs : (i k : ℕ) → (i == k) ≡ false → i ≡ k → ⊥
differs i k e q = let t : true ≡ false = sym (eq-eqb i k q) ∙ e in cc

mutual
  uses_without : (k : ℕ) (U V : ℕ → Bool) (M : Term) → Without k U V → Uses U M → occurs k M ≡ false → Uses V M
  uses_without k U V (lambda M) h u e = uses_without (suc k) (under U) (under V) M (without_under k U V h) u e
  uses_without k U V (root (constant c) S) h u e = spine_without k U V S h u e
  uses_without k U V (root (metavariable c) S) h u e = spine_without k U V S h u e
  uses_without k U V (root (variable i) S) h u e =
      let p = neither (i == k) (occurs_in_spine k S) e in
      (h i u.0 (differs i k p.0), spine_without k U V S h u.1 p.1)

  spine_without : (k : ℕ) (U V : ℕ → Bool) (S : Spine) → Without k U V → UsesSpine U S → occurs_in_spine k S ≡ false → UsesSpine V S
  spine_without k U V nil h u e = tt
  spine_without k U V (app M S) h u e =
      let p = neither (occurs k M) (occurs_in_spine k S) e in
      (uses_without k U V M h u.0 p.0, spine_without k U V S h u.1 p.1)

type_without : (k : ℕ) (U V : ℕ → Bool) (A : LfType) → Without k U V → UsesType U A → occurs_in_type k A ≡ false → UsesType V A
type_without k U V (pi A B) h u e =
    let p = neither (occurs_in_type k A) (occurs_in_type (suc k) B) e in
    (type_without k U V A h u.0 p.0, type_without (suc k) (under U) (under V) B (without_under k U V h) u.1 p.1)
type_without k U V (atom a S) h u e = spine_without k U V S h u e

-- the newest variable is none of V, and the others are those of U
abbrev pub Hidden : (ℕ → Bool) → (ℕ → Bool) → Type 0
Hidden U V = (i : ℕ) → U i ≡ true → V (suc i) ≡ true

hidden_without : (U V : ℕ → Bool) → Hidden U V → Without zero (under U) V
hidden_without U V h zero e n = absurd (n refl)
hidden_without U V h (suc i) e n = h i e

pub type_hidden : (U V : ℕ → Bool) (B : LfType) → Hidden U V → UsesType (under U) B → occurs_in_type 0 B ≡ false → UsesType V B
type_hidden U V B h u e = type_without zero (under U) V B (hidden_without U V h) u e

-- a kind's variables are those of the type with its quantifiers
pub occurs_as_type : (d k : ℕ) (K : Kind) → occurs_in_type k (kind_as_type d K) ≡ occurs_in_kind k K
occurs_as_type d k (kind_pi A K) = ap (λ b. occurs_in_type k A || b) (occurs_as_type d (suc k) K)
occurs_as_type d k star = refl
