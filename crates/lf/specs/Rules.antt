-- Hereditary substitution by rules. These are the definition; the functions `substitute` and `reduce` compute it.
use Rattle.std.specs.Prelude.{◌≡◌, ℕ}
use Rattle.lf.specs.Syntax.{Head, constant, variable, metavariable, Term, Spine, lambda, root, nil, app, LfType, Kind, pi, atom, kind_pi, star, Skeleton, base, arrow}
use Rattle.lf.specs.Substitution.{Image, keep, put, lift, single}

mutual
  -- σ takes M to M'
  pub data Substitutes : (ℕ → Image) → Term → Term → Type 0 where
    inside_lambda : {σ : ℕ → Image} {M M' : Term} → Substitutes (lift σ) M M' → Substitutes σ (lambda M) (lambda M')
    at_constant : {σ : ℕ → Image} {c : ℕ} {S S' : Spine} → SubstitutesSpine σ S S' → Substitutes σ (root (constant c) S) (root (constant c) S')
    at_metavariable : {σ : ℕ → Image} {m : ℕ} {S S' : Spine} → SubstitutesSpine σ S S' → Substitutes σ (root (metavariable m) S) (root (metavariable m) S')
    at_keep : {σ : ℕ → Image} {i j : ℕ} {S S' : Spine} → σ i ≡ keep j → SubstitutesSpine σ S S' → Substitutes σ (root (variable i) S) (root (variable j) S')
    at_put : {σ : ℕ → Image} {i : ℕ} {a : Skeleton} {N M' : Term} {S S' : Spine} → σ i ≡ put a N → SubstitutesSpine σ S S' → Reduces a N S' M' → Substitutes σ (root (variable i) S) M'

  -- the same, argument by argument
  pub data SubstitutesSpine : (ℕ → Image) → Spine → Spine → Type 0 where
    none : {σ : ℕ → Image} → SubstitutesSpine σ nil nil
    more : {σ : ℕ → Image} {M M' : Term} {S S' : Spine} → Substitutes σ M M' → SubstitutesSpine σ S S' → SubstitutesSpine σ (app M S) (app M' S')

  -- N of the skeleton a, applied to S, is R
  pub data Reduces : Skeleton → Term → Spine → Term → Type 0 where
    stop : {c : ℕ} {h : Head} {S : Spine} → Reduces (base c) (root h S) nil (root h S)
    beta : {a b : Skeleton} {M M' N R : Term} {S : Spine} → Substitutes (single a N) M M' → Reduces b M' S R → Reduces (arrow a b) (lambda M) (app N S) R

-- the same on types and kinds
pub data SubstitutesType : (ℕ → Image) → LfType → LfType → Type 0 where
  inside_pi : {σ : ℕ → Image} {A A' B B' : LfType} → SubstitutesType σ A A' → SubstitutesType (lift σ) B B' → SubstitutesType σ (pi A B) (pi A' B')
  at_atom : {σ : ℕ → Image} {a : ℕ} {S S' : Spine} → SubstitutesSpine σ S S' → SubstitutesType σ (atom a S) (atom a S')

pub data SubstitutesKind : (ℕ → Image) → Kind → Kind → Type 0 where
  inside_kind_pi : {σ : ℕ → Image} {A A' : LfType} {K K' : Kind} → SubstitutesType σ A A' → SubstitutesKind (lift σ) K K' → SubstitutesKind σ (kind_pi A K) (kind_pi A' K')
  at_star : {σ : ℕ → Image} → SubstitutesKind σ star star
