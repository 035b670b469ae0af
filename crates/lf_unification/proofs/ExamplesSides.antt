-- No equation is turned: where nothing is bound, what comes from `c S = M T` has c as the head of its left side, and M as that of its right.
use Rattle.std.proofs.Common.{◌≡◌, ℕ, [], Option, sym, ap, ◌∙◌}
use Rattle.lf.specs.Syntax.{Head, LfType, Spine, Term, constant, metavariable, root}
use Rattle.lf_unification.specs.Origins.{ComesFrom, as_it_came, at_arguments, under_lambdas, with_bindings}
use Rattle.lf_unification.specs.Putting.{PutsSome, put_nothing, some_at_bound, some_in_arguments, some_under_lambda}
use Rattle.lf_unification.specs.Unifiers.{Equation}

-- the term has this head
abbrev HasHead : Head → Term → Type 0
HasHead h M = (S : Spine) × (M ≡ root h S)

head_stays : {Ψ : ℕ → Option LfType} {k : ℕ} {M M' : Term} → PutsSome Ψ [] k M M' → (h : Head) → HasHead h M → HasHead h M'
head_stays put_nothing h w = w
head_stays (some_under_lambda d) h (S, e) = absurd (cc)
head_stays (some_in_arguments {S' = S'} k d) h (S, e) = (S', (let q : k ≡ h = cc in ap (λ x. root x S') q))
head_stays (some_at_bound b i d r e) h w = absurd i

pub heads_stay : {Ψ : ℕ → Option LfType} {d e : Equation} → ComesFrom Ψ [] d e → (c m : ℕ) → HasHead (constant c) d.left → HasHead (metavariable m) d.right → HasHead (constant c) e.left × HasHead (metavariable m) e.right
heads_stay as_it_came c m l r = (l, r)
heads_stay (with_bindings f g p) c m l r = heads_stay p c m (head_stays f (constant c) l) (head_stays g (metavariable m) r)
heads_stay (under_lambdas p) c m (S, l) r = absurd (cc)
heads_stay (at_arguments h A k i p) c m (S, l) (T, r) = (let q : constant c ≡ metavariable m = one l r in absurd (cc))
  where
    one : {h x y : Head} {S S' T T' : Spine} → root h S ≡ root x S' → root h T ≡ root y T' → x ≡ y
    one e f = cc

-- so it isn't the turned equation
pub not_turned : {Ψ : ℕ → Option LfType} {d e : Equation} → ComesFrom Ψ [] d e → (c m : ℕ) → HasHead (constant c) d.left → HasHead (metavariable m) d.right → HasHead (metavariable m) e.left → ⊥
not_turned p c m l r (T, t) = (let (S, s) = (heads_stay p c m l r).0 in let q : root (constant c) S ≡ root (metavariable m) T = sym s ∙ t in cc)
