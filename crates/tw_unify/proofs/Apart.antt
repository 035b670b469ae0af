-- Sides whose heads are seen to be different constants.
use Rattle.std.proofs.Common.{◌≡◌, ℕ, Bool, true, false, refl}
use Rattle.std.specs.Prelude.{nat_eq, not}
use Rattle.std.specs.Bool.{OnTrue}
use Rattle.std.proofs.lemmas.Bool.{eq-eqb}
use Rattle.lf_unification.specs.Putting.{binders}
use Rattle.lf_unification.specs.Unifiers.{Equation}
use Rattle.tw_metas.specs.State.{State}
use Rattle.tw_putting.specs.Fits.{PutFits}
use Rattle.tw_putting.specs.Unfolding.{BecomesConstant}
use Rattle.tw_terms.specs.declared.canonical.ConstId.{ConstId}
use Rattle.tw_unify.specs.Sides.{BecomeApart, SidesCanTake}

differ_by : (m n : ℕ) → not (nat_eq m n) ≡ true → m ≡ n → ⊥
differ_by m n h e = let q : nat_eq m n ≡ true = eq-eqb m n e in cc

pub apart_by : (s : State) (e : Equation) (l r : ConstId) → SidesCanTake s e → ((k : ℕ) → PutFits s k e.left → BecomesConstant s k e.left l.0) → ((k : ℕ) → PutFits s k e.right → BecomesConstant s k e.right r.0) → OnTrue (not (nat_eq l.0 r.0)) (BecomeApart s e)
apart_by s e l r (f, g) p q = on (not (nat_eq l.0 r.0)) (λ t. record { left = l.0; right = r.0; left_becomes = p (binders e.local) f; right_becomes = q (binders e.local) g; differ = differ_by l.0 r.0 t })
  where
    on : (b : Bool) → (b ≡ true → BecomeApart s e) → OnTrue b (BecomeApart s e)
    on true h = h refl
    on false h = tt
