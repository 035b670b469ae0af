-- Renamings, as the code makes them.
use Rattle.std.proofs.Common.{◌≡◌, ℕ, zero, suc, ◌+◌, ◌-◌, ◌<◌, ◌≤◌, List, ◌∷◌, length, drop, get_or, drop-cons, sym, ap, ◌∙◌}
use Rattle.std.specs.Prelude.{cond}
use Rattle.std.proofs.Math.ListN.{drop_of_length-le}
use Rattle.lf.specs.AtOnce.{lift_renaming_by}
use Rattle.lf.specs.Syntax.{Term, lambda, rename, rename_head, variable}
use Rattle.lf.specs.Variables.{same_number}
use Rattle.lf.proofs.AtOnce.{lift_renaming_by_bound, lift_renaming_by_free}
use Rattle.tw_world.specs.Finding.{abstracted, to_front}
use Rattle.tw_signature.proofs.Marking.{same_not, same_self}

pub front_same : (y j : ℕ) → j ≡ y → to_front y j ≡ zero
front_same y j e = ap (λ b. cond b zero (suc j)) (ap (same_number j) (sym e) ∙ same_self j)

pub front_other : (y j : ℕ) → (j ≡ y → ⊥) → to_front y j ≡ suc j
front_other y j h = ap (λ b. cond b zero (suc j)) (same_not j y h)

pub stays : (under i : ℕ) (ρ : ℕ → ℕ) → i < under → rename_head (lift_renaming_by under ρ) (variable i) ≡ variable i
stays under i ρ h = ap variable (lift_renaming_by_bound under i ρ h)

pub moves : (under i k : ℕ) (ρ : ℕ → ℕ) → under ≤ i → k ≡ ρ (i - under) + under → rename_head (lift_renaming_by under ρ) (variable i) ≡ variable k
moves under i k ρ h e = ap variable (lift_renaming_by_free under i ρ h ∙ sym e)

-- one more lambda
pub abstracted_next : (ys : List ℕ) (k y : ℕ) (T V W : Term) → k < length ys → y ≡ get_or ys k 0 → V ≡ abstracted (drop (suc k) ys) T → W ≡ lambda (rename (to_front y) V) → W ≡ abstracted (drop k ys) T
abstracted_next ys k y T V W h e v w = w ∙ ap (λ X. lambda (rename (to_front y) X)) v ∙ ap (λ z. abstracted (z ∷ drop (suc k) ys) T) e ∙ ap (λ zs. abstracted zs T) (sym (drop-cons ys k 0 h))

pub abstracted_none : (ys : List ℕ) (k : ℕ) (T V : Term) → length ys ≤ k → V ≡ T → V ≡ abstracted (drop k ys) T
abstracted_none ys k T V h e = e ∙ ap (λ zs. abstracted zs T) (sym (drop_of_length-le ys h))
