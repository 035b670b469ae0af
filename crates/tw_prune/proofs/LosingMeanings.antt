-- What pruning a type answers, in the terms of unification.
use Rattle.std.proofs.Common.{◌≡◌, ℕ, zero, suc, ◌+◌, ◌-◌, ◌<◌, [], Some, None, sym, ◌∙◌, arith}
use Rattle.lf.specs.Eta.{arity}
use Rattle.lf.specs.Syntax.{LfType, Spine, atom, pi, skeleton}
use Rattle.tw_prune.specs.Kept.{kept_arguments}
use Rattle.tw_prune.specs.Losing.{KeepsArgument, LosesArgument}
use Rattle.tw_prune.specs.Tables.{IsTableOf}
use Rattle.tw_prune.specs.Walks.{Table, without_argument}
use Rattle.tw_prune.proofs.Pruning.{pruned_is, pruned_of, pruned_pattern, pruned_without}
use Rattle.tw_prune.proofs.Without.{IsWithout, kept_pattern, newest_inverse, without_back, without_sound}

there_is : (k : ℕ) (X Y : LfType) → IsWithout k X Y → k < arity (skeleton X)
there_is k (atom a S) Y w = absurd w
there_is zero (pi A B) Y w = omega arith
there_is (suc k) (pi A B) (atom a S) w = absurd w
there_is (suc k) (pi A B) (pi A' B') (e, w) = let l = there_is k B B' w in omega (arith, l)

pub loses_means : (T : Table) → IsTableOf [] 1 T → (k : ℕ) (X Y : LfType) (S : Spine) → without_argument T k X ≡ Some Y → S ≡ kept_arguments k X → LosesArgument X k Y S
loses_means T table k X Y S e f =
    let w : IsWithout k X Y = without_sound T (newest_inverse T table) k X Y e in
    let l = there_is k X Y w in
    let at : (arity (skeleton X) - 1 - k) + k + 1 ≡ arity (skeleton X) = omega (arith, l) in
    record {
      dropped = arity (skeleton X) - 1 - k;
      at = at;
      pruned = λ Ψ n d. (pruned_of k X Y (arity (skeleton X) - 1 - k) w at Ψ n d, pruned_is k X Y (arity (skeleton X) - 1 - k) w at Ψ n d, pruned_pattern k X Y (arity (skeleton X) - 1 - k) w at Ψ n d ∙ kept_pattern k X ∙ sym f);
    }

pub keeps_means : (T : Table) → IsTableOf [] 1 T → (k : ℕ) (X : LfType) → without_argument T k X ≡ None → KeepsArgument X k
keeps_means T table k X e Ψ n dropped d at p =
    let (Y, w) = pruned_without k X dropped Ψ n at d p in
    let f : without_argument T k X ≡ Some Y = without_back T (newest_inverse T table) k X Y w in
    let g : None ≡ Some Y = sym e ∙ f in
    cc
