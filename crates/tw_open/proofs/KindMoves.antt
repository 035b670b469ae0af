-- Kinds moved over more variables, part by part.
use Rattle.std.proofs.Common.{◌≡◌, ℕ, suc, ◌+◌, sym, ap, ap₂, ◌∙◌, arith}
use Rattle.lf.specs.AtOnce.{lift_renaming_by, shift_by}
use Rattle.lf.specs.Syntax.{Kind, LfType, kind_pi, rename_kind, rename_type}

pub moved_kind : (n m by : ℕ) (K L : Kind) (A X : LfType) (Y : Kind) → m ≡ n + 1 → K ≡ kind_pi A L → X ≡ rename_type (lift_renaming_by n (shift_by by)) A → Y ≡ rename_kind (lift_renaming_by m (shift_by by)) L → kind_pi X Y ≡ rename_kind (lift_renaming_by n (shift_by by)) K
moved_kind n m by K L A X Y q e x y =
    let one : n + 1 ≡ suc n = omega arith in
    ap₂ kind_pi x (y ∙ ap (λ k. rename_kind (lift_renaming_by k (shift_by by)) L) (q ∙ one)) ∙ sym (ap (rename_kind (lift_renaming_by n (shift_by by))) e)
