-- A store taken back to a mark.
use Rattle.std.proofs.Common.{◌≡◌, suc, List, [], ◌∷◌, ◌++◌, length, drop, ◌-◌, ◌+◌, refl, ap, ◌∙◌, length-append, arith}
use Rattle.tw_metas.specs.State.{states}
use Rattle.tw_metas.specs.Laws.{MarkIsKept}

behind_front : {A : Type 0} (xs ys : List A) → drop (length xs) (xs ++ ys) ≡ ys
behind_front [] ys = refl
behind_front (x ∷ xs) ys = behind_front xs ys

pub mark_is_kept : MarkIsKept
mark_is_kept first now news e =
    let long : suc (length now.before) ≡ length news + suc (length first.before) = ap length e ∙ length-append news (states first) in
    let count : length now.before - length first.before ≡ length news = omega (arith, long) in
    ap (λ n. drop n (states now)) count ∙ ap (λ xs. drop (length news) xs) e ∙ behind_front news (states first)
