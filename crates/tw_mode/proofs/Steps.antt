-- Marks, one after the other.
use Rattle.std.proofs.Common.{◌≡◌, ℕ, zero, suc, ◌-◌, ◌<◌, ◌≤◌, List, [], ◌∷◌, ◌++◌, Bool, false, length, length-append, ap, ◌∙◌, arith}
use Rattle.tw_mode.specs.Solved.{with_hidden}

-- Marks that say no, one after the other.
pub hidden_step : (d : ℕ) (ms ns : List Bool) → length ms < d → ns ≡ ms ++ false ∷ [] → with_hidden ns (d - length ns) ≡ with_hidden ms (d - length ms)
hidden_step d ms ns h e = ap (λ xs. with_hidden xs (d - length xs)) e ∙ ap (with_hidden ms) (let l = length-append ms (false ∷ []) in let q : suc (d - length (ms ++ false ∷ [])) ≡ d - length ms = omega (arith, l, h) in q)

pub hidden_done : (d : ℕ) (ms : List Bool) → d ≤ length ms → ms ≡ with_hidden ms (d - length ms)
hidden_done d ms h = ap (with_hidden ms) (let q : zero ≡ d - length ms = omega (arith, h) in q)
