use Rattle.std.proofs.Common.{ℕ, ◌+◌, ◌-◌, ◌*◌, ◌<◌, ◌≤◌, length, drop, get_or, sym, ap, refl, ◌∙◌, arith}
use Rattle.tw_parse.specs.Keywords.{below_limit}
use Rattle.tw_parse.proofs.Numbers.{of_digits, at_digit, too_large}
use Rattle.tw_parse.proofs.keywords.precedence_of.Goals as goal

pub returns-then-wider-from : goal.returns-then-wider-from
returns-then-wider-from c =
    let bs = c.args.bytes.now in
    let i : ℕ = c.loop-byte.byte-index in
    let n : ℕ = c.loop-byte.number in
    let b : ℕ = get_or bs i 0 in
    let wider : ℕ = 10 * n + (b - 48) in
    let some : 0 < length bs = omega arith in
    let within : i < length bs = omega arith in
    let low : 48 ≤ b = omega arith in
    let high : b ≤ 57 = omega arith in
    let large : 10000 ≤ wider = omega arith in
    sym (of_digits bs some ∙ ap below_limit (c.loop-byte.invariant.0 ∙ at_digit n bs i b wider within refl low high refl) ∙ too_large wider (drop (i + 1) bs) large)
