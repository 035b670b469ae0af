use Rattle.std.proofs.Common.{ℕ, ◌+◌, ◌-◌, ◌*◌, ◌<◌, ◌≤◌, length, drop, get_or, sym, ap, refl, ◌∙◌, arith}
use Rattle.tw_parse.proofs.Numbers.{at_digit}
use Rattle.tw_parse_queries.specs.Bounds.{not_too_large}
use Rattle.tw_parse_queries.proofs.Numbers.{of_digits, too_large}
use Rattle.tw_parse_queries.proofs.bounds.number_of.Goals as goal

pub returns-then-wider-ge-LIMIT : goal.returns-then-wider-ge-LIMIT
returns-then-wider-ge-LIMIT c =
    let bs = c.args.bytes.now in
    let i : ℕ = c.loop-byte.byte-index in
    let n : ℕ = c.loop-byte.number in
    let b : ℕ = get_or bs i 0 in
    let wider : ℕ = 10 * n + (b - 48) in
    let some : 0 < length bs = omega arith in
    let within : i < length bs = omega arith in
    let low : 48 ≤ b = omega arith in
    let high : b ≤ 57 = omega arith in
    let large : 18446744073709551616 ≤ wider = omega arith in
    sym (of_digits bs some ∙ ap not_too_large (c.loop-byte.invariant.0 ∙ at_digit n bs i b wider within refl low high refl) ∙ too_large wider (drop (i + 1) bs) large)
