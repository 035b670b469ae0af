use Rattle.std.proofs.Common.{◌≡◌, ◌<◌, ℕ, ◌+◌, ◌-◌, ◌*◌, Bool, true, false, List, [], ◌∷◌, None, drop, refl, arith, ap, sym, ◌∙◌}
use Rattle.std.specs.Char.{is_ascii_digit}
use Rattle.tw_command.specs.Numbers.{in_range, digits_on}
use Rattle.tw_command.proofs.number.number_within.Goals as goal

-- once a number is past the range, more digits don't bring it back
past : (least most n : ℕ) (word : List ℕ) → most < n → in_range least most (digits_on n word) ≡ None
past least most n [] over = grind arith
past least most n (b ∷ bs) over = go (is_ascii_digit b) refl (past least most (n * 10 + (b - 48)) bs (omega arith)) where
  go : (digit : Bool) → is_ascii_digit b ≡ digit → in_range least most (digits_on (n * 10 + (b - 48)) bs) ≡ None → in_range least most (digits_on n (b ∷ bs)) ≡ None
  go true e further = rw e further
  go false e further = rw e refl

pub returns-then-number-most-clause-number : goal.returns-then-number-most-clause-number
returns-then-number-most-clause-number c = sym (ap (in_range c.args.least c.args.most) (sym c.loop-byte.invariant) ∙ past c.args.least c.args.most c.loop-byte.number (drop c.loop-byte.byte-index c.args.word.now) c.if-number-most.true)
