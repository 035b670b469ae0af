use Rattle.std.proofs.Common.{◌≡◌, ◌<◌, ◌+◌, ◌-◌, ℕ, List, slice_index, true, subst, arith}
use Rattle.std.proofs.lemmas.Bool.Decides.{nat_tests}
use Rattle.std.specs.Str.{IsCharBoundary}
use Rattle.std.proofs.lemmas.Str.{IsCharBoundary-after_ascii}
use Rattle.tw_command.specs.Words.{is_separator}
use Rattle.tw_command.proofs.words.next_word.Goals as goal

separator_is_ascii : (b : ℕ) → is_separator b ≡ true → b < 128
separator_is_ascii b is = grind (arith, nat_tests)

pub range_from-rest-requires : goal.range_from-rest-requires
range_from-rest-requires c = λ behind.
    let within = c.separators.ensures.within in
    let is : c.separators.result - 1 + 1 ≡ c.separators.result = omega arith in
    let last : is_separator (slice_index c.args.line.now (c.separators.result - 1)) ≡ true = subst (λ (l : List ℕ). is_separator (slice_index l (c.separators.result - 1)) ≡ true) c.as_bytes.ensures.value (c.separators.ensures.last behind) in
    subst (IsCharBoundary c.args.line.now) is (IsCharBoundary-after_ascii c.args.line.now (c.separators.result - 1) c.utf8.line (omega arith) (separator_is_ascii (slice_index c.args.line.now (c.separators.result - 1)) last))
