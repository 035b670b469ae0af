use Rattle.std.proofs.Common.{◌≡◌, List, [], ◌∷◌, map, length, true, false, refl, arith, rules}
use Rattle.tw_parse.specs.Sources.{lexemes_from}
use Rattle.tw_parse_checks.specs.Checks.{call_of}
use Rattle.tw_parse_checks.specs.Meanings.{keep_apart}
use Rattle.tw_parse_checks.specs.declared.check.ExtPattern.{ExtPattern}
use Rattle.tw_parse_checks.proofs.CallTokens.{calls_break, no_calls_end, no_calls_first}
use Rattle.tw_parse_checks.proofs.Forms.{it_fails, it_holds}
use Rattle.tw_parse_checks.proofs.calls.calls.Goals as goal

no_items : (xs : List ExtPattern) → length xs ≡ 0 → map call_of xs ≡ []
no_items [] e = refl
no_items (x ∷ xs) e = absurd (omega (e, arith))

some_items : (xs : List ExtPattern) → (length xs ≡ 0 → ⊥) → map call_of xs ≡ [] → ⊥
some_items [] n e = n refl
some_items (x ∷ xs) n e = cc

pub returns-then-is_empty : goal.returns-then-is_empty
returns-then-is_empty c =
    let source = c.args.source.now in
    let patterns = c.in_ok-patterns.patterns.items in
    let none : length patterns ≡ 0 = search rules in
    no_calls_first (lexemes_from source c.args.from) (lexemes_from source c.in_ok-patterns.end) (map call_of patterns) c.in_ok-patterns.ensures.reads c.in_ok-patterns.ensures.stops (no_items patterns none)

pub returns-then-not-closes : goal.returns-then-not-closes
returns-then-not-closes c =
    let source = c.args.source.now in
    let fails : c.closes.result ≡ false = search rules in
    no_calls_end (lexemes_from source c.args.from) (lexemes_from source c.in_ok-patterns.end) (map call_of c.in_ok-patterns.patterns.items) c.in_ok-patterns.ensures.reads c.in_ok-patterns.ensures.stops (it_fails c.closes.result _ _ fails c.closes.ensures)

pub returns-then-not-keep_apart : goal.returns-then-not-keep_apart
returns-then-not-keep_apart c =
    let source = c.args.source.now in
    let broken : keep_apart (map call_of c.in_ok-patterns.patterns.items) ≡ false = search rules in
    calls_break (lexemes_from source c.args.from) (lexemes_from source c.in_ok-patterns.end) (map call_of c.in_ok-patterns.patterns.items) c.in_ok-patterns.ensures.reads c.in_ok-patterns.ensures.stops broken

pub returns : goal.returns
returns c =
    let source = c.args.source.now in
    let patterns = c.in_ok-patterns.patterns.items in
    let some : length patterns ≡ 0 → ⊥ = search rules in
    let holds : c.closes.result ≡ true = search rules in
    let kept : keep_apart (map call_of patterns) ≡ true = search rules in
    (lexemes_from source c.in_ok-patterns.end, some_items patterns some, c.in_ok-patterns.ensures.reads, it_holds c.closes.result _ _ holds c.closes.ensures, kept)
