use Rattle.std.proofs.Common.{◌≡◌, ◌++◌, codes}
use Rattle.std.specs.Prelude.{drop}
use Rattle.tw_decl.specs.View.{scene_of}
use Rattle.tw_print.specs.Names.{constant_word}
use Rattle.tw_server.specs.Subordination.{spaced_words}
use Rattle.tw_server.proofs.subordination.below_line.Given as goal

-- the words so far, and those behind them, are all words
abbrev pub invariant-loop-number : goal.invariant-loop-number
invariant-loop-number l =
    let s = scene_of l.session in
    l.line.items ++ spaced_words s (drop l.number-index l.families) ≡ (codes "below " ++ constant_word s l.fn.family.0 ++ codes ":") ++ spaced_words s l.families
