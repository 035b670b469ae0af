use Rattle.std.proofs.Common.{◌≡◌, ◌++◌}
use Rattle.tw_parse.specs.View.{term_of}
use Rattle.tw_names.specs.Texts.{hints}
use Rattle.tw_names.proofs.texts.hints.Given as goal

abbrev pub invariant-loop-rest : goal.invariant-loop-rest
invariant-loop-rest l = l.hints.items ++ hints (term_of l.rest) ≡ hints (term_of l.fn.term)
