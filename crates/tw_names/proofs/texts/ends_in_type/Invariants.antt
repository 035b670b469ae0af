use Rattle.std.proofs.Common.{◌≡◌}
use Rattle.tw_parse.specs.View.{term_of}
use Rattle.tw_names.specs.Texts.{ends_in_type}
use Rattle.tw_names.proofs.texts.ends_in_type.Given as goal

abbrev pub invariant-loop-rest : goal.invariant-loop-rest
invariant-loop-rest l = ends_in_type (term_of l.rest) ≡ ends_in_type (term_of l.fn.term)
