use Rattle.std.proofs.Common.{◌≡◌, take, map}
use Rattle.tw_terms.specs.OpenView.{open_term_of}
use Rattle.tw_terms.proofs.open_terms.+copy.Given as goal

abbrev pub invariant-OpenSpine::copy-loop-arg : goal.invariant-OpenSpine::copy-loop-arg
invariant-OpenSpine::copy-loop-arg l = map open_term_of l.args.items ≡ map open_term_of (take l.arg-index l.arg-items)
