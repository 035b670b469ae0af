use Rattle.std.proofs.Common.{◌≡◌, take, map}
use Rattle.tw_terms.specs.View.{term_of}
use Rattle.tw_terms.proofs.canonical.+copy.Given as goal

abbrev pub invariant-Spine::copy-loop-arg : goal.invariant-Spine::copy-loop-arg
invariant-Spine::copy-loop-arg l = map term_of l.args.items ≡ map term_of (take l.arg-index l.arg-items)
