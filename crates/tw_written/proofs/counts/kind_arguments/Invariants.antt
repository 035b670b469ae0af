use Rattle.std.proofs.Common.{◌≡◌, ◌+◌}
use Rattle.lf.specs.Entries.{kind_quantifiers}
use Rattle.tw_terms.specs.View.{kind_of}
use Rattle.tw_written.proofs.counts.kind_arguments.Given as goal

-- those so far, and those of the rest
abbrev pub invariant-loop-count : goal.invariant-loop-count
invariant-loop-count l = l.count + kind_quantifiers (kind_of l.rest) ≡ kind_quantifiers (kind_of l.kind)
