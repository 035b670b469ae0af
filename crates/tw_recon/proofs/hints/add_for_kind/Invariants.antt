use Rattle.std.proofs.Common.{◌≡◌, ◌++◌, reverse}
use Rattle.lf.specs.Entries.{kind_quantifiers}
use Rattle.tw_terms.specs.View.{kind_of}
use Rattle.tw_recon.specs.Hints.{fitted}
use Rattle.tw_recon.proofs.hints.add_for_kind.Given as goal

-- what is added, and what is left
abbrev pub invariant-loop-rest : goal.invariant-loop-rest
invariant-loop-rest l = l.hints.items ++ fitted (kind_quantifiers (kind_of l.rest)) (reverse l.written.items) ≡ l.fn.hints.items ++ fitted (kind_quantifiers (kind_of l.kind)) (reverse l.fn.written.items)
