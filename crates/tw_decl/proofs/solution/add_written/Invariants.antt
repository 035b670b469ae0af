use Rattle.std.proofs.Common.{◌≡◌, ◌++◌, reverse}
use Rattle.lf.specs.Entries.{quantifiers}
use Rattle.tw_terms.specs.View.{type_of}
use Rattle.tw_recon.specs.Hints.{fitted}
use Rattle.tw_decl.proofs.solution.add_written.Given as goal

-- what is added, and what is left
abbrev pub invariant-loop-rest : goal.invariant-loop-rest
invariant-loop-rest l = l.hints.items ++ fitted (quantifiers (type_of l.rest)) (reverse l.written.items) ≡ l.fn.hints.items ++ fitted (quantifiers (type_of l.ty)) (reverse l.fn.written.items)
