use Rattle.std.proofs.Common.{◌≡◌, drop}
use Rattle.lf_unification.specs.Offering.{lambda_over}
use Rattle.tw_terms.specs.View.{term_of}
use Rattle.tw_recon.proofs.closing.closed_term.Given as goal

-- closed over the variables so far
abbrev pub invariant-loop : goal.invariant-loop
invariant-loop l = lambda_over l.quantifiers (term_of l.fn.term) ≡ lambda_over (drop l.counter l.quantifiers) (term_of l.closed)
