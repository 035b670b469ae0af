use Rattle.std.proofs.Common.{◌≡◌, ap, ◌∙◌}
use Rattle.tw_terms.specs.View.{term_of}
use Rattle.tw_terms.proofs.Views.{term_of-Lam}
use Rattle.lf.specs.Syntax.{lambda}
use Rattle.bench_hered.proofs.Typed.{identity_typed}
use Rattle.bench_hered.proofs.identity.Goals as goal

pub returns : goal.returns
returns c = identity_typed _ (term_of c.in_ok-new.field-0.value) (term_of-Lam c.in_ok-new.field-0) (ap term_of c.in_ok-new.ensures.ok ∙ c.variable.ensures)
