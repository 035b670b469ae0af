use Rattle.std.proofs.Common.{◌≡◌, None, subst}
use Rattle.tw_names.specs.Earliest.{earliest}
use Rattle.tw_parse.specs.View.{term_of}
use Rattle.tw_recon.specs.FreeNames.{free_names}
use Rattle.tw_recon.proofs.FreeNames.{first_of_listed}
use Rattle.tw_recon.proofs.free.first_free_variable.Goals as goal

pub returns : goal.returns
returns c =
    first_of_listed c.args.signature.now (term_of c.args.text.now) c.in_ok-first.first
    (subst (λ N. c.in_ok-first.first ≡ earliest None (free_names c.args.signature.now N (term_of c.args.text.now))) c.new-scope.ensures c.in_ok-first.ensures)
