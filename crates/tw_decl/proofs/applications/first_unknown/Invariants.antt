use Rattle.std.proofs.Common.{◌≡◌, None}
use Rattle.std.specs.Prelude.{drop}
use Rattle.tw_names.specs.Earliest.{earliest}
use Rattle.tw_decl.specs.Applications.{unknown_names}
use Rattle.tw_decl.proofs.applications.first_unknown.Given as goal

abbrev pub invariant-loop-name : goal.invariant-loop-name
invariant-loop-name l = earliest l.found (unknown_names l.session (drop l.name-index l.names)) ≡ earliest None (unknown_names l.session l.names)
