use Rattle.std.proofs.Common.{◌≡◌}
use Rattle.std.specs.Prelude.{drop, map}
use Rattle.tw_names.specs.Earliest.{earliest}
use Rattle.tw_decl.specs.Applications.{families_named, unknown_names}
use Rattle.tw_decl.specs.Steps.{application_of}
use Rattle.tw_decl.proofs.applications.first_unknown_family.Given as goal

abbrev pub invariant-loop-application : goal.invariant-loop-application
invariant-loop-application l = earliest l.found (unknown_names l.session (families_named (map application_of (drop l.application-index l.applications)))) ≡ earliest l.fn.before (unknown_names l.session (families_named (map application_of l.applications)))
