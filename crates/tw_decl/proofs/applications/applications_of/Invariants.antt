use Rattle.std.proofs.Common.{◌≡◌, ◌++◌}
use Rattle.std.specs.Prelude.{drop, map}
use Rattle.tw_parse_checks.specs.Checks.{call_of}
use Rattle.tw_decl.specs.Applications.{application_of as application_of_call}
use Rattle.tw_decl.specs.Steps.{application_of}
use Rattle.tw_decl.proofs.applications.applications_of.Given as goal

abbrev pub invariant-loop-pattern : goal.invariant-loop-pattern
invariant-loop-pattern l = map application_of l.applications.items ++ map application_of_call (map call_of (drop l.pattern-index l.patterns)) ≡ map application_of_call (map call_of l.patterns)
