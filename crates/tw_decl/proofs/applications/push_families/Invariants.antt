use Rattle.std.proofs.Common.{◌≡◌, ◌++◌}
use Rattle.std.specs.Prelude.{drop, map}
use Rattle.tw_decl.specs.Applications.{families_named}
use Rattle.tw_decl.specs.Operators.{spaced}
use Rattle.tw_decl.specs.Steps.{application_of}
use Rattle.tw_decl.proofs.applications.push_families.Given as goal

abbrev pub invariant-loop-application : goal.invariant-loop-application
invariant-loop-application l = l.line.items ++ spaced (families_named (map application_of (drop l.application-index l.applications))) ≡ l.fn.line.items ++ spaced (families_named (map application_of l.applications))
