use Rattle.std.proofs.Common.{◌≡◌, ◌++◌, Some}
use Rattle.std.specs.Prelude.{drop, map}
use Rattle.tw_signature.specs.Names.{number_of}
use Rattle.tw_terms.specs.declared.canonical.ConstId.{ConstId}
use Rattle.tw_decl.specs.Applications.{Application, all_take_just}
use Rattle.tw_decl.specs.Steps.{application_of}
use Rattle.tw_decl.proofs.applications.all_taken.Given as goal

abbrev pub invariant-loop-application : goal.invariant-loop-application
invariant-loop-application l = record {
  named : map Some (map (λ (id : ConstId). id.0) l.families.items) ++ map (λ (x : Application). number_of l.signature x.family.name) (map application_of (drop l.application-index l.applications)) ≡ map (λ (x : Application). number_of l.signature x.family.name) (map application_of l.applications);
  takes : all_take_just l.signature (map application_of (drop l.application-index l.applications)) ≡ all_take_just l.signature (map application_of l.applications);
}
