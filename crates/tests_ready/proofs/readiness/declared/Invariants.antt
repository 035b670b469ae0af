use Rattle.std.proofs.Common.{◌≡◌, map, take}
use Rattle.tests_ready.specs.Checked.{IsNew, declaration_of}
use Rattle.tests_ready.proofs.readiness.declared.Given as goal

-- those so far
abbrev pub invariant-loop-ty : goal.invariant-loop-ty
invariant-loop-ty l = record {
  new : IsNew l.store.now;
  types : l.store.now.declared ≡ map declaration_of (take l.ty-index l.types);
}
