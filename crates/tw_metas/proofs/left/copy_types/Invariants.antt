use Rattle.std.proofs.Common.{◌≡◌, map, take}
use Rattle.tw_metas.specs.Named.{shown_type_of}
use Rattle.tw_metas.proofs.left.copy_types.Given as goal

abbrev pub invariant-loop-context : goal.invariant-loop-context
invariant-loop-context l = map shown_type_of l.copies.items ≡ map shown_type_of (take l.context-index l.types)
