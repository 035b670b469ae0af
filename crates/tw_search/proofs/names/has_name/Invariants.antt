use Rattle.std.proofs.Common.{◌≡◌, drop, map}
use Rattle.std.specs.Prelude.{is_some}
use Rattle.tw_metas.specs.Named.{named_of}
use Rattle.tw_unify.specs.Showing.{name_of}
use Rattle.tw_search.proofs.names.has_name.Given as goal

abbrev pub invariant-loop-named : goal.invariant-loop-named
invariant-loop-named l = is_some (name_of (map named_of (drop l.named-index l.names)) l.meta.0) ≡ is_some (name_of (map named_of l.names) l.meta.0)
