use Rattle.std.proofs.Common.{◌≡◌, map, take}
use Rattle.tw_abstract.specs.Quantifiers.{IsContextOf}
use Rattle.tw_abstract.proofs.typing.context_of.Given as goal

-- those so far
abbrev pub invariant-loop-meta : goal.invariant-loop-meta
invariant-loop-meta l = record {
  in_context : IsContextOf l.store.now (map (λ m. m.0) (take l.meta-index l.metas)) l.context;
  same : l.outside ≡ map (λ m. m.0) (take l.meta-index l.metas);
}
