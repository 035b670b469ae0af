use Rattle.std.proofs.Common.{◌≡◌, ◌++◌, take, map}
use Rattle.tw_terms.specs.View.{type_of}
use Rattle.tw_subord.specs.Pairs.{pairs_of, types_pairs}
use Rattle.tw_subord.proofs.pairs.note_block.Given as goal

abbrev pub invariant-loop-ty : goal.invariant-loop-ty
invariant-loop-ty l = pairs_of l.pairs.items ≡ pairs_of l.fn.pairs.items ++ types_pairs (map type_of (take l.ty-index l.ty-items))
