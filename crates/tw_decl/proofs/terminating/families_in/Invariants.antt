use Rattle.std.proofs.Common.{◌≡◌, map, take}
use Rattle.tw_order.specs.Rows.{families_of}
use Rattle.tw_terms.specs.declared.canonical.ConstId.{ConstId}
use Rattle.tw_decl.proofs.terminating.families_in.Given as goal

abbrev pub invariant-loop-family : goal.invariant-loop-family
invariant-loop-family l = map (λ (f : ConstId). f.0) l.families.items ≡ families_of (take l.family-index l.rows)
