use Rattle.std.proofs.Common.{◌∙◌, [], ap, arith, length, refl}
use Rattle.lf.specs.Entries.{signature_of}
use Rattle.tw_clause.specs.View.{block_of}
use Rattle.tw_terms.specs.View.{type_of}
use Rattle.tw_mode.proofs.Entries.{shown_count}
use Rattle.tw_mode.proofs.Outer.{entry_outcome}
use Rattle.tw_clause.proofs.Patterns.{on_value}
use Rattle.tw_mode.proofs.check.entry_fault.Goals as goal

pub clause_fault-requires-clause-ground : goal.clause_fault-requires-clause-ground
clause_fault-requires-clause-ground c =
    let g = ap length (c.outside_of-outside.ensures.ground ∙ c.in_ok-ground.ensures) in
    let n = shown_count [] (length c.in_ok-fixed.fixed.items) in
    let d = c.outside_of-outside.ensures.depth in
    omega (arith, g, n, d)

pub returns : goal.returns
returns c = on_value c.clause_fault.result _ _ (λ f h. entry_outcome (signature_of c.args.sig.now) c.args.table.now (block_of c.args.block.now) c.args.newer c.outside_of-outside.result (type_of c.args.ty.now) f c.in_ok-fixed.fixed.items (length c.in_ok-fixed.fixed.items) c.requires.newer c.in_ok-fixed.ensures c.outside_of-outside.ensures.depth c.outside_of-outside.ensures.fixed (c.outside_of-outside.ensures.ground ∙ c.in_ok-ground.ensures) refl h) c.clause_fault.ensures
