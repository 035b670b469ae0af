use Rattle.std.proofs.Common.{◌-◌, ◌∙◌, ap, ap₂}
use Rattle.lf_checks.specs.Clauses.{of_entry}
use Rattle.tw_clause.specs.View.{block_of}
use Rattle.tw_terms.specs.View.{type_of}
use Rattle.tw_order.proofs.Collecting.{entry_named}
use Rattle.tw_order.proofs.listed.entry.Goals as goal

pub returns : goal.returns
returns c =
    let n = ap (λ k. k - c.args.newer) c.len.ensures in
    entry_named (block_of c.args.block.now) c.args.newer (c.len.result - c.args.newer - 1) (of_entry c.in_ok-copy.field-0 (c.len.result - c.args.newer)) c.in_ok-copy-2.field-0 (type_of c.args.ty.now) c.requires.within (c.in_ok-copy-2.ensures ∙ c.requires.outer) (ap (λ k. k - 1) n) (ap₂ of_entry c.in_ok-copy.ensures n)
