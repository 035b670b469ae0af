use Rattle.std.proofs.Common.{◌∙◌, subst, sym}
use Rattle.std.specs.List.Sorted.{IsStrictlyIncreasing}
use Rattle.tw_subord.specs.Rows.{row, rows_of}
use Rattle.tw_subord.proofs.Rows.{row_found}
use Rattle.tw_subord.proofs.subord.Subord.families_below.Goals as goal

pub returns-in-Some-clause-in_order : goal.returns-in-Some-clause-in_order
returns-in-Some-clause-in_order c =
    subst IsStrictlyIncreasing (sym (c.as_slice.ensures.value ∙ row_found c.deref.result.now c.args.family.0 c.get.result c.in-Some.row c.get.ensures.lookup c.in-Some.is)) (subst (λ vs. IsStrictlyIncreasing (row (rows_of vs) c.args.family.0)) (sym c.deref.ensures.value) (c.self.invariant c.args.family.0))
