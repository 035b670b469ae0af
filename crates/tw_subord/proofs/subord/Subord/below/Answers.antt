use Rattle.std.proofs.Common.{◌∙◌, sym, subst}
use Rattle.std.specs.List.Sorted.{IsBinarySearchResult, IsStrictlyIncreasing}
use Rattle.std.specs.Ordering.{nat_cmp}
use Rattle.tw_subord.proofs.Found.{below_same, below_found}
use Rattle.tw_subord.proofs.subord.Subord.below.Goals as goal

pub returns-then-eq : goal.returns-then-eq
returns-then-eq c = c.if-eq.true ∙ sym (below_same c.args.self.now c.args.a.0 c.args.b.0 (sym c.eq.ensures ∙ c.if-eq.true))

pub returns-else-eq : goal.returns-else-eq
returns-else-eq c =
    c.is_ok.ensures.value
    ∙ below_found c.args.self.now c.args.a.0 c.args.b.0 c.binary_search.result (sym c.eq.ensures ∙ c.if-eq.false)
    (subst (λ xs. IsBinarySearchResult (λ y. nat_cmp y c.args.a.0) xs c.binary_search.result) c.families_below.ensures.families c.binary_search.ensures.position)
    (subst IsStrictlyIncreasing c.families_below.ensures.families c.families_below.ensures.in_order)
