use Rattle.std.proofs.Common.{Contains, subst, sym}
use Rattle.std.proofs.lemmas.List.Filters.{dedup_is}
use Rattle.std.proofs.lemmas.List.Kept.{Contains-dedup_nat, Contains-from_dedup}
use Rattle.std.proofs.lemmas.List.Sorted.{Contains-permutation, IsPermutation-sym}
use Rattle.std.proofs.lemmas.Map.Keys.{IsStrictlyIncreasing-dedup}
use Rattle.std.proofs.Common.{eqb}
use Rattle.std.specs.List.Sorted.{IsStrictlyIncreasing}
use Rattle.tw_subord.proofs.links.in_order.Goals as goal

pub returns-clause-same : goal.returns-clause-same
returns-clause-same c a =
    let old = c.args.row.now.items in
    let sorted = c.sort_unstable.new.self.items in
    let e = dedup_is eqb sorted c.dedup.new.self.items c.dedup.ensures.filtered in (
      λ h. Contains-permutation sorted old a (IsPermutation-sym old sorted c.sort_unstable.ensures.permutation) (Contains-from_dedup eqb sorted a (subst (λ xs. Contains xs a) e h)),
      λ h. subst (λ xs. Contains xs a) (sym e) (Contains-dedup_nat sorted a (Contains-permutation old sorted a c.sort_unstable.ensures.permutation h)),
    )

pub returns-clause-in_order : goal.returns-clause-in_order
returns-clause-in_order c =
    let sorted = c.sort_unstable.new.self.items in
    subst IsStrictlyIncreasing (sym (dedup_is eqb sorted c.dedup.new.self.items c.dedup.ensures.filtered)) (IsStrictlyIncreasing-dedup sorted c.sort_unstable.ensures.sorted)
