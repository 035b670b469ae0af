use Rattle.std.proofs.Common.{◌≡◌, ◌++◌, ◌∙◌, ◌↔◌, ℕ, Contains, eqb, ap, subst, sym, map}
use Rattle.std.proofs.lemmas.List.Filters.{dedup_is}
use Rattle.std.proofs.lemmas.List.Kept.{Contains-dedup_nat, Contains-from_dedup}
use Rattle.std.proofs.lemmas.List.Sorted.{Contains-permutation, IsPermutation-sym}
use Rattle.std.proofs.lemmas.Result.{IfOk-weaker}
use Rattle.tw_clause.specs.View.{worlds_of}
use Rattle.std.specs.List.{flat_map}
use Rattle.tw_subord.specs.Rows.{row}
use Rattle.tw_total.specs.Entries.{below_targets, entries_of, to_be_frozen}
use Rattle.tw_total.specs.View.{families_of, numbers_of, order_row_of}
use Rattle.tw_total.proofs.frozen.frozen_by.Goals as goal

pub returns : goal.returns
returns c =
    let all = to_be_frozen c.args.subord.now (families_of (map order_row_of c.args.group.now)) (worlds_of c.args.worlds.now) in
    let noted = c.note_worlds.new.numbers.items in
    let sorted = c.sort_unstable.new.self.items in
    let whole : noted ≡ all =
    c.in_ok-note_worlds.ensures ∙ ap (λ xs. xs ++ below_targets c.args.subord.now (entries_of (worlds_of c.args.worlds.now))) (c.in_ok-note_group.ensures ∙ ap (λ xs. xs ++ flat_map (row c.args.subord.now) (families_of (map order_row_of c.args.group.now))) c.new-numbers.ensures.items)
    in
    let kept = c.deref.ensures.value ∙ dedup_is eqb sorted c.dedup.new.self.items c.dedup.ensures.filtered in
    IfOk-weaker c.ids.result (λ v. numbers_of v.items ≡ c.deref.result.now) (λ v. (b : ℕ) → (Contains (numbers_of v.items) b) ↔ Contains all b)
    (λ v e b. (
      λ h. subst (λ xs. Contains xs b) whole (Contains-permutation sorted noted b (IsPermutation-sym noted sorted c.sort_unstable.ensures.permutation) (Contains-from_dedup eqb sorted b (subst (λ xs. Contains xs b) (e ∙ kept) h))),
      λ h. subst (λ xs. Contains xs b) (sym (e ∙ kept)) (Contains-dedup_nat sorted b (Contains-permutation noted sorted b c.sort_unstable.ensures.permutation (subst (λ xs. Contains xs b) (sym whole) h))),
    ))
    c.ids.ensures
