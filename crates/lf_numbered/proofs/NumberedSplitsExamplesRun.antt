-- The worked run: what the split by an entry gives is an instance of the other entry.
use Rattle.std.proofs.Common.{◌≤◌, [], ◌∷◌, inl, refl, arith}
use Rattle.lf.specs.Syntax.{variable, root, nil, app, base}
use Rattle.lf_cases.specs.Split.{at_leaf, by_split, no_case, next_case}
use Rattle.lf_coverage.specs.Leaf.{IsTypedPattern}
use Rattle.lf_numbered.specs.EntryPatternsRuns.{IsNumberedLeaf}
use Rattle.lf_numbered.specs.NumberedSplitsExamples.{Bare, exp, exp_block, open_case, entry_case, has_head, OpenIsCovered}
use Rattle.lf_numbered.proofs.EntryPatternsOne.{one_leaf}
use Rattle.lf_numbered.proofs.NumberedSplitsExamples.{bare_ok, free, blocks_typed, open_typed, open_answers}
use Rattle.lf_numbered.proofs.NumberedSplitsRuns.{answered_by_number_covers}

pub has_leaf : IsNumberedLeaf Bare 2 (exp_block ∷ []) (has_head ∷ []) entry_case
has_leaf = one_leaf Bare 2 exp_block.label 0 1 2 (app (root (variable 0) nil) nil) entry_case.arguments refl refl refl ((refl, tt), tt) ((refl, tt), tt) (refl, tt) (exp_block ∷ []) (has_head ∷ []) (inl refl) (inl refl) pattern_typed ((base 0, (base 0, refl, refl)), tt) (((nil, refl), tt), tt)
  where
    pattern_typed : IsTypedPattern Bare has_head
    pattern_typed = record { outer_typed = (tt, (_, refl, tt)); clause_typed = (tt, (_, refl, tt)); type_typed = (_, refl, ((exp, refl, refl), tt)) }

pub open_is_covered : OpenIsCovered
open_is_covered below s S sc e = answered_by_number_covers Bare bare_ok (exp_block ∷ []) blocks_typed below s S sc 2 free (has_head ∷ []) open_case open_typed none (by_split (entry_case ∷ []) (open_answers below S e) (next_case (at_leaf has_leaf) no_case))
  where
    none : 0 ≤ 1
    none = omega arith
