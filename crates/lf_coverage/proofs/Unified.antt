-- A split on which unification answers is a split by heads.
use Rattle.std.proofs.Common.{sym, subst}
use Rattle.std.specs.Prelude.{Option, Some, None}
use Rattle.lf_cases.specs.Case.{Case}
use Rattle.lf_cases.specs.Reached.{SplitHead}
use Rattle.lf_coverage.specs.HeadOrder.{Offer}
use Rattle.lf_coverage.specs.Heads.{GivesCase, HeadAnswer}
use Rattle.lf_coverage.specs.UnifiedSplit.{UnifierAnswer}
use Rattle.lf_coverage.specs.Laws.{UnifiedSplitIsHeadSplit, SolvedGivesCase, NeverGivesNone}
use Rattle.lf_coverage.proofs.HeadSplit.{answered_by}
use Rattle.lf_coverage.proofs.SolvedCase.{never_gives_none, solved_gives_case}
use Rattle.lf_coverage.proofs.SplitReady.{split_items_typed}

pub never_gives : NeverGivesNone
never_gives Σ ok W typed below S sc C tc x X at J n h A sh nj fam K never = never_gives_none Σ ok W typed below S sc C.items tc.items x X at J n h A K sh (split_items_typed Σ ok W typed below C.items tc.items x X at J n h A sh) fam never

pub solved_gives : SolvedGivesCase
solved_gives Σ ok W typed below S sc C tc x X at J n h A sh nj fam K after s = solved_gives_case Σ ok W typed below S sc C.items tc.items x X at J n h A K sh (split_items_typed Σ ok W typed below C.items tc.items x X at J n h A sh) fam C after s nj

pub unified_split : UnifiedSplitIsHeadSplit
unified_split Σ ok W typed below S sc C tc x Cs u = record {
  split = record { answered = answered_by u.split.answered (λ h found m a. one h (u.split.answered.are_offers.each h m) found a); takes_below = u.split.takes_below; arguments_below = u.split.arguments_below };
  families = u.families;
}
  where
    one : (h : Offer) → SplitHead Σ W C.items u.split.answered.type h.items h.moved h.head h.type → (found : Option Case) → UnifierAnswer Σ W S below C x u.split.answered.type h found → HeadAnswer Σ W S below C x u.split.answered.type h found
    one h sh None a = never_gives_none Σ ok W typed below S sc C.items tc.items x u.split.answered.type u.split.answered.at h.items h.moved h.head h.type a.answered.kind sh (split_items_typed Σ ok W typed below C.items tc.items x u.split.answered.type u.split.answered.at h.items h.moved h.head h.type sh) a.families a.answered.finds
    one h sh (Some D) a = let (after, s, e) = a.answered.finds in subst (GivesCase Σ W S below C x u.split.answered.type h.items h.moved h.head h.type) (sym e) (solved_gives_case Σ ok W typed below S sc C.items tc.items x u.split.answered.type u.split.answered.at h.items h.moved h.head h.type a.answered.kind sh (split_items_typed Σ ok W typed below C.items tc.items x u.split.answered.type u.split.answered.at h.items h.moved h.head h.type sh) a.families C after s a.answered.no_block)
