-- What the strategy reaches by number is like the goal.
use Rattle.std.proofs.Common.{ℕ, ◌+◌, List, length, refl, ◌∙◌, subst, sym}
use Rattle.std.specs.Prelude.{Bool, Some}
use Rattle.lf.specs.Syntax.{Kind}
use Rattle.lf.specs.AtOnce.{shift_by, lift_renaming_by}
use Rattle.lf.specs.Typing.{Signature}
use Rattle.lf.specs.Subordination.{Block}
use Rattle.lf.specs.Worlds.{lift_over}
use Rattle.lf_unification.specs.Dependency.{ListedMetavariable}
use Rattle.lf_unification.specs.Unifiers.{Store}
use Rattle.lf_cases.specs.Pattern.{Pattern}
use Rattle.lf_cases.specs.Reached.{arguments_count}
use Rattle.lf_coverage.specs.SplitStore.{answer_values}
use Rattle.lf_coverage.proofs.HeadSplit.{places_put_in as places_put}
use Rattle.lf_numbered.specs.EntryPatternsRuns.{IsLikeByNumber}
use Rattle.lf_numbered.specs.NewBlock.{with_new_block}
use Rattle.lf_numbered.specs.NumberedCallsLaws.{ReachedIsLikeGoal}
use Rattle.lf_numbered.specs.NumberedCallsOutside.{IsSplitCaseByNumber}
use Rattle.lf_numbered.specs.NumberedCallsReached.{ReachedByNumber, numbered_goal, numbered_split}
use Rattle.lf_numbered.specs.NumberedCase.{NumberedCase}
use Rattle.lf_numbered.specs.NumberedSplits.{NumberedOffer, IsOfferTo, of_case, of_new_block, NumberedUnifierFinds}
use Rattle.lf_numbered.specs.OwnStores.{solved_numbered}
use Rattle.lf_numbered.proofs.NumberedSplits.{places_renamed}

alike : (C D E : NumberedCase) → IsLikeByNumber C D → IsLikeByNumber D E → IsLikeByNumber C E
alike C D E c d = record { family = d.family ∙ c.family; places = d.places ∙ c.places; given = d.given ∙ c.given }

pub solved_alike : (C : NumberedCase) (k : ℕ) (s : Store) (order : List ListedMetavariable) → IsLikeByNumber C (solved_numbered C k s order)
solved_alike C k s order = record { family = refl; places = places_put (lift_over C.local (λ i. answer_values s order (i + k))) C.arguments; given = places_put (λ i. answer_values s order (i + k)) C.given }

pub new_alike : (B : Block) (C : NumberedCase) → IsLikeByNumber C (with_new_block B C)
new_alike B C = record { family = refl; places = places_renamed (lift_renaming_by (length C.local) (shift_by (length B.some))) C.arguments; given = places_renamed (shift_by (length B.some)) C.given }

pub split_alike : (Σ : Signature) (first : ℕ) (W : List Block) (below : ℕ → ℕ → Bool) (C : NumberedCase) (x : ℕ) (D : NumberedCase) → IsSplitCaseByNumber Σ first W below C x D → IsLikeByNumber C D
split_alike Σ first W below C x D sp = by sp.offer sp.is_offered sp.kind sp.finds
  where
    read_off : (o : NumberedOffer) (K : Kind) → NumberedUnifierFinds Σ first below o K (Some D) → IsLikeByNumber o.case D
    read_off o K (after, s, z) = subst (IsLikeByNumber o.case) (sym z) (solved_alike o.case (arguments_count o.left) after s.well_formed.order)

    by : (o : NumberedOffer) → IsOfferTo Σ first W C x sp.type o → (K : Kind) → NumberedUnifierFinds Σ first below o K (Some D) → IsLikeByNumber C D
    by o (of_case h U A f) K s = read_off o K s
    by o (of_new_block B c U A m n f) K s = alike C (with_new_block B C) D (new_alike B C) (read_off o K s)

reached_alike : (Σ : Signature) (first : ℕ) (W : List Block) (below : ℕ → ℕ → Bool) (ps : List Pattern) (goal : NumberedCase) {D : NumberedCase} → ReachedByNumber Σ first W below ps goal D → IsLikeByNumber goal D
reached_alike Σ first W below ps goal numbered_goal = record { family = refl; places = refl; given = refl }
reached_alike Σ first W below ps goal (numbered_split {C = C} {D = D} x r n f s) = alike goal C D (reached_alike Σ first W below ps goal r) (split_alike Σ first W below C x D s)

pub reached_is_like_goal : ReachedIsLikeGoal
reached_is_like_goal Σ first W below ps goal D r = reached_alike Σ first W below ps goal r
