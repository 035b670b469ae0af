-- Runs of splits by heads are runs of splits.
use Rattle.std.proofs.Common.{List, inl, inr, refl}
use Rattle.lf.specs.Subordination.{Member}
use Rattle.lf_cases.specs.Split.{Ends, AllEnd, at_leaf, by_split, no_case, next_case}
use Rattle.lf_cases.proofs.Split.{split_covers}
use Rattle.lf_coverage.specs.Laws.{HeadSplitIsSplit, HeadSplitsCover, SplitCasesAreTyped}
use Rattle.lf_coverage.specs.Heads.{IsTypedCase}
use Rattle.lf_coverage.proofs.HeadSplit.{heads_split, split_cases_typed}

-- a run goes on as one with other leaves and splits, where each is one of these, and what is true of the goal stays so
module _ {K : Type 0} {L M Kept : K → Type 0} {P Q : K → List K → Type 0} (leaf : (C : K) → Kept C → L C → M C) (split : (C : K) (Cs : List K) → Kept C → P C Cs → Q C Cs × ((D : K) → Member D Cs → Kept D)) where
  mutual
    pub other_run : {C : K} → Kept C → Ends L P C → Ends M Q C
    other_run k (at_leaf {C = C} l) = at_leaf (leaf C k l)
    other_run k (by_split {C = C} Cs s r) = let (q, ks) = split C Cs k s in by_split Cs q (other_runs ks r)

    other_runs : {Cs : List K} → ((D : K) → Member D Cs → Kept D) → AllEnd L P Cs → AllEnd M Q Cs
    other_runs k no_case = no_case
    other_runs k (next_case {C = C} e r) = next_case (other_run (k C (inl refl)) e) (other_runs (λ D m. k D (inr m)) r)

pub head_split_is_split : HeadSplitIsSplit
head_split_is_split Σ ok W typed below s S sc C tc x Cs sp = heads_split Σ ok W typed below s S sc C tc x Cs sp

pub split_cases_are_typed : SplitCasesAreTyped
split_cases_are_typed Σ ok W below S C tc x Cs sp D m = split_cases_typed Σ ok W S below C tc x Cs sp D m

pub head_splits_cover : HeadSplitsCover
head_splits_cover Σ ok W typed below s S sc ps C n tc e = split_covers Σ W S ps C n (other_run {Kept = IsTypedCase Σ W} (λ D k l. l) (λ D Ds k p. let (x, sp) = p in (heads_split Σ ok W typed below s S sc D k x Ds sp, split_cases_typed Σ ok W S below D k x Ds sp)) tc e)
