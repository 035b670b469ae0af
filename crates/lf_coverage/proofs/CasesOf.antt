-- A split at each head of which unification answers gives the cases that are to be answered; and a run of such splits covers its goal.
use Rattle.std.proofs.Common.{ℕ, ◌+◌, List, [], ◌∷◌, sym, ◌∙◌, subst}
use Rattle.std.specs.Prelude.{Bool, true, false, Option, Some, None}
use Rattle.lf.specs.Syntax.{LfType, Kind, kind_pi, star, lift_renaming, rename_type}
use Rattle.lf.specs.Typing.{Signature, IsSignature}
use Rattle.lf.specs.Subordination.{Block, Member, AreTypedBlocks, SelfContained}
use Rattle.lf.proofs.Strength.{families_renamed}
use Rattle.lf_checks.specs.Below.{IsSubordination}
use Rattle.lf_cases.specs.Case.{Item, free_variable, Case, items_context, covered_places, goal_items, goal_arguments, input_goal, past_place}
use Rattle.lf_cases.specs.Reached.{SplitHead, arguments_count, split_items}
use Rattle.lf_cases.specs.Split.{HasNoBlockVariable}
use Rattle.lf_coverage.specs.Calls.{AreCasesBesideAll, HeadGives, PlacesIn}
use Rattle.lf_coverage.specs.HeadOrder.{Offer}
use Rattle.lf_coverage.specs.Heads.{IsSplitBelow, IsHeadSplit, IsTypedCase}
use Rattle.lf_coverage.specs.RunLaws.{SolvedSplitIsUnified, SolvedSplitIsAnswer, SolvedRunCovers, SolvedRunCoversInputs}
use Rattle.lf_coverage.specs.SplitStore.{split_store, AllFamiliesIn}
use Rattle.lf_coverage.specs.UnifiedSplit.{HeadIsAnswered, IsAnsweredSplit, IsSolvedSplit, IsUnifiedSplit, SolvesEachHead, SplitsByUnification, UnifierAnswer}
use Rattle.lf_coverage.proofs.Families.{split_items_keep_families, solved_keeps_families, store_families}
use Rattle.lf_coverage.proofs.GoalItems.{one_without}
use Rattle.lf_coverage.proofs.HeadSplit.{answered_by, heads_split, split_cases_typed}
use Rattle.lf_coverage.proofs.Listed.{offer_of_case}
use Rattle.lf_coverage.proofs.Leaves.{leaves_cover}
use Rattle.lf_coverage.proofs.NoCase.{never_gives_no_case}
use Rattle.lf_coverage.proofs.Runs.{other_run}
use Rattle.lf_coverage.proofs.StoreSolution.{families_at}
use Rattle.lf_coverage.proofs.TypedCases.{input_goal_is_typed_case, solved_is_split}
use Rattle.lf_coverage.proofs.Unified.{unified_split}
use Rattle.lf_coverage.proofs.Parts.{some_same}

module _ (Σ : Signature) (ok : IsSignature Σ) (W : List Block) (typed : AreTypedBlocks Σ W) (below : ℕ → ℕ → Bool) (C : Case) (tc : IsTypedCase Σ W C) (x : ℕ) (Cs : List Case) (sp : IsSolvedSplit Σ W below C x Cs) where
  abbrev s : IsAnsweredSplit Σ W below C x Cs
  s = sp.answered

  -- the split, where something else is answered at its heads
  abbrev below_by : (Answer : LfType → Offer → Option Case → Type 0) → ((h : Offer) (found : Option Case) → SplitHead Σ W C.items s.type h.items h.moved h.head h.type → HeadIsAnswered Σ below C x s.type h found → Answer s.type h found) → IsSplitBelow Σ W below Answer C x Cs
  below_by Answer one = record { answered = answered_by s (λ h found m a. one h found (s.are_offers.each h m) a); takes_below = sp.takes_below; arguments_below = sp.arguments_below }

  module _ (S : ℕ → Bool) (sc : SelfContained Σ W S) (fam : AllFamiliesIn S (items_context C.items)) where
    split_families : (h : Offer) → SplitHead Σ W C.items s.type h.items h.moved h.head h.type → HasNoBlockVariable h.items → AllFamiliesIn S (items_context (split_items below s.type h.items h.moved h.type))
    split_families h sh n = split_items_keep_families Σ W S sc below C.items fam x s.type s.at h.items h.moved h.head h.type sh n

    pub is_unified : IsUnifiedSplit Σ W S below C x Cs
    is_unified = record { split = below_by (UnifierAnswer Σ W S below C x) (λ h found sh a. record { answered = a; families = split_families h sh a.no_block }); families = families_at S (items_context C.items) fam x s.type s.at }

    case_families : (D : Case) → Member D Cs → AllFamiliesIn S (items_context D.items)
    case_families D m = let (h, k, a) = offer_of_case s.listed D m in by h (s.are_offers.each h k) a
      where
        by : (h : Offer) → SplitHead Σ W C.items s.type h.items h.moved h.head h.type → HeadIsAnswered Σ below C x s.type h (Some D) → AllFamiliesIn S (items_context D.items)
        by h sh a =
            let (after, z, e) = a.finds in
            subst (λ E. AllFamiliesIn S (items_context E.items)) (sym e) (solved_keeps_families Σ S (split_store below x s.type h.items h.moved h.head h.type a.kind) after (store_families S (items_context (split_items below s.type h.items h.moved h.type)) (split_families h sh a.no_block)) z C (h.moved + arguments_count h.type))

  split_listed : IsSplitBelow Σ W below (HeadGives Σ W below C x) C x Cs
  split_listed = below_by (HeadGives Σ W below C x) one
    where
      one : (h : Offer) (found : Option Case) → SplitHead Σ W C.items s.type h.items h.moved h.head h.type → HeadIsAnswered Σ below C x s.type h found → HeadGives Σ W below C x s.type h found
      one h None sh a = never_gives_no_case Σ ok W typed below C tc x s.type s.at h.items h.moved h.head h.type sh a.no_block a.kind a.finds
      one h (Some D) sh a =
          let (after, z, e) = a.finds in
          subst (Rattle.lf_cases.specs.Reached.IsSplitBy Σ W below C x s.type h.items h.moved h.head h.type) (sym e) (solved_is_split Σ ok W typed below C tc x s.type s.at h.items h.moved h.head h.type sh a.no_block a.kind after z)

  pub cases_of : IsSubordination Σ W below → AreCasesBesideAll Σ W below C x Cs
  cases_of sub = record {
    listed = split_listed;
    holds = λ S sc fam. heads_split Σ ok W typed below sub S sc C tc x Cs (unified_split Σ ok W typed below S sc C tc x Cs (is_unified S sc fam));
  }

pub solved_split_is_unified : SolvedSplitIsUnified
solved_split_is_unified Σ ok W typed below S sc C tc fam x Cs sp = (is_unified Σ ok W typed below C tc x Cs sp S sc fam, case_families Σ ok W typed below C tc x Cs sp S sc fam)

pub solved_split_is_answer : SolvedSplitIsAnswer
solved_split_is_answer Σ ok W typed below s C tc x Cs sp = cases_of Σ ok W typed below C tc x Cs sp s

pub solved_run_covers : SolvedRunCovers
solved_run_covers Σ ok W typed below s ps goal n tg fam e S b =
    leaves_cover Σ ok W typed below s S b.self_contained ps goal n tg (other_run {Kept = λ D. IsTypedCase Σ W D × AllFamiliesIn S (items_context D.items)} (λ D k l. l) split (tg, fam S b) e)
  where
    split : (D : Case) (Ds : List Case) → IsTypedCase Σ W D × AllFamiliesIn S (items_context D.items) → SolvesEachHead Σ W below D Ds → SplitsByUnification Σ W S below D Ds × ((E : Case) → Member E Ds → IsTypedCase Σ W E × AllFamiliesIn S (items_context E.items))
    split D Ds (k, f) (x, q) =
        let u : IsUnifiedSplit Σ W S below D x Ds = is_unified Σ ok W typed below D k x Ds q S b.self_contained f in
        let sp : IsHeadSplit Σ W S below D x Ds = unified_split Σ ok W typed below S b.self_contained D k x Ds u in
        ((x, u), λ E m. (split_cases_typed Σ ok W S below D k x Ds sp E m, case_families Σ ok W typed below D k x Ds q S b.self_contained f E m))

-- the families of the items of the goal of inputs are those of its places
pub goal_families : (S : ℕ → Bool) (m : List Bool) (K : Kind) (ρ : ℕ → ℕ) (I : List Item) → PlacesIn S (covered_places (goal_arguments m K)) K → AllFamiliesIn S (items_context I) → AllFamiliesIn S (items_context (goal_items m K ρ I))
goal_families S [] K ρ I p i = i
goal_families S (b ∷ m) star ρ I p i = i
goal_families S (true ∷ m) (kind_pi A K) ρ I (a, p) i = goal_families S m K (lift_renaming ρ) (free_variable (rename_type ρ A) ∷ I) p (families_renamed S ρ A a, i)
goal_families S (false ∷ m) (kind_pi A K) ρ I p i = goal_families S m K (past_place ρ) I p i

pub solved_run_covers_inputs : SolvedRunCoversInputs
solved_run_covers_inputs Σ ok W typed below s ps a m K e c r =
    let (t, l, n) = input_goal_is_typed_case Σ ok W typed a m K e c in
    solved_run_covers Σ ok W typed below s ps (input_goal a m K) (one_without (input_goal a m K).items n) t (λ S b. goal_families S m K (λ i. i) [] (subst (PlacesIn S (covered_places (goal_arguments m K))) (some_same (sym b.of_family ∙ e)) b.places) tt) r
