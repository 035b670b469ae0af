-- At a candidate of a case that the strategy reaches, what the variable and the heads take is in the set and below. So
-- an equation that is left is true of each tuple with the head, and what is deep is unified.
use Rattle.std.proofs.Common.{◌≡◌, ℕ, List, [], length, refl, sym, ap, ◌∙◌, subst, inl, inr}
use Rattle.std.specs.Prelude.{Bool, ◌⊎◌}
use Rattle.lf.specs.Syntax.{LfType}
use Rattle.lf.specs.Typing.{Signature, TypeAt}
use Rattle.lf.specs.Variables.{binders}
use Rattle.lf.specs.Subordination.{Block, Member}
use Rattle.lf_unification.specs.Offering.{pi_over}
use Rattle.lf_cases.specs.Pattern.{Pattern}
use Rattle.lf_cases.proofs.Subordinate.{below_is_subordination}
use Rattle.lf_coverage.specs.Calls.{LocalsIn, PlacesIn}
use Rattle.lf_numbered.specs.DeepCases.{IsCaseOf}
use Rattle.lf_numbered.specs.EntryTermsInputs.{closed_head}
use Rattle.lf_coverage.specs.Heads.{ArgumentsAreBelow}
use Rattle.lf_numbered.specs.NeededLeft.{DeepRunMeets, DeepSplitMeets, NeededCandidateTakes, NeededDeepRunMeets, NeededLeftHoldsTrue, OfferedTakesBelow, ReachedIsBeside}
use Rattle.lf_numbered.specs.NumberedBeside.{TakesBelow, TakesIn}
use Rattle.lf_numbered.specs.NumberedBesideGiven.{IsTypedBesideByNumber}
use Rattle.lf_numbered.specs.NumberedCalls.{IsBesideByNumber, IsHeadFor, IsSubgoalFor, NumberedCoverNeeds, NumberedMatchedNeeds}
use Rattle.lf_numbered.specs.NumberedCallsOutside.{SplitIsTooDeepByNumber, deep_case, deep_equations}
use Rattle.lf_numbered.specs.NumberedCallsReached.{FirstCandidateByNumber, IsNoInstance, ReachedByNumber, RunIsTooDeepByNumber, numbered_candidates, numbered_goal, numbered_split, reaches_deep_case, splits_deep_case}
use Rattle.lf_numbered.specs.NumberedCase.{NumberedCase}
use Rattle.lf_numbered.specs.NumberedSplits.{IsOfferTo, NumberedOffer}
use Rattle.lf_numbered.proofs.DeepCases.{reached_is_case_of}
use Rattle.lf_numbered.proofs.LeftEquations.{run_left_holds_true}
use Rattle.lf_numbered.proofs.LeftUnifiers.{head_is_unifier}
use Rattle.lf_numbered.proofs.NeededRuns.{head_is_beside_closed}
use Rattle.lf_numbered.proofs.NumberedBeside.{head_takes_below, variable_takes}
use Rattle.lf_numbered.proofs.NumberedCallsLike.{reached_is_like_goal}
use Rattle.lf_numbered.proofs.NumberedCandidates.{numbered_candidate_is_in_set, numbered_candidate_takes_below}
use Rattle.lf_numbered.proofs.NumberedCandidatesRuns.{Local, local_kept}
use Rattle.lf_numbered.proofs.NumberedCandidatesSplits.{first_is_candidate_by_number}
use Rattle.lf_numbered.proofs.NumberedNeedsSplits.{reached_has_needs}
use Rattle.lf_numbered.proofs.NumberedSplitCases.{split_comes}

pub offered_takes_below : OfferedTakesBelow
offered_takes_below Σ ok W typed below test first free C tc x X k o f = head_takes_below Σ ok W typed below test first free C tc x X k o f

module _ (Σ : Signature) (first : ℕ) (W : List Block) (below : ℕ → ℕ → Bool) (ps : List Pattern) (goal : NumberedCase) (n : NumberedCoverNeeds Σ first W below ps goal) (S : ℕ → Bool) (b : IsBesideByNumber Σ W S goal) where
  sizes : (p : Pattern) → Member p ps → length goal.local ≡ length (binders [] p.type)
  sizes p m = (n.patterns p m).same_length

  -- the local context of a case that is reached; q is a pattern of the list
  module _ (q : Pattern) (m : Member q ps) where
    abbrev Kept : NumberedCase → Type 0
    Kept D = Local Σ n.setting.signature W n.setting.blocks below n.subordination first n.setting.free ps q (n.patterns q m).typed (length goal.local) sizes S D.local

    kept : {D : NumberedCase} → ReachedByNumber Σ first W below ps goal D → Kept D
    kept numbered_goal = (b.locals, n.locals_below, refl)
    kept (numbered_split {C = C} {D = D} x r i f sp) = local_kept Σ n.setting.signature W n.setting.blocks below n.subordination first n.setting.free ps q (n.patterns q m).typed (length goal.local) sizes S C D (split_comes Σ W first below C D x sp) (kept r)

  -- the list has a pattern where the strategy has split
  some_local : {D : NumberedCase} → ReachedByNumber Σ first W below ps goal D → LocalsIn S D.local
  some_local numbered_goal = b.locals
  some_local (numbered_split {C = C} {D = D} x r i f sp) = let (p, m, c) = first_is_candidate_by_number Σ first W C x ps f in (kept p m (numbered_split x r i f sp)).0

  reached_beside : (D : NumberedCase) → ReachedByNumber Σ first W below ps goal D → IsBesideByNumber Σ W S D
  reached_beside D r =
      let like = reached_is_like_goal Σ first W below ps goal D r in
      record {
        self_contained = b.self_contained;
        kind = b.kind;
        of_family = ap Σ.kinds like.family ∙ b.of_family;
        places = subst (λ c. PlacesIn S c b.kind) (sym like.places) b.places;
        locals = some_local r;
      }

  module _ (D : NumberedCase) (r : ReachedByNumber Σ first W below ps goal D) (p : Pattern) (m : Member p ps) (x : ℕ) (c : Member x (numbered_candidates first D p)) (X : LfType) (at : TypeAt D.variables x X) where
    needs : NumberedMatchedNeeds Σ first W D p
    needs = (reached_has_needs Σ first W below ps goal n D r p m).0

    by : IsHeadFor Σ first D p ⊎ IsSubgoalFor Σ first W D p → TakesIn S X × TakesBelow below X
    by (inl h) = beside (closed_head (pi_over p.clause.outer p.clause.type)) (head_is_beside_closed Σ first W D p needs h)
      where
        beside : (q : Pattern) → IsTypedBesideByNumber Σ first W D q → TakesIn S X × TakesBelow below X
        beside q t = (numbered_candidate_is_in_set Σ W first n.setting.free S D q p t needs.pattern.same_length (reached_beside D r) x c X at, numbered_candidate_takes_below Σ W first n.setting.free below n.subordination D q p t needs.pattern.same_length (kept p m r).1 x c X at)
    by (inr s) = (numbered_candidate_is_in_set Σ W first n.setting.free S D p p s.typed_beside needs.pattern.same_length (reached_beside D r) x c X at, numbered_candidate_takes_below Σ W first n.setting.free below n.subordination D p p s.typed_beside needs.pattern.same_length (kept p m r).1 x c X at)

    pub takes : TakesIn S X × ArgumentsAreBelow below X × ((o : NumberedOffer) → IsOfferTo Σ first W D x X o → ArgumentsAreBelow below o.left)
    takes =
        let (i, k) = by needs.pattern.beside in
        (i, variable_takes Σ n.setting.signature W n.setting.blocks below n.subordination first n.setting.free D needs.case x X k, head_takes_below Σ n.setting.signature W n.setting.blocks below n.subordination first n.setting.free D needs.case x X k)

pub reached_is_beside : ReachedIsBeside
reached_is_beside Σ first W below ps goal n S b D r = reached_beside Σ first W below ps goal n S b D r

pub needed_candidate_takes : NeededCandidateTakes
needed_candidate_takes Σ first W below ps goal n S b D r p m x c X at = takes Σ first W below ps goal n S b D r p m x c X at

-- so at the first candidate
first_takes : (Σ : Signature) (first : ℕ) (W : List Block) (below : ℕ → ℕ → Bool) (ps : List Pattern) (goal : NumberedCase) → NumberedCoverNeeds Σ first W below ps goal → (S : ℕ → Bool) → IsBesideByNumber Σ W S goal → (D : NumberedCase) → ReachedByNumber Σ first W below ps goal D → (x : ℕ) → FirstCandidateByNumber Σ first W D x ps → (X : LfType) → TypeAt D.variables x X → TakesIn S X × ArgumentsAreBelow below X × ((o : NumberedOffer) → IsOfferTo Σ first W D x X o → ArgumentsAreBelow below o.left)
first_takes Σ first W below ps goal n S b D r x f X at = let (p, m, c) = first_is_candidate_by_number Σ first W D x ps f in takes Σ first W below ps goal n S b D r p m x c X at

pub needed_left_holds_true : NeededLeftHoldsTrue
needed_left_holds_true Σ first W below ps goal n C over shown r S b Σ' ext G w F υ T h g =
    let (i, a, l) = first_takes Σ first W below ps goal n S b C r.reached r.candidate r.is_first r.leaves.type r.leaves.at in
    run_left_holds_true Σ n.setting.signature W n.setting.blocks below (below_is_subordination Σ n.setting.signature W n.setting.blocks below n.subordination) S b.self_contained first n.setting.free ps goal n.case C over shown r i a (l r.leaves.offer r.leaves.is_offered) Σ' ext G w F υ T h g

module _ (Σ : Signature) (first : ℕ) (W : List Block) (below : ℕ → ℕ → Bool) (ps : List Pattern) (goal : NumberedCase) (n : NumberedCoverNeeds Σ first W below ps goal) (S : ℕ → Bool) (b : IsBesideByNumber Σ W S goal) where
  case_of : (D : NumberedCase) → ReachedByNumber Σ first W below ps goal D → IsCaseOf Σ first W goal D
  case_of D r = reached_is_case_of Σ n.setting.signature W n.setting.blocks first n.setting.free below ps goal n.case D r

  split_meets : (C : NumberedCase) (x : ℕ) → ReachedByNumber Σ first W below ps goal C → IsNoInstance Σ first W ps C → FirstCandidateByNumber Σ first W C x ps → (s : SplitIsTooDeepByNumber Σ first W below C x) → DeepSplitMeets S goal s
  split_meets C x r i f (deep_case D sp d) = case_of D (numbered_split x r i f sp)
  split_meets C x r i f (deep_equations X o K at of q d) = λ Σ' ext G w F υ T h g.
      let (t, a, l) = first_takes Σ first W below ps goal n S b C r x f X at in
      let c : IsCaseOf Σ first W goal C = case_of C r in
      (c.holds_back S Σ' ext G w h.holds.instances h.holds.values h.holds.is_ground, head_is_unifier Σ n.setting.signature W n.setting.blocks below (below_is_subordination Σ n.setting.signature W n.setting.blocks below n.subordination) S b.self_contained first n.setting.free C c.typed x X at t a o of (l o of) K q d.reached d.run Σ' ext G w g.instances g.values g.is_ground g.are_apart g.has_head)

  run_meets : (d : RunIsTooDeepByNumber Σ first W below ps goal) → DeepRunMeets S d
  run_meets (reaches_deep_case D r d) = case_of D r
  run_meets (splits_deep_case C x r i f s) = split_meets C x r i f s

pub needed_deep_run_meets : NeededDeepRunMeets
needed_deep_run_meets Σ first W below ps goal n S b d = run_meets Σ first W below ps goal n S b d
