-- A run from the goal of inputs on which unification answers is never stuck: its cases are instances of the goal, typed beside each head.
use Rattle.std.proofs.Common.{◌≡◌, ℕ, ◌⊎◌, List, [], ◌∷◌, inl, inr, refl, sym, ap, ◌∙◌, subst}
use Rattle.std.specs.Prelude.{Bool, true, false, Some}
use Rattle.lf.specs.Syntax.{Head, LfType, Kind, kind_pi, star}
use Rattle.lf.specs.Subordination.{AreTypedBlocks, Block, Member, IsBelowTest}
use Rattle.lf.specs.Typing.{Signature, IsSignature}
use Rattle.lf.specs.Variables.{nothing, under, hide, target}
use Rattle.lf.specs.Worlds.{lift_over}
use Rattle.lf_checks.specs.Clause.{Clause, IsClause, constant_clause, from_constant, from_entry}
use Rattle.lf_checks.specs.Marks.{Mark, MentionChosenOnly, input_places}
use Rattle.lf_cases.specs.Candidates.{free_among}
use Rattle.lf_cases.specs.Case.{Case, Item, covered_places, goal_arguments, input_goal}
use Rattle.lf_cases.specs.Missing.{IsInstanceOfGoal, IsMissing}
use Rattle.lf_cases.specs.Pattern.{Pattern, head_pattern, of_constant, origin}
use Rattle.lf_cases.specs.Reached.{FirstCandidate, IsApart, IsInstanceOf, IsSplitBy, IsSplitCase, IsUnsplit, Meets, SplitHead, bound_head, constant_head, entry_head, goal_is_reached, split_is_reached, new_entry_head, split_by}
use Rattle.lf_cases.specs.Split.{HasNoBlockVariable}
use Rattle.lf_coverage.specs.FullMatching.{AllHavePatterns}
use Rattle.lf_coverage.specs.HeadOrder.{Offer}
use Rattle.lf_coverage.specs.Heads.{IsTypedCase}
use Rattle.lf_coverage.specs.Leaf.{IsTypedPattern}
use Rattle.lf_coverage.specs.MeetStore.{IsConstants, IsOpen}
use Rattle.lf_coverage.specs.Stuck.{AreHeadsBeside, ComesAsInstance, FirstSplitsReach, HeadsAreOfStrategy, InputRunIsNeverStuck, InputRunIsStrategys, InputRunProceeds, IsAnswered, IsStrategyCase, IsStrategyHead, Proceeds, SharesNone}
use Rattle.lf_coverage.specs.SubordinateRuns.{ComesBy, comes_by_split, comes_itself}
use Rattle.lf_coverage.specs.TypedCase.{IsTypedBeside}
use Rattle.lf_coverage.specs.UnifiedSplit.{HeadIsAnswered, IsAnsweredSplit, AnswersEachHead}
use Rattle.lf_coverage.proofs.HeadSplit.{places_put_in}
use Rattle.lf_coverage.proofs.Listed.{offer_of_case}
use Rattle.lf_coverage.proofs.InstancesCompose.{instances_compose, reached_is_instance}
use Rattle.lf_coverage.proofs.Leaves.{head_is_typed}
use Rattle.lf_coverage.proofs.RunTyped.{empty_world_has_no_block, instance_is_typed_case}
use Rattle.lf_coverage.proofs.SplitInstance.{split_case_is_instance}
use Rattle.lf_coverage.proofs.SubordinateRuns.{input_run_quantifies_below}
use Rattle.lf_coverage.proofs.TypedCases.{input_goal_is_typed, input_goal_is_typed_case, instance_stays_typed, never_is_apart_beside, solved_is_split, solved_shares_instance}
use Rattle.lf_coverage.proofs.NeverStuck.{case_proceeds, never_unsplit, no_blocks, unsplit_shares_none}

-- where a head brings no new block variable there was none before
none_there : (Σ : Signature) (W : List Block) (I : List Item) (X : LfType) (J : List Item) (n : ℕ) (h : Head) (A : LfType) → SplitHead Σ W I X J n h A → HasNoBlockVariable J → HasNoBlockVariable I
none_there Σ W I X _ _ _ A (constant_head k U e t) n = n
none_there Σ W I X _ _ _ A (bound_head j B l g t) n = n
none_there Σ W I X _ _ _ A (entry_head j B g f t) n = n
none_there Σ W I X _ _ _ A (new_entry_head B j E b l g t) n = absurd n

-- a case that an answered split gives is one that the split by a head gives
split_case : (Σ : Signature) → IsSignature Σ → (W : List Block) → AreTypedBlocks Σ W → (below : ℕ → ℕ → Bool) (C : Case) → IsTypedCase Σ W C → (x : ℕ) (Cs : List Case) → IsAnsweredSplit Σ W below C x Cs → (D : Case) → Member D Cs → HasNoBlockVariable C.items × IsSplitCase Σ W below C x D
split_case Σ ok W typed below C tc x Cs sp D l = let (h, k, a) = offer_of_case sp.listed D l in by h (sp.are_offers.each h k) a
  where
    by : (h : Offer) → SplitHead Σ W C.items sp.type h.items h.moved h.head h.type → HeadIsAnswered Σ below C x sp.type h (Some D) → HasNoBlockVariable C.items × IsSplitCase Σ W below C x D
    by h sh a =
        let (after, s, e) = a.finds in
        (none_there Σ W C.items sp.type h.items h.moved h.head h.type sh a.no_block, split_by sp.type sp.at sh (subst (IsSplitBy Σ W below C x sp.type h.items h.moved h.head h.type) (sym e) (solved_is_split Σ ok W typed below C tc x sp.type sp.at h.items h.moved h.head h.type sh a.no_block a.kind after s)))

-- Each case that comes by answered splits is an instance of the goal.
pub comes_as_instance : ComesAsInstance
comes_as_instance Σ ok W typed below goal tg tl ng D comes_itself = reached_is_instance Σ ok W typed below [] goal tg tl goal goal_is_reached ng
comes_as_instance Σ ok W typed below goal tg tl ng D (comes_by_split {C = C} Cs r (x, sp) l) =
    let i : IsInstanceOfGoal Σ W goal C = comes_as_instance Σ ok W typed below goal tg tl ng C r in
    let (nc, s) = split_case Σ ok W typed below C (instance_is_typed_case Σ ok W typed goal C tg tl ng i).0 x Cs sp D l in
    instances_compose Σ ok W typed goal C D tg tl ng nc i (split_case_is_instance Σ W below C x D s)

-- What comes by the strategy's splits is reached.
pub first_splits_reach : FirstSplitsReach
first_splits_reach Σ ok below ps goal tg tl D comes_itself = (goal_is_reached, comes_itself)
first_splits_reach Σ ok below ps goal tg tl D (comes_by_split {C = C} Cs r (n, (x, f, sp)) l) =
    let (q, c) = first_splits_reach Σ ok below ps goal tg tl C r in
    let ng : HasNoBlockVariable goal.items = empty_world_has_no_block Σ goal.items tg.items in
    let i : IsInstanceOfGoal Σ [] goal C = comes_as_instance Σ ok [] (no_blocks Σ) below goal tg tl ng C c in
    let (nc, s) = split_case Σ ok [] (no_blocks Σ) below C (instance_is_typed_case Σ ok [] (no_blocks Σ) goal C tg tl ng i).0 x Cs sp D l in
    (split_is_reached x q n f s, comes_by_split Cs c (x, sp) l)

-- what the goal of inputs has is what is chosen
pub goal_places : (V : ℕ → Bool) (b : List Bool) (K : Kind) → MentionChosenOnly V b K → covered_places (goal_arguments b K) ≡ b
goal_places V [] star s = refl
goal_places V [] (kind_pi A K) s = absurd s
goal_places V (b ∷ m) star s = absurd s
goal_places V (true ∷ m) (kind_pi A K) s = ap (λ x. true ∷ x) (goal_places (under V) m K s.1)
goal_places V (false ∷ m) (kind_pi A K) s = ap (λ x. false ∷ x) (goal_places (hide V) m K s)

module _ (Σ : Signature) (ok : IsSignature Σ) (below : ℕ → ℕ → Bool) (test : (f : ℕ) → IsBelowTest Σ [] (below f) f) (m : ℕ → List Mark) (a : ℕ) (K : Kind) (ek : Σ.kinds a ≡ Some K) (v : MentionChosenOnly nothing (input_places (m a)) K) (ps : List Pattern) (hs : (p : Pattern) → Member p ps → IsStrategyHead Σ below m a p) (D : Case) (r : ComesBy (AnswersEachHead Σ [] below) (input_goal a (input_places (m a)) K) D) (hm : AllHavePatterns nothing (free_among D.items) D.arguments) where
  abbrev goal : Case
  goal = input_goal a (input_places (m a)) K

  of_goal : IsInstanceOfGoal Σ [] (input_goal a (input_places (m a)) K) D
  of_goal = let (tg, tl, ng) = input_goal_is_typed_case Σ ok [] (no_blocks Σ) a (input_places (m a)) K ek v in comes_as_instance Σ ok [] (no_blocks Σ) below goal tg tl ng D r

  strategys : IsStrategyCase below m D
  strategys = record {
    none_given = of_goal.same_given;
    inputs = ap covered_places of_goal.same_arguments ∙ places_put_in (lift_over goal.local of_goal.values) goal.arguments ∙ goal_places nothing (input_places (m a)) K v ∙ ap (λ f. input_places (m f)) (sym of_goal.same_family);
    quantifies_below = (input_run_quantifies_below Σ ok [] (no_blocks Σ) below test a (input_places (m a)) K ek v D r).1;
    patterns = hm;
  }

  typed_pattern : (p : Pattern) → IsStrategyHead Σ below m a p → IsTypedPattern Σ p
  typed_pattern p h = subst (IsTypedPattern Σ) (sym h.is_head) (head_is_typed Σ ok [] (no_blocks Σ) (constant_clause h.type) (from_constant h.constant h.type h.declared))

  goal_beside : (p : Pattern) → IsStrategyHead Σ below m a p → IsTypedBeside Σ [] (input_goal a (input_places (m a)) K) p
  goal_beside p h = subst (IsTypedBeside Σ [] goal) (sym h.is_head) (input_goal_is_typed Σ ok [] (no_blocks Σ) a (input_places (m a)) K ek v (constant_clause h.type) (of_constant h.type) (subst (IsTypedPattern Σ) h.is_head (typed_pattern p h)) h.of_family)

  beside : (p : Pattern) → IsStrategyHead Σ below m a p → IsTypedBeside Σ [] D p
  beside p h = instance_stays_typed Σ ok [] (no_blocks Σ) goal D p (typed_pattern p h) (goal_beside p h) (input_goal_is_typed_case Σ ok [] (no_blocks Σ) a (input_places (m a)) K ek v).2 of_goal

  are_heads : AreHeadsBeside Σ below m ps D
  are_heads p l = (subst (λ f. IsStrategyHead Σ below m f p) (sym of_goal.same_family) (hs p l), beside p (hs p l))

  kind_is : Σ.kinds D.family ≡ Some K
  kind_is = ap Σ.kinds of_goal.same_family ∙ ek

  mention : MentionChosenOnly nothing (input_places (m D.family)) K
  mention = subst (λ f. MentionChosenOnly nothing (input_places (m f)) K) (sym of_goal.same_family) v

  missing : SharesNone Σ ps D → IsMissing Σ [] ps (input_goal a (input_places (m a)) K) D
  missing n = record { of_goal = of_goal; shares_nothing = n }

  not_stuck : IsUnsplit Σ [] (λ C p. ⊥) ps D → ⊥
  not_stuck u = never_unsplit Σ ok below test m D strategys K kind_is mention ps are_heads u

  only_open : IsUnsplit Σ [] (IsOpen Σ) ps D → IsMissing Σ [] ps (input_goal a (input_places (m a)) K) D × ((p : Pattern) × Member p ps × IsOpen Σ D p)
  only_open u = let (n, o) = unsplit_shares_none Σ ok below test m D strategys K kind_is mention ps are_heads u in (missing n, o)

  meets_or_not : (p : Pattern) → Member p ps → IsAnswered Σ K D p → Meets Σ [] (IsOpen Σ) D p ⊎ IsApart Σ [] (IsOpen Σ) D p
  meets_or_not p l w = by w
    where
      h : IsStrategyHead Σ below m a p
      h = hs p l

      nd : HasNoBlockVariable D.items
      nd = empty_world_has_no_block Σ D.items of_goal.typed_items

      constants : IsConstants p.origin
      constants = subst (λ q. IsConstants q.origin) (sym h.is_head) tt

      by : IsAnswered Σ K D p → Meets Σ [] (IsOpen Σ) D p ⊎ IsApart Σ [] (IsOpen Σ) D p
      by (inl n) = inr (never_is_apart_beside Σ ok [] (no_blocks Σ) D nd p (typed_pattern p h) constants (beside p h) K kind_is n)
      by (inr (inl (after, s))) = inl (inl (solved_shares_instance Σ ok [] (no_blocks Σ) D nd p (typed_pattern p h) constants (beside p h) K kind_is after s))
      by (inr (inr o)) = inl (inr o)

  goes_on : ((p : Pattern) → Member p ps → IsAnswered Σ K D p) → ((p : Pattern) × Member p ps × IsInstanceOf Σ [] D p) ⊎ ((x : ℕ) × FirstCandidate Σ [] (IsOpen Σ) D x ps) ⊎ IsMissing Σ [] ps (input_goal a (input_places (m a)) K) D
  goes_on w = by (case_proceeds Σ ok below test m D strategys K kind_is mention ps are_heads (λ p l. meets_or_not p l (w p l)))
    where
      by : Proceeds Σ ps D → ((p : Pattern) × Member p ps × IsInstanceOf Σ [] D p) ⊎ ((x : ℕ) × FirstCandidate Σ [] (IsOpen Σ) D x ps) ⊎ IsMissing Σ [] ps (input_goal a (input_places (m a)) K) D
      by (inl i) = inl i
      by (inr (inl f)) = inr (inl f)
      by (inr (inr n)) = inr (inr (missing n))

pub input_run_is_strategys : InputRunIsStrategys
input_run_is_strategys Σ ok below test m a K ek v ps hs D r hm = ((of_goal Σ ok below test m a K ek v ps hs D r hm).same_family, strategys Σ ok below test m a K ek v ps hs D r hm, are_heads Σ ok below test m a K ek v ps hs D r hm)

pub input_run_is_never_stuck : InputRunIsNeverStuck
input_run_is_never_stuck Σ ok below test m a K ek v ps hs D r hm = (not_stuck Σ ok below test m a K ek v ps hs D r hm, only_open Σ ok below test m a K ek v ps hs D r hm)

pub input_run_proceeds : InputRunProceeds
input_run_proceeds Σ ok below test m a K ek v ps hs D r hm w = goes_on Σ ok below test m a K ek v ps hs D r hm w

pub heads_are_of_strategy : HeadsAreOfStrategy
heads_are_of_strategy Σ below m a ps heads each p l = let (c, i, t, e) = heads p l in by c i t e
  where
    by : (c : Clause) (i : IsClause Σ [] c) → target c.type ≡ a → p ≡ head_pattern c (origin i) → IsStrategyHead Σ below m a p
    by _ (from_constant k U d) t e = let (h, lin, full) = each (constant_clause U) (from_constant k U d) t in record { constant = k; type = U; declared = d; of_family = t; is_head = e; patterns = h; linear = lin; full = full }
    by _ (from_entry B later E es i q) t e = absurd i
