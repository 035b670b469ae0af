-- A run by number of splits at candidates covers its goal beside each set beside which this is asked.
use Rattle.std.proofs.Common.{◌≡◌, ℕ, ◌+◌, List, [], ◌∷◌, length, refl, sym, ap, ◌∙◌, subst}
use Rattle.std.specs.Prelude.{Bool}
use Rattle.lf.specs.Syntax.{LfType}
use Rattle.lf.specs.Substitution.{Image}
use Rattle.lf.specs.AtOnce.{shift_by}
use Rattle.lf.specs.Typing.{Signature, IsSignature}
use Rattle.lf.specs.Variables.{binders}
use Rattle.lf.specs.Subordination.{Block, AreTypedBlocks, IsBelowTest, Member}
use Rattle.lf.specs.Worlds.{lift_over, instance}
use Rattle.lf_cases.specs.OutputGoal.{renumber}
use Rattle.lf_cases.specs.Pattern.{Pattern}
use Rattle.lf_cases.specs.Reached.{arguments_count}
use Rattle.lf_cases.specs.Split.{Ends}
use Rattle.lf_cases.proofs.OutputItems.{length_instance, length_renumber}
use Rattle.lf_cases.proofs.Subordinate.{below_is_subordination}
use Rattle.lf_coverage.specs.Calls.{LocalsIn, PlacesIn}
use Rattle.lf_numbered.specs.EntryConstants.{IsFreeFrom}
use Rattle.lf_numbered.specs.EntryPatternsRuns.{IsNumberedLeaf, IsNumberedSplit}
use Rattle.lf_coverage.specs.Leaf.{IsTypedPattern}
use Rattle.lf_numbered.specs.NumberedBeside.{TakesBelow, TakesIn}
use Rattle.lf_numbered.specs.NumberedBesideGiven.{IsTypedBesideByNumber}
use Rattle.lf_numbered.specs.NumberedCalls.{IsBesideByNumber}
use Rattle.lf_numbered.specs.NumberedCandidatesRuns.{AnswersFirst, UnifiesCandidate, NumberedCandidateRunCovers, NumberedStrategyRunCovers}
use Rattle.lf_numbered.specs.NumberedCase.{NumberedCase}
use Rattle.lf_numbered.specs.OwnStores.{ComesByNumbers, no_split, then_block, then_split}
use Rattle.lf_coverage.specs.SplitStore.{answer_values}
use Rattle.lf_coverage.specs.Subordinate.{AllQuantifiersAreBelow}
use Rattle.lf_numbered.proofs.EntryPatternsForms.{numbered_run_covers}
use Rattle.lf_coverage.proofs.LocalsInSet.{locals_moved, locals_put}
use Rattle.lf_numbered.proofs.NumberedBesideStays.{numbered_run_stays_beside}
use Rattle.lf_numbered.proofs.NumberedCandidates.{numbered_candidate_is_in_set, numbered_candidate_takes_below}
use Rattle.lf_numbered.proofs.NumberedCandidatesSplits.{first_is_candidate_by_number, taker_by_number_is_split, unified_taker_is_answered}
use Rattle.lf_numbered.proofs.NumberedSplitCases.{split_comes, unified_case}
use Rattle.lf_coverage.proofs.Runs.{other_run}
use Rattle.lf_coverage.proofs.Subordinate.{below_renumbered, below_substituted}

-- a local context with values put in quantifies over what is below
pub low_put : (below : ℕ → ℕ → Bool) (L : List LfType) (σ : ℕ → Image) → AllQuantifiersAreBelow below L → AllQuantifiersAreBelow below (instance L σ)
low_put below [] σ l = tt
low_put below (A ∷ L) σ (a, l) = (below_substituted below (lift_over L σ) A a, low_put below L σ l)

module _ (Σ : Signature) (ok : IsSignature Σ) (W : List Block) (typed : AreTypedBlocks Σ W) (below : ℕ → ℕ → Bool) (test : (f : ℕ) → IsBelowTest Σ W (below f) f) (first : ℕ) (free : IsFreeFrom Σ first) (ps : List Pattern) (q : Pattern) (tq : IsTypedPattern Σ q) (n : ℕ) (sizes : (p : Pattern) → Member p ps → n ≡ length (binders [] p.type)) (S : ℕ → Bool) where
  -- what is kept of a local context
  abbrev pub Local : List LfType → Type 0
  Local L = LocalsIn S L × AllQuantifiersAreBelow below L × (length L ≡ n)

  local_put : (L : List LfType) (σ : ℕ → Image) → Local L → Local (instance L σ)
  local_put L σ (a, b, c) = (locals_put S L σ a, low_put below L σ b, length_instance L σ ∙ c)

  local_moved : (ρ : ℕ → ℕ) (L : List LfType) → Local L → Local (renumber ρ L)
  local_moved ρ L (a, b, c) = (locals_moved S ρ L a, below_renumbered below ρ L b, length_renumber ρ L ∙ c)

  record Kept (C : NumberedCase) : Type 0 where
    beside : IsTypedBesideByNumber Σ first W C q
    in_set : IsBesideByNumber Σ W S C
    low : AllQuantifiersAreBelow below C.local
    size : length C.local ≡ n

  pub local_kept : (C D : NumberedCase) → ComesByNumbers Σ W first below C D → Local C.local → Local D.local
  local_kept C _ no_split h = h
  local_kept C _ (then_block {D = E} B r m) h = local_moved (shift_by (length B.some)) E.local (local_kept C E r h)
  local_kept C _ (then_split {D = E} y X k U A K after r at f e s) h = local_put E.local (λ i. answer_values after s.well_formed.order (i + arguments_count A)) (local_kept C E r h)

  split_kept : (C : NumberedCase) (Cs : List NumberedCase) → Kept C → UnifiesCandidate Σ first W below ps C Cs → IsNumberedSplit Σ first W S C Cs × ((D : NumberedCase) → Member D Cs → Kept D)
  split_kept C Cs k (x, p, m, c, sp) = (split, kept)
    where
      takes : TakesIn S sp.type
      takes = numbered_candidate_is_in_set Σ W first free S C q p k.beside (k.size ∙ sizes p m) k.in_set x c sp.type sp.at

      low : TakesBelow below sp.type
      low = numbered_candidate_takes_below Σ W first free below test C q p k.beside (k.size ∙ sizes p m) k.low x c sp.type sp.at

      split : IsNumberedSplit Σ first W S C Cs
      split =
          let (an, e) = unified_taker_is_answered Σ ok W typed below test first free C k.beside.typed x Cs sp low in
          taker_by_number_is_split Σ ok W typed below (below_is_subordination Σ ok W typed below test) S k.in_set.self_contained first free C k.beside.typed x Cs an (subst (TakesIn S) (sym e) takes)

      kept : (D : NumberedCase) → Member D Cs → Kept D
      kept D d =
          let comes : ComesByNumbers Σ W first below C D = split_comes Σ W first below C D x (unified_case Σ first W below C x Cs sp D d) in
          let (l, b, z) = local_kept C D comes (k.in_set.locals, k.low, k.size) in
          let like = split.like D d in
          record {
            beside = numbered_run_stays_beside Σ ok W typed first free below q tq C k.beside D comes;
            in_set = record {
              self_contained = k.in_set.self_contained;
              kind = k.in_set.kind;
              of_family = ap Σ.kinds like.family ∙ k.in_set.of_family;
              places = subst (λ b. PlacesIn S b k.in_set.kind) (sym like.places) k.in_set.places;
              locals = l;
            };
            low = b;
            size = z;
          }

  -- a run at candidates is one of splits beside the set
  pub candidate_run : {C : NumberedCase} → IsTypedBesideByNumber Σ first W C q → IsBesideByNumber Σ W S C → AllQuantifiersAreBelow below C.local → length C.local ≡ n → Ends (IsNumberedLeaf Σ first W ps) (UnifiesCandidate Σ first W below ps) C → Ends (IsNumberedLeaf Σ first W ps) (IsNumberedSplit Σ first W S) C
  candidate_run t b l z r = other_run {Kept = Kept} (λ D k l. l) split_kept (record { beside = t; in_set = b; low = l; size = z }) r

pub numbered_candidate_run_covers : NumberedCandidateRunCovers
numbered_candidate_run_covers Σ ok W typed below test first free ps q tq goal one t sizes low r S b =
    numbered_run_covers Σ ok W typed S first free ps goal one (candidate_run Σ ok W typed below test first free ps q tq (length goal.local) sizes S t b low refl r)

-- a run of the strategy is one at candidates
pub strategy_run : (Σ : Signature) (first : ℕ) (W : List Block) (below : ℕ → ℕ → Bool) (ps : List Pattern) (Leaf : NumberedCase → Type 0) {C : NumberedCase} → Ends Leaf (AnswersFirst Σ first W below ps) C → Ends Leaf (UnifiesCandidate Σ first W below ps) C
strategy_run Σ first W below ps Leaf r = other_run {Kept = λ C. Unit {0}} (λ C k l. l) (λ C Cs k (x, f, a). let (p, i, c) = first_is_candidate_by_number Σ first W C x ps f in ((x, p, i, c, a.lists.unified), λ D m. tt)) tt r

pub numbered_strategy_run_covers : NumberedStrategyRunCovers
numbered_strategy_run_covers Σ ok W typed below test first free ps q tq goal one t sizes low r = numbered_candidate_run_covers Σ ok W typed below test first free ps q tq goal one t sizes low (strategy_run Σ first W below ps (IsNumberedLeaf Σ first W ps) r)
