-- What the strategy reaches by number: what it holds the goal holds.
use Rattle.std.proofs.Common.{◌≡◌, ℕ, zero, List, length, refl, sym, ap, ◌∙◌, subst}
use Rattle.std.specs.Prelude.{Bool, Option, Some, None}
use Rattle.lf.specs.Syntax.{Spine, LfType}
use Rattle.lf.specs.Substitution.{Image}
use Rattle.lf.specs.Typing.{Signature, IsSignature}
use Rattle.lf.specs.Subordination.{Block, AreTypedBlocks}
use Rattle.lf.specs.Worlds.{World, lift_over}
use Rattle.lf.specs.Extension.{Extends}
use Rattle.lf_checks.specs.Clause.{Clause}
use Rattle.lf_cases.specs.Case.{covered_places}
use Rattle.lf_cases.specs.Pattern.{Known, Origin, of_constant, of_entry, Pattern}
use Rattle.lf_cases.proofs.Split.{given_there}
use Rattle.lf_numbered.specs.EntryConstants.{IsFreeFrom}
use Rattle.lf_numbered.specs.EntryPatternsRuns.{HoldsByNumber, ZerothIs, IsLikeByNumber}
use Rattle.lf_numbered.specs.NumberedArguments.{read_over, read_all}
use Rattle.lf_numbered.specs.NumberedCalls.{HasOwnBlock}
use Rattle.lf_numbered.specs.NumberedCallsMeeting.{HasTuple, IsKnownFor, known_of, zeroth_known}
use Rattle.lf_numbered.specs.NumberedCase.{NumberedCase, IsNumberedInstance}
use Rattle.lf_numbered.specs.NumberedInstance.{IsNumberedInstanceOf, block_at}
use Rattle.lf_numbered.specs.NumberedReached.{HoldsBack, KeepsBlocks, SplitCaseHoldsBack, ReachedHoldsBack, ReachedMissingIsUncovered}
use Rattle.lf_numbered.specs.OwnTerms.{BlockVariable, blocks_of}
use Rattle.lf_numbered.specs.Reading.{entry_reading}
use Rattle.lf_numbered.specs.TypedNumbered.{IsTypedNumberedCase}
use Rattle.lf_numbered.proofs.NumberedCallsLaws.{covered_tuple, some_tuple, some_values, reached_by_number_is_typed}
use Rattle.lf_numbered.proofs.NumberedCallsLike.{reached_is_like_goal}
use Rattle.lf_numbered.proofs.NumberedNeedsReached.{reached_is_numbered_instance}
use Rattle.lf_numbered.proofs.NumberedReachedInstances.{split_case_is_numbered_instance}
use Rattle.lf_numbered.proofs.NumberedSplitCases.{split_comes}
use Rattle.lf_numbered.proofs.OwnStoresTyped.{numbered_run_stays_typed}
use Rattle.lf_numbered.proofs.SharedInstances.{instance_holds_back}

-- What an instance in which each block variable keeps its number holds, the case holds.
keeps_back : (Σ Σ' : Signature) → IsSignature Σ → (S : ℕ → Bool) → Extends S Σ Σ' → (W : List Block) → AreTypedBlocks Σ W → (first : ℕ) → IsFreeFrom Σ first → (C : NumberedCase) → IsTypedNumberedCase Σ first W C → (D : NumberedCase) → IsTypedNumberedCase Σ first W D → (σ : ℕ → Image) → IsNumberedInstanceOf Σ first D C (λ k. k) σ → KeepsBlocks C D × ((G : List LfType) (w : World Σ' W S G) (θ : ℕ → ℕ → Image) (ρ : ℕ → Image) → IsNumberedInstance w first D θ ρ → HoldsBack w first D θ ρ C)
keeps_back Σ Σ' ok S x W typed first free C tc D td σ i = (λ k b e. (_, i.is_instance.blocks k b e, refl), λ G w θ ρ inst. let h = instance_holds_back Σ Σ' ok W W first free C tc D td.variables (λ k. k) σ i W typed S x G w θ ρ inst in record { values = h.values; is_ground = h.is_ground; arguments = h.arguments; given = h.given })

pub split_case_holds_back : SplitCaseHoldsBack
split_case_holds_back Σ Σ' ok S x W typed first free below C tc y D sp =
    let ((σ, i), apart) = split_case_is_numbered_instance Σ ok W typed first free below C tc y D sp in
    keeps_back Σ Σ' ok S x W typed first free C tc D (numbered_run_stays_typed Σ ok W typed first free below C tc D (split_comes Σ W first below C D y sp)) σ i

pub reached_holds_back : ReachedHoldsBack
reached_holds_back Σ Σ' ok S x W typed first free below ps goal tg D r =
    let ((σ, i), apart) = reached_is_numbered_instance Σ ok W typed first free below ps goal tg D r in
    keeps_back Σ Σ' ok S x W typed first free goal tg D (reached_by_number_is_typed Σ ok W typed first free below ps goal tg D r) σ i

-- what is known of the goal's block variable of number 0
zeroth_of : (C : NumberedCase) (θ : ℕ → ℕ → Image) (D : NumberedCase) → KeepsBlocks C D → ZerothIs D θ (zeroth_known C θ)
zeroth_of C θ D keeps = by (block_at C.blocks zero) refl
  where
    by : (b : Option BlockVariable) → block_at C.blocks zero ≡ b → ZerothIs D θ (known_of b (θ zero))
    by None q = tt
    by (Some b) q = let (d, e, r) = keeps zero b q in (d, e, r, refl)

known_there : (goal D : NumberedCase) (θ : ℕ → ℕ → Image) → KeepsBlocks goal D → {c : Clause} (o : Origin c) (b : Bool) → HasOwnBlock o b goal → IsKnownFor o b D θ (zeroth_known goal θ)
known_there goal D θ keeps (of_constant U) b h = tt
known_there goal D θ keeps (of_entry B later E es e) b h = λ q.
    let (v, r, s) = h q in
    let (d, t, u) = keeps zero v r in
    ap (λ y. known_of y (θ zero)) r ∙ ap (λ C. Some (C, θ zero)) (sym u) ∙ sym (ap (λ y. known_of y (θ zero)) t)

-- a pattern's tuple, where the same places are covered and given
tuple_there : {Σ : Signature} {W : List Block} {S : ℕ → Bool} {G : List LfType} (w : World Σ W S G) (p : Pattern) (F : Known) (goal D : NumberedCase) → IsLikeByNumber goal D → (σ : ℕ → Image) (T : Spine) → HasTuple w p (covered_places goal.arguments) F goal.given σ T → HasTuple w p (covered_places D.arguments) F D.given σ T
tuple_there w p F goal D l σ T h =
    let t : HasTuple w p (covered_places D.arguments) F goal.given σ T = subst (λ b. HasTuple w p b F goal.given σ T) (sym l.places) h in
    record { outer = t.outer; stands = t.stands; used = t.used; uses = t.uses; values = t.values; typed = t.typed; agrees = t.agrees; given = λ i M u q. let (N, r) = given_there D.given goal.given (sym l.given) i M q in t.given i N u r; terms = t.terms; same = t.same }

pub reached_missing_is_uncovered : ReachedMissingIsUncovered
reached_missing_is_uncovered Σ ok W typed first free below ps goal D tg own (r, m) S Σ' x G w θ ρ inst c =
    let (keeps, back) = reached_holds_back Σ Σ' ok S x W typed first free below ps goal tg D r in
    let b : HoldsBack w first D θ ρ goal = back G w θ ρ inst in
    let (T, h) = some_tuple (lift_over D.local ρ) (read_all (read_over D.local (entry_reading first (blocks_of D.blocks) θ (length D.variables))) D.arguments) in
    let (σ, g) = some_values ρ (read_all (entry_reading first (blocks_of D.blocks) θ (length D.variables)) D.given) in
    let there : HoldsByNumber w first D (zeroth_known goal θ) σ T = record { instances = θ; values = ρ; is_ground = inst; zeroth = zeroth_of goal θ D keeps; given = g; has_arguments = h } in
    let held : HoldsByNumber w first goal (zeroth_known goal θ) σ T = record { instances = θ; values = b.values; is_ground = b.is_ground; zeroth = zeroth_of goal θ goal (λ k v e. (v, e, refl)); given = b.given σ g; has_arguments = b.arguments T h } in
    let (p, l, q) = c Σ' x G w (zeroth_known goal θ) σ T held in
    (m.apart p l).no_tuple W typed S Σ' x G w (zeroth_known goal θ) σ T there (known_there goal D θ keeps p.origin p.at_first (own p l)) (tuple_there w p (zeroth_known goal θ) goal D (reached_is_like_goal Σ first W below ps goal D r) σ T (covered_tuple w p (covered_places goal.arguments) (zeroth_known goal θ) goal.given σ T q))
