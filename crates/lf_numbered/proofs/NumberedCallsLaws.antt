-- What the answers of the calls by number say of the tuples that a case holds.
use Rattle.std.proofs.Common.{◌≡◌, ℕ, zero, List, [], ◌∷◌, length, inl, refl, ap}
use Rattle.std.specs.Prelude.{Bool, Option, Some, None}
use Rattle.lf.specs.Syntax.{Term, Spine, LfType, base, constant, root, nil, app}
use Rattle.lf.specs.Substitution.{Image, keep, put, substitute, reduce}
use Rattle.lf.specs.Typing.{Signature, IsSignature}
use Rattle.lf.specs.Subordination.{Block, AreTypedBlocks}
use Rattle.lf.specs.Worlds.{World, lift_over}
use Rattle.lf_cases.specs.Case.{covered_places, HasArguments}
use Rattle.lf_checks.specs.Clause.{Clause}
use Rattle.lf_cases.specs.Pattern.{CoversTuple, Known, Origin, of_constant, of_entry, Pattern, HasGiven, given_at}
use Rattle.lf_numbered.specs.EntryConstants.{IsFreeFrom}
use Rattle.lf_numbered.specs.EntryPatternsRuns.{HoldsByNumber, ZerothIs}
use Rattle.lf_cases.specs.Split.{Ends}
use Rattle.lf_coverage.proofs.Runs.{other_run}
use Rattle.lf_numbered.specs.NumberedArguments.{read_over, read_all}
use Rattle.lf_numbered.specs.NumberedCalls.{IsBesideByNumber}
use Rattle.lf_numbered.specs.NumberedCallsLaws.{InstanceCovers, ApartCoversNone, AnsweredByNumberIsSplitAnswer, AnswersForGoal, AnsweredByNumberIsCovered, ReachedByNumberIsTyped, MissingIsCoveredByNone, MissingIsUncovered}
use Rattle.lf_numbered.specs.NumberedCallsMeeting.{HasTuple, IsKnownFor, known_of, zeroth_known}
use Rattle.lf_numbered.specs.NumberedCallsReached.{ReachedByNumber, numbered_goal, numbered_split}
use Rattle.lf_numbered.specs.NumberedCase.{NumberedCase}
use Rattle.lf_numbered.specs.NumberedInstance.{block_at}
use Rattle.lf_numbered.specs.NumberedSplitsRuns.{AnswersByNumber}
use Rattle.lf_numbered.specs.OwnTerms.{BlockVariable, blocks_of}
use Rattle.lf_numbered.specs.Reading.{entry_reading}
use Rattle.lf_numbered.specs.TypedNumbered.{IsTypedNumberedCase}
use Rattle.lf_numbered.proofs.EntryPatternsLeaf.{numbered_leaf_is_covered}
use Rattle.lf_numbered.proofs.NumberedSplitCases.{split_case_is_typed}
use Rattle.lf_numbered.proofs.NumberedSplits.{is_split}
use Rattle.lf_numbered.proofs.NumberedSplitsRuns.{answered_by_number_covers}

pub instance_covers : InstanceCovers
instance_covers Σ ok W typed first free C tc p tp n g i S = numbered_leaf_is_covered Σ ok W typed S first free (p ∷ []) C (record { typed = tc; pattern = p; listed = inl refl; pattern_typed = tp; same_length = n; given_own = g; is_instance = i })

-- what a pattern covers, it has
pub covered_tuple : {Σ : Signature} {W : List Block} {S : ℕ → Bool} {G : List LfType} (w : World Σ W S G) (p : Pattern) (b : List Bool) (F : Known) (Ms : List (Option Term)) (σ : ℕ → Image) (T : Spine) → CoversTuple w p b F Ms σ T → HasTuple w p b F Ms σ T
covered_tuple w p b F Ms σ T c = record { outer = c.outer; stands = c.stands; used = c.used; uses = c.uses; values = c.values; typed = c.typed; agrees = c.agrees; given = c.given; terms = c.terms; same = c.same }

pub apart_covers_none : ApartCoversNone
apart_covers_none Σ W typed first C p a S Σ' x G w F σ T h k c = a.no_tuple W typed S Σ' x G w F σ T h k (covered_tuple w p (covered_places C.arguments) F C.given σ T c)

pub answered_by_number_is_split_answer : AnsweredByNumberIsSplitAnswer
answered_by_number_is_split_answer Σ ok W typed below s first free C tc x Cs l = record { lists = l; holds = λ b ob S sc f. is_split Σ ok W typed below s S sc first free C tc x Cs (record { type = l.unified.type; at = l.unified.at; takes_below = b; offers = l.unified.offers; each = l.unified.each; every = l.unified.every; arguments_below = ob; listed = l.unified.listed }) f }

-- splits for a goal are splits beside each set beside which it is to be covered
module _ (Σ : Signature) (first : ℕ) (W : List Block) (below : ℕ → ℕ → Bool) (S : ℕ → Bool) (goal : NumberedCase) (b : IsBesideByNumber Σ W S goal) (Leaf : NumberedCase → Type 0) where
  goal_run : {C : NumberedCase} → Ends Leaf (AnswersForGoal Σ first W below goal) C → Ends Leaf (AnswersByNumber Σ first W below S) C
  goal_run r = other_run {Kept = λ C. Unit {0}} (λ C k l. l) (λ C Cs k (x, sp, f). ((x, sp, f S b), λ D m. tt)) tt r

pub answered_by_number_is_covered : AnsweredByNumberIsCovered
answered_by_number_is_covered Σ ok W typed below s first free ps goal tc n r = λ S b. answered_by_number_covers Σ ok W typed below s S b.self_contained first free ps goal tc n (goal_run Σ first W below S goal b _ r)

-- the case that is read off is typed
module _ (Σ : Signature) (ok : IsSignature Σ) (W : List Block) (typed : AreTypedBlocks Σ W) (first : ℕ) (free : IsFreeFrom Σ first) (below : ℕ → ℕ → Bool) where
  reached_typed : (ps : List Pattern) (goal : NumberedCase) → IsTypedNumberedCase Σ first W goal → {D : NumberedCase} → ReachedByNumber Σ first W below ps goal D → IsTypedNumberedCase Σ first W D
  reached_typed ps goal t numbered_goal = t
  reached_typed ps goal t (numbered_split {C = C} {D = D} x r n f s) = split_case_is_typed Σ ok W typed first free below C (reached_typed ps goal t r) x D s

pub reached_by_number_is_typed : ReachedByNumberIsTyped
reached_by_number_is_typed Σ ok W typed first free below ps goal t D r = reached_typed Σ ok W typed first free below ps goal t r

-- what is known is known for each pattern
known_for : {c : Clause} (o : Origin c) (b : Bool) (C : NumberedCase) (θ : ℕ → ℕ → Image) (F : Known) → F ≡ zeroth_known C θ → IsKnownFor o b C θ F
known_for (of_constant U) b C θ F k = tt
known_for (of_entry B later E es e) b C θ F k = λ q. k

pub missing_is_covered_by_none : MissingIsCoveredByNone
missing_is_covered_by_none Σ W typed first below ps goal D (r, m) S Σ' x G w F σ T h k (p, l, c) = apart_covers_none Σ W typed first D p (m.apart p l) S Σ' x G w F σ T h (known_for p.origin p.at_first D h.instances F k) c

-- A tuple that has these arguments, and values that give these terms.
pub some_tuple : (σ : ℕ → Image) (Ms : List (Option Term)) → (T : Spine) × HasArguments σ Ms T
some_tuple σ [] = (nil, tt)
some_tuple σ (Some M ∷ Ms) = let (T, h) = some_tuple σ Ms in (app (substitute reduce σ M) T, (refl, h))
some_tuple σ (None ∷ Ms) = let (T, h) = some_tuple σ Ms in (app (root (constant zero) nil) T, h)

abbrev image_of : (ℕ → Image) → Option Term → Image
image_of σ None = keep zero
image_of σ (Some M) = put (base zero) (substitute reduce σ M)

pub some_values : (σ : ℕ → Image) (Ms : List (Option Term)) → (τ : ℕ → Image) × HasGiven σ Ms τ
some_values σ Ms = (λ i. image_of σ (given_at Ms i), λ i M e. (base zero, ap (image_of σ) e))

-- what is known of the block variable of number 0
zeroth_is : (C : NumberedCase) (θ : ℕ → ℕ → Image) → ZerothIs C θ (zeroth_known C θ)
zeroth_is C θ = by (block_at C.blocks zero) refl
  where
    by : (b : Option BlockVariable) → block_at C.blocks zero ≡ b → ZerothIs C θ (known_of b (θ zero))
    by None q = tt
    by (Some b) q = (b, q, refl, refl)

pub missing_is_uncovered : MissingIsUncovered
missing_is_uncovered Σ W typed first below ps goal D m S Σ' x G w θ ρ inst c =
    let (T, h) = some_tuple (lift_over D.local ρ) (read_all (read_over D.local (entry_reading first (blocks_of D.blocks) θ (length D.variables))) D.arguments) in
    let (σ, g) = some_values ρ (read_all (entry_reading first (blocks_of D.blocks) θ (length D.variables)) D.given) in
    let held : HoldsByNumber w first D (zeroth_known D θ) σ T = record { instances = θ; values = ρ; is_ground = inst; zeroth = zeroth_is D θ; given = g; has_arguments = h } in
    missing_is_covered_by_none Σ W typed first below ps goal D m S Σ' x G w (zeroth_known D θ) σ T held refl (c Σ' x G w (zeroth_known D θ) σ T held)
