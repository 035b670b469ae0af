-- A typed instance that a case by number and a pattern share is a typed unifier of a store in which they are unified; where steps refute each, there is none.
use Rattle.std.proofs.Common.{◌≡◌, ◌≤◌, ℕ, ◌<◌, List, [], ◌∷◌, length, refl, sym, ap, ◌∙◌, arith}
use Rattle.std.specs.Prelude.{Bool, true, false, Some}
use Rattle.lf.specs.Syntax.{Term, LfType, Kind}
use Rattle.lf.specs.Substitution.{Image, keep}
use Rattle.lf.specs.Typing.{Signature, IsSignature}
use Rattle.lf.specs.Variables.{binders, everything, nothing}
use Rattle.lf.specs.Subordination.{Block, AreTypedBlocks}
use Rattle.lf_unification.proofs.Runs.{run_refuted}
use Rattle.lf_checks.specs.Clause.{Clause, constant_clause, entry_clause, outside}
use Rattle.lf_cases.specs.Cover.{before}
use Rattle.lf_cases.specs.Missing.{blocks_with}
use Rattle.lf_cases.specs.Pattern.{Origin, of_constant, of_entry, Pattern, given_at, is_given}
use Rattle.lf_cases.proofs.OutputItems.{length_instance}
use Rattle.lf_coverage.specs.Leaf.{IsTypedPattern}
use Rattle.lf_coverage.proofs.Parts.{none_some}
use Rattle.lf_coverage.proofs.RefutedSplits.{run_in_extension}
use Rattle.lf_numbered.specs.EntryConstants.{with_entries, IsFreeFrom}
use Rattle.lf_numbered.specs.EntryPatterns.{variable_images}
use Rattle.lf_numbered.specs.EntryTerms.{IsTried, IsTypedBesideWith}
use Rattle.lf_numbered.specs.MeetsAnswers.{AreRefuted}
use Rattle.lf_numbered.specs.MeetsInstance.{HasFirstFor, HasSharedUnifier, SharedIsUnifier, RefutedSharesNone, SharedBesideIsUnifier, RefutedBesideSharesNone}
use Rattle.lf_numbered.specs.NumberedBesideGiven.{GivesOutside}
use Rattle.lf_numbered.specs.NumberedCallsMeeting.{SharesInstance}
use Rattle.lf_numbered.specs.NumberedCallsStores.{meet_store_by_number}
use Rattle.lf_numbered.specs.NumberedCase.{NumberedCase}
use Rattle.lf_numbered.specs.NumberedInstance.{block_at}
use Rattle.lf_numbered.specs.OwnTerms.{blocks_of}
use Rattle.lf_numbered.specs.TypedNumbered.{IsTypedNumberedCase}
use Rattle.lf_numbered.proofs.EntryTermsBesideGiven.{beside_with_all_tried}
use Rattle.lf_numbered.proofs.MeetsInstanceGiven.{outer_becomes, with_given}
use Rattle.lf_numbered.proofs.MeetsInstancePlaces.{HasValues, one_by, pattern_values}
use Rattle.lf_numbered.proofs.MeetsInstanceShared.{unified}
use Rattle.lf_numbered.proofs.MoreWorlds.{case_with_more, with_more}
use Rattle.lf_numbered.proofs.NumberedMeetsMoved.{identified_has_instances}

has_unifier : (Σ : Signature) → IsSignature Σ → (W : List Block) (first : ℕ) → IsFreeFrom Σ first → (C : NumberedCase) → IsTypedNumberedCase Σ first W C → (p : Pattern) → IsTypedPattern Σ p → AreTypedBlocks Σ (blocks_with p.origin W) → HasFirstFor p.origin p.at_first C → length C.local ≡ length (binders [] p.type) → (K : Kind) (s : SharesInstance Σ first W C p) (w : HasValues Σ first s.common p.origin p.type p.at_first) → ((k : ℕ) (N : Term) → given_at C.given k ≡ Some N → (k < length (binders [] p.clause.type)) × (w.used k ≡ true)) → HasSharedUnifier Σ first W C p K s
has_unifier Σ ok W first free C tc p tp typed has l K s w g =
    let (π, i) = one_by Σ first W C p s in
    let u = unified Σ ok W first free C s.common tc s.numbers s.zeroth s.values s.of_case π i.identifies i.same i.only (i.others (length C.blocks) (itself (length C.blocks))) K p.type p.at_first l p.origin has typed s.typed_variables tp w g in (
      π,
      u.case,
      u.outer,
      i.others,
      record { identifies = i.identifies; oldest = i.oldest; same = i.same; only = i.only; of_identified = (identified_has_instances Σ first s.common C s.numbers s.values π i.identifies i.same).0 s.of_case; beside = u.beside },
      record { signature = u.signature; extends = u.grows; context = u.context; filling = u.filling; solves = u.solved },
    )
  where
    itself : (k : ℕ) → k ≤ k
    itself k = omega arith

refuted_has_none : (Σ : Signature) (W : List Block) (first : ℕ) (C : NumberedCase) (p : Pattern) (K : Kind) → AreRefuted Σ first C p K → (s : SharesInstance Σ first W C p) → HasSharedUnifier Σ first W C p K s → ⊥
refuted_has_none Σ W first C p K each s (π, J, φ, stays, i, u) =
    let (ready, f) = each π J φ (record { identifies = i.identifies; oldest = i.oldest; beside = i.beside }) stays in
    run_refuted u.signature u.extends.ok (ready u.signature u.extends) (run_in_extension nothing (with_entries Σ first (blocks_of J.blocks)) u.signature u.extends (meet_store_by_number π J p φ K) f.reached f.run) f.refuted u.context u.filling u.solves

-- Where nothing is given
pub shared_is_unifier : SharedIsUnifier
shared_is_unifier Σ ok W first free C tc none p tp typed has l K s = has_unifier Σ ok W first free C tc p tp typed has l K s (pattern_values Σ first s.common p s.of_pattern) (λ k N e. absurd (none_some (sym (ap (λ Ms. given_at Ms k) none) ∙ e)))

pub refuted_shares_none : RefutedSharesNone
refuted_shares_none Σ ok W first free C tc none p tp typed has l K each s = refuted_has_none Σ W first C p K each s (shared_is_unifier Σ ok W first free C tc none p tp typed has l K s)

-- Where terms are given
tried_for : (first : ℕ) (C : NumberedCase) {c : Clause} (o : Origin c) (b : Bool) (φ : ℕ → Image) → GivesOutside first C o b φ → (ψ : ℕ → Image) × IsTried first C o b ψ
tried_for first C (of_constant U) b φ t = (keep, refl)
tried_for first C (of_entry B later E es e) b φ t = (φ, t)

first_for : (first : ℕ) (C : NumberedCase) {c : Clause} (o : Origin c) (b : Bool) (φ : ℕ → Image) → GivesOutside first C o b φ → HasFirstFor o b C
first_for first C (of_constant U) b φ t = tt
first_for first C (of_entry B later E es e) b φ (k, U, at, z, r) = λ y. (record { block = B; terms = U }, ap (block_at C.blocks) (sym (z y)) ∙ at)

given_known : (Σ : Signature) → IsSignature Σ → (W : List Block) (first : ℕ) → IsFreeFrom Σ first → (C : NumberedCase) → IsTypedNumberedCase Σ first W C → {c : Clause} (o : Origin c) (P : LfType) (b : Bool) → b ≡ true → IsTypedPattern Σ (record { clause = c; origin = o; type = P; at_first = b }) → AreTypedBlocks Σ (blocks_with o W) → (φ : ℕ → Image) → IsTried first C o b φ → IsTypedBesideWith Σ first C (record { clause = c; origin = o; type = P; at_first = b }) φ → ((i : ℕ) → is_given C.given i ≡ true → outside c.type everything i ≡ false) → (s : SharesInstance Σ first W C (record { clause = c; origin = o; type = P; at_first = b })) → (w : HasValues Σ first s.common o P b) × ((k : ℕ) (N : Term) → given_at C.given k ≡ Some N → (k < length (binders [] c.type)) × (w.used k ≡ true))
given_known Σ ok W first free C tc (of_constant U) P b f tp typed φ t tb own s = with_given Σ ok first free W typed C s.common tc.variables s.typed_variables s.numbers s.values s.of_case.is_instance (of_constant U) P b tp φ tb own s.of_case.given (pattern_values Σ first s.common (record { clause = constant_clause U; origin = of_constant U; type = P; at_first = b }) s.of_pattern) keep (λ l A d. absurd d) (λ l A d. absurd d)
given_known Σ ok W first free C tc (of_entry B later E es e) P b f tp typed φ (k, U, at, z, r) tb own s =
    let tv = (case_with_more Σ first W (B ∷ W) (with_more (of_entry B later E es e) W) C tc).variables in
    let (j, S, there, y, a) = s.of_pattern.stands in
    let same : s.numbers k ≡ j = ap s.numbers (z f) ∙ s.zeroth ∙ sym (y f) in
    with_given Σ ok first free (B ∷ W) typed C s.common tv s.typed_variables s.numbers s.values s.of_case.is_instance (of_entry B later E es e) P b tp φ tb own s.of_case.given (pattern_values Σ first s.common (record { clause = entry_clause B es E; origin = of_entry B later E es e; type = P; at_first = b }) s.of_pattern) (before later (variable_images first s.common.blocks j B S)) a (λ l A d. ap (λ (g : ℕ → Image). Rattle.lf.specs.Substitution.substitute_image s.values (Rattle.lf_numbered.specs.WritingRoom.move_image (Rattle.lf_numbered.specs.NumberedInstance.moved_constant first (blocks_of C.blocks) (blocks_of s.common.blocks) s.numbers) (g l))) r ∙ outer_becomes Σ ok first free (B ∷ W) typed C s.common tv s.typed_variables s.numbers s.values s.of_case.is_instance B later E es e k U at j S there same l A d)

pub shared_beside_is_unifier : SharedBesideIsUnifier
shared_beside_is_unifier Σ ok W first free C p tp typed f t own K s =
    let worlds : AreTypedBlocks Σ W = λ B m. typed B (with_more p.origin W B m) in
    let (φ, y) = tried_for first C p.origin p.at_first t.outer t.stands in
    let tb : IsTypedBesideWith Σ first C p φ = beside_with_all_tried Σ ok W worlds first free C p tp f t own φ y in
    let (w, g) = given_known Σ ok W first free C t.typed p.origin p.type p.at_first f tp typed φ y tb own s in
    has_unifier Σ ok W first free C t.typed p tp typed (first_for first C p.origin p.at_first t.outer t.stands) (ap length tb.local ∙ length_instance (binders [] p.type) (Rattle.lf_numbered.specs.EntryTerms.beside_values C p φ)) K s w g

pub refuted_beside_shares_none : RefutedBesideSharesNone
refuted_beside_shares_none Σ ok W first free C p tp typed f t own K each s = refuted_has_none Σ W first C p K each s (shared_beside_is_unifier Σ ok W first free C p tp typed f t own K s)
