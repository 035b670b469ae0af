-- The typed head of a clause is a pattern for a case without local variables; what is typed beside a subgoal has it as one.
use Rattle.std.proofs.Common.{◌≡◌, ℕ, [], length, inl, inr, refl, sym, ap, ◌∙◌, subst, true≢false}
use Rattle.std.specs.Prelude.{Bool, true, false, Some}
use Rattle.lf.specs.Substitution.{Image}
use Rattle.lf.specs.Variables.{binders}
use Rattle.lf_checks.specs.Clause.{Clause}
use Rattle.lf_cases.specs.Pattern.{Origin, of_constant, of_entry, Pattern, is_given}
use Rattle.lf_cases.proofs.OutputItems.{length_instance}
use Rattle.lf_numbered.specs.NumberedBesideGiven.{GivesOutside}
use Rattle.lf_numbered.specs.NumberedCalls.{HasOwnBlock}
use Rattle.lf_numbered.specs.NumberedCase.{NumberedCase}
use Rattle.lf_numbered.specs.NumberedInstance.{block_at}
use Rattle.lf_numbered.specs.NumberedNeedsLaws.{HeadIsFor, SubgoalIsFor}
use Rattle.lf_numbered.proofs.NumberedNeedsBlocks.{beside_has_own_typed}

-- a head's entry isn't that of the first block variable alone; what is typed beside a subgoal has the entry's own block
head_own : (C : NumberedCase) {c : Clause} (o : Origin c) → HasOwnBlock o false C
head_own C (of_constant U) = tt
head_own C (of_entry B later E es e) = λ z. absurd (true≢false (sym z))

subgoal_own : (first : ℕ) (C : NumberedCase) {c : Clause} (o : Origin c) (b : Bool) (φ : ℕ → Image) → GivesOutside first C o b φ → HasOwnBlock o b C
subgoal_own first C (of_constant U) b φ g = tt
subgoal_own first C (of_entry B later E es e) b φ (k, U, q, z, r) = λ t. (record { block = B; terms = U }, subst (λ j. block_at C.blocks j ≡ Some (record { block = B; terms = U })) (z t) q, refl)

pub head_is_for : HeadIsFor
head_is_for Σ first W C p tp t f h = record {
  typed = tp;
  typed_block = t;
  same_family = f;
  same_length = ap length h.no_local ∙ sym (ap (λ (r : Pattern). length (binders [] r.type)) h.is_head);
  given_own = λ i e. absurd (true≢false (sym (subst (λ Ms. is_given Ms i ≡ true) h.none_given e)));
  own_block = subst (λ (r : Pattern). HasOwnBlock r.origin r.at_first C) (sym h.is_head) (head_own C p.origin);
  beside = inl h;
}

pub subgoal_is_for : SubgoalIsFor
subgoal_is_for Σ first W typed C p tp own s = record {
  typed = tp;
  typed_block = beside_has_own_typed Σ W typed first C p s.typed_beside;
  same_family = s.typed_beside.beside.same_family;
  same_length = ap length s.typed_beside.beside.local ∙ length_instance (binders [] p.type) _;
  given_own = own;
  own_block = subgoal_own first C p.origin p.at_first s.typed_beside.outer s.typed_beside.stands;
  beside = inr s;
}
