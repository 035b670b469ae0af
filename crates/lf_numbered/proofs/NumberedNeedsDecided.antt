-- Where a case has what `instance_of` needs for a pattern, matching by terms decides whether it is an instance, and then the pattern covers it.
use Rattle.std.proofs.Common.{◌≡◌, ℕ, List, inl, inr, sym, ap, ◌∙◌, subst}
use Rattle.std.specs.Prelude.{Some, ◌↔◌, ◌⊎◌}
use Rattle.lf.specs.Typing.{Signature}
use Rattle.lf.specs.Variables.{target}
use Rattle.lf.specs.Subordination.{Block}
use Rattle.lf_cases.specs.Pattern.{Pattern, head_pattern}
use Rattle.lf_coverage.specs.Leaf.{IsTypedPattern}
use Rattle.lf_numbered.specs.EntryPatterns.{IsInstanceOfPattern}
use Rattle.lf_numbered.specs.EntryTerms.{MatchesByNumber}
use Rattle.lf_numbered.specs.NumberedCalls.{IsHeadFor, IsSubgoalFor, NumberedMatchedNeeds}
use Rattle.lf_numbered.specs.NumberedCase.{NumberedCase}
use Rattle.lf_numbered.specs.NumberedNeeds.{NeededInstanceCovers, NeededInstanceIsDecided}
use Rattle.lf_numbered.proofs.EntryTermsBesideGiven.{beside_is_decided}
use Rattle.lf_numbered.proofs.EntryTermsComplete.{numbered_instance_matches_any}
use Rattle.lf_numbered.proofs.EntryTermsDecided.{by_number_decided, decided_with}
use Rattle.lf_numbered.proofs.EntryTermsHeads.{head_found}
use Rattle.lf_numbered.proofs.NumberedCallsLaws.{instance_covers}

abbrev IsDecided : Signature → ℕ → NumberedCase → Pattern → Type 0
IsDecided Σ first C p = (IsInstanceOfPattern Σ first C p ↔ MatchesByNumber first C p) × Dec (IsInstanceOfPattern Σ first C p)

module _ (Σ : Signature) (first : ℕ) (W : List Block) (C : NumberedCase) (p : Pattern) (n : NumberedMatchedNeeds Σ first W C p) where
  of_head : IsHeadFor Σ first C p → IsDecided Σ first C p
  of_head h =
      let q : Pattern = head_pattern p.clause p.origin in
      let tq : IsTypedPattern Σ (head_pattern p.clause p.origin) = subst (IsTypedPattern Σ) h.is_head n.pattern.typed in
      let kd : Σ.kinds (target p.clause.type) ≡ Some h.kind = ap Σ.kinds (sym (ap (λ (r : Pattern). target r.type) h.is_head) ∙ n.pattern.same_family) ∙ h.of_family in
      subst (IsDecided Σ first C) (sym h.is_head) (decided_with (
        (λ i. numbered_instance_matches_any Σ n.setting.signature W n.setting.blocks first n.setting.free C n.case (head_pattern p.clause p.origin) tq i),
        (λ (φ, t, (g, ft, same)). (head_found Σ n.setting.signature W n.setting.blocks first n.setting.free C n.case p.clause p.origin tq h.none_given h.no_local h.kind kd h.covered_only h.tuple h.at_places h.typed_places φ t g ft same).0),
      ) (by_number_decided first C (head_pattern p.clause p.origin)))

  of_subgoal : IsSubgoalFor Σ first W C p → IsDecided Σ first C p
  of_subgoal g = beside_is_decided Σ n.setting.signature W n.setting.blocks first n.setting.free C p n.pattern.typed g.at_first g.typed_beside n.pattern.given_own g.known_places

  decided : IsHeadFor Σ first C p ⊎ IsSubgoalFor Σ first W C p → IsDecided Σ first C p
  decided (inl h) = of_head h
  decided (inr g) = of_subgoal g

pub needed_instance_is_decided : NeededInstanceIsDecided
needed_instance_is_decided Σ first W C p n = decided Σ first W C p n n.pattern.beside

pub needed_instance_covers : NeededInstanceCovers
needed_instance_covers Σ first W C p n i = (
  instance_covers Σ n.setting.signature W n.setting.blocks first n.setting.free C n.case p n.pattern.typed n.pattern.same_length n.pattern.given_own i,
  (λ ps l. record { typed = n.case; pattern = p; listed = l; pattern_typed = n.pattern.typed; same_length = n.pattern.same_length; given_own = n.pattern.given_own; is_instance = i }),
)
