-- What the calls by number need is kept by splits, and so along the strategy.
use Rattle.std.proofs.Common.{◌≡◌, ℕ, zero, List, [], ◌∷◌, inl, inr, refl, sym, ap, ◌∙◌, subst}
use Rattle.std.specs.Prelude.{Bool, true, false, Option, Some, None, ◌⊎◌}
use Rattle.lf.specs.Syntax.{Term}
use Rattle.lf.specs.Variables.{nothing, everything}
use Rattle.lf.specs.Typing.{Signature, IsSignature}
use Rattle.lf.specs.Subordination.{Block, AreTypedBlocks}
use Rattle.lf_checks.specs.Clause.{Clause, outside}
use Rattle.lf_checks.specs.Ground.{UsesGoal}
use Rattle.lf_checks.specs.Tests.{either}
use Rattle.lf_cases.specs.Case.{covered_places}
use Rattle.lf_cases.specs.Pattern.{Origin, of_constant, of_entry, Pattern, is_given}
use Rattle.lf_cases.proofs.Split.{given_same as given_alike}
use Rattle.lf_totality.proofs.After.{Extends-self}
use Rattle.lf_coverage.specs.Matching.{other_places}
use Rattle.lf_numbered.specs.EntryConstants.{IsFreeFrom}
use Rattle.lf_numbered.specs.EntryPatternsRuns.{IsLikeByNumber}
use Rattle.lf_numbered.specs.EntryTerms.{known_in}
use Rattle.lf_numbered.specs.NumberedCalls.{HasOwnBlock, IsFor, IsHeadFor, IsSubgoalFor}
use Rattle.lf_numbered.specs.NumberedCallsOutside.{IsSplitCaseByNumber}
use Rattle.lf_numbered.specs.NumberedCallsReached.{ReachedByNumber, numbered_goal, numbered_split}
use Rattle.lf_numbered.specs.NumberedCase.{NumberedCase}
use Rattle.lf_numbered.specs.NumberedNeeds.{ListedKeepNeeds, ReachedHasNeeds, SplitKeepsNeeds}
use Rattle.lf_numbered.specs.NumberedReached.{KeepsBlocks}
use Rattle.lf_numbered.specs.TypedNumbered.{IsTypedNumberedCase}
use Rattle.lf_numbered.proofs.NumberedBesideStays.{numbered_run_stays_beside}
use Rattle.lf_numbered.proofs.NumberedCallsGoals.{numbered_candidate_is_free}
use Rattle.lf_numbered.proofs.NumberedCallsLike.{split_alike}
use Rattle.lf_numbered.proofs.NumberedNeedsStays.{comes_length, head_stays}
use Rattle.lf_numbered.proofs.NumberedReached.{split_case_holds_back}
use Rattle.lf_numbered.proofs.NumberedSplitCases.{split_case_is_typed, split_comes, unified_case}
use mathlib.Core.Path.{fun_ext}

-- what isn't covered is told by the covered places
abbrev turned : List Bool → List Bool
turned [] = []
turned (true ∷ bs) = false ∷ turned bs
turned (false ∷ bs) = true ∷ turned bs

other_by_place : (Ms : List (Option Term)) → other_places Ms ≡ turned (covered_places Ms)
other_by_place [] = refl
other_by_place (Some M ∷ Ms) = ap (λ bs. false ∷ bs) (other_by_place Ms)
other_by_place (None ∷ Ms) = ap (λ bs. true ∷ bs) (other_by_place Ms)

pub same_others : (Ms Ns : List (Option Term)) → covered_places Ms ≡ covered_places Ns → other_places Ms ≡ other_places Ns
same_others Ms Ns e = other_by_place Ms ∙ ap turned e ∙ sym (other_by_place Ns)

own_stays : (C D : NumberedCase) → KeepsBlocks C D → {c : Clause} (o : Origin c) (b : Bool) → HasOwnBlock o b C → HasOwnBlock o b D
own_stays C D keeps (of_constant U) b h = tt
own_stays C D keeps (of_entry B later E es e) b h = λ q.
    let (v, r, s) = h q in
    let (d, t, u) = keeps zero v r in
    (d, t, u ∙ s)

module _ (Σ : Signature) (ok : IsSignature Σ) (W : List Block) (typed : AreTypedBlocks Σ W) (first : ℕ) (free : IsFreeFrom Σ first) (below : ℕ → ℕ → Bool) where
  pub split_for : (C : NumberedCase) → IsTypedNumberedCase Σ first W C → (x : ℕ) (D : NumberedCase) → IsSplitCaseByNumber Σ first W below C x D → (p : Pattern) → IsFor Σ first W C p → IsFor Σ first W D p
  split_for C tc x D sp p f =
      let a : IsLikeByNumber C D = split_alike Σ first W below C x D sp in
      let g : (i : ℕ) → is_given D.given i ≡ is_given C.given i = given_alike D.given C.given a.given in
      record {
        typed = f.typed;
        typed_block = f.typed_block;
        same_family = f.same_family ∙ sym a.family;
        same_length = comes_length Σ W first below C D (split_comes Σ W first below C D x sp) ∙ f.same_length;
        given_own = λ i e. f.given_own i (sym (g i) ∙ e);
        own_block = own_stays C D (split_case_holds_back Σ Σ ok nothing (Extends-self nothing Σ ok) W typed first free below C tc x D sp).0 p.origin p.at_first f.own_block;
        beside = by g a f.beside;
      }
    where
      by : ((i : ℕ) → is_given D.given i ≡ is_given C.given i) → IsLikeByNumber C D → IsHeadFor Σ first C p ⊎ IsSubgoalFor Σ first W C p → IsHeadFor Σ first D p ⊎ IsSubgoalFor Σ first W D p
      by g a (inl h) = inl (head_stays Σ ok W typed first free below p C tc D (split_comes Σ W first below C D x sp) h)
      by g a (inr s) = inr (record {
        at_first = s.at_first;
        typed_beside = numbered_run_stays_beside Σ ok W typed first free below p f.typed C s.typed_beside D (split_comes Σ W first below C D x sp);
        known_places = subst (λ b. UsesGoal (known_in D p) b p.type) (sym (same_others D.arguments C.arguments a.places)) (subst (λ U. UsesGoal U (other_places C.arguments) p.type) (fun_ext (λ i. ap (λ b. either b (outside p.clause.type everything i)) (sym (g i)))) s.known_places);
      })

  -- along the strategy
  reached_for : (ps : List Pattern) (goal : NumberedCase) → IsTypedNumberedCase Σ first W goal → (p : Pattern) → IsFor Σ first W goal p → {D : NumberedCase} → ReachedByNumber Σ first W below ps goal D → IsTypedNumberedCase Σ first W D × IsFor Σ first W D p
  reached_for ps goal tg p f numbered_goal = (tg, f)
  reached_for ps goal tg p f (numbered_split {C = C} {D = D} x r n k sp) =
      let (tc, g) = reached_for ps goal tg p f r in
      (split_case_is_typed Σ ok W typed first free below C tc x D sp, split_for C tc x D sp p g)

pub split_keeps_needs : SplitKeepsNeeds
split_keeps_needs Σ first W below C x n D sp p f = record {
  setting = n.setting;
  case = split_case_is_typed Σ n.setting.signature W n.setting.blocks first n.setting.free below C n.case x D sp;
  pattern = split_for Σ n.setting.signature W n.setting.blocks first n.setting.free below C n.case x D sp p f;
}

pub listed_keep_needs : ListedKeepNeeds
listed_keep_needs Σ first W below C x n Cs l D m p f = split_keeps_needs Σ first W below C x n D (unified_case Σ first W below C x Cs l.lists.unified D m) p f

pub reached_has_needs : ReachedHasNeeds
reached_has_needs Σ first W below ps goal n D r p l =
    let (td, f) = reached_for Σ n.setting.signature W n.setting.blocks first n.setting.free below ps goal n.case p (n.patterns p l) r in
    (record { setting = n.setting; case = td; pattern = f }, λ x m. record { setting = n.setting; subordination = n.subordination; case = td; variable = numbered_candidate_is_free first D p x m })
