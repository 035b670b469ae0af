-- Worked: the whole run that stops at the equation that circular types leave.
use Rattle.std.proofs.Common.{◌≡◌, ℕ, zero, suc, ◌+◌, [], ◌∷◌, inl, refl, subst}
use Rattle.std.specs.Prelude.{Bool, true, false, None, Some}
use Rattle.lf.specs.Syntax.{Skeleton, Spine, Term, app, constant, variable, arrow, base, lambda, root, nil}
use Rattle.lf.specs.AtOnce.{in_front}
use Rattle.lf.specs.Substitution.{keep, put}
use Rattle.lf_unification.specs.OpenTyping.{ValueHasType, skeletons_of}
use Rattle.lf_unification.proofs.Runs.{run_refuted}
use Rattle.lf_totality.specs.Examples.{nat, z}
use Rattle.lf_totality.specs.ExamplesGroups.{on_one}
use Rattle.lf_coverage.proofs.Parts.{none_some}
use Rattle.lf_numbered.specs.EntryPatterns.{IsInstanceOfPattern}
use Rattle.lf_numbered.specs.LeftExamples.{Circle, circle_case, circle_left, circle_over, circle_terms, refl_type, refl_z}
use Rattle.lf_numbered.specs.LeftExamplesRun.{CircleHasHead, CircleIsNotRefuted, CircleIsUnified, CircleRunIsLeft, CircleTuplesAreTrue, circle_head, eq_kind, refl_offer}
use Rattle.lf_numbered.specs.NumberedCallsMeeting.{HasPattern, SharesInstance}
use Rattle.lf_numbered.specs.NumberedCallsOutside.{store_of}
use Rattle.lf_numbered.specs.NumberedCallsReached.{RunLeavesByNumber, numbered_first, numbered_goal}
use Rattle.lf_numbered.specs.NumberedCase.{NumberedCase}
use Rattle.lf_numbered.specs.NumberedSplits.{of_case}
use Rattle.lf_numbered.proofs.LeftEquations.{run_left_holds_true}
use Rattle.lf_numbered.proofs.LeftExamples.{circle_leaves, index, is_offered, ready, value_typed}
use Rattle.lf_numbered.proofs.LeftExamplesTyped.{Entries, circle_ok, circle_typed, entries_ok, free, no_blocks}
use Rattle.lf_numbered.proofs.LeftTyped.{over_head_is_typed}
use Rattle.lf_numbered.proofs.NumberedCallsCopying.{one_member}
use Rattle.lf_numbered.proofs.WorkedCallsStuck.{no_truth}

abbrev common : NumberedCase
common = record { blocks = []; variables = []; given = []; local = []; family = 3; arguments = None ∷ None ∷ None ∷ Some refl_z ∷ [] }

has_pattern : HasPattern Circle 4 common circle_head
has_pattern = record {
  used = λ i. false;
  values = keep;
  typed = record { typed = λ i A g u. absurd (no_truth u); closed = λ i A g u. absurd (no_truth u) };
  on_own_terms = λ i u. absurd (no_truth u);
  uses = ((tt, tt), tt);
  terms = λ i o u. absurd (no_truth u);
  given = λ j M u e. absurd (no_truth u);
  stands = tt;
  same = (refl, tt);
}

shares : SharesInstance Circle 4 [] circle_case circle_head
shares = record {
  common = common;
  typed_variables = record { variables = tt; on_own_terms = λ i A g. absurd g; blocks = tt };
  numbers = λ k. k;
  zeroth = refl;
  values = in_front (put (base 2) refl_z) (in_front (put (base 1) (root (constant 2) nil)) (in_front (put (arrow (base 1) (base 0)) (lambda z)) (in_front (put (base 0) z) (λ i. keep (i + 0)))));
  of_case = record {
    is_instance = record { blocks = λ k b e. absurd (none_some e); values = (refl_z, _, (root (constant 2) nil, _, (lambda z, _, (z, (λ i. keep (i + 0)), refl, (nat, refl, refl), (tt, tt), refl), (nat, refl, refl), (tt, tt), refl), (on_one 1 z, refl, refl), (tt, tt), refl), (refl_type, refl, ((nat, refl, refl), refl)), (tt, ((tt, tt), tt)), refl) };
    family = refl;
    given = refl;
    local = refl;
    arguments = refl;
  };
  of_pattern = has_pattern;
}

variable_or_constant : {i c : ℕ} {S T : Spine} → root (variable i) S ≡ root (constant c) T → ⊥
variable_or_constant e = cc

none : IsInstanceOfPattern Circle 4 circle_case circle_head → ⊥
none i = variable_or_constant i.same.0

module _ (below : ℕ → ℕ → Bool) where
  abbrev leaves_run : RunLeavesByNumber Circle 4 [] below (circle_head ∷ []) circle_case circle_case circle_over circle_left
  leaves_run = record { reached = numbered_goal; no_instance = λ p m i. none (subst (IsInstanceOfPattern Circle 4 circle_case) (one_member m) i); candidate = 0; is_first = numbered_first [] (inl shares) refl; leaves = circle_leaves below }

pub circle_run_is_left : CircleRunIsLeft
circle_run_is_left below = leaves_run below

pub circle_tuples_are_true : CircleTuplesAreTrue
circle_tuples_are_true below s S sc q Σ' ext G w F υ T h g = run_left_holds_true Circle circle_ok [] no_blocks below s S sc 4 free (circle_head ∷ []) circle_case circle_typed circle_case circle_over circle_left (leaves_run below) q tt (s.itself 0, tt) Σ' ext G w F υ T h g

a_is_z : root (constant 1) nil ≡ root (constant 0) nil → ⊥
a_is_z e = cc

-- the same over the signature with entries, where nothing is read
open_typed : (below : ℕ → ℕ → Bool) (m : ℕ) → ValueHasType Entries [] (skeletons_of (store_of below refl_offer eq_kind).metavariables) (circle_terms z) ((store_of below refl_offer eq_kind).metavariables m) (circle_terms z m)
open_typed below zero = (nat, refl, refl)
open_typed below (suc zero) = (refl_type, refl, ((nat, refl, refl), refl))
open_typed below (suc (suc zero)) = (on_one 1 z, refl, refl)
open_typed below (suc (suc (suc zero))) = (nat, refl, refl)
open_typed below (suc (suc (suc (suc zero)))) = (nat, refl, refl)
open_typed below (suc (suc (suc (suc (suc m))))) = tt

pub circle_is_unified : CircleIsUnified
circle_is_unified below θ = ((record { context = tt; outer = λ i A k. absurd k; typed = value_typed θ }, (tt, (refl, (refl, (refl, tt))))), λ u. a_is_z u.1.1.1.1.0)

pub circle_is_not_refuted : CircleIsNotRefuted
circle_is_not_refuted below f = run_refuted Entries entries_ok (ready below) f.run f.refuted [] (circle_terms z) (record { context = tt; outer = λ i A k. absurd k; typed = open_typed below }, (tt, (refl, (refl, (refl, tt)))))

n_is_no_refl : {S : Spine} → root (constant 2) nil ≡ root (constant 3) S → ⊥
n_is_no_refl e = cc

image_term : {a b : Skeleton} {M N : Term} → put a M ≡ put b N → M ≡ N
image_term e = cc

pub circle_has_head : CircleHasHead
circle_has_head = (
  over_head_is_typed Circle circle_ok [] no_blocks 4 free (λ a b. true) circle_case circle_typed 0 index refl refl_offer (of_case (constant 3) nil refl_type (is_offered (λ a b. true))) eq_kind refl,
  λ θ. ((app z nil, refl), λ (T, e). n_is_no_refl (image_term e)),
)
