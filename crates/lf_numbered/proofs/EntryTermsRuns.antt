-- Along runs by number matching by terms decides the leaves.
use Rattle.std.proofs.Common.{◌≡◌, ℕ, ◌+◌, List, [], refl, sym, ap, ◌∙◌, subst}
use Rattle.std.specs.Prelude.{Bool}
use Rattle.lf.specs.Syntax.{Kind}
use Rattle.lf.specs.AtOnce.{shift_by}
use Rattle.lf.specs.Substitution.{Image}
use Rattle.lf.specs.Typing.{Signature}
use Rattle.lf.specs.Subordination.{Block}
use Rattle.lf.specs.Variables.{nothing}
use Rattle.lf.specs.Worlds.{lift_over, instance}
use Rattle.lf_checks.specs.Marks.{MentionChosenOnly}
use Rattle.lf_cases.specs.Case.{covered_places, input_goal}
use Rattle.lf_cases.specs.Missing.{put_in}
use Rattle.lf_cases.specs.OutputGoal.{renumber}
use Rattle.lf_cases.specs.Reached.{arguments_count}
use Rattle.lf_coverage.specs.SplitStore.{answer_values}
use Rattle.lf_coverage.proofs.HeadSplit.{places_put_in as places_put}
use Rattle.lf_coverage.proofs.StuckRuns.{goal_places}
use Rattle.lf_numbered.specs.EntryTermsRuns.{InputRunIsDecided, BesideRunIsDecided}
use Rattle.lf_numbered.specs.NewBlock.{rename_all}
use Rattle.lf_numbered.specs.NumberedCase.{NumberedCase}
use Rattle.lf_numbered.specs.Numbering.{numbering, numbered}
use Rattle.lf_numbered.specs.OwnStores.{ComesByNumbers, no_split, then_block, then_split}
use Rattle.lf_numbered.proofs.EntryTermsBesideGiven.{beside_is_decided}
use Rattle.lf_numbered.proofs.EntryTermsDecided.{numbered_head_is_decided}
use Rattle.lf_numbered.proofs.EntryTermsInputs.{beside_has_typed_places, clause_is_closed, closed_is_typed, input_goal_is_beside_by_number}
use Rattle.lf_numbered.proofs.NumberedBesideStays.{numbered_run_stays_beside}
use Rattle.lf_numbered.proofs.NumberedSplits.{places_renamed}

-- A case of a run from a goal of inputs has no given terms and no local context, and its places are those of the goal.
pub record IsInputCase (m : List Bool) (C : NumberedCase) : Type 0 where
  pub given : C.given ≡ []
  pub local : C.local ≡ []
  pub places : covered_places C.arguments ≡ m

pub comes_as_input : (Σ : Signature) (W : List Block) (first : ℕ) (below : ℕ → ℕ → Bool) (m : List Bool) (G C : NumberedCase) → IsInputCase m G → ComesByNumbers Σ W first below G C → IsInputCase m C
comes_as_input Σ W first below m G C h no_split = h
comes_as_input Σ W first below m G C h (then_block {D = D} B r w) =
    let k = comes_as_input Σ W first below m G D h r in
    record { given = ap (rename_all (shift_by _)) k.given; local = ap (renumber (shift_by _)) k.local; places = places_renamed _ D.arguments ∙ k.places }
comes_as_input Σ W first below m G C h (then_split {D = D} x X j U A K after r g o e s) =
    let k = comes_as_input Σ W first below m G D h r in
    let υ : ℕ → Image = λ l. answer_values after s.well_formed.order (l + arguments_count A) in
    record { given = ap (put_in υ) k.given; local = ap (λ L. instance L υ) k.local; places = places_put (lift_over D.local υ) D.arguments ∙ k.places }

pub goal_is_input : (first a : ℕ) (m : List Bool) (K : Kind) → MentionChosenOnly nothing m K → IsInputCase m (numbered first (input_goal a m K))
goal_is_input first a m K v = record { given = refl; local = refl; places = places_put (numbering first (input_goal a m K).items).images (input_goal a m K).arguments ∙ goal_places nothing m K v }

pub input_run_is_decided : InputRunIsDecided
input_run_is_decided Σ ok W typed first free below a m K kd v C r c i e =
    let (U, t, q) = clause_is_closed Σ ok W typed c i in
    let b = numbered_run_stays_beside Σ ok W typed first free below _ (closed_is_typed Σ ok U t) (numbered first (input_goal a m K)) (input_goal_is_beside_by_number Σ ok W typed first free a m K kd v U t (q ∙ e)) C r in
    let (T, hT, pT) = beside_has_typed_places Σ ok W typed first free C U t b K (ap Σ.kinds (q ∙ e) ∙ kd) in
    let h = comes_as_input Σ W first below m (numbered first (input_goal a m K)) C (goal_is_input first a m K v) r in
    numbered_head_is_decided Σ ok W typed first free C b.typed c i h.given h.local K (ap Σ.kinds e ∙ kd) (subst (λ b. MentionChosenOnly nothing b K) (sym h.places) v) T hT pT

pub beside_run_is_decided : BesideRunIsDecided
beside_run_is_decided Σ ok W typed first free below p tp f goal b C r own others = beside_is_decided Σ ok W typed first free C p tp f (numbered_run_stays_beside Σ ok W typed first free below p tp goal b C r) own others
