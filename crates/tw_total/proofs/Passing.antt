-- What the checks answer of a group is what is asked of it.
use Rattle.std.proofs.Common.{◌≡◌, ℕ, List, Bool, inl, inr, subst}
use Rattle.lf.specs.Entries.{Entry, signature_of}
use Rattle.lf.specs.Subordination.{Block, IsBelowTest}
use Rattle.lf.specs.Variables.{target}
use Rattle.lf_checks.specs.ModeRows.{ModeRow, is_moded, marks_of}
use Rattle.lf_checks.specs.Modes.{WellModed}
use Rattle.lf_checks.specs.Worlded.{BlocksServe}
use Rattle.lf_checks.specs.WorldFaults.{CalleeIsServed, ClauseIsWorlded, WorldRow}
use Rattle.lf_checks.proofs.Joined.{group_passes}
use Rattle.lf_checks.proofs.OneFault.{descending_group}
use Rattle.lf_totality.specs.Checks.{MayBeCalled}
use Rattle.lf_totality.specs.Group.{Checked}
use Rattle.tw_total.specs.Answers.{AnswersPass, IsTotalOrOfGroup}
use Rattle.tw_total.specs.View.{families_of, order_for}

-- a callee that is total or of the group, and served, may be called
may_be_called : (es : List Entry) (group : List ℕ) (modes : List ModeRow) (rows : List WorldRow) (W : List Block) (totals : List Checked) (V : List Block) (below : ℕ → ℕ → Bool) → ((f : ℕ) → IsBelowTest (signature_of es) V (below f) f) → (b : ℕ) → IsTotalOrOfGroup group modes rows totals b → CalleeIsServed rows group below W b → MayBeCalled (signature_of es) group (marks_of modes) W totals V b
may_be_called es group modes rows W totals V below s b (inl m) k = inl m
may_be_called es group modes rows W totals V below s b (inr (Q, m, f, e, w)) (inl k) = inl k
may_be_called es group modes rows W totals V below s b (inr (Q, m, f, e, w)) (inr (inl n)) = absurd cc
may_be_called es group modes rows W totals V below s b (inr (Q, m, f, e, w)) (inr (inr (X, x, r))) =
    let same : X ≡ Q.worlds = cc in inr (Q, m, f, e, (below b, s b, subst (λ (Y : List Block). BlocksServe W Y (below b)) same r))

pub answers_pass : AnswersPass
answers_pass es group modes rows W totals V below a =
    let fs = families_of group in
    let worlded = (group_passes (ClauseIsWorlded (signature_of es) rows fs below W) es W fs).0 a.worlds_checked in
    record {
      marked = a.marked;
      blocks_typed = a.blocks_typed;
      same_before = a.same_before;
      orders_at_inputs = a.orders_at_inputs;
      group_moded = a.moded;
      well_moded = (group_passes (WellModed (signature_of es) (marks_of modes) (is_moded modes)) es W fs).0 a.modes_checked.moded;
      well_worlded = λ c k m i A s. (worlded c k m i A s).0;
      blocks_looked_at = a.blocks_looked_at;
      callees = λ c k m i A s. may_be_called es fs modes rows W totals V below a.subordination (target A) (a.callees c k m i A s) (worlded c k m i A s).1;
      descending = (descending_group es W (order_for group) fs).0 a.orders_checked;
      covered_inputs = a.covered_inputs;
      covered_outputs = a.covered_outputs;
    }
