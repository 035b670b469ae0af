-- Where skeletons clash, and where what is written has no completion, no completion is typed.
use Rattle.std.proofs.Common.{◌≡◌, List, Some, sym, ap, ◌∙◌, subst}
use Rattle.lf.specs.Entries.{Entry}
use Rattle.lf_elaboration.specs.Principal.{Completion, IsCompletion, WrittenBody}
use Rattle.lf_elaboration.proofs.Fitted.{completed_fitted}
use Rattle.tw_approx.specs.Answer.{IsClash, IsOfObjects, Rows, frees_of}
use Rattle.tw_approx.specs.Skeletons.{Fits}
use Rattle.tw_approx.specs.Ways.{AreRowsOf}
use Rattle.tw_approx.proofs.Objects.{fits_objects}
use Rattle.tw_approx.proofs.Ways.{not_twice}
use Rattle.tw_parse.specs.Syntax.{Declaration}
use Rattle.tw_resolve.specs.Resolved.{resolved_body, skeletons_of}
use Rattle.tw_resolve.proofs.Fitting.{fits}
use Rattle.tw_resolve.proofs.Reordered.{in_any_order}
use Rattle.tw_recon.specs.Completed.{HasCompletion, IsMismatch}
use Rattle.tw_recon.specs.Reconstruction.{IsWrittenAs}

some_is : {w v : WrittenBody} → Some w ≡ Some v → w ≡ v
some_is e = cc

-- what has a completion fits
pub completion_fits : (es : List Entry) (d : Declaration) (h : HasCompletion es d) → Fits es (frees_of h.rows) h.omitted d
completion_fits es d h = fits es d h.rows h.omitted h.written h.are_rows h.resolved (completed_fitted es (skeletons_of h.rows) h.written h.completion h.completes)

-- so its names are known, and everything is of its level
pub completion_objects : (es : List Entry) (d : Declaration) → HasCompletion es d → IsOfObjects es d
completion_objects es d h = fits_objects es d (frees_of h.rows) h.omitted (completion_fits es d h)

pub clash_mismatch : (es : List Entry) (d : Declaration) → IsOfObjects es d → IsClash es d → IsMismatch es d
clash_mismatch es d o clash = record {
  objects = o;
  not_loose = λ l. clash l.first l.first_omitted l.first_fits;
  none = λ h. clash (frees_of h.rows) h.omitted (completion_fits es d h);
}

module _ (es : List Entry) (d : Declaration) (rows : Rows) (w : WrittenBody) (i : IsWrittenAs es d rows w) where
  are_rows : AreRowsOf es d rows
  are_rows = record { row_is_free = i.skeletons.row_is_free; free_has_row = i.skeletons.free_has_row; distinct = i.skeletons.distinct }

  -- a completion is one of what is written so
  pub completion_of : HasCompletion es d → (c : Completion) × IsCompletion es (skeletons_of rows) w c
  completion_of h =
      let same = i.skeletons.only (frees_of h.rows) h.omitted (completion_fits es d h) in
      let (v, c, e, g) = in_any_order es d h.rows rows h.omitted h.written h.completion h.are_rows are_rows same.frees h.resolved h.completes in
      let p : v ≡ w = some_is (sym e ∙ ap (λ o. resolved_body es rows o d) same.omitted ∙ i.resolved) in
      (c, subst (λ z. IsCompletion es (skeletons_of rows) z c) p g)

  pub written_mismatch : ((c : Completion) → IsCompletion es (skeletons_of rows) w c → ⊥) → IsMismatch es d
  written_mismatch none = record {
    objects = i.objects;
    not_loose = not_twice es d rows i.omitted i.skeletons;
    none = λ h. let (c, g) = completion_of h in none c g;
  }
