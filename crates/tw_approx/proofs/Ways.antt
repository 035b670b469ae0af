-- The ways in which a declaration fits exclude one another.
use Rattle.std.proofs.Common.{List, sym, ◌∙◌}
use Rattle.lf.specs.Entries.{Entry}
use Rattle.lf.specs.Syntax.{Skeleton}
use Rattle.tw_approx.specs.Answer.{HasSkeletons, IsLoose, Rows, frees_of}
use Rattle.tw_approx.specs.Ways.{WaysExcludeOneAnother}
use Rattle.tw_parse.specs.Syntax.{Declaration}

pub not_twice : (es : List Entry) (d : Declaration) (rows : Rows) (o : List Skeleton) → HasSkeletons es d rows o → IsLoose es d → ⊥
not_twice es d rows o once h =
    let p = once.only h.first h.first_omitted h.first_fits in
    let q = once.only h.second h.second_omitted h.second_fits in
    h.differ (record { frees = λ x i. p.frees x i ∙ sym (q.frees x i); omitted = p.omitted ∙ sym q.omitted })

pub ways_exclude : WaysExcludeOneAnother
ways_exclude es d rows o = (not_twice es d rows o, λ once never. never (frees_of rows) o once.fits, λ twice never. never twice.first twice.first_omitted twice.first_fits)
