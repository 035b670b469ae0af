use Rattle.std.proofs.Common.{[], ◌++◌, ap, ◌∙◌, sym}
use Rattle.tw_recon.specs.Names.{add_some}
use Rattle.tw_recon.proofs.Naming.{shown_next}
use Rattle.tw_recon.proofs.names.shown.Goals as goal
use Rattle.tw_recon.proofs.names.shown.Goals.{in-Some+in_ok-push, in_default}
use Rattle.std.proofs.lemmas.List.{append-nil}

pub loop-meta-preserved : goal.loop-meta-preserved
loop-meta-preserved c =
    elim c.match-variable.branch [
      | in-Some+in_ok-push w ↦
          shown_next c.args.quantifiers.now c.args.metas.now c.loop-meta.meta-index c.loop-meta.shown.items c.match-variable.shown.items c.loop-meta-test.true c.loop-meta.invariant
          (ap (λ v. v.items) w.shown-is ∙ w.in_ok-push.ensures.items ∙ ap (λ o. c.loop-meta.shown.items ++ add_some o []) w.in-Some.ensures)
      | in_default w ↦
          shown_next c.args.quantifiers.now c.args.metas.now c.loop-meta.meta-index c.loop-meta.shown.items c.match-variable.shown.items c.loop-meta-test.true c.loop-meta.invariant
          (ap (λ v. v.items) w.shown-is ∙ sym (append-nil c.loop-meta.shown.items) ∙ ap (λ o. c.loop-meta.shown.items ++ add_some o []) w.in_default.ensures)
    ]
