use Rattle.std.proofs.Common.{Err, length, ap, ap₂, sym, subst, ◌∙◌}
use Rattle.lf_elaboration.specs.Sites.{AreFreesInOrder, AreSites}
use Rattle.tw_approx.specs.Answer.{rows_of}
use Rattle.tw_elaborate.specs.Bodies.{open_body_of}
use Rattle.tw_elaborate.specs.View.{numbers_of}
use Rattle.tw_signature.specs.View.{body_of}
use Rattle.tw_written.specs.View.{written_body_of}
use Rattle.tw_resolve.specs.Resolved.{skeletons_of}
use Rattle.tw_recon.specs.Causes.{Stops}
use Rattle.tw_recon.specs.Names.{AreNames, FreeIsDeep, names_of, variables_of}
use Rattle.tw_recon.specs.NamingView.{naming_of}
use Rattle.tw_recon.proofs.Entering.{body_blamed, completed, names_blamed, quantifiers_blamed, stands}
use Rattle.tw_recon.proofs.completing.read.Goals as goal

pub returns-in-Err-clause-refused : goal.returns-in-Err-clause-refused
returns-in-Err-clause-refused c =
    subst (Stops c.args.signature.now (rows_of c.args.solution.now.rows.items) (written_body_of c.args.solution.now.written)) (sym c.of_reading.ensures)
    (quantifiers_blamed c.args.signature.now c.is_settled.ensures.canonical (rows_of c.args.solution.now.rows.items) (written_body_of c.args.solution.now.written) (numbers_of c.args.solution.now.frees.items) (open_body_of c.args.solution.now.body) c.args.solution.now.store.now c.requires.solved c.in-Err.fault (numbers_of c.deref.result.now)
    (subst (λ x. AreSites c.args.signature.now (skeletons_of (rows_of c.args.solution.now.rows.items)) (written_body_of c.args.solution.now.written) (numbers_of x)) (sym c.deref.ensures.value) c.requires.sites) c.in-Err.ensures)

pub read_body-requires-clause-stands : goal.read_body-requires-clause-stands
read_body-requires-clause-stands c = stands c.args.signature.now c.is_settled.ensures.canonical (rows_of c.args.solution.now.rows.items) (written_body_of c.args.solution.now.written) (numbers_of c.args.solution.now.frees.items) (open_body_of c.args.solution.now.body) c.args.solution.now.store.now c.requires.solved

pub returns-in-Err-read_body-clause-refused : goal.returns-in-Err-read_body-clause-refused
returns-in-Err-read_body-clause-refused c =
    subst (Stops c.args.signature.now (rows_of c.args.solution.now.rows.items) (written_body_of c.args.solution.now.written)) (sym c.of_reading-in-Err-read_body.ensures)
    (body_blamed c.args.signature.now c.is_settled.ensures.canonical (rows_of c.args.solution.now.rows.items) (written_body_of c.args.solution.now.written) (numbers_of c.args.solution.now.frees.items) (open_body_of c.args.solution.now.body) c.args.solution.now.store.now c.requires.solved c.in-Err-read_body.fault (λ e. c.in-Err-read_body.ensures.too_deep (ap Err e)))

pub returns-in-Err-names-clause-refused : goal.returns-in-Err-names-clause-refused
returns-in-Err-names-clause-refused c =
    subst (Stops c.args.signature.now (rows_of c.args.solution.now.rows.items) (written_body_of c.args.solution.now.written)) (sym c.of_reading-in-Err-names.ensures)
    (names_blamed c.args.signature.now c.is_settled.ensures.canonical (rows_of c.args.solution.now.rows.items) (written_body_of c.args.solution.now.written) (numbers_of c.args.solution.now.frees.items) (open_body_of c.args.solution.now.body) c.args.solution.now.store.now c.requires.solved c.in-Err-names.fault (λ e. subst (λ ms. FreeIsDeep c.args.solution.now.store.now (numbers_of ms)) c.deref-3.ensures.value (c.in-Err-names.ensures.too_deep (ap Err e))))

pub returns-clause-completed : goal.returns-clause-completed
returns-clause-completed c =
    let rows = rows_of c.args.solution.now.rows.items in
    let w = written_body_of c.args.solution.now.written in
    let after = c.args.solution.now.store.now in
    let N = naming_of c.in-Ok-names.naming in
    completed c.args.signature.now c.is_settled.ensures.canonical (rows_of c.args.solution.now.rows.items) (written_body_of c.args.solution.now.written) (numbers_of c.args.solution.now.frees.items) (open_body_of c.args.solution.now.body) c.args.solution.now.store.now c.requires.solved
    (numbers_of c.deref.result.now) c.in-Ok.quantifiers.positions c.deref-4.result.now N c.in_ok-hints.hints.items c.in_ok-shown.shown.items c.in-Ok.quantifiers.context (body_of c.in-Ok-read_body.body)
    (subst (λ x. AreSites c.args.signature.now (skeletons_of rows) w (numbers_of x)) (sym c.deref.ensures.value) c.requires.sites)
    (subst (λ x. AreFreesInOrder w (length rows) x) (sym c.deref-4.ensures.value) c.requires.in_order)
    c.in-Ok.ensures c.in-Ok-read_body.ensures.read
    (subst (λ x. AreNames after (numbers_of x) rows c.deref-4.result.now N) c.deref-3.ensures.value (subst (λ x. AreNames after (numbers_of c.deref-3.result.now) (rows_of x) c.deref-4.result.now N) c.deref-2.ensures.value c.in-Ok-names.ensures.named))
    (c.in_ok-hints.ensures ∙ ap₂ names_of c.deref-5.ensures.value c.metas.ensures)
    (c.in_ok-shown.ensures ∙ ap (λ x. variables_of c.in-Ok.quantifiers.positions (numbers_of x)) c.deref-6.ensures.value)
