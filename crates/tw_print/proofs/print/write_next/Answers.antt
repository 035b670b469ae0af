use Rattle.std.proofs.Common.{◌∷◌, [], refl, sym, subst}
use Rattle.lf.specs.Entries.{signature_of}
use Rattle.tw_print.specs.Due.{AllFit, Goes, stacked}
use Rattle.tw_print.specs.Page.{Writes}
use Rattle.tw_print.specs.Pieces.{token}
use Rattle.tw_print.specs.SceneView.{scene_in}
use Rattle.tw_print.specs.declared.due.Due.{Due}
use Rattle.tw_print.proofs.Dues.{goes_arm, goes_begun, goes_in, goes_out}
use Rattle.tw_print.proofs.Printing.{on_ok}
use Rattle.tw_print.proofs.print.write_next.Goals as goal

pub returns-in-Word : goal.returns-in-Word
returns-in-Word c =
    on_ok c.token.result _ _
    (λ w. goes_arm (scene_in c.args.scene.now) c.args.page.now c.token.new.self c.args.next _ _ (stacked c.args.due.now.items) c.in-Word.is (λ f. f) refl refl refl c.requires.fits c.requires.context (subst (λ t. Writes c.args.page.now c.token.new.self (token t ∷ [])) c.deref.ensures.value w))
    c.token.ensures

pub returns-in-Opening : goal.returns-in-Opening
returns-in-Opening c =
    on_ok c.token-in-Opening.result _ _
    (goes_arm (scene_in c.args.scene.now) c.args.page.now c.token-in-Opening.new.self c.args.next _ _ (stacked c.args.due.now.items) c.in-Opening.is (λ f. f) refl refl refl c.requires.fits c.requires.context)
    c.token-in-Opening.ensures

pub returns-in-Closing : goal.returns-in-Closing
returns-in-Closing c =
    on_ok c.token-in-Closing.result _ _
    (goes_arm (scene_in c.args.scene.now) c.args.page.now c.token-in-Closing.new.self c.args.next _ _ (stacked c.args.due.now.items) c.in-Closing.is (λ f. f) refl refl refl c.requires.fits c.requires.context)
    c.token-in-Closing.ensures

pub returns-in-Space : goal.returns-in-Space
returns-in-Space c =
    on_ok c.space.result _ _
    (goes_arm (scene_in c.args.scene.now) c.args.page.now c.space.new.self c.args.next _ _ (stacked c.args.due.now.items) c.in-Space.is (λ f. f) refl refl refl c.requires.fits c.requires.context)
    c.space.ensures

pub returns-in-Arrow : goal.returns-in-Arrow
returns-in-Arrow c =
    on_ok c.arrow.result _ _
    (goes_arm (scene_in c.args.scene.now) c.args.page.now c.arrow.new.self c.args.next _ _ (stacked c.args.due.now.items) c.in-Arrow.is (λ f. f) refl refl refl c.requires.fits c.requires.context)
    c.arrow.ensures

pub returns-in-Bracket : goal.returns-in-Bracket
returns-in-Bracket c =
    on_ok c.close.result _ _
    (goes_arm (scene_in c.args.scene.now) c.args.page.now c.close.new.self c.args.next _ _ (stacked c.args.due.now.items) c.in-Bracket.is (λ f. f) refl refl refl c.requires.fits c.requires.context)
    c.close.ensures

pub returns-in-Brace : goal.returns-in-Brace
returns-in-Brace c =
    on_ok c.close-in-Brace.result _ _
    (goes_arm (scene_in c.args.scene.now) c.args.page.now c.close-in-Brace.new.self c.args.next _ _ (stacked c.args.due.now.items) c.in-Brace.is (λ f. f) refl refl refl c.requires.fits c.requires.context)
    c.close-in-Brace.ensures

pub returns-in-Enter : goal.returns-in-Enter
returns-in-Enter c =
    let s = scene_in c.args.scene.now in
    let old = stacked c.args.due.now.items in
    let p = c.args.page.now in
    on_ok c.enter.result _ _
    (λ b. subst (λ d. Goes s p c.enter.new.self (d ∷ old) old) (sym c.in-Enter.is) (goes_in s p c.enter.new.self c.in-Enter.ty c.in-Enter.name old b (subst (λ d. AllFit (signature_of s.entries) p.context (d ∷ old)) c.in-Enter.is c.requires.fits) c.requires.context))
    c.enter.ensures

pub returns-in-Leave : goal.returns-in-Leave
returns-in-Leave c =
    let s = scene_in c.args.scene.now in
    let old = stacked c.args.due.now.items in
    let p = c.args.page.now in
    subst (λ d. Goes s p c.leave.new.self (d ∷ old) old) (sym c.in-Leave.is) (goes_out s p c.leave.new.self old c.leave.ensures.out c.leave.ensures.context c.leave.ensures.scope (subst (λ d. AllFit (signature_of s.entries) p.context (d ∷ old)) c.in-Leave.is c.requires.fits) c.requires.context)

pub begin_term-requires-clause-typed : goal.begin_term-requires-clause-typed
begin_term-requires-clause-typed c = (subst (λ d. AllFit (signature_of (scene_in c.args.scene.now).entries) c.args.page.now.context (d ∷ stacked c.args.due.now.items)) c.in-Term.is c.requires.fits).0

pub begin_term-requires-clause-fits : goal.begin_term-requires-clause-fits
begin_term-requires-clause-fits c = (subst (λ d. AllFit (signature_of (scene_in c.args.scene.now).entries) c.args.page.now.context (d ∷ stacked c.args.due.now.items)) c.in-Term.is c.requires.fits).1

pub returns-in-Term : goal.returns-in-Term
returns-in-Term c =
    let s = scene_in c.args.scene.now in
    let old = stacked c.args.due.now.items in
    let p = c.args.page.now in
    on_ok c.begin_term.result _ _
    (λ b. subst (λ d. Goes s p c.begin_term.new.page (d ∷ old) (stacked c.begin_term.new.due.items)) (sym c.in-Term.is) (goes_begun s p c.begin_term.new.page (Due.Term c.in-Term.term c.in-Term.ty c.in-Term.levels) _ old (stacked c.begin_term.new.due.items) b refl refl refl c.requires.context))
    c.begin_term.ensures

pub begin_type-requires-clause-typed : goal.begin_type-requires-clause-typed
begin_type-requires-clause-typed c = (subst (λ d. AllFit (signature_of (scene_in c.args.scene.now).entries) c.args.page.now.context (d ∷ stacked c.args.due.now.items)) c.in-Type.is c.requires.fits).0

pub begin_type-requires-clause-marked : goal.begin_type-requires-clause-marked
begin_type-requires-clause-marked c = (subst (λ d. AllFit (signature_of (scene_in c.args.scene.now).entries) c.args.page.now.context (d ∷ stacked c.args.due.now.items)) c.in-Type.is c.requires.fits).1

pub begin_type-requires-clause-fits : goal.begin_type-requires-clause-fits
begin_type-requires-clause-fits c = (subst (λ d. AllFit (signature_of (scene_in c.args.scene.now).entries) c.args.page.now.context (d ∷ stacked c.args.due.now.items)) c.in-Type.is c.requires.fits).2

pub returns-in-Type : goal.returns-in-Type
returns-in-Type c =
    let s = scene_in c.args.scene.now in
    let old = stacked c.args.due.now.items in
    let p = c.args.page.now in
    on_ok c.begin_type.result _ _
    (λ b. subst (λ d. Goes s p c.begin_type.new.page (d ∷ old) (stacked c.begin_type.new.due.items)) (sym c.in-Type.is) (goes_begun s p c.begin_type.new.page (Due.Type c.in-Type.ty c.in-Type.marks c.in-Type.levels) _ old (stacked c.begin_type.new.due.items) b refl refl refl c.requires.context))
    c.begin_type.ensures
