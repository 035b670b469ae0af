use Rattle.std.proofs.Common.{map, subst, ◌∙◌, rules}
use Rattle.lf_elaboration.specs.Elaboration.{NewFrees}
use Rattle.lf_elaboration.specs.PrincipalLaws.{ElaboratesBody}
use Rattle.tw_written.specs.View.{written_body_of}
use Rattle.tw_elaborate.specs.Bodies.{open_body_of}
use Rattle.tw_terms.specs.View.{skeleton_of}
use Rattle.tw_metas.specs.State.{empty_story}
use Rattle.tw_open.specs.Fresh.{OnlyDeclares}
use Rattle.tw_elaborate.specs.View.{made, numbers_of}
use Rattle.tw_elaborate.proofs.Bodying.{frees_stand, nothing_stands}
use Rattle.tw_open.proofs.NewTerms.{declares_then}
use Rattle.tw_elaborate.proofs.Unbound.{only_declared_unbound}
use Rattle.tw_elaborate.specs.Bodies.{BodyDeep, deep_behind_frees, deep_frees}
use Rattle.tw_elaborate.specs.NewDeep.{NewFreesDeep}
use Rattle.tw_hered.specs.declared.fault.HeredFault.TheVariants.{TooDeep}
use Rattle.tw_open.proofs.DeepKinds.{fault_of_call}
use Rattle.tw_elaborate.proofs.bodies.elaborate.Goals as goal

pub elaborate_body-requires-clause-stands : goal.elaborate_body-requires-clause-stands
elaborate_body-requires-clause-stands c =
    let a = c.new-state.result in
    let b = c.new_frees.new.state in
    frees_stand c.args.signature.now c.requires (map skeleton_of c.args.skeletons.now) (numbers_of c.in_ok-frees.frees.items) (made a) (made b) a.locals b.locals c.new-state.ensures.locals c.in_ok-frees.ensures.keeps.locals c.in_ok-frees.ensures.ok
    (nothing_stands c.args.signature.now c.requires (made a) a.locals c.new-state.ensures.made c.new-state.ensures.locals)

pub returns-clause-ok : goal.returns-clause-ok
returns-clause-ok c =
    let kept : OnlyDeclares empty_story c.elaborate_body.new.state.store = subst (λ x. OnlyDeclares x c.elaborate_body.new.state.store) c.new-state.ensures.store (declares_then c.in_ok-frees.ensures.keeps.store c.in_ok-body.ensures.keeps.store) in
    record {
      with_frees = made c.new_frees.new.state;
      frees_made = subst (λ s. NewFrees c.args.signature.now (map skeleton_of c.args.skeletons.now) s (made c.new_frees.new.state) (numbers_of c.in_ok-frees.frees.items)) c.new-state.ensures.made c.in_ok-frees.ensures.ok;
      body_made = subst (λ ms. ElaboratesBody c.args.signature.now (numbers_of ms) (written_body_of c.args.body.now) (made c.new_frees.new.state) (made c.elaborate_body.new.state) (open_body_of c.in_ok-body.body)) c.deref.ensures.value c.in_ok-body.ensures.ok;
      no_locals = c.in_ok-body.ensures.keeps.locals ∙ c.in_ok-frees.ensures.keeps.locals ∙ c.new-state.ensures.locals;
      store = kept;
      unbound = only_declared_unbound kept;
    }

pub returns-in_err-frees-clause-too_deep : goal.returns-in_err-frees-clause-too_deep
returns-in_err-frees-clause-too_deep c = λ is.
    let h = c.in_err-frees.ensures.too_deep (fault_of_call c.from_residual.result c.in_err-frees.field-0.0 TooDeep (search rules) is) in
    deep_frees (subst (NewFreesDeep c.args.signature.now (map skeleton_of c.args.skeletons.now)) c.new-state.ensures.made h)

pub returns-in_err-body-clause-too_deep : goal.returns-in_err-body-clause-too_deep
returns-in_err-body-clause-too_deep c = λ is.
    let h = c.in_err-body.ensures.too_deep (fault_of_call c.from_residual-in_err-body.result c.in_err-body.field-0.0 TooDeep (search rules) is) in
    deep_behind_frees (subst (λ s. NewFrees c.args.signature.now (map skeleton_of c.args.skeletons.now) s (made c.new_frees.new.state) (numbers_of c.in_ok-frees.frees.items)) c.new-state.ensures.made c.in_ok-frees.ensures.ok)
    (subst (λ ms. BodyDeep c.args.signature.now (numbers_of ms) (written_body_of c.args.body.now) (made c.new_frees.new.state)) c.deref.ensures.value h)
