use Rattle.std.proofs.Common.{◌<◌, arith, sym, subst, rules}
use Rattle.tw_terms.specs.OpenView.{open_term_of, open_type_of}
use Rattle.tw_terms.proofs.OpenViews.{open_spine_of-roll}
use Rattle.tw_terms.specs.declared.open_terms.OpenSpine.{roll-OpenSpine}
use Rattle.tw_terms.specs.OpenView.{open_spine_of}
use Rattle.tw_elaborate.specs.View.{made}
use Rattle.tw_elaborate.proofs.Taking.{TakesBefore, keeps_same, keeps_then, stands_after, takes_deep, takes_end, takes_start, takes_step}
use Rattle.tw_hered.specs.declared.fault.HeredFault.TheVariants.{TooDeep}
use Rattle.tw_open.proofs.DeepKinds.{fault_of_call}
use Rattle.tw_elaborate.proofs.fresh.take_new.Goals as goal

pub loop-init : goal.loop-init
loop-init c =
    let D = c.args.state.now.locals in
    let A = open_type_of c.args.ty in
    let s = made c.args.state.now in
    record {
      stands = c.requires;
      keeps = keeps_same c.args.state.now;
      so_far = subst (TakesBefore c.args.count D A s 0 A s) (sym c.new-args.ensures.items) (takes_start c.args.count D A s);
    }

pub returns-in_err-arg-clause-keeps : goal.returns-in_err-arg-clause-keeps
returns-in_err-arg-clause-keeps c = keeps_then c.args.state.now c.loop.state c.take_one.new.state c.loop.invariant.keeps c.in_err-arg.ensures.keeps

pub returns-in_err-push_argument-clause-keeps : goal.returns-in_err-push_argument-clause-keeps
returns-in_err-push_argument-clause-keeps c = keeps_then c.args.state.now c.loop.state c.take_one.new.state c.loop.invariant.keeps c.in_ok-arg.ensures.keeps

pub loop-preserved : goal.loop-preserved
loop-preserved c =
    let X = open_type_of c.loop.rest in
    let Y = open_type_of c.in_ok-arg.range in
    let h : c.loop.counter < c.args.count = omega arith in
    record {
      stands = stands_after X Y (open_term_of c.in_ok-arg.arg) c.loop.state c.take_one.new.state c.in_ok-arg.ensures.keeps c.in_ok-arg.ensures.ok c.loop.invariant.stands;
      keeps = keeps_then c.args.state.now c.loop.state c.take_one.new.state c.loop.invariant.keeps c.in_ok-arg.ensures.keeps;
      so_far = takes_step c.args.count c.loop.counter c.args.state.now.locals (open_type_of c.args.ty) X Y (made c.args.state.now) c.loop.args.items c.push_argument.new.args.items c.in_ok-arg.arg c.loop.state c.take_one.new.state h c.loop.invariant.keeps.locals c.in_ok-push_argument.ensures c.in_ok-arg.ensures.ok c.loop.invariant.so_far;
    }

pub returns-clause-ok : goal.returns-clause-ok
returns-clause-ok c = takes_end c.args.count c.loop.counter c.args.state.now.locals (open_type_of c.args.ty) (open_type_of c.loop.rest) (made c.args.state.now) (made c.loop.state) c.loop.args.items (open_spine_of (roll-OpenSpine (record { args = c.loop.args }))) (omega arith) (open_spine_of-roll c.loop.args) c.loop.invariant.so_far

pub returns-in_err-arg-clause-too_deep : goal.returns-in_err-arg-clause-too_deep
returns-in_err-arg-clause-too_deep c = λ is.
    let h : c.loop.counter < c.args.count = omega arith in
    takes_deep c.args.count c.loop.counter c.args.state.now.locals (open_type_of c.args.ty) (open_type_of c.loop.rest) (made c.args.state.now) c.loop.args.items c.loop.state h c.loop.invariant.keeps.locals
    (c.in_err-arg.ensures.too_deep (fault_of_call c.from_residual.result c.in_err-arg.field-0.0 TooDeep (search rules) is)) c.loop.invariant.so_far
