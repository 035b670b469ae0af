use Rattle.std.proofs.Common.{◌≡◌, ap, sym, subst, ◌∙◌, rules}
use Rattle.lf.specs.Syntax.{star}
use Rattle.tw_terms.specs.OpenView.{open_spine_of, open_term_of}
use Rattle.tw_terms.proofs.OpenViews.{open_spine_of-roll}
use Rattle.tw_terms.specs.declared.open_terms.OpenSpine.{roll-OpenSpine}
use Rattle.tw_open.specs.View.{open_kind_of}
use Rattle.tw_elaborate.specs.View.{made}
use Rattle.tw_open.proofs.Views.{open_kind_of-Star}
use Rattle.tw_elaborate.proofs.Taking.{TakesAllBefore, keeps_same, keeps_then, kind_stands_after, takes_all_deep, takes_all_end, takes_all_start, takes_all_step}
use Rattle.tw_hered.specs.declared.fault.HeredFault.TheVariants.{TooDeep}
use Rattle.tw_open.proofs.DeepKinds.{fault_of_call}
use Rattle.tw_elaborate.proofs.fresh.take_all_new.Goals as goal

pub loop-init : goal.loop-init
loop-init c =
    let D = c.args.state.now.locals in
    let K = open_kind_of c.args.kind in
    let s = made c.args.state.now in
    record {
      stands = c.requires;
      keeps = keeps_same c.args.state.now;
      so_far = subst (TakesAllBefore D K s K s) (sym c.new-args.ensures.items) (takes_all_start D K s);
    }

pub loop-preserved : goal.loop-preserved
loop-preserved c =
    let X = open_kind_of c.loop.rest in
    let Y = open_kind_of c.in_ok-arg-in-Pi.range in
    record {
      stands = kind_stands_after X Y (open_term_of c.in_ok-arg-in-Pi.arg) c.loop.state c.kind_take_one.new.state c.in_ok-arg-in-Pi.ensures.keeps c.in_ok-arg-in-Pi.ensures.ok c.loop.invariant.stands;
      keeps = keeps_then c.args.state.now c.loop.state c.kind_take_one.new.state c.loop.invariant.keeps c.in_ok-arg-in-Pi.ensures.keeps;
      so_far = takes_all_step c.args.state.now.locals (open_kind_of c.args.kind) X Y (made c.args.state.now) c.loop.args.items c.push_argument.new.args.items c.in_ok-arg-in-Pi.arg c.loop.state c.kind_take_one.new.state c.loop.invariant.keeps.locals c.in_ok-push_argument-in-Pi.ensures c.in_ok-arg-in-Pi.ensures.ok c.loop.invariant.so_far;
    }

pub returns-in-Star-clause-ok : goal.returns-in-Star-clause-ok
returns-in-Star-clause-ok c =
    let e : open_kind_of c.loop.rest ≡ star = ap open_kind_of c.in-Star.is ∙ open_kind_of-Star in
    takes_all_end c.args.state.now.locals (open_kind_of c.args.kind) (open_kind_of c.loop.rest) (made c.args.state.now) (made c.loop.state) c.loop.args.items (open_spine_of (roll-OpenSpine (record { args = c.loop.args }))) e (open_spine_of-roll c.loop.args) c.loop.invariant.so_far

pub returns-in_err-arg-in-Pi-clause-keeps : goal.returns-in_err-arg-in-Pi-clause-keeps
returns-in_err-arg-in-Pi-clause-keeps c = keeps_then c.args.state.now c.loop.state c.kind_take_one.new.state c.loop.invariant.keeps c.in_err-arg-in-Pi.ensures.keeps

pub returns-in_err-push_argument-in-Pi-clause-keeps : goal.returns-in_err-push_argument-in-Pi-clause-keeps
returns-in_err-push_argument-in-Pi-clause-keeps c = keeps_then c.args.state.now c.loop.state c.kind_take_one.new.state c.loop.invariant.keeps c.in_ok-arg-in-Pi.ensures.keeps

pub returns-in_err-arg-in-Pi-clause-too_deep : goal.returns-in_err-arg-in-Pi-clause-too_deep
returns-in_err-arg-in-Pi-clause-too_deep c = λ is.
    takes_all_deep c.args.state.now.locals (open_kind_of c.args.kind) (open_kind_of c.loop.rest) (made c.args.state.now) c.loop.args.items c.loop.state c.loop.invariant.keeps.locals
    (c.in_err-arg-in-Pi.ensures.too_deep (fault_of_call c.from_residual.result c.in_err-arg-in-Pi.field-0.0 TooDeep (search rules) is)) c.loop.invariant.so_far
