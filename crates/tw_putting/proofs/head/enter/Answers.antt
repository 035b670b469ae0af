use Rattle.std.proofs.Common.{◌≡◌, ◌+◌, drop, refl, arith}
use Rattle.lf.specs.Syntax.{lambda, app, arrow, nil, skeleton}
use Rattle.lf_closures.specs.Environments.{extended, move_by}
use Rattle.tw_terms.specs.OpenView.{open_term_of, open_args_of, open_type_of}
use Rattle.tw_putting.specs.View.{environment_of}
use Rattle.tw_putting.proofs.Environments.{environments}
use Rattle.tw_putting.proofs.Frames.{applies_at_first, applies_at_last, applies_next, takes_next}
use Rattle.tw_putting.proofs.head.enter.Goals as goal

pub loop-arg-init : goal.loop-arg-init
loop-arg-init c = record {
  takes = c.requires;
  same = applies_at_first (skeleton (open_type_of c.args.closure.ty.now)) (open_term_of c.args.closure.term.now) (move_by c.args.closure.binders (environment_of c.args.closure.scope.now)) (open_args_of c.args.args.now) (environment_of c.args.scope.now) (environment_of c.in_ok-environment.environment.now) (open_args_of c.args.args.now) c.in_ok-environment.ensures refl;
}

pub loop-arg-preserved : goal.loop-arg-preserved
loop-arg-preserved c =
    let t : skeleton (open_type_of c.loop-arg.rest.now) ≡ arrow (skeleton (open_type_of c.in-Pi.domain.value)) (skeleton (open_type_of c.deref-rest.result.now)) = grind (arith, environments) in
    let n : open_term_of c.loop-arg.body.now ≡ lambda (open_term_of c.deref-body.result.now) = grind (arith, environments) in
    let s : open_args_of (drop c.loop-arg.arg-index c.args.args.now) ≡ app (open_term_of c.arg-item.result) (open_args_of (drop (c.loop-arg.arg-index + 1) c.args.args.now)) = grind (arith, environments) in
    let e : environment_of c.in_ok-environment-in-Lam.environment.now ≡ extended (skeleton (open_type_of c.in-Pi.domain.value)) (open_term_of c.arg-item.result) (environment_of c.args.scope.now) (environment_of c.loop-arg.environment.now) = grind (arith, environments) in
    record {
      takes = takes_next (skeleton (open_type_of c.loop-arg.rest.now)) (skeleton (open_type_of c.in-Pi.domain.value)) (skeleton (open_type_of c.deref-rest.result.now)) (open_term_of c.loop-arg.body.now) (open_term_of c.deref-body.result.now) (open_term_of c.arg-item.result) (open_args_of (drop c.loop-arg.arg-index c.args.args.now)) (open_args_of (drop (c.loop-arg.arg-index + 1) c.args.args.now)) t n s c.loop-arg.invariant.takes;
      same = applies_next (skeleton (open_type_of c.args.closure.ty.now)) (open_term_of c.args.closure.term.now) (move_by c.args.closure.binders (environment_of c.args.closure.scope.now)) (open_args_of c.args.args.now) (environment_of c.args.scope.now) (skeleton (open_type_of c.loop-arg.rest.now)) (skeleton (open_type_of c.in-Pi.domain.value)) (skeleton (open_type_of c.deref-rest.result.now)) (open_term_of c.loop-arg.body.now) (open_term_of c.deref-body.result.now) (open_term_of c.arg-item.result) (environment_of c.loop-arg.environment.now) (environment_of c.in_ok-environment-in-Lam.environment.now) (open_args_of (drop c.loop-arg.arg-index c.args.args.now)) (open_args_of (drop (c.loop-arg.arg-index + 1) c.args.args.now)) t n s e c.loop-arg.invariant.same;
    }

pub returns : goal.returns
returns c =
    let n : open_args_of (drop c.loop-arg.arg-index c.args.args.now) ≡ nil = grind (arith, environments) in
    applies_at_last (skeleton (open_type_of c.args.closure.ty.now)) (open_term_of c.args.closure.term.now) (move_by c.args.closure.binders (environment_of c.args.closure.scope.now)) (open_args_of c.args.args.now) (environment_of c.args.scope.now) (skeleton (open_type_of c.loop-arg.rest.now)) (open_term_of c.loop-arg.body.now) (environment_of c.loop-arg.environment.now) (open_args_of (drop c.loop-arg.arg-index c.args.args.now)) n c.loop-arg.invariant.same
