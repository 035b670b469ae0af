use Rattle.std.proofs.Common.{◌≡◌, ◌+◌, [], ◌∷◌, ap, drop, map, refl, reverse, arith, ◌∙◌}
use Rattle.lf.specs.Syntax.{kind_pi}
use Rattle.lf_unification.specs.Lists.{followed}
use Rattle.tw_metas.specs.View.{equation_of}
use Rattle.tw_terms.specs.OpenView.{open_args_of, open_term_of}
use Rattle.tw_terms.specs.View.{kind_of, type_of}
use Rattle.tw_open.specs.Indices.{TakesBoth}
use Rattle.tw_open.specs.declared.indices.Wanted.TheVariants.{Every}
use Rattle.tw_open.proofs.Arguments.{arguments_from, left_ends, no_arguments_from, one_equation_more, pushed_equation}
use Rattle.tw_open.proofs.PlainKinds.{plain_range, popped, takes_plain}
use Rattle.tw_open.proofs.Steps.{steps}
use Rattle.tw_open.proofs.plain.plain_equations.Goals as goal

pub loop-arg-preserved : goal.loop-arg-preserved
loop-arg-preserved c =
    let ts = c.deref-arg-items.result.now in
    let i = c.loop-arg.arg-index in
    let us = c.loop-arg.others.items in
    let vs = c.pop.new.self.items in
    let D = c.args.locals.now in
    let K = kind_of c.loop-arg.rest.now in
    let L = kind_of c.deref-rest.result.now in
    let A = type_of c.deref.result.now in
    let M = open_term_of c.arg-item.result in
    let N = open_term_of c.in-Some.other in
    let old = c.loop-arg.found.items in
    let new = c.push.new.self.items in
    let d = c.in_ok-equation-in-Some.equation in
    let k : K ≡ kind_pi A L = grind (arith, steps) in
    let lefts = arguments_from ts ts i c.arg-item.result refl c.loop-arg-test.true c.arg-item.is in
    let rights = popped us vs c.in-Some.other c.in-Some.ensures.items in
    let added = pushed_equation old new d c.in_ok-push-in-Some.ensures.items ∙ ap (λ q. followed (map equation_of old) (q ∷ [])) c.in_ok-equation-in-Some.ensures in
    let o : TakesBoth Every D K M N L (map equation_of old) (map equation_of new) = takes_plain D K L A M N (map equation_of old) (map equation_of new) k c.loop-arg.invariant.plain added in
    record {
      plain = plain_range K L A k c.loop-arg.invariant.plain;
      so_far = one_equation_more Every D K L M N (open_args_of (drop (i + 1) ts)) (open_args_of (reverse vs)) (open_args_of (drop i ts)) (open_args_of (reverse us)) (map equation_of old) (map equation_of new) _ lefts rights o c.loop-arg.invariant.so_far;
    }

pub returns : goal.returns
returns c =
    let ts = c.deref-arg-items.result.now in
    let i = c.loop-arg.arg-index in
    left_ends Every c.args.locals.now (kind_of c.loop-arg.rest.now) (open_args_of (drop i ts)) (open_args_of (reverse c.loop-arg.others.items)) (map equation_of c.loop-arg.found.items) _ (no_arguments_from ts i c.loop-arg-test.false) c.loop-arg.invariant.so_far
