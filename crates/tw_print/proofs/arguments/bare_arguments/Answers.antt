use Rattle.std.proofs.Common.{refl, arith}
use Rattle.tw_terms.specs.View.{args_of, term_of}
use Rattle.tw_print.specs.Arguments as spec
use Rattle.tw_print.proofs.Collecting.{bare_all, bare_begun, bare_step, popped_terms}
use Rattle.tw_print.proofs.arguments.bare_arguments.Goals as goal

pub loop-term-init : goal.loop-term-init
loop-term-init c = bare_begun c.in_ok-arguments.arguments.items c.reverse.new.self.items c.args.args.items c.in_ok-arguments.ensures.items c.reverse.ensures.items

pub loop-term-preserved : goal.loop-term-preserved
loop-term-preserved c =
    bare_step c.loop-term.arguments.items c.push.new.self.items _ _ _ (term_of c.in-Some.term) (spec.bare_arguments (args_of c.args.args.items))
    (popped_terms c.loop-term.rest.items c.pop.new.self.items c.in-Some.term c.in-Some.ensures.items) c.in_ok-push.ensures.items refl c.loop-term.invariant

pub returns : goal.returns
returns c = bare_all c.loop-term.arguments.items c.loop-term.rest.items (spec.bare_arguments (args_of c.args.args.items)) (omega (arith, c.in_default.ensures.cases)) c.loop-term.invariant
