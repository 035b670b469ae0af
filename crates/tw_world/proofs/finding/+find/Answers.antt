use Rattle.std.proofs.Common.{drop, ◌≡◌, ◌∙◌, ap, sym, arith}
use Rattle.lf.specs.Syntax.{nil}
use Rattle.tw_terms.specs.View.{args_of, spine_of, term_of}
use Rattle.tw_terms.proofs.Args.{types}
use Rattle.tw_world.specs.Finding.{arguments_of, value_in_spine}
use Rattle.tw_world.proofs.Walking.{ended_right, none_right}
use Rattle.tw_world.proofs.finding.+find.Goals as goal

pub find_in_spine-returns-then-place-len : goal.find_in_spine-returns-then-place-len
find_in_spine-returns-then-place-len t c =
    let n = c.args.bound in
    let x = c.args.variable in
    let S = args_of (drop c.loop-place.place c.args.spine.now.args.items) in
    let e : value_in_spine n x (args_of c.args.spine.now.args.items) (args_of c.args.other.now.args.items) ≡ value_in_spine n x (spine_of c.args.spine.now) (spine_of c.args.other.now) = grind (arith, types) in
    sym (ended_right n x c.loop-place.place S c.args.other.now.args.items (omega arith)) ∙ c.loop-place.invariant ∙ e

pub find_under-returns-in-Lam : goal.find_under-returns-in-Lam
find_under-returns-in-Lam t c =
    let e : arguments_of (term_of c.args.instance.now) ≡ nil = grind (arith, types) in
    sym (ap (value_in_spine c.args.bound c.args.variable (spine_of c.args.spine.now)) e ∙ none_right c.args.bound c.args.variable (spine_of c.args.spine.now))
