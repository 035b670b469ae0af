use Rattle.std.proofs.Common.{◌≡◌, ◌∙◌, ap, map, length, get_or, arith}
use Rattle.lf.specs.Syntax.{atom, rename_spine}
use Rattle.tw_terms.specs.View.{spine_of, type_of}
use Rattle.tw_terms.proofs.Args.{types}
use Rattle.tw_clause.specs.Numbers.{counts_from, renumber}
use Rattle.tw_clause.specs.View.{in_solving_order, subgoal_of}
use Rattle.tw_clause.proofs.Read.{counts_length, level_at_end, map_reversed, parts_from, parts_read}
use Rattle.tw_clause.proofs.reading.clause_of.Goals as goal

pub numbers_at-inside-requires : goal.numbers_at-inside-requires
numbers_at-inside-requires c =
    let e : c.deref-in-Pi.result.now ≡ counts_from 0 c.in_ok-shape.shape.items = grind (arith, types) in
    let l = ap length e ∙ counts_length 0 c.in_ok-shape.shape.items in
    let h = c.loop-rest.invariant.inside in
    omega (arith, l, h)

pub numbers_at-in_whole-requires : goal.numbers_at-in_whole-requires
numbers_at-in_whole-requires c =
    let e : c.deref-in-Pi-2.result.now ≡ counts_from 0 c.in_ok-shape.shape.items = grind (arith, types) in
    let l = ap length e ∙ counts_length 0 c.in_ok-shape.shape.items in
    let h : c.len-whole.result ≡ length c.in_ok-shape.shape.items = grind (arith, types) in
    omega (arith, l, h)

pub numbers_at-requires : goal.numbers_at-requires
numbers_at-requires c =
    let e : c.deref-in-Atom.result.now ≡ counts_from 0 c.in_ok-shape.shape.items = grind (arith, types) in
    let l = ap length e ∙ counts_length 0 c.in_ok-shape.shape.items in
    let h = c.loop-rest.invariant.inside in
    omega (arith, l, h)

pub returns-in-Atom-clause-parts : goal.returns-in-Atom-clause-parts
returns-in-Atom-clause-parts c =
    let T = type_of c.args.ty.now in
    let C = type_of c.loop-rest.rest.now in
    let before = c.in_ok-before.before.items in
    let bs = c.in_ok-shape.shape.items in
    let l = c.loop-rest.level in
    let S = spine_of c.in-Atom.spine in
    let H = spine_of c.in_ok-head-in-Atom.head in
    let vs = c.loop-rest.collected.variables in
    let gs = in_solving_order c.loop-rest.collected.subgoals.items in
    let i = c.loop-rest.invariant in
    let start : before ≡ counts_from 0 bs = grind (arith, types) in
    let e : C ≡ atom c.in-Atom.family.0 S = grind (arith, types) in
    let level = level_at_end bs l c.in-Atom.family.0 C S i.inside e i.rest_shape in
    let head : H ≡ rename_spine (renumber before l (get_or before l 0)) S = grind (arith, types) in
    let order : map subgoal_of c.reverse.new.self.items ≡ gs = ap (map subgoal_of) c.reverse.ensures.items ∙ map_reversed subgoal_of c.loop-rest.collected.subgoals.items in
    ap (parts_from vs bs c.in-Atom.family.0 H) order ∙ parts_read T C before bs l c.in-Atom.family.0 S H vs gs c.in_ok-shape.ensures start e level i.variables i.subgoals i.family i.arguments head
