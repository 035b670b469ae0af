use Rattle.tw_metas.specs.View.{equation_of}
use Rattle.tw_terms.specs.OpenView.{open_term_of, open_type_of}
use Rattle.tw_unify.proofs.Shown.{equation_grown, equation_shown, put_under}
use Rattle.tw_unify.proofs.left.show_equation.Goals as goal

pub returns-clause-shown : goal.returns-clause-shown
returns-clause-shown c =
    let e = equation_of c.args.equation.now in
    let M = open_term_of c.in_ok-put_left.put_left in
    let N = open_term_of c.in_ok-put_left.put_right in
    let A = open_type_of c.in_ok-put_ty.put_ty in
    equation_shown c.args.store.now.now e _ M N A c.show_context.new.order.items c.number_term.new.order.items c.number_term-2.new.order.items c.number_type.new.order.items
    c.in_ok-left.ensures.grown c.in_ok-right.ensures.grown c.in_ok-ty.ensures.grown c.in_ok-context.ensures.shown c.in_ok-put_left.ensures
    (put_under c.args.store.now.now e.local c.len-binders.result e.of_type A c.len-binders.ensures c.in_ok-put_ty.ensures.ok)
    c.in_ok-left.ensures.numbered c.in_ok-right.ensures.numbered c.in_ok-ty.ensures.numbered

pub returns-clause-grown : goal.returns-clause-grown
returns-clause-grown c =
    let e = equation_of c.args.equation.now in
    let M = open_term_of c.in_ok-put_left.put_left in
    let N = open_term_of c.in_ok-put_left.put_right in
    let A = open_type_of c.in_ok-put_ty.put_ty in
    equation_grown c.args.store.now.now e M N A c.args.order.now.items c.show_context.new.order.items c.number_term.new.order.items c.number_term-2.new.order.items c.number_type.new.order.items
    c.in_ok-context.ensures.grown c.in_ok-left.ensures.grown c.in_ok-right.ensures.grown c.in_ok-ty.ensures.grown c.in_ok-put_left.ensures
    (put_under c.args.store.now.now e.local c.len-binders.result e.of_type A c.len-binders.ensures c.in_ok-put_ty.ensures.ok)
