use Rattle.std.proofs.Common.{rules, ◌≡◌, Err, [], ap, get_or, length, map, subst, ◌<◌}
use Rattle.tw_hered.specs.declared.fault.HeredFault.TheVariants as reading
use Rattle.tw_metas.specs.Named.{named_of}
use Rattle.tw_signature.specs.Goal.{goal_of}
use Rattle.tw_search.specs.Names.{NamesVariable, ThisIsDeep}
use Rattle.tw_search.proofs.Naming.{member_at, names_next}
use Rattle.tw_search.proofs.names.names.Goals as goal

pub loop-variable-preserved : goal.loop-variable-preserved
loop-variable-preserved c =
    let s = c.args.store.now.now in
    let g = goal_of c.args.goal.now in
    let k = c.loop-variable.variable-index in
    let old = map named_of c.loop-variable.names.items in
    let new = map named_of c.name_variable.new.names.items in
    let same = c.deref-variable-items.ensures.value in
    record {
      named = names_next s g c.args.goal.now.shown.items k [] old new (subst (λ xs. k < length xs) same c.loop-variable-test.true) c.loop-variable.invariant.named
          (subst (λ xs. NamesVariable s g (get_or xs k 0) old new) same c.in_ok-name_variable.ensures.named);
      distinct = c.in_ok-name_variable.ensures.distinct c.loop-variable.invariant.distinct;
    }

pub returns-in_err-name_variable-clause-too_deep : goal.returns-in_err-name_variable-clause-too_deep
returns-in_err-name_variable-clause-too_deep c = λ e.
    let s = c.args.store.now.now in
    let g = goal_of c.args.goal.now in
    let xs = c.args.goal.now.shown.items in
    let k = c.loop-variable.variable-index in
    let same = c.deref-variable-items.ensures.value in
    let f = c.in_err-name_variable.field-0.0 in
    let q : c.from_residual.result ≡ Err f = search rules in
    let p : f ≡ reading.TooDeep = cc in
    let d = c.in_err-name_variable.ensures.too_deep (ap Err p) in
    (get_or xs k 0, member_at xs k (subst (λ ys. k < length ys) same c.loop-variable-test.true), subst (λ ys. ThisIsDeep s g (get_or ys k 0)) same d)
