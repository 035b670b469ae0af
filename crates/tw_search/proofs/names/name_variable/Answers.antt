use Rattle.std.proofs.Common.{rules, ◌≡◌, Err, Some, ap, map, subst, sym}
use Rattle.tw_hered.specs.declared.fault.HeredFault.TheVariants as reading
use Rattle.tw_metas.specs.Named.{named_of}
use Rattle.tw_putting.specs.Whole.{AreDistinct}
use Rattle.tw_search.proofs.Naming.{of_names, with_name_distinct}
use Rattle.tw_search.proofs.names.name_variable.Goals as goal

pub returns-in_err-sole-clause-too_deep : goal.returns-in_err-sole-clause-too_deep
returns-in_err-sole-clause-too_deep c = λ e.
    let f = c.in_err-sole.field-0.0 in
    let q : c.from_residual-in_err-sole.result ≡ Err f = search rules in
    let p : f ≡ reading.TooDeep = cc in
    let (N, v, d) = c.in_err-sole.ensures.too_deep (ap Err p) in
    (c.in-Some.place, N, sym c.in-Some.ensures, v, d)

pub returns-in_ok-add_name-clause-distinct : goal.returns-in_ok-add_name-clause-distinct
returns-in_ok-add_name-clause-distinct c = λ d.
    subst (λ ns. AreDistinct (of_names ns)) (sym c.in_ok-add_name.ensures) (with_name_distinct (Some c.in-Some-3.sole.0) c.in-Some-2.name (map named_of c.args.names.now.items) d)
