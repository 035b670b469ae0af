use Rattle.std.proofs.Common.{◌≡◌, ◌++◌, ◌∙◌, ap, length, map, rules, subst}
use Rattle.std.specs.List.{slice_get}
use Rattle.std.specs.Option.{option_map}
use Rattle.lf_unification.specs.Offering.{pi_over}
use Rattle.tw_signature.specs.Goal.{goal_of}
use Rattle.tw_terms.specs.View.{term_of, type_of}
use Rattle.tw_query.specs.Rows.{Suffices, row_of}
use Rattle.tw_query.specs.Text.{row_in, rows_for, types_along}
use Rattle.tw_query.proofs.Closing.{closings}
use Rattle.tw_query.proofs.Enough.{all_rows}
use Rattle.tw_query.proofs.rows.rows.Goals as goal

pub returns : goal.returns
returns c =
    let g = goal_of c.args.goal.now in
    let values = map term_of c.args.answer.now.values.items in
    let proof = option_map term_of c.args.answer.now.proof in
    let ts = map type_of c.in_ok-types.types.items in
    let n = c.in_ok-needed.field-0 in
    let q : map row_of c.add-2.new.rows.items ≡ rows_for g values ts g.shown ++ row_in g.proof proof (slice_get ts (length g.variables)) = search (rules, closings) in
    let w : type_of c.in_ok-over.over ≡ pi_over g.variables g.goal = c.in_ok-over.ensures ∙ ap (pi_over g.variables) c.in_ok-copy.ensures in
    q ∙ all_rows g values proof n ts c.in_ok-needed.ensures
    (subst (λ vs. Suffices n ts (types_along (pi_over g.variables g.goal) (map term_of vs))) c.deref.ensures.value (subst (λ T. Suffices n ts (types_along T (map term_of c.deref.result.now))) w c.in_ok-types.ensures))
