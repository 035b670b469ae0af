use Rattle.std.proofs.Common.{◌≡◌, ◌∙◌, ap, arith, false, get_or, rules, true}
use Rattle.std.specs.Prelude.{is_some}
use Rattle.lf.specs.Syntax.{pi}
use Rattle.lf_unification.specs.Search.{occurs_type}
use Rattle.lf_checks.specs.Parts.{shape}
use Rattle.tw_terms.specs.View.{type_of}
use Rattle.tw_terms.proofs.Args.{types}
use Rattle.tw_mode.specs.Rows.{moded_in}
use Rattle.tw_mode.proofs.Calling.{called_first, called_rest, hypothesis_first, hypothesis_rest}
use Rattle.tw_clause.proofs.Patterns.{on_value}
use Rattle.tw_mode.proofs.called.+called.Goals as goal

pub unmoded_hypothesis-returns-then-is_some : goal.unmoded_hypothesis-returns-then-is_some
unmoded_hypothesis-returns-then-is_some t c =
    let e : type_of c.args.goal.now ≡ pi (type_of c.deref.result.now) (type_of c.in-Pi.range.value) = grind (arith, types) in
    let s : is_some c.in_ok-first-in-Pi.first ≡ true = search rules in
    hypothesis_first (moded_in c.args.table.now) (type_of c.args.goal.now) (type_of c.deref.result.now) (type_of c.in-Pi.range.value) c.in_ok-first-in-Pi.first e s c.in_ok-first-in-Pi.ensures

pub unmoded_hypothesis-returns-else-is_some : goal.unmoded_hypothesis-returns-else-is_some
unmoded_hypothesis-returns-else-is_some t c =
    let e : type_of c.args.goal.now ≡ pi (type_of c.deref.result.now) (type_of c.deref-in-Pi.result.now) = grind (arith, types) in
    let s : is_some c.in_ok-first-in-Pi.first ≡ false = search rules in
    on_value c.unmoded_hypothesis.result _ _ (λ r h. hypothesis_rest (moded_in c.args.table.now) (type_of c.args.goal.now) (type_of c.deref.result.now) (type_of c.deref-in-Pi.result.now) c.in_ok-first-in-Pi.first _ e s c.in_ok-first-in-Pi.ensures h) c.unmoded_hypothesis.ensures

pub unmoded_subgoal-returns-then-is_some : goal.unmoded_subgoal-returns-then-is_some
unmoded_subgoal-returns-then-is_some t c =
    let e : type_of c.args.ty.now ≡ pi (type_of c.in-Pi.domain.value) (type_of c.deref.result.now) = grind (arith, types) in
    let s : is_some c.in_ok-first-in-Pi.first ≡ true = search rules in
    called_first (moded_in c.args.table.now) (type_of c.args.ty.now) (type_of c.in-Pi.domain.value) (type_of c.deref.result.now) c.in_ok-first-in-Pi.first e s c.in_ok-first-in-Pi.ensures

pub unmoded_subgoal-returns-else-is_some : goal.unmoded_subgoal-returns-else-is_some
unmoded_subgoal-returns-else-is_some t c =
    let B = type_of c.deref.result.now in
    let e : type_of c.args.ty.now ≡ pi (type_of c.deref-in-Pi.result.now) (type_of c.deref.result.now) = grind (arith, types) in
    let s : is_some c.in_ok-first-in-Pi.first ≡ false = search rules in
    let v : get_or c.args.shape.now 0 false ≡ occurs_type 0 B = ap (λ xs. get_or xs 0 false) (c.requires.shape ∙ ap shape e) in
    on_value c.unmoded_unless.result _ _ (λ r h. called_rest (moded_in c.args.table.now) (type_of c.args.ty.now) (type_of c.deref-in-Pi.result.now) B c.in_ok-first-in-Pi.first (get_or c.args.shape.now 0 false) _ e s c.in_ok-first-in-Pi.ensures v h) c.unmoded_unless.ensures
