use Rattle.std.proofs.Common.{◌≡◌, ◌∙◌, [], ap, arith, sym}
use Rattle.lf.specs.Entries.{quantifiers}
use Rattle.lf.specs.Variables.{everything, target_arguments}
use Rattle.lf_checks.specs.ModeForms.{argument_count}
use Rattle.lf_checks.specs.Strict.{pattern_arguments}
use Rattle.tw_terms.specs.View.{args_of, spine_of, type_of}
use Rattle.tw_terms.proofs.Args.{types}
use Rattle.tw_clause.proofs.Patterns.{on_value}
use Rattle.tw_mode.proofs.Placing.{count_args}
use Rattle.tw_mode.proofs.full.is_full_form.Goals as goal

pub returns-then-branch : goal.returns-then-branch
returns-then-branch c =
    let items = c.target_spine-spine.result.now.args.items in
    let whole : spine_of c.target_spine-spine.result.now ≡ args_of items = grind (arith, types) in
    let many : argument_count (target_arguments (type_of c.args.ty.now)) ≡ c.len.result = ap argument_count (sym c.target_spine-spine.ensures ∙ whole) ∙ count_args items ∙ sym c.target_spine-spine.result.now.args.ok.0 ∙ sym c.len.ensures in
    let n = c.in_ok-count_quantifiers.ensures in
    (λ e. absurd cc, λ form. absurd (let all = form.all in omega (arith, many, n, all)))

pub returns : goal.returns
returns c =
    let items = c.target_spine-spine.result.now.args.items in
    let whole : spine_of c.target_spine-spine.result.now ≡ args_of items = grind (arith, types) in
    let many : argument_count (target_arguments (type_of c.args.ty.now)) ≡ c.len.result = ap argument_count (sym c.target_spine-spine.ensures ∙ whole) ∙ count_args items ∙ sym c.target_spine-spine.result.now.args.ok.0 ∙ sym c.len.ensures in
    let n = c.in_ok-count_quantifiers.ensures in
    let each : argument_count (target_arguments (type_of c.args.ty.now)) ≡ quantifiers (type_of c.args.ty.now) = omega (arith, many, n) in
    let at : pattern_arguments everything [] (spine_of c.target_spine-spine.result.now) ≡ pattern_arguments everything [] (target_arguments (type_of c.args.ty.now)) = ap (pattern_arguments everything []) c.target_spine-spine.ensures in
    on_value c.is_pattern.result _ _ (λ b h. (λ t. record { distinct = sym at ∙ sym h ∙ t; all = each }, λ form. h ∙ at ∙ form.distinct)) c.is_pattern.ensures
