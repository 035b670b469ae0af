use Rattle.std.proofs.Common.{◌≡◌, ◌+◌, drop, sym, ap, ◌∙◌, rules}
use Rattle.tw_parse.specs.Syntax as syntax
use Rattle.tw_parse.specs.declared.term.ExtTerm.{Ident}
use Rattle.tw_parse_checks.specs.Meanings.{applied}
use Rattle.tw_parse_checks.proofs.Names.{applied_step, on_name}
use Rattle.tw_parse_checks.proofs.binding.family_on.Goals as goal

pub loop-y-preserved : goal.loop-y-preserved
loop-y-preserved c =
    let names = c.args.names.now in
    let i = c.loop-y.y-index in
    let y = c.y-item.result in
    let function : c.in_ok-function.function.value ≡ c.loop-y.term = search rules in
    let argument : c.in_ok-argument.argument.value ≡ Ident c.in_ok-copy-2.field-0 y.at = search rules in
    ap (λ (M : syntax.Term). applied M (drop (i + 1) names)) (on_name c.in_ok-function.function c.in_ok-argument.argument c.loop-y.term c.in_ok-copy-2.field-0 y function argument c.in_ok-copy-2.ensures)
    ∙ sym (applied_step names i y _ c.loop-y-test.true c.y-item.is) ∙ c.loop-y.invariant
