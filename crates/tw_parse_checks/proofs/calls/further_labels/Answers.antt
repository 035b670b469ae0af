use Rattle.std.proofs.Common.{List, [], ◌∷◌, ◌++◌, ap, ◌∙◌}
use Rattle.tw_parse.specs.Sources.{lexemes_from}
use Rattle.tw_parse.specs.declared.decl.ExtName.{ExtName}
use Rattle.tw_parse_checks.specs.Shapes.{no_more}
use Rattle.tw_parse_checks.proofs.CallTokens.{one_more_label}
use Rattle.tw_parse_checks.proofs.Forms.{it_is_some}
use Rattle.tw_parse_checks.proofs.calls.further_labels.Goals as goal

pub labels-init : goal.labels-init
labels-init c = ([], c.in_ok-push.ensures.items ∙ ap (λ (xs : List ExtName). xs ++ c.args.first ∷ []) c.new-labels.ensures.items, no_more)

pub labels-preserved : goal.labels-preserved
labels-preserved c =
    let source = c.args.source.now in
    let takes = it_is_some c.in_ok-label.field-0 c.in-Some.label _ _ c.in-Some.is c.in_ok-label.ensures.label in
    one_more_label (lexemes_from source c.args.from) (lexemes_from source c.labels.upto) _ c.args.first c.in-Some.label c.labels.labels.items c.push-in-Some.new.self.items c.labels.invariant takes c.in_ok-push-2.ensures.items
