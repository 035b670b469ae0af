use Rattle.std.proofs.Common.{◌≡◌, List, [], ◌∷◌, ◌++◌, map, subst, sym, ap, ◌∙◌}
use Rattle.std.proofs.lemmas.List.{map-append}
use Rattle.tw_parse.specs.Sources.{lexemes_from}
use Rattle.tw_parse_checks.specs.Checks.{Call, call_of}
use Rattle.tw_parse_checks.specs.Shapes.{Row, no_more, TakesCall}
use Rattle.tw_parse_checks.proofs.Forms.{it_is_some}
use Rattle.tw_parse_checks.proofs.Rows.{push}
use Rattle.tw_parse_checks.proofs.Shrinking.{call_shrinks}
use Rattle.tw_parse_checks.proofs.calls.patterns.Goals as goal

pub patterns-init : goal.patterns-init
patterns-init c =
    let P : List Call → Type 0 = λ cs. Row TakesCall (lexemes_from c.args.source.now c.args.from) cs (lexemes_from c.args.source.now c.args.from) in
    subst P (sym (ap (map call_of) c.new-patterns.ensures.items)) no_more

pub patterns-preserved : goal.patterns-preserved
patterns-preserved c =
    let source = c.args.source.now in
    let found = c.in-Some.found in
    let takes = it_is_some c.in_ok-found.field-0 found _ _ c.in-Some.is c.in_ok-found.ensures in
    let items : map call_of c.push.new.self.items ≡ map call_of c.patterns.patterns.items ++ call_of found.0 ∷ [] = ap (map call_of) c.in_ok-push.ensures.items ∙ map-append call_of c.patterns.patterns.items (found.0 ∷ []) in
    subst (λ (cs : List Call). Row TakesCall (lexemes_from source c.args.from) cs (lexemes_from source found.1)) (sym items) (push c.patterns.invariant takes)

pub patterns-smaller : goal.patterns-smaller
patterns-smaller c =
    let source = c.args.source.now in
    let found = c.in-Some.found in
    call_shrinks (lexemes_from source c.patterns.upto) (lexemes_from source found.1) (call_of found.0) (it_is_some c.in_ok-found.field-0 found _ _ c.in-Some.is c.in_ok-found.ensures)
