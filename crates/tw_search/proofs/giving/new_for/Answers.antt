use Rattle.std.proofs.Common.{◌≡◌, ◌-◌, ◌<◌, Some, arith, length}
use Rattle.std.proofs.lemmas.Grind.{common_steps}
use Rattle.std.proofs.lemmas.Option.{slice_get-get_or}
use Rattle.std.specs.Prelude.{slice_get}
use Rattle.lf.specs.Syntax.{nil, root, variable}
use Rattle.tw_terms.specs.View.{spine_of, term_of}
use Rattle.tw_open.proofs.Steps.{steps}
use Rattle.tw_search.proofs.Settling.{member_at, stands_for}
use Rattle.tw_search.proofs.giving.new_for.Goals as goal

pub returns-in_ok-meta-in-Root-Var-default : goal.returns-in_ok-meta-in-Root-Var-default
returns-in_ok-meta-in-Root-Var-default c =
    let ms = c.args.metas.now in
    let N = term_of c.args.term.now in
    let i = c.in-Root-Var-default.variable in
    let S = spine_of c.in-Root-Var-default.spine in
    let place = c.in_ok-place-in-Root-Var-default.place in
    let m = c.in_ok-meta-in-Root-Var-default.field-0.now in
    let e : N ≡ root (variable i) S = grind (arith, steps) in
    let n : S ≡ nil = grind (arith, steps) in
    let l : i < length ms = grind arith in
    let p : place ≡ length ms - 1 - i = grind arith in
    let at : slice_get ms place ≡ Some m = grind (arith, common_steps, slice_get-get_or, c.in_ok-meta-in-Root-Var-default.ensures.lookup) in
    record {
      is = stands_for ms N i place S m e n l p at;
      new = member_at ms place m at;
    }
