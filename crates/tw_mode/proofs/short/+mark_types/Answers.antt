use Rattle.std.proofs.Common.{◌≡◌, ◌≤◌, ◌∙◌, ◌∷◌, Bool, List, ap, ap₂, arith, length, map, rules, sym}
use Rattle.std.proofs.lemmas.Grind.{common_steps}
use Rattle.lf.specs.Syntax.{kind_pi, star}
use Rattle.tw_clause.specs.declared.name.Mark3.{Mark3}
use Rattle.tw_clause.specs.View.{mark_of}
use Rattle.tw_signature.proofs.Marking.{on_ok}
use Rattle.tw_terms.specs.View.{kind_of, type_of}
use Rattle.tw_terms.proofs.Args.{types}
use Rattle.tw_mode.specs.Rows.{places_with}
use Rattle.tw_mode.proofs.Completing.{types_end, types_marked, types_unmarked}
use Rattle.tw_mode.proofs.short.+mark_types.Goals as goal

pub returns-then-is_empty : goal.returns-then-is_empty
returns-then-is_empty t c =
    let none : length c.args.marks.now ≤ 0 = first_of (grind (arith, common_steps), search rules) in
    types_unmarked c.args.depth c.args.wanted c.args.marks.now (kind_of c.args.kind.now) c.args.seen.now none

pub returns-in_ok-mark_type_if-in-Pi : goal.returns-in_ok-mark_type_if-in-Pi
returns-in_ok-mark_type_if-in-Pi t c =
    let places : List Mark3 → List Bool = λ xs. places_with c.args.wanted (map mark_of xs) in
    let k : kind_of c.args.kind.now ≡ kind_pi (type_of c.deref.result.now) (kind_of c.deref-in-Pi.result.now) = grind (arith, types) in
    let p = ap (places_with c.args.wanted) c.nth_mark.ensures ∙ ap₂ (λ b xs. b ∷ places xs) (sym c.has_mark.ensures) (sym c.past_first.ensures) in
    on_ok c.mark_types.result _ _ (types_marked c.args.depth c.in_ok-inside-in-Pi.inside c.has_mark.result (places c.past_first.result.now) (places c.args.marks.now) (kind_of c.args.kind.now) (kind_of c.deref-in-Pi.result.now) (type_of c.deref.result.now) c.args.seen.now c.mark_type_if.new.seen c.mark_types.new.seen p k c.in_ok-inside-in-Pi.ensures c.requires c.in_ok-mark_type_if-in-Pi.ensures) c.mark_types.ensures

pub returns-in-Star : goal.returns-in-Star
returns-in-Star t c =
    let k : kind_of c.args.kind.now ≡ star = grind (arith, types) in
    types_end c.args.depth (places_with c.args.wanted (map mark_of c.args.marks.now)) (kind_of c.args.kind.now) c.args.seen.now k
