use Rattle.std.proofs.Common.{◌≡◌, ◌+◌, ◌<◌, ◌++◌, ◌∙◌, ◌∷◌, [], ap, arith, false, length, map, rules, subst, sym}
use Rattle.std.specs.Prelude.{not}
use Rattle.lf.specs.Syntax.{kind_pi, star}
use Rattle.tw_clause.specs.View.{mark_of}
use Rattle.tw_terms.specs.View.{kind_of, type_of}
use Rattle.tw_terms.proofs.Args.{types}
use Rattle.tw_mode.specs.Checks.{MayHave}
use Rattle.tw_mode.specs.Scopes.{in_marks}
use Rattle.tw_clause.proofs.Patterns.{on_value}
use Rattle.tw_mode.proofs.Sounding.{marks_go_on, no_place}
use Rattle.tw_mode.proofs.sound.+first_unsound.Goals as goal

pub returns-in_ok-push-in-Pi : goal.returns-in_ok-push-in-Pi
returns-in_ok-push-in-Pi t c =
    let us = c.args.usable.now.items in
    let k : kind_of c.args.kind.now ≡ kind_pi (type_of c.deref-in-Pi.result.now) (kind_of c.in-Pi.range.value) = grind (arith, types) in
    let m : kind_of c.deref-in-Pi-2.result.now ≡ kind_of c.in-Pi.range.value = grind (arith, types) in
    on_value c.first_unsound.result _ _ (λ o h. marks_go_on us c.push.new.self.items (map mark_of c.args.marks.now) (map mark_of c.past_first.result.now) (mark_of c.nth_mark-mark.result) (kind_of c.args.kind.now) (kind_of c.deref-in-Pi-2.result.now) (type_of c.deref-in-Pi.result.now) o (c.nth_mark-mark.ensures ∙ ap (λ xs. mark_of c.nth_mark-mark.result ∷ map mark_of xs) (sym c.past_first.ensures)) (k ∙ ap (kind_pi (type_of c.deref-in-Pi.result.now)) (grind (arith, m))) (subst (λ xs. MayHave (in_marks false (length xs) xs) (mark_of c.nth_mark-mark.result) (type_of c.deref-in-Pi.result.now)) c.deref.ensures.value (c.in_ok-is_usable-in-Pi.ensures.0 c.if-not-branch.false)) (c.in_ok-push-in-Pi.ensures.items ∙ ap (λ b. us ++ not b ∷ []) c.has_mark.ensures) h) c.first_unsound.ensures

pub returns-in_ok-one_more-in-Star : goal.returns-in_ok-one_more-in-Star
returns-in_ok-one_more-in-Star t c =
    let us = c.args.usable.now.items in
    let h : 0 < length c.args.marks.now = first_of (omega arith, grind (arith, types), search rules) in
    let k : kind_of c.args.kind.now ≡ star = grind (arith, types) in
    let q : c.in_ok-one_more-in-Star.field-0 ≡ length us + 1 = first_of (grind (arith, types), omega arith, search rules) in
    no_place (in_marks false (length us) us) (length us + 1) c.in_ok-one_more-in-Star.field-0 c.args.marks.now (kind_of c.args.kind.now) h k q
