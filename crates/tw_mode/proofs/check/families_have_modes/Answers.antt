use Rattle.std.proofs.Common.{◌≡◌, ◌∙◌, None, Some, ap, rules, sym}
use Rattle.std.specs.Prelude.{option_map}
use Rattle.tw_terms.specs.View.{type_of}
use Rattle.tw_mode.specs.Rows.{moded_in}
use Rattle.tw_mode.proofs.Grouping.{no_clause, own_moded, own_unmoded}
use Rattle.tw_mode.proofs.check.families_have_modes.Goals as goal

pub returns-in_default : goal.returns-in_default
returns-in_default c = λ cs e.
    let n : option_map (λ t. type_of t.now) c.args.ty ≡ None = search rules in
    no_clause (moded_in c.args.table.now) cs _ e n

pub returns-then-not-has : goal.returns-then-not-has
returns-then-not-has c = λ cs e.
    let s : option_map (λ t. type_of t.now) c.args.ty ≡ Some (type_of c.in-Some.ty.now) = search rules in
    own_unmoded (moded_in c.args.table.now) cs _ (type_of c.in-Some.ty.now) e s (ap (moded_in c.args.table.now) (sym c.target.ensures) ∙ sym c.has.ensures ∙ c.if-not-has.true) ∙ ap Some (sym c.target-then-not-has.ensures)

pub returns-in-Some-2 : goal.returns-in-Some-2
returns-in-Some-2 c = λ cs e.
    let s : option_map (λ t. type_of t.now) c.args.ty ≡ Some (type_of c.in-Some.ty.now) = search rules in
    own_moded (moded_in c.args.table.now) cs _ (type_of c.in-Some.ty.now) _ e s (ap (moded_in c.args.table.now) (sym c.target.ensures) ∙ sym c.has.ensures ∙ c.if-not-has.false) (ap (option_map (λ f. f.0)) (sym c.in-Some-2.is) ∙ c.in_ok-family.ensures)

pub returns-in-None : goal.returns-in-None
returns-in-None c = λ cs e.
    let s : option_map (λ t. type_of t.now) c.args.ty ≡ Some (type_of c.in-Some.ty.now) = search rules in
    own_moded (moded_in c.args.table.now) cs _ (type_of c.in-Some.ty.now) _ e s (ap (moded_in c.args.table.now) (sym c.target.ensures) ∙ sym c.has.ensures ∙ c.if-not-has.false) (ap (option_map (λ f. f.0)) (sym c.in-None.is) ∙ c.in_ok-family.ensures)
