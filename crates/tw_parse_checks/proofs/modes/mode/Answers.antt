use Rattle.std.proofs.Common.{◌≡◌, List, [], ◌∷◌, length, refl, ap, arith, rules}
use Rattle.std.proofs.lemmas.Result.{err_from_is_err_and}
use Rattle.tw_parse.proofs.Stopping.{exits}
use Rattle.tw_parse_checks.specs.Faults.{IsFault}
use Rattle.tw_parse_checks.specs.declared.check.CheckForm.TheVariants.{Mode}
use Rattle.tw_parse_checks.proofs.Forms.{no_head_first}
use Rattle.tw_parse_checks.proofs.Sources.{type_fault}
use Rattle.tw_parse_checks.proofs.modes.mode.Goals as goal

pub returns-in_err-quantified-clause-fault : goal.returns-in_err-quantified-clause-fault
returns-in_err-quantified-clause-fault c =
    let source = c.args.source.now in
    let p = err_from_is_err_and c.from_residual.result c.from_residual.ensures.1 in
    let f = c.in_err-quantified.field-0.0 in
    exits c.from_residual.result p.0 f (IsFault source Mode) p.1 p.2 (type_fault source f c.in_err-quantified.ensures.fault)

no_items : {A : Type 0} (xs : List A) → length xs ≡ 0 → xs ≡ []
no_items [] e = refl
no_items (x ∷ xs) e = absurd (omega (e, arith))

pub short-requires-clause-no_head : goal.short-requires-clause-no_head
short-requires-clause-no_head c =
    let q = c.in_ok-quantified.quantified in
    let none : length q.marks.items ≡ 0 = search rules in
    no_head_first c.args.source.now q c.in_ok-quantified.at c.in_ok-quantified.ensures.reads (no_items q.marks.items none) c.in_ok-quantified.ensures.stops

pub full-requires-clause-some : goal.full-requires-clause-some
full-requires-clause-some c = λ e. let none : length c.in_ok-quantified.quantified.marks.items ≡ 0 = ap length e in search rules
