use Rattle.std.proofs.Common.{◌≡◌, IfOk, arith, sym, ap, ◌∙◌, subst}
use Rattle.lf.specs.Syntax.{pi}
use Rattle.tw_terms.specs.OpenView.{open_type_of}
use Rattle.tw_abstract.specs.Occurrences.{noted, type_occurrences}
use Rattle.tw_abstract.proofs.Noting.{extends_then, noted-append}
use Rattle.tw_abstract.proofs.Walks.{walks}
use Rattle.tw_abstract.proofs.occurrences.+note_type.Goals as goal

pub returns-in_ok-note_type-in-Pi-clause-noted : goal.returns-in_ok-note_type-in-Pi-clause-noted
returns-in_ok-note_type-in-Pi-clause-noted t c =
    let e : open_type_of c.args.ty.now ≡ pi (open_type_of c.deref.result.now) (open_type_of c.deref-in-Pi.result.now) = grind (arith, walks) in
    let r : noted c.note_type.new.found (type_occurrences (open_type_of c.deref-in-Pi.result.now)) ≡ noted c.args.found.now (type_occurrences (open_type_of c.args.ty.now))
    = ap (λ x. noted x (type_occurrences (open_type_of c.deref-in-Pi.result.now))) c.in_ok-note_type-in-Pi.ensures.noted ∙ sym (noted-append c.args.found.now (type_occurrences (open_type_of c.deref.result.now)) (type_occurrences (open_type_of c.deref-in-Pi.result.now))) ∙ ap (λ A. noted c.args.found.now (type_occurrences A)) (sym e) in
    subst (λ X. IfOk c.note_type-in-Pi.result (λ x. c.note_type-in-Pi.new.found ≡ X)) r c.note_type-in-Pi.ensures.noted

pub returns-in_ok-note_type-in-Pi-clause-kept : goal.returns-in_ok-note_type-in-Pi-clause-kept
returns-in_ok-note_type-in-Pi-clause-kept t c = extends_then c.args.found.now c.note_type.new.found c.note_type-in-Pi.new.found c.note_type.ensures.kept c.note_type-in-Pi.ensures.kept
