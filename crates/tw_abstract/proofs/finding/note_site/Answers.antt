use Rattle.std.proofs.Common.{[], ◌∷◌, refl, sym, subst}
use Rattle.tw_terms.specs.OpenView.{open_term_of}
use Rattle.tw_abstract.specs.Quantifiers.{ValueHas}
use Rattle.tw_abstract.proofs.Loops.{told_within}
use Rattle.tw_abstract.proofs.Standing.{settled_values}
use Rattle.tw_abstract.proofs.Unbound.{own_noted, value_noted}
use Rattle.tw_abstract.proofs.finding.note_site.Goals as goal

pub put_in-requires : goal.put_in-requires
put_in-requires c = settled_values c.args.store.now.now c.requires.settled c.args.site.0 (open_term_of c.in-Some.value.now) (sym c.in-Some.ensures)

pub returns-in_ok-note_term-in-Some-clause-unbound : goal.returns-in_ok-note_term-in-Some-clause-unbound
returns-in_ok-note_term-in-Some-clause-unbound c =
    value_noted c.args.store.now.now c.requires.settled c.args.found.now c.note_term.new.found c.args.site.0 (open_term_of c.in-Some.value.now) (open_term_of c.in_ok-put-in-Some.put) c.requires.unbound (sym c.in-Some.ensures) c.in_ok-put-in-Some.ensures.ok c.in_ok-note_term-in-Some.ensures.noted

pub returns-in_ok-note-in-None-clause-noted : goal.returns-in_ok-note-in-None-clause-noted
returns-in_ok-note-in-None-clause-noted c = (
  c.args.site.0 ∷ [],
  subst (λ v. ValueHas c.args.store.now.now c.args.site.0 v (c.args.site.0 ∷ [])) c.in-None.ensures refl,
  c.in_ok-note-in-None.ensures,
)

pub returns-in_ok-note-in-None-clause-unbound : goal.returns-in_ok-note-in-None-clause-unbound
returns-in_ok-note-in-None-clause-unbound c =
    let s = c.args.store.now.now in
    own_noted s c.requires.settled.ready.consistent c.args.found.now c.note.new.found c.args.site.0 c.requires.unbound (told_within _ c.about.result s.declared c.args.site.0 c.about.ensures c.if-is_none.ensures) (sym c.in-None.ensures) c.in_ok-note-in-None.ensures
