use Rattle.std.proofs.Common.{subst}
use Rattle.std.specs.Option.{MatchOption}
use Rattle.tw_terms.specs.OpenView.{open_term_of}
use Rattle.tw_putting.specs.Unfolding.{HeadStays, UnfoldsTo}
use Rattle.tw_putting.proofs.HeadValues.{comes_last, comes_next}
use Rattle.tw_putting.proofs.unfolding.unfold.Goals as goal

pub returns-in-Ok-None-clause-ok : goal.returns-in-Ok-None-clause-ok
returns-in-Ok-None-clause-ok c =
    let s = c.args.store.now.now in
    let M = open_term_of c.loop.here in
    comes_last s c.args.binders (open_term_of c.args.term) M c.loop.invariant.comes
    (subst (λ o. MatchOption o (HeadStays s M) (λ m. UnfoldsTo s c.args.binders M (open_term_of m))) c.in-Ok-None.field-0-is c.in-Ok-None.ensures.ok)

pub loop-preserved : goal.loop-preserved
loop-preserved c =
    let s = c.args.store.now.now in
    let M = open_term_of c.loop.here in
    let u : UnfoldsTo s c.args.binders M (open_term_of c.in-Ok-Some.next) = subst (λ o. MatchOption o (HeadStays s M) (λ m. UnfoldsTo s c.args.binders M (open_term_of m))) c.in-Ok-Some.field-0-is c.in-Ok-Some.ensures.ok in
    record { fits = u.fits; comes = comes_next s c.args.binders (open_term_of c.args.term) M (open_term_of c.in-Ok-Some.next) c.loop.invariant.comes u }
