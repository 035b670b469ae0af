use Rattle.std.proofs.Common.{◌≡◌, [], ◌++◌, List, ap, length, map, refl, sym, subst, ◌∙◌}
use Rattle.lf.specs.Syntax.{atom, pi}
use Rattle.lf.specs.Variables.{target_arguments}
use Rattle.lf_search.specs.AppliedHeads.{spine_with_applied, type_with_applied}
use Rattle.tw_terms.specs.declared.canonical.MetaId.{MetaId}
use Rattle.tw_terms.specs.OpenView.{open_spine_of, open_term_of}
use Rattle.tw_terms.specs.declared.open_terms.OpenSpine.{roll-OpenSpine}
use Rattle.tw_terms.proofs.OpenViews.{open_spine_of-roll}
use Rattle.tw_open.specs.Fits.{TypeStands}
use Rattle.tw_open.specs.Fresh.{IsNew}
use Rattle.tw_open.specs.View.{made_with}
use Rattle.tw_open.proofs.NewTerms.{declares_same, declares_then}
use Rattle.tw_search.specs.Applied.{taken_at}
use Rattle.tw_search.specs.HeadTypes.{arguments_of, head_type_of, part_of}
use Rattle.tw_search.specs.Taking.{TakesOne, numbers_from}
use Rattle.tw_search.proofs.NewTerms.{TakesBefore, none_taken, numbers_step, stands_after, takes_end, takes_next, takes_start, takes_step}
use Rattle.tw_search.proofs.taking.take_all.Goals as goal

pub loop-domain-init : goal.loop-domain-init
loop-domain-init c =
    let D = c.args.locals.now in
    let A = head_type_of c.args.ty in
    let s = c.args.store.now.now in
    let e = none_taken (open_spine_of c.in_ok-arguments.arguments) c.in_ok-metas.metas.items A c.in_ok-metas.ensures.items in
    record {
      stands = subst (TypeStands (made_with [] s) D) e c.requires;
      keeps = declares_same c.args.store.now c.args.store.now refl;
      numbers = ap (λ (l : List MetaId). map (λ (m : MetaId). m.0) l ++ numbers_from (length s.declared) A) (sym c.in_ok-metas.ensures.items) ∙ ap (λ X. map (λ (m : MetaId). m.0) c.in_ok-metas.metas.items ++ numbers_from (length s.declared) X) e;
      target = refl;
      so_far = subst (λ X. TakesBefore D A s X s c.in_ok-args.args.items) e (subst (TakesBefore D A s A s) (sym c.in_ok-args.ensures.items) (takes_start D A s));
    }

pub loop-domain-preserved : goal.loop-domain-preserved
loop-domain-preserved c =
    let D = c.args.locals.now in
    let L = open_spine_of c.in_ok-arguments.arguments in
    let ms = c.loop-domain.metas.items in
    let us = c.push.new.self.items in
    let T = head_type_of c.loop-domain.rest in
    let A = head_type_of c.in-Pi.domain in
    let B = head_type_of c.in-Pi.range in
    let X = type_with_applied (taken_at L ms 0) T in
    let Y = type_with_applied (taken_at L us 0) B in
    let a = c.loop-domain.store.now in
    let b = c.take_one.new.store.now in
    let t : T ≡ pi A B = sym c.first_level.ensures ∙ ap part_of c.in-Pi.is in
    let taken = c.in_ok-meta-in-Pi in
    let M = open_term_of taken.arg in
    let o : TakesOne D X M Y a b = takes_next D L ms us taken.meta T A B M a b c.in_ok-arguments.ensures c.in_ok-push-in-Pi.ensures.items taken.ensures.number t c.loop-domain.invariant.stands (subst (λ (l : List MetaId). IsNew D (type_with_applied (taken_at L l 0) A) M a b) c.deref.ensures.value taken.ensures.ok) in
    record {
      stands = stands_after D X Y M a b o c.loop-domain.invariant.stands;
      keeps = declares_then c.loop-domain.invariant.keeps taken.ensures.keeps;
      numbers = numbers_step D X Y M a b ms us taken.meta (numbers_from (length c.args.store.now.now.declared) (head_type_of c.args.ty)) o taken.ensures.number c.in_ok-push-in-Pi.ensures.items c.loop-domain.invariant.numbers;
      target = ap target_arguments (sym t) ∙ c.loop-domain.invariant.target;
      so_far = takes_step D (head_type_of c.args.ty) X Y c.args.store.now.now c.loop-domain.args.items c.push-in-Pi.new.self.items taken.arg a b c.in_ok-push-in-Pi-2.ensures.items o c.loop-domain.invariant.so_far;
    }

pub returns-in_err-metas-clause-keeps : goal.returns-in_err-metas-clause-keeps
returns-in_err-metas-clause-keeps c = declares_same c.args.store.now c.args.store.now refl

pub returns-in_err-args-clause-keeps : goal.returns-in_err-args-clause-keeps
returns-in_err-args-clause-keeps c = declares_same c.args.store.now c.args.store.now refl

pub returns-in_err-arguments-clause-keeps : goal.returns-in_err-arguments-clause-keeps
returns-in_err-arguments-clause-keeps c = declares_same c.args.store.now c.args.store.now refl

pub returns-in_err-meta-in-Pi-clause-keeps : goal.returns-in_err-meta-in-Pi-clause-keeps
returns-in_err-meta-in-Pi-clause-keeps c = declares_then c.loop-domain.invariant.keeps c.in_err-meta-in-Pi.ensures.keeps

pub returns-in_err-push-in-Pi-clause-keeps : goal.returns-in_err-push-in-Pi-clause-keeps
returns-in_err-push-in-Pi-clause-keeps c = declares_then c.loop-domain.invariant.keeps c.in_ok-meta-in-Pi.ensures.keeps

pub returns-in_err-push-in-Pi-2-clause-keeps : goal.returns-in_err-push-in-Pi-2-clause-keeps
returns-in_err-push-in-Pi-2-clause-keeps c = declares_then c.loop-domain.invariant.keeps c.in_ok-meta-in-Pi.ensures.keeps

pub returns-in-Atom-clause-ok : goal.returns-in-Atom-clause-ok
returns-in-Atom-clause-ok c =
    let p = taken_at (open_spine_of c.in_ok-arguments.arguments) c.loop-domain.metas.items 0 in
    let A = head_type_of c.args.ty in
    let T = head_type_of c.loop-domain.rest in
    let I = arguments_of c.in-Atom.field-1 in
    let t : T ≡ atom c.in-Atom.field-0.0 I = sym c.first_level.ensures ∙ ap part_of c.in-Atom.is in
    let same : I ≡ target_arguments A = ap target_arguments (sym t) ∙ c.loop-domain.invariant.target in
    let e : type_with_applied p T ≡ atom c.in-Atom.field-0.0 (spine_with_applied p (target_arguments A)) = ap (type_with_applied p) t ∙ ap (λ J. atom c.in-Atom.field-0.0 (spine_with_applied p J)) same in (
      c.in-Atom.field-0.0,
      takes_end c.args.locals.now A (type_with_applied p T) c.args.store.now.now c.loop-domain.store.now c.loop-domain.args.items (open_spine_of (roll-OpenSpine (record { args = c.loop-domain.args }))) _ _ e (open_spine_of-roll c.loop-domain.args) c.loop-domain.invariant.so_far,
    )
