use Rattle.std.proofs.Common.{◌≡◌, ap, ap₂, length, map, sym, subst, ◌∙◌, arith}
use Rattle.lf.specs.Entries.{signature_of}
use Rattle.lf.specs.Syntax.{Spine, root, skeleton}
use Rattle.lf.specs.Variables.{target_arguments}
use Rattle.lf.proofs.Entries.{canonical_is_signature}
use Rattle.lf_checks.specs.Parts.{shape}
use Rattle.lf_search.specs.AppliedHeads.{spine_with_applied}
use Rattle.lf_unification.specs.Offering.{lambda_over}
use Rattle.lf_unification.specs.Patterns.{skeleton_target}
use Rattle.tw_metas.specs.State.{changed, with_value}
use Rattle.tw_putting.specs.Ready.{IsLater}
use Rattle.tw_terms.specs.OpenView.{open_spine_of, open_term_of}
use Rattle.tw_terms.specs.View.{head_of}
use Rattle.tw_terms.specs.declared.canonical.MetaId.{MetaId}
use Rattle.tw_open.proofs.Steps.{steps}
use Rattle.tw_search.specs.Applied.{taken_at}
use Rattle.tw_search.specs.HeadTypes.{head_type_of}
use Rattle.tw_search.specs.Offers.{offered_arguments, unmarked}
use Rattle.tw_search.specs.Taking.{TakesAll, numbers_from}
use Rattle.tw_search.proofs.Offering.{can_take, later_changed, later_declared, only_keeps, unmarked_map}
use Rattle.tw_search.proofs.Offered.{Applies, hole_unbound, is_offered, one_type}
use Rattle.tw_search.proofs.offer.offer.Goals as goal

pub take_all-requires : goal.take_all-requires
take_all-requires c = can_take (signature_of c.args.signature.now) (canonical_is_signature c.args.signature.now c.is_canonical.ensures) c.args.store.now.now c.args.goal.now c.requires.goal (head_of c.args.head) (head_type_of c.args.ty) c.requires.typed

pub bind-requires : goal.bind-requires
bind-requires c =
    let unbound = hole_unbound (signature_of c.args.signature.now) (canonical_is_signature c.args.signature.now c.is_canonical.ensures) c.args.goal.now (head_of c.args.head) c.args.store.now.now c.requires.goal in
    (only_keeps c.in_ok-taken.ensures.keeps).unbound c.args.goal.now.hole.0 unbound

pub returns-in_err-taken-clause-story : goal.returns-in_err-taken-clause-story
returns-in_err-taken-clause-story c = later_declared c.in_err-taken.ensures.keeps

pub returns-in_err-subgoals-clause-story : goal.returns-in_err-subgoals-clause-story
returns-in_err-subgoals-clause-story c = later_declared c.in_ok-taken.ensures.keeps

pub returns-in_err-value-clause-story : goal.returns-in_err-value-clause-story
returns-in_err-value-clause-story c = later_declared c.in_ok-taken.ensures.keeps

pub returns-in_err-bind-clause-story : goal.returns-in_err-bind-clause-story
returns-in_err-bind-clause-story c = subst (IsLater c.args.store.now) (sym c.in_err-bind.ensures.err) (later_declared c.in_ok-taken.ensures.keeps)

pub returns-clause-story : goal.returns-clause-story
returns-clause-story c = later_changed c.args.store.now c.take_all.new.store c.bind.new.self _ c.in_ok-bind.ensures.ok (later_declared c.in_ok-taken.ensures.keeps)

pub returns-clause-ok : goal.returns-clause-ok
returns-clause-ok c es q =
    let Σ = signature_of c.args.signature.now in
    let ok = canonical_is_signature c.args.signature.now c.is_canonical.ensures in
    let g = c.args.goal.now in
    let h = head_of c.args.head in
    let A = head_type_of c.args.ty in
    let taken = c.in_ok-taken in
    let middle = c.take_all.new.store in
    let S = open_spine_of taken.taken.spine in
    let ms = taken.taken.metas.items in
    let a = taken.ensures.ok.0 in
    let all : TakesAll g.locals A c.args.store.now.now middle.now S a (offered_arguments g ms A) = subst (λ (L : Spine). TakesAll g.locals A c.args.store.now.now middle.now S a (spine_with_applied (taken_at L ms 0) (target_arguments A))) taken.ensures.arguments taken.ensures.ok.1 in
    let v : open_term_of c.in_ok-value.value ≡ lambda_over g.locals (root h S) = grind (arith, steps) in
    let p : Applies g h A c.args.store.now c.bind.new.self S a (offered_arguments g ms A) = record {
      middle = middle;
      declares = taken.ensures.keeps;
      taken = all;
      binds = c.in_ok-bind.ensures.ok ∙ ap (λ V. changed middle (with_value middle.now g.hole.0 V)) v;
    } in
    let target : skeleton_target (skeleton A) ≡ g.family.0 = ap (λ X. skeleton_target (skeleton X)) (one_type Σ g.locals h A c.requires.head.head_type c.requires.typed c.requires.head.typed) ∙ c.requires.head.target in
    let is : map (λ (m : MetaId). m.0) c.in_ok-subgoals.subgoals.items ≡ unmarked (shape A) (numbers_from (length c.args.store.now.now.declared) A) =
    ap (map (λ (m : MetaId). m.0)) (c.in_ok-subgoals.ensures ∙ ap (unmarked c.args.variables.now) c.deref.ensures.value)
    ∙ unmarked_map (λ (m : MetaId). m.0) c.args.variables.now ms
    ∙ ap₂ unmarked c.requires.variables taken.ensures.metas in
    is_offered Σ ok g h c.args.store.now c.bind.new.self c.requires.goal A c.requires.typed target S a (offered_arguments g ms A) p es q c.in_ok-subgoals.subgoals.items is
