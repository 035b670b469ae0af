use Rattle.std.proofs.Common.{List, map, subst, sym}
use Rattle.lf.specs.Entries.{signature_of}
use Rattle.lf.specs.Syntax.{Spine, nil}
use Rattle.lf.proofs.Entries.{canonical_is_signature}
use Rattle.lf_search.specs.AppliedHeads.{spine_with_applied}
use Rattle.lf_unification.specs.Unifiers.{Equation}
use Rattle.tw_metas.specs.View.{equation_of}
use Rattle.tw_metas.specs.declared.equation.Equation.{Equation as KeptEquation}
use Rattle.tw_open.specs.Plain.{IsPlain}
use Rattle.tw_putting.specs.Stores.{bindings_of}
use Rattle.tw_terms.specs.OpenView.{open_spine_of}
use Rattle.tw_terms.specs.View.{kind_of, spine_of}
use Rattle.tw_terms.specs.declared.canonical.MetaId.{MetaId}
use Rattle.tw_unify.specs.Reaching.{marking_of}
use Rattle.tw_unify.proofs.Stories.{later_then}
use Rattle.tw_search.specs.Applied.{taken_at}
use Rattle.tw_search.specs.Beside.{FirstDiffers, IndicesComeApart, IndicesDiffer, IndicesWent, equations_at}
use Rattle.tw_search.specs.Goals.{indices_of}
use Rattle.tw_search.specs.HeadTypes.{head_type_of}
use Rattle.tw_search.specs.declared.beside.Went.TheVariants.{On}
use Rattle.tw_search.specs.Reducing.{LeavesThese, NoneMet}
use Rattle.tw_search.proofs.GoalEquations.{was_declared}
use Rattle.tw_search.proofs.Reductions.{all_added, all_differ, is_so, offered_consistent, rows_refuted, settled, settled_given, settled_refuted}
use Rattle.tw_search.proofs.reducing.reduce_closed.Goals as goal

pub indices-requires : goal.indices-requires
indices-requires c = was_declared (signature_of c.args.signature.now) (canonical_is_signature c.args.signature.now c.is_canonical.ensures) c.args.goal.now (head_type_of c.args.ty) c.args.offered.now.metas.items c.args.store.now.now c.requires.was

pub indices_beside-requires : goal.indices_beside-requires
indices_beside-requires c =
    (offered_consistent (signature_of c.args.signature.now) (canonical_is_signature c.args.signature.now c.is_canonical.ensures) c.args.goal.now (head_type_of c.args.ty) c.args.offered.now.metas.items c.args.store.now.now c.requires.was).values_are_bound

pub settle-requires : goal.settle-requires
settle-requires c =
    offered_consistent (signature_of c.args.signature.now) (canonical_is_signature c.args.signature.now c.is_canonical.ensures) c.args.goal.now (head_type_of c.args.ty) c.args.offered.now.metas.items c.args.store.now.now c.requires.was

pub returns-else-first_differs-clause-ok : goal.returns-else-first_differs-clause-ok
returns-else-first_differs-clause-ok c es q =
    let Σ = signature_of c.args.signature.now in
    let ok = canonical_is_signature c.args.signature.now c.is_canonical.ensures in
    let g = c.args.goal.now in
    let A = head_type_of c.args.ty in
    let ms = c.args.offered.now.metas.items in
    let t = c.args.store.now.now in
    let K = kind_of c.args.kind.now in
    let T = spine_of c.args.spine.now in
    let S = indices_of t g.hole.0 in
    let p = taken_at nil ms 0 in
    let ps = c.indices_beside.new.pairs.items in
    let plain : IsPlain K = is_so c.is_plain.result (IsPlain K) c.is_plain.ensures c.if-not-is_plain.false in
    let I = open_spine_of c.indices.result.now in
    let went : IndicesWent Σ (bindings_of t) S T K c.in_ok-pairs.pairs.items ps On = subst (λ (X : Spine). IndicesWent Σ (bindings_of t) X T K c.in_ok-pairs.pairs.items ps On) c.indices.ensures (subst (IndicesWent Σ (bindings_of t) I T K c.in_ok-pairs.pairs.items ps) c.in-On.is c.in_ok-indices_beside.ensures) in
    let apart : IndicesComeApart Σ (bindings_of t) p S T K (equations_at p ps) = all_added Σ (bindings_of t) S T K c.in_ok-pairs.pairs.items ps p c.in_ok-pairs.ensures.items went in
    let u = c.settle.new.store.now in
    let v = c.give.new.store.now in
    let fs : List Equation = map equation_of c.in_ok-equations-in-On.equations.items in
    let l : LeavesThese Σ (equations_at p ps) fs t v =
    settled_given Σ ok g A ms t c.requires.was c.requires.locals K c.requires.kind plain T c.requires.spine ps apart c.deref.result.now c.deref-in-On.result.now c.in_ok-left-in-On.left.items fs u v c.deref.ensures.value c.deref-in-On.ensures.value
    c.in_ok-left-in-On.ensures.ok c.in_ok-equations-in-On.ensures.ok in
    settled Σ ok g A ms t c.requires.was c.requires.locals K c.requires.kind plain T c.requires.spine ps apart es fs v c.requires.none q l

pub returns-then-first_differs-clause-ok : goal.returns-then-first_differs-clause-ok
returns-then-first_differs-clause-ok c es q =
    let Σ = signature_of c.args.signature.now in
    let ok = canonical_is_signature c.args.signature.now c.is_canonical.ensures in
    let g = c.args.goal.now in
    let A = head_type_of c.args.ty in
    let ms = c.args.offered.now.metas.items in
    let t = c.args.store.now.now in
    let K = kind_of c.args.kind.now in
    let T = spine_of c.args.spine.now in
    let S = indices_of t g.hole.0 in
    let p = taken_at nil ms 0 in
    let ps = c.indices_beside.new.pairs.items in
    let plain : IsPlain K = is_so c.is_plain.result (IsPlain K) c.is_plain.ensures c.if-not-is_plain.false in
    let I = open_spine_of c.indices.result.now in
    let went : IndicesWent Σ (bindings_of t) S T K c.in_ok-pairs.pairs.items ps On = subst (λ (X : Spine). IndicesWent Σ (bindings_of t) X T K c.in_ok-pairs.pairs.items ps On) c.indices.ensures (subst (IndicesWent Σ (bindings_of t) I T K c.in_ok-pairs.pairs.items ps) c.in-On.is c.in_ok-indices_beside.ensures) in
    let apart : IndicesComeApart Σ (bindings_of t) p S T K (equations_at p ps) = all_added Σ (bindings_of t) S T K c.in_ok-pairs.pairs.items ps p c.in_ok-pairs.ensures.items went in
    let u = c.settle.new.store.now in
    let v = c.give.new.store.now in
    let fs : List Equation = map equation_of c.in_ok-equations-in-On.equations.items in
    let l : LeavesThese Σ (equations_at p ps) fs t v =
    settled_given Σ ok g A ms t c.requires.was c.requires.locals K c.requires.kind plain T c.requires.spine ps apart c.deref.result.now c.deref-in-On.result.now c.in_ok-left-in-On.left.items fs u v c.deref.ensures.value c.deref-in-On.ensures.value
    c.in_ok-left-in-On.ensures.ok c.in_ok-equations-in-On.ensures.ok in
    let differ : FirstDiffers Σ (bindings_of v) fs = subst (λ (xs : List KeptEquation). FirstDiffers Σ (bindings_of v) (map equation_of xs)) c.deref-in-On-2.ensures.value c.if-first_differs.ensures in
    settled_refuted Σ ok g A ms t c.requires.was c.requires.locals K c.requires.kind plain T c.requires.spine ps apart es fs v q l differ

pub returns-in-Clash-clause-ok : goal.returns-in-Clash-clause-ok
returns-in-Clash-clause-ok c es q =
    let Σ = signature_of c.args.signature.now in
    let ok = canonical_is_signature c.args.signature.now c.is_canonical.ensures in
    let g = c.args.goal.now in
    let A = head_type_of c.args.ty in
    let ms = c.args.offered.now.metas.items in
    let t = c.args.store.now.now in
    let K = kind_of c.args.kind.now in
    let T = spine_of c.args.spine.now in
    let S = indices_of t g.hole.0 in
    let p = taken_at nil ms 0 in
    let plain : IsPlain K = is_so c.is_plain.result (IsPlain K) c.is_plain.ensures c.if-not-is_plain.false in
    let I = open_spine_of c.indices.result.now in
    let differ : IndicesDiffer Σ (bindings_of t) I (spine_with_applied p T) K = all_differ Σ (bindings_of t) I T K c.in_ok-pairs.pairs.items c.indices_beside.new.pairs.items p (subst (IndicesWent Σ (bindings_of t) I T K c.in_ok-pairs.pairs.items c.indices_beside.new.pairs.items) c.in-Clash.is c.in_ok-indices_beside.ensures) in
    let same : IndicesDiffer Σ (bindings_of t) S (spine_with_applied p T) K = subst (λ (X : Spine). IndicesDiffer Σ (bindings_of t) X (spine_with_applied p T) K) c.indices.ensures differ in
    rows_refuted Σ ok g A ms t c.requires.was c.requires.locals K c.requires.kind plain T c.requires.spine same es q

pub give-requires : goal.give-requires
give-requires c = c.in_ok-left-in-On.ensures.consistent

pub returns-then-first_differs-clause-known : goal.returns-then-first_differs-clause-known
returns-then-first_differs-clause-known c n h =
    let w = marking_of c.args.met.now in
    let none = subst (λ (us : List MetaId). NoneMet us w) (sym c.deref.ensures.value) n in
    c.in_ok-equations-in-On.ensures.known (c.in_ok-left-in-On.ensures.known w none h)

pub returns-then-first_differs-clause-story : goal.returns-then-first_differs-clause-story
returns-then-first_differs-clause-story c = later_then c.args.store.now c.settle.new.store c.give.new.store c.in_ok-left-in-On.ensures.story c.in_ok-equations-in-On.ensures.story

pub returns-else-first_differs-clause-story : goal.returns-else-first_differs-clause-story
returns-else-first_differs-clause-story c = later_then c.args.store.now c.settle.new.store c.give.new.store c.in_ok-left-in-On.ensures.story c.in_ok-equations-in-On.ensures.story

pub returns-in_err-equations-in-On-clause-story : goal.returns-in_err-equations-in-On-clause-story
returns-in_err-equations-in-On-clause-story c = later_then c.args.store.now c.settle.new.store c.give.new.store c.in_ok-left-in-On.ensures.story c.in_err-equations-in-On.ensures.story
