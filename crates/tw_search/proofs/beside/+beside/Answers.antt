use Rattle.std.proofs.Common.{◌≡◌, ◌+◌, arith, drop, length, subst, sym}
use Rattle.lf.specs.Entries.{signature_of}
use Rattle.lf.specs.Syntax.{atom, constant, nil, pi, root}
use Rattle.tw_putting.specs.Stores.{bindings_of}
use Rattle.tw_putting.proofs.Calls.{if_ok}
use Rattle.tw_terms.specs.OpenView.{open_args_of, open_spine_of, open_term_of}
use Rattle.tw_terms.specs.View.{args_of, spine_of, term_of, type_of}
use Rattle.tw_open.proofs.Arguments.{arguments_from, no_arguments_from, surely_below}
use Rattle.tw_open.proofs.Steps.{steps}
use Rattle.tw_search.specs.Beside.{TermWent}
use Rattle.tw_search.proofs.BesideWalks.{heads_differ, row_clashes, row_ends, row_goes_on, same_heads}
use Rattle.tw_search.proofs.ClashingHeads.{closed_arguments_from}
use Rattle.tw_search.proofs.beside.+beside.Goals as goal

pub arguments_beside-returns-in-Clash : goal.arguments_beside-returns-in-Clash
arguments_beside-returns-in-Clash t c =
    let Σ = signature_of c.args.signature.now in
    let bs = bindings_of c.args.store.now.now in
    let ts = c.args.left.now.args.items in
    let us = c.args.right.now.args.items in
    let i = c.loop-place.place in
    let B = type_of c.loop-place.rest.now in
    let A = type_of c.deref-in-Pi-Some.result.now in
    let C = type_of c.in-Pi-Some.range.value in
    let M = open_term_of c.arg-item.result in
    let N = term_of c.in-Pi-Some.other.now in
    let mid = c.loop-place.pairs.items in
    let new = c.beside.new.pairs.items in
    let k : B ≡ pi A C = grind (arith, steps) in
    let lefts = arguments_from ts c.deref-arg-items.result.now i c.arg-item.result c.deref-arg-items.ensures.value c.loop-place-test.true c.arg-item.is in
    let rights = closed_arguments_from us c.deref.result.now i c.in-Pi-Some.other.now c.deref.ensures.value (surely_below i (length c.deref.result.now) c.in-Pi-Some.ensures.lookup.0) c.in-Pi-Some.ensures.lookup.1 in
    row_clashes Σ bs (open_spine_of c.args.left.now) (spine_of c.args.right.now) (open_args_of (drop i ts)) (args_of (drop i us)) (open_args_of (drop (i + 1) ts)) (args_of (drop (i + 1) us)) (type_of c.args.ty.now) B C A M N c.args.pairs.now.items mid new
    lefts rights k c.loop-place.invariant (subst (TermWent Σ bs M N A mid new) c.in-Clash.is c.in_ok-beside-in-Pi-Some.ensures)

pub arguments_beside-loop-place-preserved : goal.arguments_beside-loop-place-preserved
arguments_beside-loop-place-preserved t c =
    let Σ = signature_of c.args.signature.now in
    let bs = bindings_of c.args.store.now.now in
    let ts = c.args.left.now.args.items in
    let us = c.args.right.now.args.items in
    let i = c.loop-place.place in
    let B = type_of c.loop-place.rest.now in
    let A = type_of c.deref-in-Pi-Some.result.now in
    let C = type_of c.deref-rest.result.now in
    let M = open_term_of c.arg-item.result in
    let N = term_of c.in-Pi-Some.other.now in
    let mid = c.loop-place.pairs.items in
    let new = c.beside.new.pairs.items in
    let k : B ≡ pi A C = grind (arith, steps) in
    let lefts = arguments_from ts c.deref-arg-items.result.now i c.arg-item.result c.deref-arg-items.ensures.value c.loop-place-test.true c.arg-item.is in
    let rights = closed_arguments_from us c.deref.result.now i c.in-Pi-Some.other.now c.deref.ensures.value (surely_below i (length c.deref.result.now) c.in-Pi-Some.ensures.lookup.0) c.in-Pi-Some.ensures.lookup.1 in
    row_goes_on Σ bs (open_spine_of c.args.left.now) (spine_of c.args.right.now) (open_args_of (drop i ts)) (args_of (drop i us)) (open_args_of (drop (i + 1) ts)) (args_of (drop (i + 1) us)) (type_of c.args.ty.now) B C A M N c.args.pairs.now.items mid new
    lefts rights k c.loop-place.invariant (subst (TermWent Σ bs M N A mid new) c.in-On.is c.in_ok-beside-in-Pi-Some.ensures)

pub arguments_beside-returns : goal.arguments_beside-returns
arguments_beside-returns t c =
    let ts = c.args.left.now.args.items in
    let us = c.args.right.now.args.items in
    let i = c.loop-place.place in
    row_ends (signature_of c.args.signature.now) (bindings_of c.args.store.now.now) (open_spine_of c.args.left.now) (spine_of c.args.right.now) (open_args_of (drop i ts)) (args_of (drop i us)) (type_of c.args.ty.now) (type_of c.loop-place.rest.now) c.args.pairs.now.items c.loop-place.pairs.items
    (subst (λ l. open_args_of (drop i l) ≡ nil) c.deref-arg-items.ensures.value (no_arguments_from c.deref-arg-items.result.now i c.loop-place-test.false)) c.loop-place.invariant

pub beside-returns-then-head-constant : goal.beside-returns-then-head-constant
beside-returns-then-head-constant t c =
    let M = term_of c.args.right.now in
    let A = type_of c.args.ty.now in
    let a = c.in-Atom-Root-Const-default.field-0-0.0 in
    let I = spine_of c.in-Atom-Root-Const-default.field-1-0 in
    let d = c.in-Atom-Root-Const-default.constant.0 in
    let T = spine_of c.in-Atom-Root-Const-default.others in
    let e : M ≡ root (constant d) T = grind (arith, steps) in
    let q : A ≡ atom a I = grind (arith, steps) in
    heads_differ (signature_of c.args.signature.now) (bindings_of c.args.store.now.now) (open_term_of c.args.left.now) M A (open_spine_of c.in-Some.args.now) T I a c.in-Some.head.0 d c.args.pairs.now.items c.args.pairs.now.items c.in-Some.ensures e q c.if-head-constant.true

pub beside-returns-else-not-is_plain_type : goal.beside-returns-else-not-is_plain_type
beside-returns-else-not-is_plain_type t c =
    let M = term_of c.args.right.now in
    let A = type_of c.args.ty.now in
    let a = c.in-Atom-Root-Const-default.field-0-0.0 in
    let I = spine_of c.in-Atom-Root-Const-default.field-1-0 in
    let d = c.in-Atom-Root-Const-default.constant.0 in
    let T = spine_of c.in-Atom-Root-Const-default.others in
    let e : M ≡ root (constant d) T = grind (arith, steps) in
    let q : A ≡ atom a I = grind (arith, steps) in
    if_ok c.arguments_beside.result
    (same_heads (signature_of c.args.signature.now) (bindings_of c.args.store.now.now) (open_term_of c.args.left.now) M A (type_of c.in-Some-constant_type.of.now) (open_spine_of c.in-Some.args.now) T I a c.in-Some.head.0 d c.args.pairs.now.items c.arguments_beside.new.pairs.items
    c.in-Some.ensures e q c.if-head-constant.false (sym c.in-Some-constant_type.ensures) c.if-not-is_plain_type.ensures)
    c.arguments_beside.ensures
