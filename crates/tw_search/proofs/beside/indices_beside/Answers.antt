use Rattle.std.proofs.Common.{◌≡◌, ◌+◌, arith, drop, length, subst}
use Rattle.lf.specs.Entries.{signature_of}
use Rattle.lf.specs.Syntax.{kind_pi, nil}
use Rattle.tw_putting.specs.Stores.{bindings_of}
use Rattle.tw_terms.specs.OpenView.{open_args_of, open_spine_of, open_term_of}
use Rattle.tw_terms.specs.View.{args_of, kind_of, spine_of, term_of, type_of}
use Rattle.tw_open.proofs.Arguments.{arguments_from, no_arguments_from, surely_below}
use Rattle.tw_open.proofs.Steps.{steps}
use Rattle.tw_search.specs.Beside.{TermWent}
use Rattle.tw_search.proofs.BesideWalks.{indices_clash, indices_end, indices_go_on}
use Rattle.tw_search.proofs.ClashingHeads.{closed_arguments_from}
use Rattle.tw_search.proofs.beside.indices_beside.Goals as goal

pub returns-in-Clash : goal.returns-in-Clash
returns-in-Clash c =
    let Σ = signature_of c.args.signature.now in
    let bs = bindings_of c.args.store.now.now in
    let ts = c.args.left.now.args.items in
    let us = c.args.right.now.args.items in
    let i = c.loop-place.place in
    let K = kind_of c.loop-place.rest.now in
    let A = type_of c.deref-in-Pi-Some.result.now in
    let L = kind_of c.in-Pi-Some.range.value in
    let M = open_term_of c.arg-item.result in
    let N = term_of c.in-Pi-Some.other.now in
    let mid = c.loop-place.pairs.items in
    let new = c.beside.new.pairs.items in
    let k : K ≡ kind_pi A L = grind (arith, steps) in
    let lefts = arguments_from ts c.deref-arg-items.result.now i c.arg-item.result c.deref-arg-items.ensures.value c.loop-place-test.true c.arg-item.is in
    let rights = closed_arguments_from us c.deref.result.now i c.in-Pi-Some.other.now c.deref.ensures.value (surely_below i (length c.deref.result.now) c.in-Pi-Some.ensures.lookup.0) c.in-Pi-Some.ensures.lookup.1 in
    indices_clash Σ bs (open_spine_of c.args.left.now) (spine_of c.args.right.now) (open_args_of (drop i ts)) (args_of (drop i us)) (open_args_of (drop (i + 1) ts)) (args_of (drop (i + 1) us)) (kind_of c.args.kind.now) K L A M N c.args.pairs.now.items mid new
    lefts rights k c.loop-place.invariant (subst (TermWent Σ bs M N A mid new) c.in-Clash.is c.in_ok-beside-in-Pi-Some.ensures)

pub loop-place-preserved : goal.loop-place-preserved
loop-place-preserved c =
    let Σ = signature_of c.args.signature.now in
    let bs = bindings_of c.args.store.now.now in
    let ts = c.args.left.now.args.items in
    let us = c.args.right.now.args.items in
    let i = c.loop-place.place in
    let K = kind_of c.loop-place.rest.now in
    let A = type_of c.deref-in-Pi-Some.result.now in
    let L = kind_of c.deref-rest.result.now in
    let M = open_term_of c.arg-item.result in
    let N = term_of c.in-Pi-Some.other.now in
    let mid = c.loop-place.pairs.items in
    let new = c.beside.new.pairs.items in
    let k : K ≡ kind_pi A L = grind (arith, steps) in
    let lefts = arguments_from ts c.deref-arg-items.result.now i c.arg-item.result c.deref-arg-items.ensures.value c.loop-place-test.true c.arg-item.is in
    let rights = closed_arguments_from us c.deref.result.now i c.in-Pi-Some.other.now c.deref.ensures.value (surely_below i (length c.deref.result.now) c.in-Pi-Some.ensures.lookup.0) c.in-Pi-Some.ensures.lookup.1 in
    indices_go_on Σ bs (open_spine_of c.args.left.now) (spine_of c.args.right.now) (open_args_of (drop i ts)) (args_of (drop i us)) (open_args_of (drop (i + 1) ts)) (args_of (drop (i + 1) us)) (kind_of c.args.kind.now) K L A M N c.args.pairs.now.items mid new
    lefts rights k c.loop-place.invariant (subst (TermWent Σ bs M N A mid new) c.in-On.is c.in_ok-beside-in-Pi-Some.ensures)

pub returns : goal.returns
returns c =
    let ts = c.args.left.now.args.items in
    let us = c.args.right.now.args.items in
    let i = c.loop-place.place in
    indices_end (signature_of c.args.signature.now) (bindings_of c.args.store.now.now) (open_spine_of c.args.left.now) (spine_of c.args.right.now) (open_args_of (drop i ts)) (args_of (drop i us)) (kind_of c.args.kind.now) (kind_of c.loop-place.rest.now) c.args.pairs.now.items c.loop-place.pairs.items
    (subst (λ l. open_args_of (drop i l) ≡ nil) c.deref-arg-items.ensures.value (no_arguments_from c.deref-arg-items.result.now i c.loop-place-test.false)) c.loop-place.invariant
