use Rattle.std.proofs.Common.{◌≡◌, ◌∷◌, ◌+◌, ◌-◌, ◌<◌, Some, None, drop, length, ap, arith, sym, subst, ◌∙◌}
use Rattle.tw_putting.proofs.Changes.{there_is}
use Rattle.tw_terms.specs.View.{type_of}
use Rattle.tw_search.specs.Roots.{IsDeclaredAs}
use Rattle.tw_search.proofs.Rooting.{drop_one, same_length}
use Rattle.tw_search.proofs.root.declare_root.Goals as goal

pub loop-place-preserved : goal.loop-place-preserved
loop-place-preserved c =
    let V = c.args.variables.now in
    let n = c.len-count.result in
    let i = c.loop-place.place in
    let A = type_of c.in-Some.ty.now in
    let h : i < n = c.loop-place-test.true in
    let l = same_length V n i c.len-count.ensures c.loop-place.invariant.within in
    let k : n - 1 - i + 1 ≡ n - i = omega (arith, h) in
    let j : n - (i + 1) ≡ n - 1 - i = omega (arith, h) in
    let e : A ∷ drop (n - i) V ≡ drop (n - (i + 1)) V = sym (ap (λ m. drop m V) j ∙ drop_one V (n - 1 - i) A c.in-Some.ensures ∙ ap (λ m. A ∷ drop m V) k) in
    record {
      within = omega (arith, h);
      declared = subst (λ E. IsDeclaredAs E c.declare.new.store.now) e (c.in_ok-declare-in-Some.ensures.declared (drop (n - i) V) l c.loop-place.invariant.declared);
    }

pub unreachable-requires : goal.unreachable-requires
unreachable-requires c =
    let V = c.args.variables.now in
    let n = c.len-count.result in
    let i = c.loop-place.place in
    let t : i < n = c.loop-place-test.true in
    let e : n ≡ length V = c.len-count.ensures in
    let h : n - 1 - i < length V = omega (arith, t, e) in
    let (A, g) = there_is V (n - 1 - i) h in
    let no : None ≡ Some A = c.in-None.ensures ∙ g in
    absurd cc
