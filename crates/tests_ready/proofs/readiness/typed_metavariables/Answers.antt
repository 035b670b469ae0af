use Rattle.std.proofs.Common.{◌≡◌, ◌≤◌, [], ◌+◌, Some, length, ap, sym, subst, option_map, arith, rules}
use Rattle.lf.specs.Entries.{signature_of}
use Rattle.tw_metas.specs.State.{Declaration}
use Rattle.tw_putting.specs.Stores.{types_of}
use Rattle.tw_terms.specs.OpenView.{open_type_of}
use Rattle.tests_ready.specs.Checked.{IsTypeTyped}
use Rattle.tests_ready.proofs.NewStores.{declared_within, typed_next}
use Rattle.tests_ready.proofs.TypedTerms.{at_true}
use Rattle.tests_ready.proofs.readiness.typed_metavariables.Goals as goal

pub loop-next-preserved : goal.loop-next-preserved
loop-next-preserved c =
    let Σ = signature_of c.args.signature.now in
    let s = c.args.store.now.now in
    let n = c.loop-next.next in
    let A = open_type_of c.in-Some.ty.now in
    let d : types_of s n ≡ Some A = ap (option_map (λ (d : Declaration). d.of_type)) (sym c.in-Some.ensures) in
    let e : c.new-empty.result ≡ [] = search rules in
    let t : IsTypeTyped Σ (types_of s) n [] A = subst (λ D. IsTypeTyped Σ (types_of s) n D A) e (at_true c.in_ok-is_type-in-Some.field-0 (IsTypeTyped Σ (types_of s) n c.new-empty.result A) c.if-not-branch.false c.in_ok-is_type-in-Some.ensures) in
    let w = declared_within s n A d in
    record {
      within = (let h : n + 1 ≤ length s.declared = omega (arith, w) in h);
      below = typed_next Σ (types_of s) n A c.loop-next.invariant.below d t;
    }
