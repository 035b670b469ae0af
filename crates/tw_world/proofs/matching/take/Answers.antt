use Rattle.std.proofs.Common.{◌≡◌, ◌≤◌, ◌^◌, Err, ap, inr, rules, subst, sym, arith}
use Rattle.lf.specs.Depth.{type_depth}
use Rattle.lf.specs.Entries.{signature_of}
use Rattle.lf.specs.Syntax.{LfType, pi, skeleton}
use Rattle.lf.specs.Substitution.{single}
use Rattle.lf.specs.Typing.{HasType, IsType, instantiate_type}
use Rattle.tw_hered.specs.Fits.{TypeFits}
use Rattle.tw_terms.specs.View.{term_of, type_of}
use Rattle.tw_terms.proofs.Args.{types}
use Rattle.tw_world.specs.Instances.{TakesDeep}
use Rattle.tw_world.proofs.Instances.{argument_fits, same_cause}
use Rattle.tw_world.proofs.matching.take.Goals as goal

pub put_in-requires : goal.put_in-requires
put_in-requires c =
    let Σ = signature_of c.args.sig.now in
    let G = c.args.outer.now in
    let V = term_of c.args.value.now in
    let A : LfType = type_of c.in-Pi.domain.value in
    let B : LfType = type_of c.in-Pi.range.value in
    let e : type_of c.args.ty.now ≡ pi A B = grind (arith, types) in
    let m : HasType Σ G V A = subst (λ x. HasType Σ G V (type_of x)) c.deref.ensures (c.in_ok-check_term-in-Pi.ensures.typed c.in-Typed.is) in
    let f : TypeFits (single (skeleton A) V) B = argument_fits Σ G V A B (subst (IsType Σ G) e c.requires.ty) m in
    subst (λ x. TypeFits (single (skeleton (type_of x)) V) (type_of c.deref-in-Typed-2.result.now)) (sym c.deref-in-Typed.ensures) (subst (λ x. TypeFits (single (skeleton A) V) (type_of x)) (sym c.deref-in-Typed-2.ensures) f)

pub returns-in_err-put_in-in-Typed-clause-too_deep : goal.returns-in_err-put_in-in-Typed-clause-too_deep
returns-in_err-put_in-in-Typed-clause-too_deep c = λ h.
    let V = term_of c.args.value.now in
    let A : LfType = type_of c.in-Pi.domain.value in
    let B : LfType = type_of c.in-Pi.range.value in
    let e : type_of c.args.ty.now ≡ pi A B = grind (arith, types) in
    let f = c.in_err-put_in-in-Typed.field-0.0 in
    let q : c.from_residual-in_err-put_in-in-Typed.result ≡ Err f = search rules in
    let d : 2 ^ 64 ≤ type_depth (instantiate_type A V B) = subst (λ x. 2 ^ 64 ≤ type_depth (instantiate_type (type_of x) V B)) c.deref-in-Typed.ensures (subst (λ x. 2 ^ 64 ≤ type_depth (instantiate_type (type_of c.deref-in-Typed.result.now) V (type_of x))) c.deref-in-Typed-2.ensures (c.in_err-put_in-in-Typed.ensures.too_deep (ap Err (same_cause c.from_residual-in_err-put_in-in-Typed.result q h)))) in
    subst (λ T. TakesDeep (signature_of c.args.sig.now) c.args.outer.now T V) (sym e) (inr d)
