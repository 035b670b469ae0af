use Rattle.std.proofs.Common.{◌≡◌, ◌<◌, ◌+◌, ◌-◌, suc, ◌∷◌, Some, Err, drop, sym, ap, ◌∙◌, subst, arith, rules}
use Rattle.std.specs.List.{slice_get}
use Rattle.lf.specs.Depth.{type_depth}
use Rattle.lf.specs.Entries.{signature_of}
use Rattle.lf.specs.Typing.{IsContext}
use Rattle.tw_terms.specs.View.{type_of}
use Rattle.tw_kernel.specs.declared.fault.Fault.TheVariants.{TooDeep}
use Rattle.tw_kernel.proofs.Spines.{failed}
use Rattle.tw_kernel.proofs.Roots.{deep_type}
use Rattle.tw_kernel.proofs.Contexts.{one_inner, variable_refused}
use Rattle.tw_kernel.proofs.calls.is_context.Goals as goal

pub returns-then-depth-gt-DEPTH_LIMIT : goal.returns-then-depth-gt-DEPTH_LIMIT
returns-then-depth-gt-DEPTH_LIMIT c =
    let Σ = signature_of c.args.signature.now in
    let i = c.len-count.result - 1 - c.loop-place.place in
    let found : slice_get c.args.context.now i ≡ Some (type_of c.unwrap-ty.result.now) = search rules in
    let next : c.len-count.result - c.loop-place.place ≡ suc i = omega arith in
    let deep : 4096 < type_depth (type_of c.unwrap-ty.result.now) = omega arith in
    variable_refused Σ TooDeep i c.args.context.now c.loop-place.outer (type_of c.unwrap-ty.result.now) found (c.loop-place.invariant.outside ∙ ap (λ n. drop n c.args.context.now) next) c.loop-place.invariant.typed
    (deep_type Σ c.loop-place.outer (type_of c.unwrap-ty.result.now) deep)

pub returns-in_err-is_type_in : goal.returns-in_err-is_type_in
returns-in_err-is_type_in c =
    let Σ = signature_of c.args.signature.now in
    let i = c.len-count.result - 1 - c.loop-place.place in
    let found : slice_get c.args.context.now i ≡ Some (type_of c.unwrap-ty.result.now) = search rules in
    let next : c.len-count.result - c.loop-place.place ≡ suc i = omega arith in
    let f = c.in_err-is_type_in.field-0.0 in
    let e : c.from_residual.result ≡ Err f = search rules in
    failed _ f _ _ e
    (variable_refused Σ f i c.args.context.now c.loop-place.outer (type_of c.unwrap-ty.result.now) found (c.loop-place.invariant.outside ∙ ap (λ n. drop n c.args.context.now) next) c.loop-place.invariant.typed c.in_err-is_type_in.ensures)

pub loop-place-preserved : goal.loop-place-preserved
loop-place-preserved c =
    let Σ = signature_of c.args.signature.now in
    let i = c.len-count.result - 1 - c.loop-place.place in
    let found : slice_get c.args.context.now i ≡ Some (type_of c.unwrap-ty.result.now) = search rules in
    let next : c.len-count.result - c.loop-place.place ≡ suc i = omega arith in
    let this : i ≡ c.len-count.result - (c.loop-place.place + 1) = omega arith in
    let pushed : c.push.new.self ≡ type_of c.unwrap-ty.result.now ∷ c.loop-place.outer = c.in_ok-push.ensures.ok ∙ ap (λ A. A ∷ c.loop-place.outer) c.in_ok-copy.ensures in
    record {
      all = c.loop-place.invariant.all;
      outside = pushed ∙ ap (λ G. type_of c.unwrap-ty.result.now ∷ G) (c.loop-place.invariant.outside ∙ ap (λ n. drop n c.args.context.now) next) ∙ sym (one_inner c.args.context.now i (type_of c.unwrap-ty.result.now) found) ∙ ap (λ n. drop n c.args.context.now) this;
      typed = subst (IsContext Σ) (sym pushed) (c.loop-place.invariant.typed, c.in_ok-is_type_in.ensures);
    }
