use Rattle.std.proofs.Common.{◌≡◌, ◌+◌, [], ◌∷◌, ap, ◌∙◌, drop, map, subst, sym, arith}
use Rattle.std.proofs.lemmas.List.{map-append}
use Rattle.lf.specs.Syntax.{app, pi, skeleton}
use Rattle.lf_closures.specs.Environments.{extended, outside}
use Rattle.tw_terms.specs.OpenView.{open_args_of, open_term_of, open_type_of}
use Rattle.tw_hered.specs.declared.fault.HeredFault.TheVariants.{TooDeep}
use Rattle.tw_putting.specs.Domains.{most_levels}
use Rattle.tw_putting.specs.View.{environment_of}
use Rattle.tw_putting.proofs.Arguments.{same_fault}
use Rattle.tw_putting.proofs.Environments.{environments}
use Rattle.tw_putting.proofs.ReadingOff.{ReadOff, deep_domain, domain_is_walked, nothing_read, one_more_read}
use Rattle.tw_putting.proofs.telescope.read_off.Goals as goal

pub loop-arg-init : goal.loop-arg-init
loop-arg-init c =
    let X = open_type_of c.args.ty.now in
    let V = open_args_of c.args.args.now in
    let e = environment_of c.in_ok-outside.outside.now in
    let o : e ≡ outside = grind (arith, environments) in
    subst (λ found. ReadOff X V found e X V) (sym (ap (map open_type_of) c.in_ok-found.ensures.items)) (nothing_read e X V o c.requires.takes)

pub normal_type-requires : goal.normal_type-requires
normal_type-requires c =
    let C = open_type_of c.loop-arg.rest.now in
    let A = open_type_of c.deref.result.now in
    let B = open_type_of c.in-Pi.range.value in
    let p : C ≡ pi A B = grind (arith, environments) in
    domain_is_walked c.args.store.now (environment_of c.loop-arg.environment.now) C A B (open_args_of (drop c.loop-arg.arg-index c.args.args.now)) c.requires.empty p c.loop-arg.invariant.takes

pub loop-arg-preserved : goal.loop-arg-preserved
loop-arg-preserved c =
    let C = open_type_of c.loop-arg.rest.now in
    let A = open_type_of c.deref.result.now in
    let B = open_type_of c.deref-rest.result.now in
    let M = open_term_of c.arg-item.result in
    let e = environment_of c.loop-arg.environment.now in
    let e' = environment_of c.in_ok-environment-in-Pi.environment.now in
    let S = open_args_of (drop (c.loop-arg.arg-index + 1) c.args.args.now) in
    let U = open_args_of (drop c.loop-arg.arg-index c.args.args.now) in
    let D = c.in-Ok.due in
    let o : environment_of c.in_ok-outside.outside.now ≡ outside = grind (arith, environments) in
    let p : C ≡ pi A B = grind (arith, environments) in
    let q : U ≡ app M S = grind (arith, environments) in
    let x : e' ≡ extended (skeleton A) M (environment_of c.in_ok-outside.outside.now) e = grind (arith, environments) in
    let r : e' ≡ extended (skeleton A) M outside e = x ∙ ap (λ E. extended (skeleton A) M E e) o in
    one_more_read (open_type_of c.args.ty.now) (open_args_of c.args.args.now) (map open_type_of c.loop-arg.found.items) (map open_type_of c.push.new.found.items) c.args.store.now e e' C A B (open_type_of D) M S U c.requires.empty p q r c.in-Ok.ensures.ok
    (ap (map open_type_of) c.in_ok-push-in-Pi.ensures ∙ map-append open_type_of c.loop-arg.found.items (D ∷ [])) c.loop-arg.invariant

pub returns-in-Err-clause-too_deep : goal.returns-in-Err-clause-too_deep
returns-in-Err-clause-too_deep c =
    let C = open_type_of c.loop-arg.rest.now in
    let A = open_type_of c.deref.result.now in
    let B = open_type_of c.in-Pi.range.value in
    let M = open_term_of c.arg-item.result in
    let e = environment_of c.loop-arg.environment.now in
    let S = open_args_of (drop (c.loop-arg.arg-index + 1) c.args.args.now) in
    let U = open_args_of (drop c.loop-arg.arg-index c.args.args.now) in
    let p : C ≡ pi A B = grind (arith, environments) in
    let q : U ≡ app M S = grind (arith, environments) in
    λ f. deep_domain most_levels (open_type_of c.args.ty.now) (open_args_of c.args.args.now) (map open_type_of c.loop-arg.found.items) c.args.store.now e C A B M S U c.requires.empty p q c.loop-arg.invariant (c.in-Err.ensures.too_deep (same_fault c.in-Err.fault TooDeep f))
