use Rattle.std.proofs.Common.{◌≡◌, ◌∷◌, ap, refl, sym, subst, ◌∙◌, arith, rules}
use Rattle.lf.specs.Syntax.{arrow}
use Rattle.tw_terms.specs.OpenView.{open_type_of}
use Rattle.tw_terms.specs.View.{skeleton_of}
use Rattle.tw_hered.specs.declared.fault.HeredFault.TheVariants.{TooDeep}
use Rattle.tw_elaborate.specs.NewDeep.{NewTypeDeep, deep_new_pi_domain}
use Rattle.tw_elaborate.specs.View.{made}
use Rattle.tw_open.proofs.DeepKinds.{fault_of_call}
use Rattle.tw_elaborate.proofs.Scoping.{keeps_inside, pi_is_new, range_is_deep, stands_with_new}
use Rattle.tw_open.proofs.Steps.{steps}
use Rattle.tw_elaborate.proofs.Taking.{keeps_same}
use Rattle.tw_elaborate.proofs.fresh.+new_type.Goals as goal

pub returns-in_err-levels-clause-keeps : goal.returns-in_err-levels-clause-keeps
returns-in_err-levels-clause-keeps t c = keeps_same c.args.state.now

pub new_type-range-requires : goal.new_type-range-requires
new_type-range-requires t c =
    let X = open_type_of c.in_ok-copy-in-Arrow.field-0 in
    let D = c.args.state.now.locals in
    let q : c.push.new.self ≡ X ∷ D = c.in_ok-push-in-Arrow.ensures.ok ∙ ap (λ G. X ∷ G) c.in_ok-domain-in-Arrow.ensures.keeps.locals in (
      first_of (search rules, grind (arith, steps)),
      (
        c.requires.canonical,
        stands_with_new c.args.signature.now c.requires.canonical (skeleton_of c.deref.result.now) (made c.args.state.now) (made c.new_type.new.state) D c.push.new.self (open_type_of c.in_ok-domain-in-Arrow.domain) X c.requires.stands c.in_ok-domain-in-Arrow.ensures.ok q c.in_ok-copy-in-Arrow.ensures,
      ),
    )

pub returns-in_err-range-in-Arrow-clause-keeps : goal.returns-in_err-range-in-Arrow-clause-keeps
returns-in_err-range-in-Arrow-clause-keeps t c =
    keeps_inside c.args.state.now c.new_type.new.state c.new_type-range.new.state _ c.push.new.self (open_type_of c.in_ok-copy-in-Arrow.field-0) c.in_ok-domain-in-Arrow.ensures.keeps c.in_ok-push-in-Arrow.ensures.ok c.in_err-range-in-Arrow.ensures.keeps.locals c.in_err-range-in-Arrow.ensures.keeps.store refl c.pop.ensures.rest

pub returns-in_ok-pi-in-Arrow-clause-ok : goal.returns-in_ok-pi-in-Arrow-clause-ok
returns-in_ok-pi-in-Arrow-clause-ok t c =
    let X = open_type_of c.in_ok-copy-in-Arrow.field-0 in
    let D = c.args.state.now.locals in
    let q : c.push.new.self ≡ X ∷ D = c.in_ok-push-in-Arrow.ensures.ok ∙ ap (λ G. X ∷ G) c.in_ok-domain-in-Arrow.ensures.keeps.locals in
    let h : skeleton_of c.args.skeleton.now ≡ arrow (skeleton_of c.deref.result.now) (skeleton_of c.deref-in-Arrow.result.now) = grind (arith, steps) in
    pi_is_new c.args.signature.now (skeleton_of c.args.skeleton.now) (skeleton_of c.deref.result.now) (skeleton_of c.deref-in-Arrow.result.now) (made c.args.state.now) (made c.new_type.new.state) (made c.new_type-range.new.state) _ D c.push.new.self (open_type_of c.in_ok-domain-in-Arrow.domain) (open_type_of c.in_ok-range-in-Arrow.field-0) X (open_type_of c.in_ok-pi-in-Arrow.field-0)
    h c.in_ok-domain-in-Arrow.ensures.ok q c.in_ok-copy-in-Arrow.ensures c.in_ok-range-in-Arrow.ensures.ok refl c.in_ok-pi-in-Arrow.ensures

pub returns-in_err-domain-in-Arrow-clause-too_deep : goal.returns-in_err-domain-in-Arrow-clause-too_deep
returns-in_err-domain-in-Arrow-clause-too_deep t c = λ is.
    let h : skeleton_of c.args.skeleton.now ≡ arrow (skeleton_of c.deref.result.now) (skeleton_of c.in-Arrow.range.value) = grind (arith, steps) in
    let d = c.in_err-domain-in-Arrow.ensures.too_deep (fault_of_call c.from_residual-in_err-domain-in-Arrow.result c.in_err-domain-in-Arrow.field-0.0 TooDeep (search rules) is) in
    subst (λ k. NewTypeDeep c.args.signature.now c.args.state.now.locals k (made c.args.state.now)) (sym h) (deep_new_pi_domain d)

pub returns-in_err-range-in-Arrow-clause-too_deep : goal.returns-in_err-range-in-Arrow-clause-too_deep
returns-in_err-range-in-Arrow-clause-too_deep t c = λ is.
    let X = open_type_of c.in_ok-copy-in-Arrow.field-0 in
    let D = c.args.state.now.locals in
    let q : c.push.new.self ≡ X ∷ D = c.in_ok-push-in-Arrow.ensures.ok ∙ ap (λ G. X ∷ G) c.in_ok-domain-in-Arrow.ensures.keeps.locals in
    let h : skeleton_of c.args.skeleton.now ≡ arrow (skeleton_of c.deref.result.now) (skeleton_of c.deref-in-Arrow.result.now) = grind (arith, steps) in
    let d = c.in_err-range-in-Arrow.ensures.too_deep (fault_of_call c.from_residual-in_err-range-in-Arrow.result c.in_err-range-in-Arrow.field-0.0 TooDeep (search rules) is) in
    range_is_deep c.args.signature.now (skeleton_of c.args.skeleton.now) (skeleton_of c.deref.result.now) (skeleton_of c.deref-in-Arrow.result.now) (made c.args.state.now) (made c.new_type.new.state) D c.push.new.self (open_type_of c.in_ok-domain-in-Arrow.domain) X h c.in_ok-domain-in-Arrow.ensures.ok q c.in_ok-copy-in-Arrow.ensures d

pub returns-in_err-pi-in-Arrow-clause-keeps : goal.returns-in_err-pi-in-Arrow-clause-keeps
returns-in_err-pi-in-Arrow-clause-keeps t c =
    keeps_inside c.args.state.now c.new_type.new.state c.new_type-range.new.state _ c.push.new.self (open_type_of c.in_ok-copy-in-Arrow.field-0) c.in_ok-domain-in-Arrow.ensures.keeps c.in_ok-push-in-Arrow.ensures.ok c.in_ok-range-in-Arrow.ensures.keeps.locals c.in_ok-range-in-Arrow.ensures.keeps.store refl c.pop.ensures.rest

pub returns-in_ok-pi-in-Arrow-clause-keeps : goal.returns-in_ok-pi-in-Arrow-clause-keeps
returns-in_ok-pi-in-Arrow-clause-keeps t c =
    keeps_inside c.args.state.now c.new_type.new.state c.new_type-range.new.state _ c.push.new.self (open_type_of c.in_ok-copy-in-Arrow.field-0) c.in_ok-domain-in-Arrow.ensures.keeps c.in_ok-push-in-Arrow.ensures.ok c.in_ok-range-in-Arrow.ensures.keeps.locals c.in_ok-range-in-Arrow.ensures.keeps.store refl c.pop.ensures.rest
