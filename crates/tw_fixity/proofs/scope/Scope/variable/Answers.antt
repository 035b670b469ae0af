use Rattle.std.proofs.Common.{◌≡◌, ◌-◌, ◌∙◌, ap, arith, length, None, reverse, rules, Some, sym}
use Rattle.std.proofs.lemmas.List.{length-reverse}
use Rattle.std.specs.Option.{option_copied, option_map}
use Rattle.tw_fixity.specs.Names.{variable_of}
use Rattle.tw_fixity.specs.Places.{place_of}
use Rattle.tw_fixity.proofs.Places.{names_of_reverse, variable_at, within}
use Rattle.tw_fixity.proofs.scope.Scope.variable.Goals as goal

pub overflow_sub-result : goal.overflow_sub-result
overflow_sub-result c =
    let place : place_of (reverse c.self.inside.binders.items) c.args.name.now ≡ Some c.in-Some.outside.now = sym (c.self.invariant.0 c.args.name.now) ∙ sym c.get.ensures.value ∙ ap option_copied c.in-Some.is in
    let inner = within (reverse c.self.inside.binders.items) c.args.name.now c.in-Some.outside.now place in
    let same = length-reverse c.self.inside.binders.items in
    let count : c.len.result ≡ length c.self.inside.binders.items = search rules in
    omega (arith, inner, same, count)

pub overflow_sub-result-in-Some : goal.overflow_sub-result-in-Some
overflow_sub-result-in-Some c =
    let place : place_of (reverse c.self.inside.binders.items) c.args.name.now ≡ Some c.in-Some.outside.now = sym (c.self.invariant.0 c.args.name.now) ∙ sym c.get.ensures.value ∙ ap option_copied c.in-Some.is in
    let inner = within (reverse c.self.inside.binders.items) c.args.name.now c.in-Some.outside.now place in
    let same = length-reverse c.self.inside.binders.items in
    let count : c.len.result ≡ length c.self.inside.binders.items = search rules in
    omega (arith, inner, same, count)

pub returns-in-Some : goal.returns-in-Some
returns-in-Some c =
    let bs = reverse c.self.inside.binders.items in
    let place : place_of bs c.args.name.now ≡ Some c.in-Some.outside.now = sym (c.self.invariant.0 c.args.name.now) ∙ sym c.get.ensures.value ∙ ap option_copied c.in-Some.is in
    let count : c.len.result ≡ length c.self.inside.binders.items = search rules in
    ap (λ n. Some (n - 1 - c.in-Some.outside.now)) (count ∙ sym (length-reverse c.self.inside.binders.items))
    ∙ ap (option_map (λ p. length bs - 1 - p)) (sym place) ∙ sym (variable_at bs c.args.name.now)
    ∙ ap (λ ns. variable_of ns c.args.name.now) (names_of_reverse c.self.inside.binders.items ∙ c.self.view_is)

pub returns-in-None : goal.returns-in-None
returns-in-None c =
    let bs = reverse c.self.inside.binders.items in
    let place : place_of bs c.args.name.now ≡ None = sym (c.self.invariant.0 c.args.name.now) ∙ sym c.get.ensures.value ∙ ap option_copied c.in-None.is in
    ap (option_map (λ p. length bs - 1 - p)) (sym place) ∙ sym (variable_at bs c.args.name.now)
    ∙ ap (λ ns. variable_of ns c.args.name.now) (names_of_reverse c.self.inside.binders.items ∙ c.self.view_is)
