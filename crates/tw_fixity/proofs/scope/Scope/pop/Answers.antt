use Rattle.std.proofs.Common.{◌≡◌, ◌∷◌, ◌∙◌, ap, ap₂, cond, length, None, reverse, rules, Some, subst, sym}
use Rattle.std.specs.Option.{option_copied_mut}
use Rattle.std.specs.Str.{bytes_eq}
use Rattle.tw_fixity.proofs.NewestNames.{number_at-put}
use Rattle.tw_fixity.specs.Places.{AreShadowed, place_of}
use Rattle.tw_fixity.proofs.Places.{left, none_is_not_some, reverse_pushed, still_known}
use Rattle.tw_fixity.proofs.scope.Scope.pop.Goals as goal

pub invariant_of-self-in-Some-get_mut : goal.invariant_of-self-in-Some-get_mut
invariant_of-self-in-Some-get_mut c =
    let bs = reverse c.pop.new.self.items in
    let b = c.in-Some.binder in
    let front : reverse c.self.inside.binders.items ≡ b ∷ bs = reverse_pushed c.pop.new.self.items c.self.inside.binders.items b (search rules) in
    let shadows : AreShadowed (b ∷ bs) = subst AreShadowed front c.self.invariant.1 in (
      λ cs. number_at-put c.self.inside.newest (c.get_mut.follows.lender c.in-Some-shadowed.place) (Some c.in-Some-shadowed.place) c.as_bytes.result.now ((c.get_mut.follows.holds c.in-Some-shadowed.place).3 (search rules)) cs
          ∙ ap₂ (λ m o. cond (bytes_eq m cs) (Some c.in-Some-shadowed.place) o) c.as_bytes.ensures (c.self.invariant.0 cs ∙ ap (λ q. place_of q cs) front)
          ∙ ap (λ o. cond (bytes_eq c.in-Some-name.name cs) o (place_of (b ∷ bs) cs)) (sym c.in-Some-shadowed.is)
          ∙ left b bs c.in-Some-name.name cs c.in-Some-name.is shadows,
      shadows.1,
    )

pub invariant_of-self-in-Some-shadowed : goal.invariant_of-self-in-Some-shadowed
invariant_of-self-in-Some-shadowed c =
    let bs = reverse c.pop.new.self.items in
    let b = c.in-Some.binder in
    let front : reverse c.self.inside.binders.items ≡ b ∷ bs = reverse_pushed c.pop.new.self.items c.self.inside.binders.items b (search rules) in
    let known : None ≡ Some (length bs) =
    ap option_copied_mut (sym c.in_default-get_mut.is) ∙ c.get_mut.ensures.value ∙ c.self.invariant.0 c.as_bytes.result.now ∙ ap₂ place_of front c.as_bytes.ensures
    ∙ still_known b bs c.in-Some-name.name c.in-Some-name.is in
    absurd (none_is_not_some (length bs) known)

pub invariant_of-self-in-None : goal.invariant_of-self-in-None
invariant_of-self-in-None c =
    let bs = reverse c.pop.new.self.items in
    let b = c.in-Some.binder in
    let front : reverse c.self.inside.binders.items ≡ b ∷ bs = reverse_pushed c.pop.new.self.items c.self.inside.binders.items b (search rules) in
    let shadows : AreShadowed (b ∷ bs) = subst AreShadowed front c.self.invariant.1 in (
      λ cs. number_at-put c.self.inside.newest c.remove.new.self None c.as_bytes-in-None.result.now c.remove.ensures.updates cs
          ∙ ap₂ (λ m o. cond (bytes_eq m cs) None o) c.as_bytes-in-None.ensures (c.self.invariant.0 cs ∙ ap (λ q. place_of q cs) front)
          ∙ ap (λ o. cond (bytes_eq c.in-Some-name.name cs) o (place_of (b ∷ bs) cs)) (sym c.in-None.is)
          ∙ left b bs c.in-Some-name.name cs c.in-Some-name.is shadows,
      shadows.1,
    )
