use Rattle.std.proofs.Common.{◌≡◌, ◌∷◌, ◌++◌, ◌∙◌, [], ap, cond, length, reverse, rules, Some, subst, sym}
use Rattle.std.proofs.lemmas.List.{length-reverse}
use Rattle.std.specs.Str.{bytes_eq}
use Rattle.tw_fixity.proofs.NewestNames.{number_at-put}
use Rattle.tw_fixity.specs.Places.{AreShadowed, place_of}
use Rattle.tw_fixity.specs.declared.scope.Binder.{Binder}
use Rattle.tw_fixity.proofs.Places.{reverse_pushed}
use Rattle.tw_fixity.proofs.scope.Scope.push.Goals as goal

pub invariant_of-self-2 : goal.invariant_of-self-2
invariant_of-self-2 c =
    let bs = reverse c.self.inside.binders.items in
    let b : Binder = record { name = Some c.in-Some.name; shadowed = c.copied-shadowed.result } in
    let added : c.push-2.new.self.items ≡ c.self.inside.binders.items ++ b ∷ [] = search rules in
    let front : reverse c.push-2.new.self.items ≡ b ∷ bs = reverse_pushed c.self.inside.binders.items c.push-2.new.self.items b added in
    let spelled : c.in_ok-bytes.bytes.items ≡ c.in-Some.name = search rules in
    let count : c.len.result ≡ length c.reserve.new.self.items = search rules in
    let place : c.len.result ≡ length bs = count ∙ ap length c.reserve.ensures.items ∙ sym (length-reverse c.self.inside.binders.items) in (
      λ cs. number_at-put c.self.inside.newest c.insert.new.self (Some c.len.result) c.in_ok-bytes.bytes.items c.in_ok-insert.ensures.updates cs
          ∙ ap (λ o. cond (bytes_eq c.in_ok-bytes.bytes.items cs) (Some c.len.result) o) (c.self.invariant.0 cs)
          ∙ ap (λ m. cond (bytes_eq m cs) (Some c.len.result) (place_of bs cs)) spelled
          ∙ ap (λ k. cond (bytes_eq c.in-Some.name cs) (Some k) (place_of bs cs)) place
          ∙ ap (λ q. place_of q cs) (sym front),
      subst AreShadowed (sym front) (c.copied-shadowed.ensures ∙ c.get.ensures.value ∙ c.self.invariant.0 c.as_bytes.result.now ∙ ap (place_of bs) c.as_bytes.ensures, c.self.invariant.1),
    )
