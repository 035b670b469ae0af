use Rattle.std.proofs.Common.{[], ◌∷◌, ◌++◌, List, ℕ, ap, ap₂, ◌∙◌, map, sym}
use Rattle.std.proofs.lemmas.List.{map-append}
use Rattle.tw_metas.specs.Named.{named_of}
use Rattle.tw_recon.proofs.Numbers.{named_first, named_none}
use Rattle.tw_recon.proofs.names.named.Goals as goal
use Rattle.tw_recon.proofs.names.named.Goals.{in-Some+in_ok-copy+in_ok-push, in_default}

pub loop-number-preserved : goal.loop-number-preserved
loop-number-preserved c =
    elim c.match-name.branch [
      | in-Some+in_ok-copy+in_ok-push w ↦
          ap (λ v. map named_of v.items) w.named-is ∙ ap (map named_of) w.in_ok-push.ensures.items
          ∙ map-append named_of c.loop-number.named.items ((record { 0 = c.loop-number.number }, w.in_ok-copy.field-0) ∷ [])
          ∙ ap₂ (λ (a b : List (ℕ × List ℕ)). a ++ b) c.loop-number.invariant (ap (λ x. (c.loop-number.number, x) ∷ []) w.in_ok-copy.ensures)
          ∙ sym (named_first c.loop-number.number c.args.names.now w.in-Some.name c.index-names-number.result c.loop-number-test.true (sym c.index-names-number.is ∙ w.in-Some.is))
      | in_default w ↦
          ap (λ v. map named_of v.items) w.named-is ∙ c.loop-number.invariant
          ∙ sym (named_none 0 c.loop-number.number c.args.names.now c.index-names-number.result c.loop-number-test.true (sym c.index-names-number.is ∙ w.in_default.is))
    ]
