use Rattle.std.proofs.Common.{◌∙◌, sym, ap, length, arith}
use Rattle.tw_metas.specs.State.{Story}
use Rattle.tw_metas.specs.View.{state_of}
use Rattle.tw_metas.proofs.Room.{count_changes}
use Rattle.tw_metas.proofs.store.Store.is_at.Goals as goal

pub returns : goal.returns
returns c =
    let told = c.len.ensures ∙ c.self.inside.contents.trail.ok.0 ∙ sym (count_changes c.self.inside.contents.trail.items (state_of c.self.inside.contents)) ∙ ap (λ (s : Story). length s.before) c.self.view_is in
    grind (arith, told, c.mark.view_is)
