use Rattle.std.proofs.Common.{◌∙◌, sym, ap, length}
use Rattle.tw_metas.specs.State.{Story}
use Rattle.tw_metas.specs.View.{state_of}
use Rattle.tw_metas.proofs.Room.{count_changes}
use Rattle.tw_metas.proofs.store.Store.mark.Goals as goal

pub returns : goal.returns
returns c = c.len.ensures ∙ c.self.inside.contents.trail.ok.0 ∙ sym (count_changes c.self.inside.contents.trail.items (state_of c.self.inside.contents)) ∙ ap (λ (s : Story). length s.before) c.self.view_is
