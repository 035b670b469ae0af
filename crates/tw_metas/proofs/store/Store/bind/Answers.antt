use Rattle.std.proofs.Common.{◌∙◌, ap, ◌++◌, ◌∷◌, [], ◌≡◌, List, Some, slice_set, arith}
use Rattle.tw_terms.specs.OpenView.{open_term_of}
use Rattle.tw_metas.specs.State.{with_value}
use Rattle.tw_metas.specs.View.{state_of, bound_by}
use Rattle.tw_metas.specs.declared.change.Change.{Change}
use Rattle.tw_metas.specs.declared.change.Change.TheVariants.{Bound}
use Rattle.tw_metas.proofs.Room.{newest_change, countable}
use Rattle.tw_metas.proofs.States.{made}
use Rattle.tw_metas.proofs.Stories.{bind_story}
use Rattle.tw_metas.proofs.store.Store.bind.Goals as goal

pub bind-requires-clause-room : goal.bind-requires-clause-room
bind-requires-clause-room c =
    let fits = countable c.self.inside.contents.trail.items c.push.new.self.items (Bound c.args.meta.0) c.self.inside.contents.bound c.in_ok-push.ensures.items c.self.invariant.1 in
    omega (arith, fits, c.push.new.self.ok.0)

pub returns-clause-ok : goal.returns-clause-ok
returns-clause-ok c =
    let s = state_of c.self.inside.contents in
    let m = c.args.meta.0 in
    let N = open_term_of c.args.value in
    let noted : c.push.new.self.items ≡ c.self.inside.contents.trail.items ++ Bound m ∷ [] = c.in_ok-push.ensures.items in
    let newest = newest_change c.self.inside.contents.trail.items c.push.new.self.items (Bound m) noted in
    let is : state_of c.bind.new.self ≡ with_value s m N = c.bind.ensures.state ∙ ap (λ (cs : List Change). made s.declared (slice_set s.values m (Some N)) (bound_by cs) s.equations) newest in
    bind_story s (state_of c.bind.new.self) c.self.inside.contents.trail.items c.bind.new.self.trail.items c.args.self.now m N
    (ap (λ t. t.items) c.bind.ensures.trail ∙ noted) is c.self.view_is c.requires
