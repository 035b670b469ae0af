use Rattle.std.proofs.Common.{◌≡◌, length, rules}
use Rattle.tw_shapes.specs.View.{store_of}
use Rattle.tw_shapes.proofs.Binding.{grown-ordered, grown-kept, grown-every, grown-unused}
use Rattle.tw_shapes.proofs.store.Shapes.fresh.Goals as goal

pub invariant_of-self-2 : goal.invariant_of-self-2
invariant_of-self-2 c =
    let s = store_of c.self.inside.bindings in
    rw c.in_ok-push.ensures.items (grown-ordered s c.self.invariant)

pub returns-clause-same : goal.returns-clause-same
returns-clause-same c =
    let s = store_of c.self.inside.bindings in
    rw (c.in_ok-push.ensures.items, ← c.self.view_is) (λ θ. (grown-every s θ, grown-kept s θ))

pub returns-clause-unused : goal.returns-clause-unused
returns-clause-unused c =
    let s = store_of c.self.inside.bindings in
    let number : c.len-number.result ≡ length s.places = search rules in
    rw (c.in_ok-push.ensures.items, number) (grown-unused s c.self.invariant)
