use Rattle.std.proofs.Common.{◌∙◌, ap, ◌++◌, ◌∷◌, []}
use Rattle.std.specs.Vec.{vec_capacity, vec_len}
use Rattle.tw_metas.specs.declared.change.Change.TheVariants.{Postponed}
use Rattle.tw_metas.proofs.Room.{room_kept, room_postponed}
use Rattle.tw_metas.proofs.store.Store.postpone.Goals as goal

pub invariant_of-self-in_err-postpone : goal.invariant_of-self-in_err-postpone
invariant_of-self-in_err-postpone c =
    let was = c.self.inside.contents in
    let new = c.postpone.new.self in
    room_kept (vec_capacity was.equations) (vec_capacity new.equations) (vec_len was.equations) (vec_len new.equations) was.bound new.bound was.trail.items new.trail.items
    (ap (λ t. t.items) c.postpone.ensures.trail ∙ c.reserve.ensures.items) c.in_err-postpone.ensures.same_len c.postpone.ensures.bound c.postpone.ensures.room c.self.invariant

pub invariant_of-self-2 : goal.invariant_of-self-2
invariant_of-self-2 c =
    let was = c.self.inside.contents in
    let new = c.postpone.new.self in
    room_postponed (vec_capacity was.equations) (vec_capacity new.equations) (vec_len was.equations) (vec_len new.equations) was.bound new.bound was.trail.items c.push_reserved.new.self.items
    (c.push_reserved.ensures.items ∙ ap (λ ts. ts ++ Postponed ∷ []) (ap (λ t. t.items) c.postpone.ensures.trail ∙ c.reserve.ensures.items)) c.in_ok-postpone.ensures.len c.postpone.ensures.bound c.postpone.ensures.room c.self.invariant
