-- A try is due just where the next step makes one.
use Rattle.std.proofs.Common.{◌≡◌, ℕ, zero, suc, List, Option, refl, sym, ap, ◌∙◌}
use Rattle.lf.specs.Substitution.{reduce, single}
use Rattle.lf.specs.Syntax.{Spine, LfType, skeleton}
use Rattle.lf.specs.Typing.{Signature}
use Rattle.lf.proofs.TypeLaws.{skeleton_substituted}
use Rattle.lf_unification.specs.Offering.{AppliesToNew, applied_to_all, applied_to_next, raised}
use Rattle.lf_unification.specs.Patterns.{skeleton_target}
use Rattle.lf_unification.specs.Search.{Node, Pending, SearchStep, TryIsDue, child, is_due, no_child, no_head, other_target, take_goal, take_leaf}

-- the head that is offered has the goal's family as its target
offered_target : {D : List LfType} {Ψ : ℕ → Option LfType} {n : ℕ} {A : LfType} {Ψ' : ℕ → Option LfType} {n' : ℕ} {S : Spine} {a : ℕ} {T : Spine} → AppliesToNew D Ψ n A Ψ' n' S a T → skeleton_target (skeleton A) ≡ a
offered_target applied_to_all = refl
offered_target {D = D} {n = n} (applied_to_next {B = B} {C = C} o) = ap skeleton_target (sym (skeleton_substituted reduce (single (skeleton B) (raised D B n)) C)) ∙ offered_target o

module _ (Σ : Signature) (cs : List ℕ) where
  pub due_is_tried : {agenda agenda' : List Pending} {ls : List Node} {k : ℕ} → SearchStep Σ cs agenda ls k agenda' → TryIsDue Σ agenda → k ≡ 1
  due_is_tried (take_leaf e) d = elim d [ ]
  due_is_tried (take_goal e f) d = elim d [ ]
  due_is_tried no_head d = elim d [ ]
  due_is_tried (other_target f) (is_due {A = A} o) = absurd (f A o.typed (offered_target o.offered))
  due_is_tried (no_child o d) (is_due p) = refl
  due_is_tried (child o u w g) (is_due p) = refl

  pub tried_is_due : {agenda agenda' : List Pending} {ls : List Node} {k : ℕ} → SearchStep Σ cs agenda ls k agenda' → k ≡ 1 → TryIsDue Σ agenda
  tried_is_due (take_leaf e) q = (let p : zero ≡ suc zero = q in cc)
  tried_is_due (take_goal e f) q = (let p : zero ≡ suc zero = q in cc)
  tried_is_due no_head q = (let p : zero ≡ suc zero = q in cc)
  tried_is_due (other_target f) q = (let p : zero ≡ suc zero = q in cc)
  tried_is_due (no_child o d) q = is_due o
  tried_is_due (child o u w g) q = is_due o
