use Rattle.std.proofs.Common.{◌≡◌, ◌∙◌, ◌∷◌, Some, ap, sym}
use Rattle.std.specs.Prelude.{slice_get}
use Rattle.tw_clause.specs.View.{block_of}
use Rattle.tw_terms.specs.View.{type_of}
use Rattle.tw_order.proofs.Collecting.{entry_left, entry_pushed, outer_next}
use Rattle.tw_order.proofs.listed.list_entry.Goals as goal
use Rattle.tw_order.proofs.listed.list_entry.Goals.{then-target-family+in_ok-entry+in_ok-push, else-target-family}

pub returns-clause-outer : goal.returns-clause-outer
returns-clause-outer c =
    let e : slice_get c.args.block.now.entries c.args.newer ≡ Some (type_of c.in-Some.ty.now) = sym c.in-Some.ensures in
    outer_next c.args.block.now.entries c.args.block.now.some c.args.newer (type_of c.in-Some.ty.now) c.args.outer.now c.push-2.new.self e (c.in_ok-push-2.ensures.ok ∙ ap (λ A. A ∷ c.args.outer.now) c.in_ok-copy.ensures) c.requires.outer

pub returns-clause-listed : goal.returns-clause-listed
returns-clause-listed c = λ E f.
    let e : slice_get c.args.block.now.entries c.args.newer ≡ Some (type_of c.in-Some.ty.now) = sym c.in-Some.ensures in
    elim c.if-target-family.branch [
      | then-target-family+in_ok-entry+in_ok-push w ↦ entry_pushed (block_of c.args.block.now) c.args.family.0 c.args.newer (type_of c.in-Some.ty.now) E e f c.args.listed.now.items c.if-target-family.listed.items w.in_ok-entry.field-0 (sym c.target.ensures ∙ w.if-target-family.true) (ap (λ v. v.items) w.listed-is ∙ w.in_ok-push.ensures.items) w.in_ok-entry.ensures
      | else-target-family w ↦ entry_left (block_of c.args.block.now) c.args.family.0 c.args.newer (type_of c.in-Some.ty.now) E e f c.args.listed.now.items c.if-target-family.listed.items (λ q. w.if-target-family.false (c.target.ensures ∙ q)) (ap (λ v. v.items) w.listed-is)
    ]
