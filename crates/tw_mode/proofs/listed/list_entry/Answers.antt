use Rattle.std.proofs.Common.{◌≡◌, ◌∙◌, Some, ap, rules, sym}
use Rattle.std.specs.Prelude.{slice_get}
use Rattle.lf.specs.Variables.{same_number, target}
use Rattle.tw_clause.specs.View.{block_of}
use Rattle.tw_terms.specs.View.{type_of}
use Rattle.tw_mode.specs.Listing.{is_of}
use Rattle.tw_mode.proofs.Listing.{entry_left, entry_pushed}
use Rattle.tw_signature.proofs.Marking.{same_not, same_self}
use Rattle.tw_mode.proofs.listed.list_entry.Goals as goal

pub returns-then-target-family : goal.returns-then-target-family
returns-then-target-family c = λ es W w.
    let e : slice_get c.args.block.now.entries c.args.newer ≡ Some (type_of c.in-Some.ty.now) = search rules in
    let t = same_not (target (type_of c.in-Some.ty.now)) c.args.family.0 (λ q. c.if-target-family.true (c.target.ensures ∙ q)) in
    entry_left es W (block_of c.args.block.now) c.args.newer c.args.family.0 c.args.listed.now.items (ap (λ o. is_of o c.args.family.0) e ∙ t)

pub returns : goal.returns
returns c = λ es W w.
    let e : slice_get c.args.block.now.entries c.args.newer ≡ Some (type_of c.in-Some.ty.now) = search rules in
    let t = ap (λ n. same_number n c.args.family.0) (sym c.target.ensures ∙ c.if-target-family.false) ∙ same_self c.args.family.0 in
    entry_pushed es W (block_of c.args.block.now) c.args.number c.args.newer c.args.family.0 (type_of c.in-Some.ty.now) c.args.listed.now.items c.push.new.self.items w e t c.in_ok-push.ensures.items
