use Rattle.std.proofs.Common.{◌≡◌, ◌+◌, ◌<◌, ◌^◌, List, Some, true, length, sym, ap, ◌∙◌, subst}
use Rattle.lf.specs.Entries.{Entry}
use Rattle.tw_parse.specs.declared.decl.ExtName.{ExtName}
use Rattle.tw_signature.specs.View.{entry_of}
use Rattle.tw_decl.specs.Applications.{takes_just}
use Rattle.tw_decl.specs.Operators.{entry_by, newest}
use Rattle.tw_decl.proofs.Counts.{few_places}
use Rattle.tw_decl.proofs.terminating.row_of.Goals as goal

pub order_at-requires : goal.order_at-requires
order_at-requires c =
    let es = c.signature-signature.result.now in
    let name = c.args.pattern.now.family.name in
    let n = length c.args.pattern.now.names.items in
    let e = entry_of c.in-Some-entry.entry.now in
    let here : newest es name ≡ Some e = ap (entry_by es) (sym c.in-Some.ensures) ∙ sym c.in-Some-entry.ensures in
    let takes : takes_just n (Some e) ≡ true = sym (ap (takes_just n) here) ∙ ap (λ (xs : List Entry). takes_just n (newest xs name)) c.signature-signature.ensures ∙ c.requires in
    subst (λ (xs : List ExtName). length xs + e.implicit < 2 ^ 32) (sym c.deref.ensures.value) (few_places es c.in-Some.id.0 n e c.is_canonical.ensures (sym c.in-Some-entry.ensures) takes)
