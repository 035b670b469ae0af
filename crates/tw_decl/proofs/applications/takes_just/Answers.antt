use Rattle.std.proofs.Common.{◌≡◌, ◌-◌, length, sym, ◌∙◌, rules}
use Rattle.tw_signature.specs.View.{entry_of}
use Rattle.tw_decl.proofs.Arguments.{takes_just_entry}
use Rattle.tw_decl.proofs.applications.takes_just.Goals as goal

pub returns-then-is_family : goal.returns-then-is_family
returns-then-is_family c =
    let e = entry_of c.in-Some.entry.now in
    let counted : c.saturating_sub.result ≡ length e.hints - e.implicit = search rules in
    takes_just_entry c.args.signature.now c.args.count c.saturating_sub.result c.args.id.0 e c.is_canonical.ensures c.in-Some.ensures (sym c.is_family.ensures ∙ c.if-is_family.true) counted
