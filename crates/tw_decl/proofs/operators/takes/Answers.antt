use Rattle.std.proofs.Common.{◌≡◌, ◌-◌, length, rules}
use Rattle.tw_signature.specs.View.{entry_of}
use Rattle.tw_decl.proofs.Arguments.{takes_entry}
use Rattle.tw_decl.proofs.operators.takes.Goals as goal

pub returns : goal.returns
returns c =
    let e = entry_of c.in-Some-entry.entry.now in
    let counted : c.saturating_sub.result ≡ length e.hints - e.implicit = search rules in
    takes_entry c.args.signature.now c.args.name.now c.args.operands c.saturating_sub.result c.in-Some.id.0 e c.is_canonical.ensures c.in-Some.ensures c.in-Some-entry.ensures counted
