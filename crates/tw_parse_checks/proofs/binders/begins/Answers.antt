use Rattle.std.proofs.Common.{◌≡◌, false, rules}
use Rattle.tw_parse_checks.proofs.Forms.{it_fails}
use Rattle.tw_parse_checks.proofs.Sources.{no_binder}
use Rattle.tw_parse_checks.proofs.binders.begins.Goals as goal

pub returns-clause-binder : goal.returns-clause-binder
returns-clause-binder c =
    let opens : c.opens.result ≡ false = search rules in
    let bare : c.is_bare.result ≡ false = search rules in
    no_binder c.args.source.now c.args.number (it_fails c.opens.result _ _ opens c.opens.ensures.opens) (it_fails c.is_bare.result _ _ bare c.is_bare.ensures.bare)
