use Rattle.std.proofs.Common.{map}
use Rattle.tw_parse_checks.specs.Checks.{call_of, worlds}
use Rattle.tw_decl.proofs.Unset.{not_worlded}
use Rattle.tw_decl.proofs.worlding.families_of.Goals as goal

pub returns-in-Ok-applied-clause-applied : goal.returns-in-Ok-applied-clause-applied
returns-in-Ok-applied-clause-applied c = c.in-Ok-applied.ensures.applied (worlds c.args.labels.now (map call_of c.args.patterns.now)) c.in-Ok.ensures c.requires

pub returns-in-Err-applied-clause-cause : goal.returns-in-Err-applied-clause-cause
returns-in-Err-applied-clause-cause c =
    let check = worlds c.args.labels.now (map call_of c.args.patterns.now) in
    not_worlded c.args.session.now c.args.labels.now (map call_of c.args.patterns.now) c.args.first c.in-Err-applied.refusal (c.in-Err-applied.ensures.cause check c.in-Ok.ensures (λ m e l. l) c.requires)
