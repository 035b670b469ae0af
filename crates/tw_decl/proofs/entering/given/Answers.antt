use Rattle.std.proofs.Common.{List, subst}
use Rattle.lf.specs.Entries.{Entry}
use Rattle.tw_parse.specs.View.{declaration_of}
use Rattle.tw_recon.specs.Causes.{HasCause}
use Rattle.tw_decl.proofs.Causes.{not_entered}
use Rattle.tw_decl.proofs.entering.given.Goals as goal

pub returns-in-Err-clause-cause : goal.returns-in-Err-clause-cause
returns-in-Err-clause-cause c =
    let d = declaration_of c.args.declaration.now in
    not_entered c.args.session.now c.args.first d c.in-Err.fault
    (subst (λ (es : List Entry). HasCause es d c.in-Err.fault) c.signature.ensures c.in-Err.ensures.refused) c.not_reconstructed.result c.not_reconstructed.ensures
