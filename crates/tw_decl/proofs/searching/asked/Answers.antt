use Rattle.std.proofs.Common.{List, subst}
use Rattle.lf.specs.Entries.{Entry}
use Rattle.tw_parse.specs.View.{term_of}
use Rattle.tw_recon.specs.Queries.{HasGoalCause}
use Rattle.tw_decl.proofs.Searched.{not_asked}
use Rattle.tw_decl.proofs.searching.asked.Goals as goal

pub returns-in-Err-clause-cause : goal.returns-in-Err-clause-cause
returns-in-Err-clause-cause c =
    let A = term_of c.args.query.now.goal in
    not_asked c.args.session.now c.args.first A c.in-Err.fault (subst (λ (es : List Entry). HasGoalCause es A c.in-Err.fault) c.signature.ensures c.in-Err.ensures.refused) c.not_reconstructed.result c.not_reconstructed.ensures
