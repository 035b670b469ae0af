use Rattle.tw_signature.specs.View.{entry_of}
use Rattle.tw_decl.proofs.Reports.{report_line}
use Rattle.tw_decl.proofs.entering.line_of.Goals as goal

pub returns : goal.returns
returns c =
    report_line c.args.session.now (entry_of c.args.entry.now) c.environment.result c.in_ok-text.text.items c.push.new.self.items c.environment.ensures c.in_ok-text.ensures c.in_ok-push.ensures.items
