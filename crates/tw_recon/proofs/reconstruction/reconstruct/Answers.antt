use Rattle.std.proofs.Common.{Err, ap}
use Rattle.lf.specs.Entries.{signature_of}
use Rattle.tw_approx.specs.Answer.{rows_of}
use Rattle.tw_parse.specs.View.{declaration_of}
use Rattle.tw_signature.specs.View.{body_of, entry_of}
use Rattle.tw_written.specs.View.{written_body_of}
use Rattle.tw_recon.proofs.Entering.{canonical_entry, completed_typed, declaration_stops, entry_refused, hint_each}
use Rattle.tw_recon.proofs.reconstruction.reconstruct.Goals as goal

pub entry-requires : goal.entry-requires
entry-requires c =
    completed_typed c.args.signature.now (rows_of c.in-Ok.told.rows.items) (written_body_of c.in-Ok.told.written) c.in-Ok-complete.completed.quantifiers c.in-Ok-complete.completed.hints.items
    c.in-Ok-complete.completed.shown.items (body_of c.in-Ok-complete.completed.body) c.in-Ok-complete.ensures.completed

pub returns-in-Ok-entry-clause-canonical : goal.returns-in-Ok-entry-clause-canonical
returns-in-Ok-entry-clause-canonical c =
    canonical_entry (signature_of c.args.signature.now) c.in-Ok-complete.completed.quantifiers (body_of c.in-Ok-complete.completed.body) (declaration_of c.args.decl.now) (entry_of c.in-Ok-entry.entry) c.in-Ok-complete.completed.hints.items
    c.in-Ok-entry.ensures.typed c.in-Ok-entry.ensures.within
    (hint_each c.args.signature.now (rows_of c.in-Ok.told.rows.items) (written_body_of c.in-Ok.told.written) c.in-Ok-complete.completed.quantifiers c.in-Ok-complete.completed.hints.items c.in-Ok-complete.completed.shown.items (body_of c.in-Ok-complete.completed.body) c.in-Ok-complete.ensures.completed)
    c.in-Ok-entry.ensures.entry

pub returns-in-Err-entry-clause-refused : goal.returns-in-Err-entry-clause-refused
returns-in-Err-entry-clause-refused c =
    declaration_stops c.args.signature.now (declaration_of c.args.decl.now) (rows_of c.in-Ok.told.rows.items) (written_body_of c.in-Ok.told.written) c.in-Err-entry.fault c.in-Ok.ensures.written
    (entry_refused c.args.signature.now (rows_of c.in-Ok.told.rows.items) (written_body_of c.in-Ok.told.written) c.in-Ok-complete.completed.quantifiers c.in-Ok-complete.completed.hints.items c.in-Ok-complete.completed.shown.items (body_of c.in-Ok-complete.completed.body) c.in-Err-entry.fault c.in-Ok-complete.ensures.completed c.in-Err-entry.ensures.fault (λ e. c.in-Err-entry.ensures.too_deep (ap Err e)))

pub returns-in-Err-complete-clause-refused : goal.returns-in-Err-complete-clause-refused
returns-in-Err-complete-clause-refused c =
    declaration_stops c.args.signature.now (declaration_of c.args.decl.now) (rows_of c.in-Ok.told.rows.items) (written_body_of c.in-Ok.told.written) c.in-Err-complete.fault c.in-Ok.ensures.written c.in-Err-complete.ensures.refused
