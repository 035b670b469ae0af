use Rattle.std.proofs.Common.{sym, subst}
use Rattle.lf.specs.Entries.{signature_of, BodyIsTyped}
use Rattle.tw_signature.specs.View.{body_of, entry_of}
use Rattle.tw_print.proofs.Declared.{newest_body}
use Rattle.tw_print.proofs.show.show_entry.Goals as goal

pub line-requires-2-clause-typed : goal.line-requires-2-clause-typed
line-requires-2-clause-typed c =
    subst (λ s. BodyIsTyped (signature_of s.entries) (body_of c.args.entry.now.body)) (sym c.scene-scene-2.ensures) (newest_body c.args.env.now.sig.now (entry_of c.args.entry.now) c.requires)
