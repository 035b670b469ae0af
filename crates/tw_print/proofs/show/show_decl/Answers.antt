use Rattle.std.proofs.Common.{◌∙◌, ap, sym, subst}
use Rattle.std.specs.Option.{option_map}
use Rattle.lf.specs.Entries.{signature_of, BodyIsTyped}
use Rattle.tw_signature.specs.View.{body_of, entry_of}
use Rattle.tw_print.proofs.Declared.{entry_typed, found, present}
use Rattle.tw_print.proofs.show.show_decl.Goals as goal

pub line-requires-clause-typed : goal.line-requires-clause-typed
line-requires-clause-typed c =
    subst (λ s. BodyIsTyped (signature_of s.entries) (body_of c.in-Some.entry.now.body)) (sym c.scene-scene.ensures)
    (entry_typed c.args.env.now.sig.now c.args.id.0 (entry_of c.in-Some.entry.now) c.is_canonical.ensures (found c.entry.result c.in-Some.entry _ c.in-Some.is c.entry.ensures))

pub unreachable-requires : goal.unreachable-requires
unreachable-requires c = present c.args.env.now.sig.now c.args.id.0 c.requires (sym c.entry.ensures ∙ ap (option_map (λ e. entry_of e.now)) c.in-None.is)
