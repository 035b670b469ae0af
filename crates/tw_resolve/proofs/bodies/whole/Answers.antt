use Rattle.std.proofs.Common.{ap, ◌∙◌}
use Rattle.std.specs.Bool.{◌==◌}
use Rattle.std.proofs.lemmas.Bool.{false≢true}
use Rattle.std.specs.Option.{option_map}
use Rattle.tw_written.specs.View.{written_body_of}
use Rattle.tw_resolve.proofs.Rests.{not_whole}
use Rattle.tw_resolve.proofs.bodies.whole.Goals as goal

pub returns-else-is_empty : goal.returns-else-is_empty
returns-else-is_empty c =
    let omitted = c.args.resolving.now.omitted in
    not_whole (option_map written_body_of c.args.body) omitted.items (λ h. false≢true (c.if-is_empty.ensures ∙ ap (λ k. k == 0) (omitted.ok.0 ∙ h)))
