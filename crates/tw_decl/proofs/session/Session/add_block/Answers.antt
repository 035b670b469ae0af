use Rattle.std.proofs.Common.{◌∙◌, [], ◌∷◌, ap, map, sym, subst}
use Rattle.std.proofs.lemmas.List.{map-append}
use Rattle.lf.specs.Entries.{signature_of}
use Rattle.lf.specs.Subordination.{IsTypedBlock}
use Rattle.tw_clause.specs.View.{block_of}
use Rattle.tw_decl.specs.View.{View}
use Rattle.tw_decl.proofs.Standing.{stand_pushed}
use Rattle.tw_decl.proofs.session.Session.add_block.Goals as goal

pub invariant_of-self-2 : goal.invariant_of-self-2
invariant_of-self-2 c = (
  c.self.invariant.0,
  stand_pushed c.self.inside.signature (map block_of c.self.inside.blocks.items) (map block_of c.push.new.self.items) (block_of c.args.block) _
      (ap (map block_of) c.in_ok-push.ensures.items ∙ map-append block_of c.self.inside.blocks.items (c.args.block ∷ [])) c.self.invariant.1
      (subst (λ (v : View). IsTypedBlock (signature_of v.signature) (block_of c.args.block)) (sym c.self.view_is) c.requires),
)
