use Rattle.std.proofs.Common.{List, map, subst, sym}
use Rattle.lf.specs.Entries.{Entry, signature_of}
use Rattle.lf.specs.Subordination.{IsTypedBlock}
use Rattle.lf_checks.specs.WorldFaults.{GroupIsWorlded, WorldRow}
use Rattle.tw_clause.specs.Tables.{world_rows_of}
use Rattle.tw_clause.specs.View.{worlds_of}
use Rattle.tw_terms.specs.declared.canonical.ConstId.{ConstId}
use Rattle.tw_world.specs.Serving.{below_in}
use Rattle.tw_decl.proofs.worlding.worlded.Goals as goal

pub check_worlds-requires : goal.check_worlds-requires
check_worlds-requires c = λ B m. subst (λ (es : List Entry). IsTypedBlock (signature_of es) B) (sym c.signature.ensures) (c.is_sound.ensures.1.typed B (c.requires B m))

pub returns-in-Ok-check_worlds-clause-worlded : goal.returns-in-Ok-check_worlds-clause-worlded
returns-in-Ok-check_worlds-clause-worlded c =
    let below = below_in c.in-Ok.subord in
    let families = map (λ (f : ConstId). f.0) c.args.families.now in
    let W = worlds_of c.args.worlds.now in (
      below,
      λ f b. c.in-Ok.ensures.decided b f,
      subst (λ (rows : List WorldRow). GroupIsWorlded c.args.session.now.signature rows families below W) c.worlds.ensures
          (subst (λ (es : List Entry). GroupIsWorlded es (world_rows_of c.worlds.result.now) families below W) c.signature.ensures c.in-Ok-check_worlds.ensures),
    )
