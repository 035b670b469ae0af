use Rattle.std.proofs.Common.{◌≡◌, ◌∙◌, ◌++◌, [], ap, arith, length, map, sym, subst}
use Rattle.tw_clause.specs.Tables.{world_row_of, world_rows_of}
use Rattle.tw_clause.specs.View.{block_of, worlds_of}
use Rattle.tw_terms.specs.declared.canonical.ConstId.{ConstId}
use Rattle.tw_decl.specs.View.{AreAmong, View, rows_beside, with_worlds, world_row}
use Rattle.tw_decl.proofs.Standing.{stand_rows}
use Rattle.tw_decl.proofs.TakenOut.{new_rows}
use Rattle.tw_decl.proofs.session.Session.set_worlds.Goals as goal

pub invariant_of-self-2 : goal.invariant_of-self-2
invariant_of-self-2 c =
    let W = worlds_of c.args.worlds.now in
    let old = c.self.inside in
    let families = map (λ (f : ConstId). f.0) c.args.families.now in
    let count : c.len-count.result ≡ length c.in_ok-rows.rows.items = grind (arith) in
    let rows_are : map world_row_of c.take_out.new.rows.items ≡ map (world_row W) families ++ rows_beside families (world_rows_of old.worlds) =
    new_rows world_row_of W c.args.families.now c.in_ok-rows.rows.items old.worlds.rows.items c.append.new.self.items c.take_out.new.rows.items c.in_ok-rows.ensures c.in_ok-append.ensures.items c.len-count.result count c.take_out.ensures in
    (c.self.invariant.0, stand_rows old.signature (map block_of old.blocks.items) (world_rows_of old.worlds) _ families W rows_are c.self.invariant.1 (subst (λ (v : View). AreAmong v.checked.blocks W) (sym c.self.view_is) c.requires))

pub returns-clause-set : goal.returns-clause-set
returns-clause-set c =
    let W = worlds_of c.args.worlds.now in
    let old = c.self.inside in
    let families = map (λ (f : ConstId). f.0) c.args.families.now in
    let count : c.len-count.result ≡ length c.in_ok-rows.rows.items = grind (arith) in
    let rows_are : map world_row_of c.take_out.new.rows.items ≡ map (world_row W) families ++ rows_beside families (world_rows_of old.worlds) =
    new_rows world_row_of W c.args.families.now c.in_ok-rows.rows.items old.worlds.rows.items c.append.new.self.items c.take_out.new.rows.items c.in_ok-rows.ensures c.in_ok-append.ensures.items c.len-count.result count c.take_out.ensures in
    ap (λ rows. record {
      signature = old.signature;
      fixities = old.fixities;
      names = old.names;
      checked = record { modes = old.modes; blocks = map block_of old.blocks.items; worlds = rows };
      parameters = old.parameters;
      config = [];
    }) rows_are ∙ ap (λ (v : View). with_worlds v families W) c.self.view_is
