use Rattle.std.proofs.Common.{List, subst, sym}
use Rattle.lf.specs.Entries.{Entry, signature_of}
use Rattle.lf.specs.Subordination.{AreTypedBlocks}
use Rattle.tw_clause.specs.View.{worlds_of}
use Rattle.tw_order.specs.Rows.{families_of}
use Rattle.tw_decl.proofs.Standing.{joined_typed}
use Rattle.tw_decl.proofs.terminating.descending.Goals as goal

pub check_order-requires : goal.check_order-requires
check_order-requires c = subst (λ (es : List Entry). AreTypedBlocks (signature_of es) (worlds_of c.in-Ok.worlds)) (sym c.signature.ensures) (joined_typed c.args.session.now (families_of c.args.rows.now) (worlds_of c.in-Ok.worlds) c.is_sound.ensures c.in-Ok.ensures)
