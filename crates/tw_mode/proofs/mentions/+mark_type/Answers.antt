use Rattle.std.proofs.Common.{◌≡◌, arith}
use Rattle.lf.specs.Syntax.{pi}
use Rattle.tw_terms.specs.View.{type_of}
use Rattle.tw_terms.proofs.Args.{types}
use Rattle.tw_signature.proofs.Marking.{on_ok, pi_marked}
use Rattle.tw_mode.proofs.mentions.+mark_type.Goals as goal

pub returns-in_ok-mark_type-in-Pi : goal.returns-in_ok-mark_type-in-Pi
returns-in_ok-mark_type-in-Pi t c =
    let e : type_of c.args.ty.now ≡ pi (type_of c.deref.result.now) (type_of c.deref-in-Pi.result.now) = grind (arith, types) in
    on_ok c.mark_type-in-Pi.result _ _ (pi_marked c.args.depth c.in_ok-inside-in-Pi.inside (type_of c.args.ty.now) (type_of c.deref.result.now) (type_of c.deref-in-Pi.result.now) c.args.marks.now c.mark_type.new.marks c.mark_type-in-Pi.new.marks e c.in_ok-inside-in-Pi.ensures c.requires c.in_ok-mark_type-in-Pi.ensures) c.mark_type-in-Pi.ensures
