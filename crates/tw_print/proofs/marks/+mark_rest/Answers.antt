use Rattle.std.proofs.Common.{◌≡◌, ◌++◌, ◌∷◌, [], false, length, arith}
use Rattle.lf.specs.Syntax.{pi}
use Rattle.tw_terms.specs.View.{type_of}
use Rattle.tw_terms.proofs.Args.{types}
use Rattle.tw_print.specs.Marks.{marked}
use Rattle.tw_print.specs.Variables.{occurs_in_type}
use Rattle.tw_print.proofs.Marking.{on_ok, rest_of_type}
use Rattle.tw_print.proofs.marks.+mark_rest.Goals as goal

pub returns-in_ok-push-in-Pi : goal.returns-in_ok-push-in-Pi
returns-in_ok-push-in-Pi t c =
    let e : type_of c.args.ty.now ≡ pi (type_of c.deref.result.now) (type_of c.deref-in-Pi.result.now) = grind (arith, types) in
    let p : c.push.new.self.items ≡ marked (length c.args.marks.now.items) (λ i. occurs_in_type i (type_of c.deref.result.now)) c.args.marks.now.items ++ false ∷ [] = grind (arith, types) in
    on_ok c.mark_rest.result _ _ (rest_of_type (type_of c.args.ty.now) (type_of c.deref.result.now) (type_of c.deref-in-Pi.result.now) c.args.marks.now.items c.push.new.self.items c.mark_rest.new.marks.items e p) c.mark_rest.ensures
