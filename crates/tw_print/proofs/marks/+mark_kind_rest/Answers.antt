use Rattle.std.proofs.Common.{◌≡◌, ◌++◌, ◌∷◌, [], false, length, arith}
use Rattle.lf.specs.Syntax.{kind_pi, star}
use Rattle.tw_terms.specs.View.{type_of, kind_of}
use Rattle.tw_terms.proofs.Args.{types}
use Rattle.tw_print.specs.Marks.{marked}
use Rattle.tw_print.specs.Variables.{occurs_in_type}
use Rattle.tw_print.proofs.Marking.{on_ok, rest_of_kind, rest_of_star}
use Rattle.tw_print.proofs.marks.+mark_kind_rest.Goals as goal

pub returns-in_ok-push-in-Pi : goal.returns-in_ok-push-in-Pi
returns-in_ok-push-in-Pi t c =
    let e : kind_of c.args.kind.now ≡ kind_pi (type_of c.deref.result.now) (kind_of c.deref-in-Pi.result.now) = grind (arith, types) in
    let p : c.push.new.self.items ≡ marked (length c.args.marks.now.items) (λ i. occurs_in_type i (type_of c.deref.result.now)) c.args.marks.now.items ++ false ∷ [] = grind (arith, types) in
    on_ok c.mark_kind_rest.result _ _ (rest_of_kind (kind_of c.args.kind.now) (type_of c.deref.result.now) (kind_of c.deref-in-Pi.result.now) c.args.marks.now.items c.push.new.self.items c.mark_kind_rest.new.marks.items e p) c.mark_kind_rest.ensures

pub returns-in-Star : goal.returns-in-Star
returns-in-Star t c =
    let e : kind_of c.args.kind.now ≡ star = grind (arith, types) in
    rest_of_star (kind_of c.args.kind.now) c.args.marks.now.items e
