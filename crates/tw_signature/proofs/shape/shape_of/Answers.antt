use Rattle.std.proofs.Common.{◌≡◌, ◌∙◌, ◌++◌, ◌∷◌, [], false, length, arith}
use Rattle.lf.specs.Syntax.{pi}
use Rattle.lf_unification.specs.Search.{occurs_type}
use Rattle.tw_terms.specs.View.{type_of}
use Rattle.tw_terms.proofs.Args.{types}
use Rattle.tw_signature.specs.Marks.{marked}
use Rattle.tw_signature.proofs.Marking.{shape_step}
use Rattle.tw_signature.proofs.shape.shape_of.Goals as goal

pub loop-rest-preserved : goal.loop-rest-preserved
loop-rest-preserved c =
    let ms = c.loop-rest.marks.items in
    let e : type_of c.loop-rest.rest.now ≡ pi (type_of c.deref.result.now) (type_of c.deref-rest.result.now) = grind (arith, types) in
    let p : c.push.new.self.items ≡ marked (length ms) (λ i. occurs_type i (type_of c.deref.result.now)) ms ++ false ∷ [] = grind (arith, types) in
    shape_step (type_of c.loop-rest.rest.now) (type_of c.deref.result.now) (type_of c.deref-rest.result.now) ms c.push.new.self.items e p ∙ c.loop-rest.invariant
