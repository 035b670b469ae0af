use Rattle.std.proofs.Common.{◌≡◌, map, ap, ◌∙◌, arith}
use Rattle.lf.specs.Syntax.{kind_pi}
use Rattle.tw_terms.specs.View.{kind_of, type_of}
use Rattle.tw_terms.specs.declared.canonical.Kind.{Pi}
use Rattle.tw_terms.proofs.Views.{kind_of-Star}
use Rattle.tw_recon.proofs.Domains.{kind_from, kind_from-star, taken_last}
use Rattle.tw_recon.proofs.Steps.{steps}
use Rattle.tw_recon.proofs.bodies.kind_of_domains.Goals as goal

pub loop-domain-init : goal.loop-domain-init
loop-domain-init c = ap (kind_from (map type_of c.args.domains.items)) kind_of-Star ∙ kind_from-star (map type_of c.args.domains.items)

pub loop-domain-preserved : goal.loop-domain-preserved
loop-domain-preserved c =
    let l : kind_of (Pi c.in_ok-domain.domain c.in_ok-new.field-0) ≡ kind_pi (type_of c.in-Some.domain) (kind_of c.loop-domain.kind) = grind (arith, steps) in
    taken_last (map type_of c.args.domains.items) c.loop-domain.domains.items c.pop.new.self.items c.in-Some.domain (kind_of c.loop-domain.kind) (kind_of (Pi c.in_ok-domain.domain c.in_ok-new.field-0)) c.in-Some.ensures.items l c.loop-domain.invariant
