use Rattle.std.proofs.Common.{◌≡◌, length, ap, ◌∙◌, subst, arith}
use Rattle.lf.specs.Syntax.{kind_pi, star}
use Rattle.tw_open.specs.View.{open_kind_of}
use Rattle.tw_open.proofs.Views.{open_kind_of-Star}
use Rattle.tw_abstract.specs.Reading.{IsTypeReadAs}
use Rattle.tw_terms.specs.OpenView.{open_type_of}
use Rattle.tw_terms.specs.View.{kind_of, type_of}
use Rattle.tw_recon.proofs.Domains.{reads_last, reads_next}
use Rattle.tw_recon.proofs.Steps.{steps}
use Rattle.tw_recon.proofs.bodies.read_kind.Goals as goal

pub loop-rest-preserved : goal.loop-rest-preserved
loop-rest-preserved c =
    let k : open_kind_of c.loop-rest.rest.now ≡ kind_pi (open_type_of c.deref.result.now) (open_kind_of c.deref-rest.result.now) = grind (arith, steps) in
    let n : c.len-binders.result ≡ length c.loop-rest.domains.items = omega arith in
    let r = subst (λ i. IsTypeReadAs c.args.store.now.now c.args.quantifiers.now.positions i (open_type_of c.deref.result.now) (type_of c.in_ok-domain.domain)) n c.in_ok-domain.ensures.read in
    reads_next c.args.store.now.now c.args.quantifiers.now.positions (open_kind_of c.args.kind.now) (open_kind_of c.loop-rest.rest.now) (open_kind_of c.deref-rest.result.now) (open_type_of c.deref.result.now)
    c.loop-rest.domains.items c.add.new.domains.items c.in_ok-domain.domain k c.in_ok-add.ensures r c.loop-rest.invariant

pub returns-clause-read : goal.returns-clause-read
returns-clause-read c =
    let s : open_kind_of c.loop-rest.rest.now ≡ star = ap open_kind_of c.in_default.is ∙ open_kind_of-Star in
    reads_last c.args.store.now.now c.args.quantifiers.now.positions (open_kind_of c.args.kind.now) (open_kind_of c.loop-rest.rest.now) (kind_of c.in_ok-kind_of_domains.field-0) c.loop-rest.domains.items s c.in_ok-kind_of_domains.ensures c.loop-rest.invariant

pub read_type-requires-clause-quantifiers : goal.read_type-requires-clause-quantifiers
read_type-requires-clause-quantifiers c = c.requires.quantifiers
