use Rattle.std.proofs.Common.{◌≡◌, arith, rules}
use Rattle.std.proofs.lemmas.Result.{IfOk-weaker}
use Rattle.std.specs.Bool.{OnTrue}
use Rattle.lf.specs.Entries.{signature_of}
use Rattle.lf.specs.Syntax.{app, kind_pi, nil, star}
use Rattle.lf.proofs.Entries.{canonical_is_signature}
use Rattle.tw_terms.specs.OpenView.{open_spine_of, open_term_of, open_type_of}
use Rattle.tw_terms.specs.View.{kind_of, type_of}
use Rattle.tw_terms.proofs.Args.{types}
use Rattle.tw_terms.proofs.OpenArgs.{open_types}
use Rattle.tw_putting.specs.Stores.{types_of}
use Rattle.tests_ready.specs.Checked.{FitsKind, IsTyped}
use Rattle.tests_ready.proofs.TypedTerms.{at_true, kind_domain, no_index, on_true, one_index}
use Rattle.tests_ready.proofs.types.fits_kind.Goals as goal

pub has_type-requires-clause-ty : goal.has_type-requires-clause-ty
has_type-requires-clause-ty c =
    let k : kind_of c.args.kind.now ≡ kind_pi (type_of c.in-Pi.domain.value) (kind_of c.in-Pi.rest.value) = grind (arith, types) in
    let d : open_type_of c.in_ok-domain-in-Star-eq1.domain ≡ type_of c.in-Pi.domain.value = search rules in
    kind_domain (signature_of c.args.signature.now) (types_of c.args.store.now.now) (canonical_is_signature c.args.signature.now c.requires.canonical) c.args.context.now (kind_of c.args.kind.now) (kind_of c.in-Pi.rest.value) (type_of c.in-Pi.domain.value) (open_type_of c.in_ok-domain-in-Star-eq1.domain) c.requires.kind k d

pub returns-in-Star : goal.returns-in-Star
returns-in-Star c =
    let Σ = signature_of c.args.signature.now in
    let Ψ = types_of c.args.store.now.now in
    let k : kind_of c.args.kind.now ≡ star = grind (arith, types) in
    on_true c.is_empty.result (FitsKind Σ Ψ c.args.limit c.args.context.now (open_spine_of c.args.spine.now) (kind_of c.args.kind.now))
    (λ e. let s : open_spine_of c.args.spine.now ≡ nil = grind (arith, open_types) in no_index Σ Ψ c.args.limit c.args.context.now (open_spine_of c.args.spine.now) (kind_of c.args.kind.now) k s)

pub returns-in_ok-domain-in-Star-eq1 : goal.returns-in_ok-domain-in-Star-eq1
returns-in_ok-domain-in-Star-eq1 c =
    let Σ = signature_of c.args.signature.now in
    let Ψ = types_of c.args.store.now.now in
    let n = c.args.limit in
    let D = c.args.context.now in
    let K = kind_of c.args.kind.now in
    let S = open_spine_of c.args.spine.now in
    let A = open_type_of c.in_ok-domain-in-Star-eq1.domain in
    let M = open_term_of c.index.result.now in
    let k : K ≡ kind_pi A star = grind (arith, types) in
    let s : S ≡ app M nil = grind (arith, open_types) in
    IfOk-weaker c.has_type.result (λ b. OnTrue b (IsTyped Σ Ψ n D M A)) (λ b. OnTrue b (FitsKind Σ Ψ n D S K))
    (λ b p. on_true b (FitsKind Σ Ψ n D S K) (λ e. one_index Σ Ψ n D S K A M k s (at_true b (IsTyped Σ Ψ n D M A) e p)))
    c.has_type.ensures
