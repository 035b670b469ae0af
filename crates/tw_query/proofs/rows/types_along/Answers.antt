use Rattle.std.proofs.Common.{◌≡◌, ◌<◌, length, map, arith}
use Rattle.lf.specs.Syntax.{pi}
use Rattle.tw_terms.specs.View.{term_of, type_of}
use Rattle.tw_terms.proofs.Args.{types}
use Rattle.tw_query.specs.Text.{types_along}
use Rattle.tw_query.proofs.Enough.{early}
use Rattle.tw_query.proofs.rows.types_along.Goals as goal

pub returns-then-len-needed : goal.returns-then-len-needed
returns-then-len-needed c =
    let e : type_of c.loop-term.left ≡ pi (type_of c.in-Pi.domain.value) (type_of c.in-Pi.range.value) = grind (arith, types) in
    let d : type_of c.into_inner.result ≡ type_of c.in-Pi.domain.value = grind (arith, types) in
    let i : c.loop-term.term-index < length c.args.terms.now = omega arith in
    let n : length c.push.new.self.items ≡ c.args.needed = omega arith in
    early c.args.needed c.loop-term.types.items c.push.new.self.items c.into_inner.result (type_of c.loop-term.left) (type_of c.in-Pi.domain.value) (type_of c.in-Pi.range.value) c.args.terms.now c.loop-term.term-index (types_along (type_of c.args.ty) (map term_of c.args.terms.now))
    c.in_ok-push-in-Pi.ensures.items d e c.loop-term.invariant.so_far i n
