use Rattle.std.proofs.Common.{◌+◌, drop, subst, arith}
use Rattle.std.specs.Prelude.{IfSome}
use Rattle.lf.specs.Entries.{signature_of}
use Rattle.tw_putting.specs.Stores.{types_of}
use Rattle.tw_terms.specs.OpenView.{open_args_of, open_head_of, open_spine_of, open_term_of, open_type_of}
use Rattle.tw_terms.proofs.OpenArgs.{open_types}
use Rattle.tw_unify.proofs.Spines.{open_args_at}
use Rattle.tests_ready.specs.Checked.{HeadIsTyped, IsTyped}
use Rattle.tests_ready.proofs.TypedTerms.{argument_fits, at_true, continues_next, domain_skeletons, next_skeletons}
use Rattle.tests_ready.proofs.terms.+terms.Goals as goal

pub has_type-takes-requires : goal.has_type-takes-requires
has_type-takes-requires t c =
    let Σ = signature_of c.args.signature.now in
    let Ψ = types_of c.args.store.now.now in
    let h : HeadIsTyped Σ Ψ c.args.limit c.args.context.now (open_head_of c.in-Root-Atom.head) (open_type_of c.in-Some.function) =
    subst (λ o. IfSome o (λ a. HeadIsTyped Σ Ψ c.args.limit c.args.context.now (open_head_of c.in-Root-Atom.head) (open_type_of a))) c.in-Some.is c.in_ok-function-in-Root-Atom.ensures in
    (grind (arith, open_types), (c.requires.canonical, (c.requires.stands, h.skeletons)))

pub takes-has_type-requires : goal.takes-has_type-requires
takes-has_type-requires t c = (
  grind (arith, open_types),
  (
    c.requires.canonical,
    (
      c.requires.stands,
      domain_skeletons (signature_of c.args.signature.now) (types_of c.args.store.now.now) c.args.context.now (open_type_of c.loop-arg.rest) (open_type_of c.in-Some.domain) (open_type_of c.in-Some.range) c.loop-arg.invariant.skeletons c.in-Some.ensures,
    ),
  ),
)

pub takes-instantiate-requires : goal.takes-instantiate-requires
takes-instantiate-requires t c =
    let Σ = signature_of c.args.signature.now in
    let Ψ = types_of c.args.store.now.now in
    let A = open_type_of c.in-Some.domain in
    let M = open_term_of c.arg-item.result in
    let m : IsTyped Σ Ψ c.args.limit c.args.context.now M A = at_true c.in_ok-has_type.field-0 (IsTyped Σ Ψ c.args.limit c.args.context.now M A) c.if-not-branch.false c.in_ok-has_type.ensures in
    argument_fits Σ Ψ c.args.limit c.args.context.now (open_type_of c.loop-arg.rest) A (open_type_of c.in-Some.range) M c.loop-arg.invariant.skeletons c.in-Some.ensures m

pub takes-loop-arg-preserved : goal.takes-loop-arg-preserved
takes-loop-arg-preserved t c =
    let Σ = signature_of c.args.signature.now in
    let Ψ = types_of c.args.store.now.now in
    let n = c.args.limit in
    let D = c.args.context.now in
    let X = open_type_of c.loop-arg.rest in
    let Y = open_type_of c.in-Ok.left in
    let A = open_type_of c.in-Some.domain in
    let B = open_type_of c.in-Some.range in
    let M = open_term_of c.arg-item.result in
    let items = c.deref-arg-items.result.now in
    let m : IsTyped Σ Ψ n D M A = at_true c.in_ok-has_type.field-0 (IsTyped Σ Ψ n D M A) c.if-not-branch.false c.in_ok-has_type.ensures in
    record {
      so_far = continues_next Σ Ψ n D (open_spine_of c.args.spine.now) (open_args_of (drop c.loop-arg.arg-index items)) (open_args_of (drop (c.loop-arg.arg-index + 1) items)) (open_type_of c.args.function) X Y A B M
          (open_args_at items c.loop-arg.arg-index c.arg-item.result (omega arith) c.arg-item.is) c.in-Some.ensures m c.in-Ok.ensures.ok c.loop-arg.invariant.so_far;
      skeletons = next_skeletons Σ Ψ n D X Y A B M c.loop-arg.invariant.skeletons c.in-Some.ensures m c.in-Ok.ensures.ok;
    }
