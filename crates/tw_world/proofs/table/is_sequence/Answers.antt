use Rattle.std.proofs.Common.{◌≡◌, ◌∙◌, ◌-◌, suc, [], drop, ap, sym, subst, arith}
use Rattle.lf.specs.Entries.{signature_of}
use Rattle.lf.specs.Typing.{IsContext}
use Rattle.lf.specs.Variables.{onto}
use Rattle.tw_clause.specs.View.{worlds_of}
use Rattle.tw_world.specs.Sequences.{TableAt, first_said, none_said}
use Rattle.tw_world.proofs.Tables.{both_told, first_table_stands, goes_deep, part_is_context, table_decides, whole_first}
use Rattle.tw_world.proofs.table.is_sequence.Goals as goal

pub loop-left-init : goal.loop-left-init
loop-left-init c =
    let Σ = signature_of c.args.sig.now in
    let W = worlds_of c.args.worlds.now in
    let C = c.args.outer.now in
    let D = c.args.local.now in
    record {
      bounded = (let e = c.len-left.ensures in omega (arith, e));
      whole = c.in_ok-whole.ensures ∙ whole_first D C ∙ ap (λ n. onto (drop n D) C) (sym c.len-left.ensures);
      table = subst (λ n. TableAt Σ W [] C D n c.in_ok-table.table.items c.in_ok-deep.deep.items) (sym c.len-left.ensures) (first_table_stands Σ W C D c.in_ok-table.table.items c.in_ok-deep.deep.items (c.in_ok-table.ensures ∙ ap first_said c.len.ensures) (c.in_ok-deep.ensures ∙ ap (λ n. none_said (suc n)) c.len-2.ensures));
    }

pub extend-requires-clause-context : goal.extend-requires-clause-context
extend-requires-clause-context c = subst (IsContext (signature_of c.args.sig.now)) (sym c.loop-left.invariant.whole) (part_is_context (signature_of c.args.sig.now) c.args.local.now c.args.outer.now c.loop-left.left c.requires.context)

pub loop-left-preserved : goal.loop-left-preserved
loop-left-preserved c =
    let C = c.args.outer.now in
    let D = c.args.local.now in
    let i = c.loop-left.invariant in
    let b = i.bounded in
    record {
      bounded = omega (arith, b);
      whole = c.in_ok-push_type.ensures C (omega (arith, b)) (i.whole ∙ ap (λ n. onto (drop n D) C) (let q : c.loop-left.left ≡ suc (c.loop-left.left - 1) = omega arith in q));
      table = c.in-Ok.ensures.extended C i.whole i.table;
    }

pub returns-clause-decided : goal.returns-clause-decided
returns-clause-decided c =
    let Σ = signature_of c.args.sig.now in
    let W = worlds_of c.args.worlds.now in
    let C = c.args.outer.now in
    let D = c.args.local.now in
    let t = c.loop-left.table.items in
    let o = c.loop-left.deep.items in
    let a = subst (λ n. TableAt Σ W [] C D n t o) (let q : c.loop-left.left ≡ 0 = omega arith in q) c.loop-left.invariant.table in
    both_told c.is_said.result _ _ _ (λ b e there. table_decides Σ W C D t o a there b e) c.is_said.ensures.said c.is_said.ensures.settled

pub returns-clause-too_deep : goal.returns-clause-too_deep
returns-clause-too_deep c =
    let Σ = signature_of c.args.sig.now in
    let W = worlds_of c.args.worlds.now in
    let C = c.args.outer.now in
    let D = c.args.local.now in
    let t = c.loop-left.table.items in
    let o = c.loop-left.deep.items in
    let a = subst (λ n. TableAt Σ W [] C D n t o) (let q : c.loop-left.left ≡ 0 = omega arith in q) c.loop-left.invariant.table in
    λ e. goes_deep Σ W C D 0 t o a (c.is_said.ensures.too_deep e)

pub returns-in-Err-clause-too_deep : goal.returns-in-Err-clause-too_deep
returns-in-Err-clause-too_deep c =
    let i = c.loop-left.invariant in
    λ e. goes_deep (signature_of c.args.sig.now) (worlds_of c.args.worlds.now) c.args.outer.now c.args.local.now c.loop-left.left c.loop-left.table.items c.loop-left.deep.items i.table (c.in-Err.ensures.too_deep (cc e))
