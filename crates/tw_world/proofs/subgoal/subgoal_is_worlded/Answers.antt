use Rattle.std.proofs.Common.{◌≡◌, ◌↔◌, ◌∙◌, [], IsTrue, ap, map, sym, subst, true≢false}
use Rattle.lf.specs.Entries.{signature_of}
use Rattle.lf.specs.Typing.{IsContext}
use Rattle.lf.specs.Variables.{binders, onto}
use Rattle.lf_checks.specs.WorldFaults.{CalleeIsServed}
use Rattle.lf_checks.specs.Worlded.{IsSequence}
use Rattle.tw_clause.specs.Tables.{world_rows_of}
use Rattle.tw_clause.specs.View.{worlds_of}
use Rattle.tw_terms.specs.View.{type_of}
use Rattle.tw_world.specs.Sequences.{SequenceGoesDeep}
use Rattle.tw_world.specs.Serving.{below_in}
use Rattle.tw_clause.proofs.Patterns.{on_value}
use Rattle.tw_world.proofs.Tables.{local_is_context}
use Rattle.tw_world.proofs.subgoal.subgoal_is_worlded.Goals as goal

pub returns-then-not-is_served-clause-decided : goal.returns-then-not-is_served-clause-decided
returns-then-not-is_served-clause-decided c =
    let q = subst (λ f. IsTrue c.is_served.result ↔ CalleeIsServed (world_rows_of c.args.rows.now) (map (λ g. g.0) c.args.group.now) (below_in c.args.subord.now) (worlds_of c.args.worlds.now) f) c.target.ensures c.is_served.ensures in
    (λ w. absurd (true≢false (sym w)), λ p. absurd (true≢false (sym (q.1 p.1) ∙ c.if-not-is_served.true)))

pub is_sequence-requires-clause-context : goal.is_sequence-requires-clause-context
is_sequence-requires-clause-context c =
    let e : c.in_ok-local.local ≡ binders [] (type_of c.args.subgoal.now) = c.in_ok-local.ensures ∙ ap (λ G. binders G (type_of c.args.subgoal.now)) c.new.ensures in
    subst (λ D. IsContext (signature_of c.args.sig.now) (onto D c.args.scope.now)) (sym e) (local_is_context (signature_of c.args.sig.now) c.args.scope.now (type_of c.args.subgoal.now) [] c.requires.scope c.requires.subgoal)

pub returns-clause-decided : goal.returns-clause-decided
returns-clause-decided c =
    let Σ = signature_of c.args.sig.now in
    let W = worlds_of c.args.worlds.now in
    let e : c.in_ok-local.local ≡ binders [] (type_of c.args.subgoal.now) = c.in_ok-local.ensures ∙ ap (λ G. binders G (type_of c.args.subgoal.now)) c.new.ensures in
    let q = subst (λ f. IsTrue c.is_served.result ↔ CalleeIsServed (world_rows_of c.args.rows.now) (map (λ g. g.0) c.args.group.now) (below_in c.args.subord.now) W f) c.target.ensures c.is_served.ensures in
    on_value c.is_sequence.result _ _ (λ b d. (λ w. (subst (IsSequence Σ W c.args.scope.now) e (d.0 w), q.0 c.if-not-is_served.false), λ p. d.1 (subst (IsSequence Σ W c.args.scope.now) (sym e) p.0))) c.is_sequence.ensures.decided

pub returns-clause-too_deep : goal.returns-clause-too_deep
returns-clause-too_deep c = λ h.
    let Σ = signature_of c.args.sig.now in
    let W = worlds_of c.args.worlds.now in
    let e : c.in_ok-local.local ≡ binders [] (type_of c.args.subgoal.now) = c.in_ok-local.ensures ∙ ap (λ G. binders G (type_of c.args.subgoal.now)) c.new.ensures in
    let q = subst (λ f. IsTrue c.is_served.result ↔ CalleeIsServed (world_rows_of c.args.rows.now) (map (λ g. g.0) c.args.group.now) (below_in c.args.subord.now) W f) c.target.ensures c.is_served.ensures in
    record {
      served = q.0 c.if-not-is_served.false;
      deep = subst (SequenceGoesDeep Σ W c.args.scope.now) e (c.is_sequence.ensures.too_deep h);
    }
