use Rattle.std.proofs.Common.{◌≡◌, length, map, subst}
use Rattle.std.proofs.lemmas.Result.{IfOk-weaker}
use Rattle.std.specs.Prelude.{IfSome}
use Rattle.std.specs.Bool.{OnTrue}
use Rattle.lf.specs.Entries.{signature_of}
use Rattle.lf.proofs.Entries.{canonical_is_signature}
use Rattle.tw_metas.specs.View.{equation_of}
use Rattle.tw_putting.specs.Stores.{types_of}
use Rattle.tw_putting.specs.Ready.{IsReady}
use Rattle.tests_ready.specs.Checked.{AreEquationsTyped, TypedBelow}
use Rattle.tests_ready.proofs.NewStores.{is_ready}
use Rattle.tests_ready.proofs.TypedTerms.{at_true, on_true}
use Rattle.tests_ready.proofs.readiness.are_ready.Goals as goal

pub returns-in-Some : goal.returns-in-Some
returns-in-Some c =
    let Σ = signature_of c.args.signature.now in
    let s = c.args.store.now.now in
    let n = c.in-Some.count in
    let t : (n ≡ length s.declared) × TypedBelow Σ (types_of s) n = subst (λ o. IfSome o (λ k. (k ≡ length s.declared) × TypedBelow Σ (types_of s) k)) c.in-Some.is c.in_ok-count.ensures in
    let es = map equation_of c.args.equations.now in
    IfOk-weaker c.are_typed.result (λ b. OnTrue b (AreEquationsTyped Σ (types_of s) es)) (λ b. OnTrue b (IsReady Σ es s))
    (λ b p. on_true b (IsReady Σ es s) (λ e. is_ready Σ (canonical_is_signature c.args.signature.now c.is_canonical.ensures) s n es c.requires t.0 t.1 (at_true b (AreEquationsTyped Σ (types_of s) es) e p)))
    c.are_typed.ensures
