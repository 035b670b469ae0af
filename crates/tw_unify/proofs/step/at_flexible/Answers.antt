use Rattle.std.proofs.Common.{◌≡◌, ℕ, Some, inl, inr, subst}
use Rattle.std.specs.Option.{IfSome}
use Rattle.lf.specs.Entries.{signature_of}
use Rattle.lf.specs.Syntax.{LfType}
use Rattle.tw_metas.specs.View.{equation_of}
use Rattle.tw_putting.specs.Stores.{types_of}
use Rattle.tw_unify.specs.Flexible.{TakenIsMet}
use Rattle.tw_unify.specs.Outcomes.{stacked}
use Rattle.tw_unify.specs.Reaching.{marking_of}
use Rattle.tw_unify.proofs.Knowing.{both_declared, still_declared}
use Rattle.tw_unify.proofs.Results.{on_ok_anyway}
use Rattle.tw_unify.proofs.Working.{both_heads}
use Rattle.tw_unify.proofs.step.at_flexible.Goals as goal

pub find_taker-requires-clause-fits : goal.find_taker-requires-clause-fits
find_taker-requires-clause-fits c = both_heads (signature_of c.args.signature.now) c.args.store.now.now (equation_of c.args.equation) (stacked c.args.work.now.items) c.requires.flexible c.requires.ready c.requires.stay

pub returns-in_ok-taken-in-Some-clause-known : goal.returns-in_ok-taken-in-Some-clause-known
returns-in_ok-taken-in-Some-clause-known c =
    let w = marking_of c.find_taker.new.met in
    let e = equation_of c.args.equation in
    let s = c.args.store.now.now in
    let reached = both_declared (signature_of c.args.signature.now) s e (stacked c.args.work.now.items) c.requires.ready in
    let grows : (k : ℕ) (A : LfType) → types_of s k ≡ Some A → types_of c.take_whole.new.store.now k ≡ Some A = c.in_ok-taken-in-Some.ensures.bound.grows in
    record {
      closed = c.in_ok-taken-in-Some.ensures.closed w c.in_ok-taker.ensures.closed (subst (λ o. IfSome o (λ t. TakenIsMet w e t)) c.in-Some.is c.in_ok-taker.ensures.met);
      declared = λ k h. still_declared s c.take_whole.new.store.now grows k (elim (c.in_ok-taker.ensures.spread k h) [ inl a ↦ c.requires.known.declared k a | inr r ↦ reached k r ]);
    }

pub returns-in-None-clause-known : goal.returns-in-None-clause-known
returns-in-None-clause-known c =
    on_ok_anyway c.at_patterns.result (c.forget.ensures c.at_patterns.new.store.now)
