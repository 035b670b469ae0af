use Rattle.std.proofs.Common.{◌≡◌, arith, refl, ap, sym, ◌∙◌, ℕ, List, [], ◌∷◌, length, subst, length-append, false}
use Rattle.std.specs.Prelude.{◌==◌, ◌&&◌}
use Rattle.std.proofs.lemmas.List.Elements.{All-push}
use Rattle.std.specs.List.{All}
use Rattle.tw_lexer.specs.Tokens.{ThroughDot, IsFew, IsWithin, Leads, is_counted}
use Rattle.tw_lexer.specs.declared.token.Token.{Token}
use Rattle.tw_lexer.proofs.Positions.{columns-room}
use Rattle.tw_lexer.proofs.Firsts.{first_token-IsToken}
use Rattle.tw_lexer.proofs.Lists.{Leads-push, ThroughDot-last, few-last, full-more, room-more}
use Rattle.tw_lexer.proofs.lexer.lex.Goals as goal

pub returns-in-Err-clause-tokens : goal.returns-in-Err-clause-tokens
returns-in-Err-clause-tokens c = record {
  tokens = c.loop-token.list.items;
  upto = c.loop-token.from;
  leads = c.loop-token.invariant.leads;
  few = c.loop-token.invariant.few;
  fault = sym c.next_token.ensures.token ∙ c.in-Err.is;
}

pub returns-then-is_too_many-clause-tokens : goal.returns-then-is_too_many-clause-tokens
returns-then-is_too_many-clause-tokens c =
    let full = full-more c.len.result c.in-Ok.token (sym c.is_too_many.ensures ∙ c.if-is_too_many.true) in
    record {
      tokens = c.loop-token.list.items;
      upto = c.loop-token.from;
      next = c.in-Ok.token;
      leads = c.loop-token.invariant.leads;
      full = omega (arith, full.0, c.len.ensures, c.loop-token.list.ok);
      more = sym c.next_token.ensures.token ∙ c.in-Ok.is;
      not_end = full.1;
      at = refl;
    }

pub behind-at-requires-clause-columns : goal.behind-at-requires-clause-columns
behind-at-requires-clause-columns c =
    let t = first_token-IsToken c.args.text.now c.loop-token.from c.in-Ok.token c.loop-token.invariant.within (sym c.next_token.ensures.token ∙ c.in-Ok.is) in
    columns-room c.args.text.now c.in-Ok.token.from c.in-Ok.token.upto c.in-Ok.token.at t.place t.order t.within c.requires.short

pub returns-then-ends-clause-tokens : goal.returns-then-ends-clause-tokens
returns-then-ends-clause-tokens c =
    let ts = c.loop-token.list.items in
    let first = sym c.next_token.ensures.token ∙ c.in-Ok.is in
    let t = first_token-IsToken c.args.text.now c.loop-token.from c.in-Ok.token c.loop-token.invariant.within first in
    let room : (c.len.result == 65536) && is_counted c.in-Ok.token ≡ false = sym c.is_too_many.ensures ∙ c.if-is_too_many.false in
    let len : c.len.result ≡ length ts = omega (arith, c.len.ensures, c.loop-token.list.ok) in (
      subst (λ (xs : List Token). ThroughDot c.args.text.now c.args.from xs c.in-Ok.token.upto) (sym c.in_ok-push.ensures.items) (ThroughDot-last c.args.text.now c.args.from ts c.loop-token.from c.in-Ok.token c.loop-token.invariant.leads first (sym c.ends.ensures ∙ c.if-ends.true)),
      c.behind-at.ensures ∙ sym t.behind,
      subst IsFew (sym c.in_ok-push.ensures.items) (few-last ts c.in-Ok.token c.loop-token.invariant.few (subst (λ (n : ℕ). (n == 65536) && is_counted c.in-Ok.token ≡ false) len room)),
    )

pub returns-then-ends-clause-within : goal.returns-then-ends-clause-within
returns-then-ends-clause-within c =
    let t = first_token-IsToken c.args.text.now c.loop-token.from c.in-Ok.token c.loop-token.invariant.within (sym c.next_token.ensures.token ∙ c.in-Ok.is) in (
      subst (All (IsWithin (length c.args.text.now))) (sym c.in_ok-push.ensures.items) (All-push (IsWithin (length c.args.text.now)) c.loop-token.list.items c.in-Ok.token c.loop-token.invariant.tokens (t.order, t.within)),
      t.within,
    )

pub loop-token-smaller : goal.loop-token-smaller
loop-token-smaller c =
    let t = first_token-IsToken c.args.text.now c.loop-token.from c.in-Ok.token c.loop-token.invariant.within (sym c.next_token.ensures.token ∙ c.in-Ok.is) in
    omega (arith, t.later, t.within, t.long (sym c.ends.ensures ∙ c.if-ends.false))

pub loop-token-preserved : goal.loop-token-preserved
loop-token-preserved c =
    let ts = c.loop-token.list.items in
    let first = sym c.next_token.ensures.token ∙ c.in-Ok.is in
    let t = first_token-IsToken c.args.text.now c.loop-token.from c.in-Ok.token c.loop-token.invariant.within first in
    let on = sym c.ends.ensures ∙ c.if-ends.false in
    let room : (c.len.result == 65536) && is_counted c.in-Ok.token ≡ false = sym c.is_too_many.ensures ∙ c.if-is_too_many.false in
    let len : c.len.result ≡ length ts = omega (arith, c.len.ensures, c.loop-token.list.ok) in
    let less = room-more c.len.result c.in-Ok.token (omega (arith, len, c.loop-token.invariant.few)) room on in
    record {
      within = t.within;
      place = c.behind-at.ensures ∙ sym t.behind;
      leads = subst (λ (xs : List Token). Leads c.args.text.now c.args.from xs c.in-Ok.token.upto) (sym c.in_ok-push.ensures.items) (Leads-push c.args.text.now c.args.from ts c.loop-token.from c.in-Ok.token c.loop-token.invariant.leads first on);
      few = omega (arith, len, less, ap length c.in_ok-push.ensures.items, length-append ts (c.in-Ok.token ∷ []));
      tokens = subst (All (IsWithin (length c.args.text.now))) (sym c.in_ok-push.ensures.items) (All-push (IsWithin (length c.args.text.now)) ts c.in-Ok.token c.loop-token.invariant.tokens (t.order, t.within));
    }
