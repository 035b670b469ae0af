use Rattle.std.proofs.Common.{sym, ◌∙◌, inr, subst}
use Rattle.tw_lexer.specs.declared.place.Place.{Place}
use Rattle.tw_parse.specs.Queries.{query_of}
use Rattle.tw_parse.specs.Words.{lexemes}
use Rattle.tw_decl.specs.Unanswered.{IsNotAsked}
use Rattle.tw_decl.proofs.Causes.{is_written}
use Rattle.tw_decl.proofs.Questions.{last_query_cause, not_nothing, parsed_so, query_cause}
use Rattle.tw_decl.proofs.question.read_query.Goals as goal

pub returns-in-Err-next_token-clause-cause : goal.returns-in-Err-next_token-clause-cause
returns-in-Err-next_token-clause-cause c = inr (record {
  upto = c.in-Ok.tokens.upto;
  words = lexemes c.args.text.now c.in-Ok.tokens.list.items;
  end = c.in-Ok.tokens.at;
  written = is_written c.args.text.now 0 c.in-Ok.tokens c.in-Ok.ensures.tokens;
  fault = sym c.in-Err-next_token.ensures.token;
})

pub returns-in-Err-query_alone-clause-cause : goal.returns-in-Err-query_alone-clause-cause
returns-in-Err-query_alone-clause-cause c =
    let words = lexemes c.args.text.now c.in-Ok.tokens.list.items in
    let asked = rw c.deref.ensures.value at c.asks_nothing.ensures in
    query_cause c.args.session.now c.args.text.now c.in-Err-query_alone.refusal (record {
      asks = not_nothing c.args.text.now c.in-Ok.tokens.list.items c.in-Ok.tokens.upto c.in-Ok-next_token.next c.in-Ok.ensures.tokens.0 (sym c.in-Ok-next_token.ensures.token) (sym asked ∙ c.if-asks_nothing.false);
      words = words;
      end = c.in-Ok.tokens.at;
      next = c.in-Ok-next_token.next;
      written = record { upto = c.in-Ok.tokens.upto; written = is_written c.args.text.now 0 c.in-Ok.tokens c.in-Ok.ensures.tokens; follower = sym c.in-Ok-next_token.ensures.token };
      cause = c.in-Err-query_alone.ensures c.args.session.now c.in-Ok.tokens.at words (parsed_so c.args.session.now c.fixities.result.now c.in-Ok.tokens.at words c.parse_query-parsed.result c.fixities.ensures c.parse_query-parsed.ensures.reading c.parse_query-parsed.ensures.first_causes c.parse_query-parsed.ensures.fault);
    })

pub returns-in-Ok-asked-clause-says : goal.returns-in-Ok-asked-clause-says
returns-in-Ok-asked-clause-says c =
    let words = lexemes c.args.text.now c.in-Ok.tokens.list.items in
    let read = c.in-Ok-query_alone.ensures c.args.session.now c.in-Ok.tokens.at words (parsed_so c.args.session.now c.fixities.result.now c.in-Ok.tokens.at words c.parse_query-parsed.result c.fixities.ensures c.parse_query-parsed.ensures.reading c.parse_query-parsed.ensures.first_causes c.parse_query-parsed.ensures.fault) in
    record {
      words = words;
      end = c.in-Ok.tokens.at;
      next = c.in-Ok-next_token.next;
      query = query_of c.in-Ok-query_alone.query;
      written = record { upto = c.in-Ok.tokens.upto; written = is_written c.args.text.now 0 c.in-Ok.tokens c.in-Ok.ensures.tokens; follower = sym c.in-Ok-next_token.ensures.token };
      alone = read.1;
      reads = read.0;
      is_goal = c.in-Ok-asked.ensures.asked.reconstructs;
      place = c.first_place-first.ensures c.args.text.now;
    }

pub returns-clause-cause : goal.returns-clause-cause
returns-clause-cause c =
    let words = lexemes c.args.text.now c.in-Ok.tokens.list.items in
    let asked = rw c.deref.ensures.value at c.asks_nothing.ensures in
    let read = c.in-Ok-query_alone.ensures c.args.session.now c.in-Ok.tokens.at words (parsed_so c.args.session.now c.fixities.result.now c.in-Ok.tokens.at words c.parse_query-parsed.result c.fixities.ensures c.parse_query-parsed.ensures.reading c.parse_query-parsed.ensures.first_causes c.parse_query-parsed.ensures.fault) in
    let q = query_of c.in-Ok-query_alone.query in
    query_cause c.args.session.now c.args.text.now c.in-Err-asked.refusal (record {
      asks = not_nothing c.args.text.now c.in-Ok.tokens.list.items c.in-Ok.tokens.upto c.in-Ok-next_token.next c.in-Ok.ensures.tokens.0 (sym c.in-Ok-next_token.ensures.token) (sym asked ∙ c.if-asks_nothing.false);
      words = words;
      end = c.in-Ok.tokens.at;
      next = c.in-Ok-next_token.next;
      written = record { upto = c.in-Ok.tokens.upto; written = is_written c.args.text.now 0 c.in-Ok.tokens c.in-Ok.ensures.tokens; follower = sym c.in-Ok-next_token.ensures.token };
      cause = inr (inr (read.1, last_query_cause c.args.session.now c.in-Ok.tokens.at words q c.in-Err-asked.refusal read.0 (subst (λ (p : Place). IsNotAsked c.args.session.now q.goal p c.in-Err-asked.refusal) (c.first_place-first.ensures c.args.text.now) c.in-Err-asked.ensures.cause)));
    })

pub returns-in-Ok-asked-clause-may_be_asked : goal.returns-in-Ok-asked-clause-may_be_asked
returns-in-Ok-asked-clause-may_be_asked c = c.in-Ok-asked.ensures.asked.canonical
