use Rattle.std.proofs.Common.{sym, inr, subst}
use Rattle.tw_lexer.specs.declared.place.Place.{Place}
use Rattle.tw_parse.specs.Words.{lexemes}
use Rattle.tw_decl.proofs.Causes.{is_written, cause_alone, last_cause}
use Rattle.tw_decl.specs.Obstacles.{ReadHasObstacle}
use Rattle.tw_decl.specs.Reading.{read_of}
use Rattle.tw_decl.proofs.declaration.declare_one.Goals as goal

pub returns-in-Err-next_token-clause-cause : goal.returns-in-Err-next_token-clause-cause
returns-in-Err-next_token-clause-cause c = inr (record {
  upto = c.in-Ok.tokens.upto;
  words = lexemes c.args.text.now c.in-Ok.tokens.list.items;
  end = c.in-Ok.tokens.at;
  written = is_written c.args.text.now 0 c.in-Ok.tokens c.in-Ok.ensures.tokens;
  fault = sym c.in-Err-next_token.ensures.token;
})

pub returns-in-Err-alone-clause-cause : goal.returns-in-Err-alone-clause-cause
returns-in-Err-alone-clause-cause c =
    let words = lexemes c.args.text.now c.in-Ok.tokens.list.items in
    cause_alone c.args.session.now c.args.text.now words c.in-Ok.tokens.at c.in-Ok-next_token.next c.in-Err-alone.refusal
    (record { upto = c.in-Ok.tokens.upto; written = is_written c.args.text.now 0 c.in-Ok.tokens c.in-Ok.ensures.tokens; follower = sym c.in-Ok-next_token.ensures.token })
    (c.in-Err-alone.ensures c.args.session.now c.in-Ok.tokens.at words c.parsed.ensures)

pub returns-in-Ok-make-clause-ok : goal.returns-in-Ok-make-clause-ok
returns-in-Ok-make-clause-ok c =
    let words = lexemes c.args.text.now c.in-Ok.tokens.list.items in
    let read = c.in-Ok-alone.ensures c.args.session.now c.in-Ok.tokens.at words c.parsed.ensures in
    record {
      words = words;
      end = c.in-Ok.tokens.at;
      next = c.in-Ok-next_token.next;
      written = record { upto = c.in-Ok.tokens.upto; written = is_written c.args.text.now 0 c.in-Ok.tokens c.in-Ok.ensures.tokens; follower = sym c.in-Ok-next_token.ensures.token };
      alone = read.1;
      makes = record { read = read_of c.in-Ok-alone.read; reads = read.0; does = c.in-Ok-make.ensures.ok };
    }

pub returns-clause-cause : goal.returns-clause-cause
returns-clause-cause c =
    let words = lexemes c.args.text.now c.in-Ok.tokens.list.items in
    let read = c.in-Ok-alone.ensures c.args.session.now c.in-Ok.tokens.at words c.parsed.ensures in
    let r = read_of c.in-Ok-alone.read in
    cause_alone c.args.session.now c.args.text.now words c.in-Ok.tokens.at c.in-Ok-next_token.next c.in-Err-make.refusal
    (record { upto = c.in-Ok.tokens.upto; written = is_written c.args.text.now 0 c.in-Ok.tokens c.in-Ok.ensures.tokens; follower = sym c.in-Ok-next_token.ensures.token })
    (inr (inr (
      read.1,
      last_cause c.args.session.now c.in-Ok.tokens.at words r c.in-Err-make.refusal read.0
          (subst (λ (p : Place). ReadHasObstacle c.args.session.now r p c.in-Err-make.refusal) (c.first_place.ensures c.args.text.now) c.in-Err-make.ensures.cause),
    )))
