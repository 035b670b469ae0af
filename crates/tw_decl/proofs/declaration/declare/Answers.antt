use Rattle.std.proofs.Common.{sym, ◌∙◌, inr, subst}
use Rattle.tw_lexer.specs.declared.place.Place.{Place}
use Rattle.tw_parse.specs.Words.{lexemes}
use Rattle.tw_decl.proofs.Causes.{is_written, not_over, cause_from, last_cause, parsed_cause}
use Rattle.tw_decl.specs.Declaration.{IsCause}
use Rattle.tw_decl.specs.Obstacles.{ReadHasObstacle}
use Rattle.tw_decl.specs.Reading.{read_of}
use Rattle.tw_decl.specs.declared.refusal.Refusal.{Refusal}
use Rattle.tw_decl.proofs.declaration.declare.Goals as goal

pub returns-in-Err-parsed-clause-cause : goal.returns-in-Err-parsed-clause-cause
returns-in-Err-parsed-clause-cause c =
    let begins = rw c.deref.ensures.value at c.is_over.ensures in
    let words = lexemes c.args.text.now c.in-Ok.tokens.list.items in
    cause_from c.args.session.now c.args.text.now c.args.from c.in-Ok.tokens.upto words c.in-Ok.tokens.at c.refusal_of.result
    (not_over c.args.text.now c.args.from c.in-Ok.tokens.list.items c.in-Ok.tokens.upto c.in-Ok.ensures.tokens.0 (sym begins ∙ c.if-is_over.false))
    (is_written c.args.text.now c.args.from c.in-Ok.tokens c.in-Ok.ensures.tokens)
    (subst (λ (x : Refusal). IsCause c.args.session.now c.in-Ok.tokens.at words x) (sym c.refusal_of.ensures) (parsed_cause c.args.session.now c.in-Ok.tokens.at words c.in-Err-parsed.fault c.in-Err-parsed.ensures))

pub returns-in-Ok-make-clause-ok : goal.returns-in-Ok-make-clause-ok
returns-in-Ok-make-clause-ok c = (
  record {
    words = lexemes c.args.text.now c.in-Ok.tokens.list.items;
    end = c.in-Ok.tokens.at;
    written = is_written c.args.text.now c.args.from c.in-Ok.tokens c.in-Ok.ensures.tokens;
    makes = record { read = read_of c.in-Ok-parsed.read; reads = c.in-Ok-parsed.ensures; does = c.in-Ok-make.ensures.ok };
  },
  c.in-Ok.ensures.tokens.1,
)

pub returns-clause-cause : goal.returns-clause-cause
returns-clause-cause c =
    let begins = rw c.deref.ensures.value at c.is_over.ensures in
    let words = lexemes c.args.text.now c.in-Ok.tokens.list.items in
    let r = read_of c.in-Ok-parsed.read in
    cause_from c.args.session.now c.args.text.now c.args.from c.in-Ok.tokens.upto words c.in-Ok.tokens.at c.in-Err-make.refusal
    (not_over c.args.text.now c.args.from c.in-Ok.tokens.list.items c.in-Ok.tokens.upto c.in-Ok.ensures.tokens.0 (sym begins ∙ c.if-is_over.false))
    (is_written c.args.text.now c.args.from c.in-Ok.tokens c.in-Ok.ensures.tokens)
    (inr (last_cause c.args.session.now c.in-Ok.tokens.at words r c.in-Err-make.refusal c.in-Ok-parsed.ensures
    (subst (λ (p : Place). ReadHasObstacle c.args.session.now r p c.in-Err-make.refusal) (c.first_place.ensures c.args.text.now) c.in-Err-make.ensures.cause)))
