use Rattle.std.proofs.Common.{rules, ◌≢◌, refl, inl, inr, sym, subst}
use Rattle.tw_lexer.specs.declared.token.TokenKind.TheVariants.{End}
use Rattle.tw_parse.specs.Queries.{query_of}
use Rattle.tw_decl.specs.Question.{IsQueryCause}
use Rattle.tw_decl.specs.Steps.{IsParsedQuery}
use Rattle.tw_decl.proofs.Questions.{query_fault}
use Rattle.tw_decl.proofs.question.query_alone.Goals as goal

pub returns-in-Err : goal.returns-in-Err
returns-in-Err c v end words is =
    subst (IsQueryCause v end words c.args.next.now) (sym c.refused_alone.ensures) (query_fault v end words c.args.next.now c.in-Err.fault (subst (IsParsedQuery v end words) c.in-Err.is is))

pub returns-in-Ok : goal.returns-in-Ok
returns-in-Ok c v end words is =
    let follows : c.args.next.now.kind ≢ End = search rules in
    inr (inl (follows, refl, inl (query_of c.in-Ok.field-0, subst (IsParsedQuery v end words) c.in-Ok.is is)))
