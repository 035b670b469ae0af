use Rattle.std.proofs.Common.{rules, ◌≢◌, refl, inl, inr, sym, subst}
use Rattle.tw_lexer.specs.declared.token.TokenKind.TheVariants.{End}
use Rattle.tw_decl.specs.Declaration.{IsCauseAlone}
use Rattle.tw_decl.specs.Reading.{read_of}
use Rattle.tw_decl.specs.Steps.{IsParsed}
use Rattle.tw_decl.proofs.Causes.{alone_cause}
use Rattle.tw_decl.proofs.reading.alone.Goals as goal

pub returns-in-Err : goal.returns-in-Err
returns-in-Err c v end words is =
    subst (IsCauseAlone v end words c.args.next.now) (sym c.refused_alone.ensures) (alone_cause v end words c.args.next.now c.in-Err.fault (subst (IsParsed v end words) c.in-Err.is is))

pub returns-in-Ok : goal.returns-in-Ok
returns-in-Ok c v end words is =
    let follows : c.args.next.now.kind ≢ End = search rules in
    inr (inl (follows, refl, inl (read_of c.in-Ok.field-0, subst (IsParsed v end words) c.in-Ok.is is)))
