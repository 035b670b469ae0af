use Rattle.std.proofs.Common.{◌≡◌, List, rules}
use Rattle.std.proofs.lemmas.Result.{err_from_is_err_and}
use Rattle.tw_parse.specs.Sources.{lexemes_from}
use Rattle.tw_parse.specs.Words.{Lexeme, lexemes, first_word}
use Rattle.tw_parse.specs.declared.words.Word.TheVariants.{RBrace}
use Rattle.tw_parse.proofs.Stopping.{exits}
use Rattle.tw_parse_checks.specs.Parts.{DomainFault}
use Rattle.tw_parse_checks.proofs.Tokens.{a_domain}
use Rattle.tw_parse_checks.proofs.Sources.{domain_stops}
use Rattle.tw_parse_checks.proofs.Types.{stops_behind}
use Rattle.tw_parse_checks.proofs.quantifiers.domain.Goals as goal

pub returns-in_err-part-clause-fault : goal.returns-in_err-part-clause-fault
returns-in_err-part-clause-fault c =
    let source = c.args.source.now in
    let p = err_from_is_err_and c.from_residual.result c.from_residual.ensures.1 in
    let f = c.in_err-part.field-0.0 in
    exits c.from_residual.result p.0 f (DomainFault source c.args.from) p.1 p.2 (domain_stops source c.args.from f c.in_err-part.ensures.fault)

pub returns-then-ne-clause-fault : goal.returns-then-ne-clause-fault
returns-then-ne-clause-fault c =
    let source = c.args.source.now in
    let end = c.in_ok-part.end in
    let read = c.in_ok-part.ensures.reads in
    let isnt : first_word (lexemes_from source end) ≡ RBrace → ⊥ = search rules in
    stops_behind source.fixities.now source.end c.place.result (lexemes_from source c.args.from) (lexemes_from source end) read.0 read.1 c.in_ok-part.ensures.stops isnt c.place.ensures

pub returns-clause-reads : goal.returns-clause-reads
returns-clause-reads c =
    let source = c.args.source.now in
    let xs : List Lexeme = lexemes source.text.now source.tokens.now in
    let end = c.in_ok-part.end in
    let read = c.in_ok-part.ensures.reads in
    let is : first_word (lexemes_from source end) ≡ RBrace = search rules in
    a_domain source.fixities.now xs (lexemes_from source c.args.from) end read.0 c.in_ok-part.part is read.1 read.2
