use Rattle.std.proofs.Common.{◌≡◌, ℕ, ◌+◌, List, [], true, IfErr, drop, sym, subst, rules}
use Rattle.tw_lexer.specs.declared.token.Token.{Token}
use Rattle.tw_parse.specs.Queries.{IsShallow}
use Rattle.tw_parse.specs.Words.{lexemes, first_word, first_bytes}
use Rattle.tw_parse.specs.declared.words.Word.TheVariants.{Dot, Keyword}
use Rattle.tw_parse.proofs.Dots.{nothing_behind}
use Rattle.tw_parse_checks.specs.Faults.{CheckFault}
use Rattle.tw_parse_checks.specs.Marks.{is_check}
use Rattle.tw_parse_checks.proofs.Keywords.{check_stands}
use Rattle.tw_parse_checks.proofs.parse.parse_check.Goals as goal

pub check-requires-clause-dot : goal.check-requires-clause-dot
check-requires-clause-dot c =
    let text : List ℕ = c.args.text.now in
    let P : List Token → Type 0 = λ tokens. (i : ℕ) → first_word (drop i (lexemes text tokens)) ≡ Dot → drop (i + 1) (lexemes text tokens) ≡ [] in
    subst P (sym c.deref.ensures.value) (nothing_behind text c.args.tokens.now.list.items c.requires.through_dot.0 c.args.tokens.now.upto c.requires.through_dot.1)

pub check-requires-clause-keyword : goal.check-requires-clause-keyword
check-requires-clause-keyword c = subst (λ (tokens : List Token). first_word (lexemes c.args.text.now tokens) ≡ Keyword) (sym c.deref.ensures.value) c.requires.keyword

pub check-requires-clause-check : goal.check-requires-clause-check
check-requires-clause-check c = subst (λ (tokens : List Token). is_check (first_bytes (lexemes c.args.text.now tokens)) ≡ true) (sym c.deref.ensures.value) c.requires.check

pub returns-clause-fault : goal.returns-clause-fault
returns-clause-fault c =
    let text : List ℕ = c.args.text.now in
    let table = c.args.fixities.now in
    let end = c.args.tokens.now.at in
    let tokens = lexemes text c.args.tokens.now.list.items in
    let P : List Token → Type 0 = λ ts. IfErr c.check.result (CheckFault table end (lexemes text ts)) in
    let shallow : IsShallow tokens = search rules in
    check_stands table end tokens c.check.result shallow (subst P c.deref.ensures.value c.check.ensures.fault)
