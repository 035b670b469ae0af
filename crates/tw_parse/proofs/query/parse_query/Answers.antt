use Rattle.std.proofs.Common.{◌≡◌, ℕ, ◌+◌, List, [], None, IfErr, drop, sym, subst, rules}
use Rattle.tw_lexer.specs.declared.token.Token.{Token}
use Rattle.tw_parse.specs.Queries.{AskingFault, IsOfLanguage}
use Rattle.tw_parse.specs.Nesting.{first_too_deep}
use Rattle.tw_parse.specs.Words.{lexemes, first_word}
use Rattle.tw_parse.specs.declared.words.Word.TheVariants.{Dot}
use Rattle.tw_parse.proofs.Asking.{query_stands}
use Rattle.tw_parse.proofs.Dots.{nothing_behind}
use Rattle.tw_parse.proofs.query.parse_query.Goals as goal

pub read_query-requires : goal.read_query-requires
read_query-requires c =
    let text : List ℕ = c.args.text.now in
    let P : List Token → Type 0 = λ tokens. (i : ℕ) → first_word (drop i (lexemes text tokens)) ≡ Dot → drop (i + 1) (lexemes text tokens) ≡ [] in
    record { dot = subst P (sym c.deref.ensures.value) (nothing_behind text c.args.tokens.now.list.items c.requires.through_dot.0 c.args.tokens.now.upto c.requires.through_dot.1) }

pub returns-clause-fault : goal.returns-clause-fault
returns-clause-fault c =
    let text : List ℕ = c.args.text.now in
    let table = c.args.fixities.now in
    let end = c.args.tokens.now.at in
    let tokens = lexemes text c.args.tokens.now.list.items in
    let P : List Token → Type 0 = λ ts. IfErr c.read_query.result (AskingFault table end (lexemes text ts)) in
    let Q : List Token → Type 0 = λ ts. IsOfLanguage (lexemes text ts) in
    let known : IsOfLanguage tokens = subst Q c.deref.ensures.value c.in_ok-in_language.ensures.stands in
    let shallow : first_too_deep [] 0 tokens ≡ None = search rules in
    query_stands table end tokens c.read_query.result (known, shallow) (subst P c.deref.ensures.value c.read_query.ensures.fault)
