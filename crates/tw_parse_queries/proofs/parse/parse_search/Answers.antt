use Rattle.std.proofs.Common.{◌≡◌, ℕ, ◌+◌, List, [], drop, sym, subst}
use Rattle.tw_lexer.specs.declared.token.Token.{Token}
use Rattle.tw_parse.specs.Words.{lexemes, first_word}
use Rattle.tw_parse.specs.declared.words.Word.TheVariants.{Dot}
use Rattle.tw_parse.proofs.Dots.{nothing_behind}
use Rattle.tw_parse_queries.proofs.parse.parse_search.Goals as goal

pub search-requires-clause-dot : goal.search-requires-clause-dot
search-requires-clause-dot c =
    let text : List ℕ = c.args.text.now in
    let P : List Token → Type 0 = λ tokens. (i : ℕ) → first_word (drop i (lexemes text tokens)) ≡ Dot → drop (i + 1) (lexemes text tokens) ≡ [] in
    subst P (sym c.deref.ensures.value) (nothing_behind text c.args.tokens.now.list.items c.requires.through_dot.0 c.args.tokens.now.upto c.requires.through_dot.1)
