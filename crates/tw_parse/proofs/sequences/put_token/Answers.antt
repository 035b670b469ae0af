use Rattle.std.proofs.Common.{◌≡◌, List, Some, None, refl, ◌∙◌, rules}
use Rattle.tw_parse.specs.Faults.{first_sign, leaf_of}
use Rattle.tw_parse.specs.Grammar.{atom, sign}
use Rattle.tw_parse.specs.Sources.{lexemes_from}
use Rattle.tw_parse.specs.View.{term_of}
use Rattle.tw_parse.specs.Words.{Lexeme, lexemes}
use Rattle.tw_parse.specs.declared.parts.Part.TheVariants.{Term}
use Rattle.tw_parse.proofs.Building.{by_sign, by_leaf, kept_fault}
use Rattle.tw_parse.proofs.sequences.put_token.Goals as goal

pub returns-in-Some-clause-takes : goal.returns-in-Some-clause-takes
returns-in-Some-clause-takes c =
    let source = c.args.source.now in
    let xs : List Lexeme = lexemes source.text.now source.tokens.now in
    let is : Some c.in-Some.sign ≡ first_sign source c.args.at = search rules in
    let token = by_sign source.fixities.now xs c.args.at c.in-Some.sign is in
    (token.0, sign c.in-Some.sign, token.1, token.2, c.in_ok-put.ensures.state, c.in_ok-put.ensures.inner)

pub returns-clause-takes : goal.returns-clause-takes
returns-clause-takes c =
    let source = c.args.source.now in
    let xs : List Lexeme = lexemes source.text.now source.tokens.now in
    let t = c.in-Some-2.term in
    let none : first_sign source c.args.at ≡ None = search rules in
    let is : Some (term_of t) ≡ leaf_of (lexemes_from source c.args.at) = search rules in
    let token = by_leaf source.fixities.now xs c.args.at (term_of t) none is in
    (token.0, atom (term_of t), token.1, token.2, c.in_ok-apply.ensures.state, c.in_ok-apply.ensures.inner ∙ kept_fault c.args.pile.now.inner (Term t) t refl)
