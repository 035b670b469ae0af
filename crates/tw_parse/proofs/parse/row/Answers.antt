use Rattle.std.proofs.Common.{◌≡◌, List, [], ◌∷◌, Option, Some, None, MatchOption, sym, ap, ◌∙◌, subst, rules}
use Rattle.tw_fixity.specs.declared.table.Fix.TheVariants as fixes
use Rattle.tw_parse.specs.Keywords.{fix_by, infix_of, with_precedence, assoc_of, precedence_of}
use Rattle.tw_parse.specs.Sources.{lexemes_from}
use Rattle.tw_parse.specs.Words.{Lexeme, lexemes, first_bytes}
use Rattle.tw_parse.specs.declared.words.Form.{Form}
use Rattle.tw_parse.specs.declared.words.Form.TheVariants.{Infix}
use Rattle.tw_parse.specs.Faults.{HasNoRow}
use Rattle.tw_parse.proofs.Drafts.{one_word_row, two_word_row}
use Rattle.tw_parse.proofs.Misfits.{no_infix, no_prefix, no_postfix}
use Rattle.tw_parse.proofs.parse.row.Goals as goal

pub returns-in_ok-precedence-in-Infix : goal.returns-in_ok-precedence-in-Infix
returns-in_ok-precedence-in-Infix c =
    let source = c.args.source.now in
    let xs : List Lexeme = lexemes source.text.now source.tokens.now in
    let side = c.in_ok-assoc-in-Infix.assoc in
    let p = c.in_ok-precedence-in-Infix.precedence in
    let one = first_bytes (lexemes_from source 1) in
    let two = first_bytes (lexemes_from source 2) in
    let first : assoc_of one ≡ Some side = search rules in
    let second : precedence_of two ≡ Some p = search rules in
    let row : fix_by (Some Infix) (one ∷ two ∷ []) ≡ Some (fixes.Infix side p) = ap (λ o. infix_of o (precedence_of two)) first ∙ ap (infix_of (Some side)) second in
    two_word_row xs c.args.form (fixes.Infix side p) (λ e. let clash : None ≡ Some side = sym (ap assoc_of e) ∙ first in cc) (λ e. let clash : None ≡ Some p = sym (ap precedence_of e) ∙ second in cc)
    (ap (λ (form : Form). fix_by (Some form) (one ∷ two ∷ [])) c.in-Infix.is ∙ row)

pub returns-in_ok-precedence-in-Prefix : goal.returns-in_ok-precedence-in-Prefix
returns-in_ok-precedence-in-Prefix c =
    let source = c.args.source.now in
    let xs : List Lexeme = lexemes source.text.now source.tokens.now in
    let p = c.in_ok-precedence-in-Prefix.precedence in
    let one = first_bytes (lexemes_from source 1) in
    let first : precedence_of one ≡ Some p = search rules in
    one_word_row xs c.args.form (fixes.Prefix p) (λ e. let clash : None ≡ Some p = sym (ap precedence_of e) ∙ first in cc)
    (ap (λ (form : Form). fix_by (Some form) (one ∷ [])) c.in-Prefix.is ∙ ap (with_precedence fixes.Prefix) first)

pub returns-in_ok-precedence-in-Postfix : goal.returns-in_ok-precedence-in-Postfix
returns-in_ok-precedence-in-Postfix c =
    let source = c.args.source.now in
    let xs : List Lexeme = lexemes source.text.now source.tokens.now in
    let p = c.in_ok-precedence-in-Postfix.precedence in
    let one = first_bytes (lexemes_from source 1) in
    let first : precedence_of one ≡ Some p = search rules in
    one_word_row xs c.args.form (fixes.Postfix p) (λ e. let clash : None ≡ Some p = sym (ap precedence_of e) ∙ first in cc)
    (ap (λ (form : Form). fix_by (Some form) (one ∷ [])) c.in-Postfix.is ∙ ap (with_precedence fixes.Postfix) first)

at_none : {A : Type 0} (o : Option A) (P : Type 0) (Q : A → Type 0) → o ≡ None → P → MatchOption o P Q
at_none o P Q e p = subst (λ r. MatchOption r P Q) (sym e) p

pub returns-in_err-assoc-in-Infix : goal.returns-in_err-assoc-in-Infix
returns-in_err-assoc-in-Infix c =
    let source = c.args.source.now in
    let xs : List Lexeme = lexemes source.text.now source.tokens.now in
    let first : assoc_of (first_bytes (lexemes_from source 1)) ≡ None = search rules in
    let none = ap (λ o. infix_of o (precedence_of (first_bytes (lexemes_from source 2)))) first in
    at_none _ _ _ c.from_residual.ensures (subst (HasNoRow source) (sym c.in-Infix.is) (λ words rest e. no_infix xs words rest none e))

pub returns-in_err-precedence-in-Infix : goal.returns-in_err-precedence-in-Infix
returns-in_err-precedence-in-Infix c =
    let source = c.args.source.now in
    let xs : List Lexeme = lexemes source.text.now source.tokens.now in
    let side = c.in_ok-assoc-in-Infix.assoc in
    let first : assoc_of (first_bytes (lexemes_from source 1)) ≡ Some side = search rules in
    let second : precedence_of (first_bytes (lexemes_from source 2)) ≡ None = search rules in
    let none = ap (λ o. infix_of o (precedence_of (first_bytes (lexemes_from source 2)))) first ∙ ap (infix_of (Some side)) second in
    at_none _ _ _ c.from_residual-in_err-precedence-in-Infix.ensures (subst (HasNoRow source) (sym c.in-Infix.is) (λ words rest e. no_infix xs words rest none e))

pub returns-in_err-precedence-in-Prefix : goal.returns-in_err-precedence-in-Prefix
returns-in_err-precedence-in-Prefix c =
    let source = c.args.source.now in
    let xs : List Lexeme = lexemes source.text.now source.tokens.now in
    let none : precedence_of (first_bytes (lexemes_from source 1)) ≡ None = search rules in
    at_none _ _ _ c.from_residual-in_err-precedence-in-Prefix.ensures (subst (HasNoRow source) (sym c.in-Prefix.is) (λ words rest e. no_prefix xs words rest none e))

pub returns-in_err-precedence-in-Postfix : goal.returns-in_err-precedence-in-Postfix
returns-in_err-precedence-in-Postfix c =
    let source = c.args.source.now in
    let xs : List Lexeme = lexemes source.text.now source.tokens.now in
    let none : precedence_of (first_bytes (lexemes_from source 1)) ≡ None = search rules in
    at_none _ _ _ c.from_residual-in_err-precedence-in-Postfix.ensures (subst (HasNoRow source) (sym c.in-Postfix.is) (λ words rest e. no_postfix xs words rest none e))
