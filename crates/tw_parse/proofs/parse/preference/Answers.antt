use Rattle.std.proofs.Common.{◌≡◌, List, Bool, true, false, sym, ◌∙◌, ⊎_elim, rules}
use Rattle.tw_parse.specs.Keywords.{is_upper, is_identifier}
use Rattle.tw_parse.specs.Sources.{lexemes_from}
use Rattle.tw_parse.specs.Words.{Lexeme, lexemes, first_word, first_bytes}
use Rattle.tw_parse.specs.declared.words.Word.TheVariants.{Name, Dot}
use Rattle.tw_parse.proofs.Drafts.{a_preference, a_double_preference}
use Rattle.tw_parse.proofs.Misfits.{IsPreference, preference_shape}
use Rattle.tw_parse.proofs.parse.preference.Goals.{then-not-is_identifier-via-then-not-is_identifier, then-not-is_identifier-via-else-not-is_identifier+then-ne, then-not-is_identifier-via-else-not-is_identifier+else-ne+then-not-is_upper}
use Rattle.tw_parse.proofs.parse.preference.Goals.{then-ne-2-via-then-ne-2, then-ne-2-via-else-ne-2+then-is_upper, then-ne-2-via-else-ne-2+else-is_upper+then-ne-3}
use Rattle.tw_parse.proofs.parse.preference.Goals as goal

pub returns-then-eq-clause-reads : goal.returns-then-eq-clause-reads
returns-then-eq-clause-reads c =
    let source = c.args.source.now in
    let xs : List Lexeme = lexemes source.text.now source.tokens.now in
    let names : is_identifier (first_word (lexemes_from source 1)) ≡ true = search rules in
    let uppers : first_word (lexemes_from source 2) ≡ Name = search rules in
    let up : is_upper (first_bytes (lexemes_from source 2)) ≡ true = search rules in
    let dots : first_word (lexemes_from source 3) ≡ Dot = search rules in
    a_preference source.fixities.now source.end xs c.in_ok-family.family c.in_ok-upper.upper c.requires.form.0 c.requires.form.1 names c.in_ok-family.ensures.0 c.in_ok-family.ensures.1 uppers up c.in_ok-upper.ensures dots (c.requires.dot 3 dots)

pub returns-clause-reads : goal.returns-clause-reads
returns-clause-reads c =
    let source = c.args.source.now in
    let xs : List Lexeme = lexemes source.text.now source.tokens.now in
    let names : is_identifier (first_word (lexemes_from source 1)) ≡ true = search rules in
    let uppers : first_word (lexemes_from source 2) ≡ Name = search rules in
    let up : is_upper (first_bytes (lexemes_from source 2)) ≡ true = search rules in
    let lowers : first_word (lexemes_from source 3) ≡ Name = search rules in
    let low : is_upper (first_bytes (lexemes_from source 3)) ≡ false = search rules in
    let dots : first_word (lexemes_from source 4) ≡ Dot = search rules in
    a_double_preference source.fixities.now source.end xs c.in_ok-family.family c.in_ok-upper.upper c.in_ok-lower.lower c.requires.form.0 c.requires.form.1 names c.in_ok-family.ensures.0 c.in_ok-family.ensures.1 uppers up c.in_ok-upper.ensures
    lowers low c.in_ok-lower.ensures dots (c.requires.dot 4 dots)

unlike : {b : Bool} → b ≡ true → b ≡ false → ⊥
unlike e f = let clash : true ≡ false = sym e ∙ f in cc

pub misfit-requires-clause-shape : goal.misfit-requires-clause-shape
misfit-requires-clause-shape c = λ D shapes.
    let source = c.args.source.now in
    let is : IsPreference (lexemes_from source 0) = preference_shape source.fixities.now (lexemes_from source 0) D shapes c.requires.form.0 c.requires.form.1 in
    let family : is_identifier (first_word (lexemes_from source 1)) ≡ true = is.family in
    let upper : first_word (lexemes_from source 2) ≡ Name = is.upper in
    let begins : is_upper (first_bytes (lexemes_from source 2)) ≡ true = is.begins_upper in
    elim c.then-not-is_identifier.branch [
      | then-not-is_identifier-via-then-not-is_identifier w ↦ let isnt : is_identifier (first_word (lexemes_from source 1)) ≡ false = search rules in unlike family isnt
      | then-not-is_identifier-via-else-not-is_identifier+then-ne w ↦ let isnt : first_word (lexemes_from source 2) ≡ Name → ⊥ = search rules in isnt upper
      | then-not-is_identifier-via-else-not-is_identifier+else-ne+then-not-is_upper w ↦ let isnt : is_upper (first_bytes (lexemes_from source 2)) ≡ false = search rules in unlike begins isnt
    ]

pub misfit-requires-then-ne-2-clause-shape : goal.misfit-requires-then-ne-2-clause-shape
misfit-requires-then-ne-2-clause-shape c = λ D shapes.
    let source = c.args.source.now in
    let is : IsPreference (lexemes_from source 0) = preference_shape source.fixities.now (lexemes_from source 0) D shapes c.requires.form.0 c.requires.form.1 in
    let isnt : first_word (lexemes_from source 3) ≡ Dot → ⊥ = search rules in
    let ends : (first_word (lexemes_from source 3) ≡ Name) × (is_upper (first_bytes (lexemes_from source 3)) ≡ false) × (first_word (lexemes_from source 4) ≡ Dot) = ⊎_elim (λ dot. absurd (isnt dot)) (λ h. h) is.ends in
    let lower = ends.0 in
    let low = ends.1 in
    let dot = ends.2 in
    elim c.then-ne-2.branch [
      | then-ne-2-via-then-ne-2 w ↦ let no_name : first_word (lexemes_from source 3) ≡ Name → ⊥ = search rules in no_name lower
      | then-ne-2-via-else-ne-2+then-is_upper w ↦ let high : is_upper (first_bytes (lexemes_from source 3)) ≡ true = search rules in unlike high low
      | then-ne-2-via-else-ne-2+else-is_upper+then-ne-3 w ↦ let no_dot : first_word (lexemes_from source 4) ≡ Dot → ⊥ = search rules in no_dot dot
    ]
