use Rattle.std.proofs.Common.{◌≡◌, ◌+◌, List, Some, None, true, false, refl, ap, ◌∙◌, drop, rules, arith}
use Rattle.tw_parse.specs.Sources.{lexemes_from}
use Rattle.tw_parse.specs.Words.{Lexeme, lexemes, first_word, first_place}
use Rattle.tw_parse.specs.declared.words.Word.TheVariants.{Equals, Colon, Dot}
use Rattle.tw_parse.proofs.Drafts.{a_short, a_long, a_declaration}
use Rattle.std.proofs.lemmas.Result.{err_from_is_err_and}
use Rattle.tw_parse.specs.Faults.{FaultOf}
use Rattle.tw_parse.specs.Spots.{end_next}
use Rattle.tw_parse.proofs.Stopping.{exits, due_stops, stops_behind, stops_at_sign, due_equals, due_colon, due_type, no_equals, no_end}
use Rattle.tw_parse.proofs.parse.behind_name.Goals as goal

pub returns-then-eq-clause-reads : goal.returns-then-eq-clause-reads
returns-then-eq-clause-reads c =
    let source = c.args.source.now in
    let xs : List Lexeme = lexemes source.text.now source.tokens.now in
    let equals : first_word (lexemes_from source (c.args.at + 1)) ≡ Equals = search rules in
    let read = c.in_ok-part.ensures.reads in
    let whole = a_short source.fixities.now source.end xs (drop 0 xs) (c.args.at + 1) (c.args.at + 2) c.args.name c.args.abbreviated c.in_ok-part.part c.define-short.result (omega arith) c.requires.head equals read.0 read.1 read.2 c.define-short.ensures in
    whole.0

pub returns-then-eq-2-clause-reads : goal.returns-then-eq-2-clause-reads
returns-then-eq-2-clause-reads c =
    let source = c.args.source.now in
    let xs : List Lexeme = lexemes source.text.now source.tokens.now in
    let end = c.in_ok-ty.end in
    let colons : first_word (lexemes_from source (c.args.at + 1)) ≡ Colon = search rules in
    let equals : first_word (lexemes_from source end) ≡ Equals = search rules in
    let read = c.in_ok-part-2.ensures.reads in
    let whole =
    a_long source.fixities.now source.end xs (drop 0 xs) (c.args.at + 1) (c.args.at + 2) end (end + 1) c.args.name c.args.abbreviated c.in_ok-ty.ty c.in_ok-part-2.part c.define-long.result (omega arith) refl c.requires.head colons c.in_ok-ty.ensures.reads equals
    read.0 read.1 read.2 c.define-long.ensures in
    whole.0

pub returns-clause-reads : goal.returns-clause-reads
returns-clause-reads c =
    let source = c.args.source.now in
    let xs : List Lexeme = lexemes source.text.now source.tokens.now in
    let end = c.in_ok-ty.end in
    let colons : first_word (lexemes_from source (c.args.at + 1)) ≡ Colon = search rules in
    let dots : first_word (lexemes_from source end) ≡ Dot = search rules in
    let plain : c.args.abbreviated ≡ false = search rules in
    let named : c.args.name ≡ Some c.in-Some.name = search rules in
    let place : c.place-place.result ≡ first_place source.end (drop 0 xs) = c.place-place.ensures ∙ ap (λ n. first_place source.end (drop n xs)) (c.requires.first plain) in
    let whole =
    a_declaration source.fixities.now source.end xs (drop 0 xs) (c.args.at + 1) (c.args.at + 2) end c.args.name c.in-Some.name c.args.abbreviated c.place-place.result c.in_ok-ty.ty c.declare.result (omega arith) c.requires.head plain named colons c.in_ok-ty.ensures.reads
    dots (c.requires.dot end dots) place c.declare.ensures in
    whole.0

pub returns-then-eq-clause-fault : goal.returns-then-eq-clause-fault
returns-then-eq-clause-fault c =
    let source = c.args.source.now in
    let xs : List Lexeme = lexemes source.text.now source.tokens.now in
    let equals : first_word (lexemes_from source (c.args.at + 1)) ≡ Equals = search rules in
    let read = c.in_ok-part.ensures.reads in
    let whole = a_short source.fixities.now source.end xs (drop 0 xs) (c.args.at + 1) (c.args.at + 2) c.args.name c.args.abbreviated c.in_ok-part.part c.define-short.result (omega arith) c.requires.head equals read.0 read.1 read.2 c.define-short.ensures in
    whole.1

pub returns-then-eq-2-clause-fault : goal.returns-then-eq-2-clause-fault
returns-then-eq-2-clause-fault c =
    let source = c.args.source.now in
    let xs : List Lexeme = lexemes source.text.now source.tokens.now in
    let end = c.in_ok-ty.end in
    let colons : first_word (lexemes_from source (c.args.at + 1)) ≡ Colon = search rules in
    let equals : first_word (lexemes_from source end) ≡ Equals = search rules in
    let read = c.in_ok-part-2.ensures.reads in
    let whole =
    a_long source.fixities.now source.end xs (drop 0 xs) (c.args.at + 1) (c.args.at + 2) end (end + 1) c.args.name c.args.abbreviated c.in_ok-ty.ty c.in_ok-part-2.part c.define-long.result (omega arith) refl c.requires.head colons c.in_ok-ty.ensures.reads equals
    read.0 read.1 read.2 c.define-long.ensures in
    whole.1

pub returns-clause-fault : goal.returns-clause-fault
returns-clause-fault c =
    let source = c.args.source.now in
    let xs : List Lexeme = lexemes source.text.now source.tokens.now in
    let end = c.in_ok-ty.end in
    let colons : first_word (lexemes_from source (c.args.at + 1)) ≡ Colon = search rules in
    let dots : first_word (lexemes_from source end) ≡ Dot = search rules in
    let plain : c.args.abbreviated ≡ false = search rules in
    let named : c.args.name ≡ Some c.in-Some.name = search rules in
    let place : c.place-place.result ≡ first_place source.end (drop 0 xs) = c.place-place.ensures ∙ ap (λ n. first_place source.end (drop n xs)) (c.requires.first plain) in
    let whole =
    a_declaration source.fixities.now source.end xs (drop 0 xs) (c.args.at + 1) (c.args.at + 2) end c.args.name c.in-Some.name c.args.abbreviated c.place-place.result c.in_ok-ty.ty c.declare.result (omega arith) c.requires.head plain named colons c.in_ok-ty.ensures.reads
    dots (c.requires.dot end dots) place c.declare.ensures in
    whole.1

pub last_sequence-requires-clause-due : goal.last_sequence-requires-clause-due
last_sequence-requires-clause-due c =
    let source = c.args.source.now in
    let xs : List Lexeme = lexemes source.text.now source.tokens.now in
    let equals : first_word (lexemes_from source (c.args.at + 1)) ≡ Equals = search rules in
    due_equals source.fixities.now source.end xs (lexemes_from source 0) (c.args.at + 1) (c.args.at + 2) c.args.name c.args.abbreviated (omega arith) c.requires.head equals

pub last_sequence-requires-then-eq-2-clause-due : goal.last_sequence-requires-then-eq-2-clause-due
last_sequence-requires-then-eq-2-clause-due c =
    let source = c.args.source.now in
    let xs : List Lexeme = lexemes source.text.now source.tokens.now in
    let colons : first_word (lexemes_from source (c.args.at + 1)) ≡ Colon = search rules in
    let end = c.in_ok-ty.end in
    let equals : first_word (lexemes_from source end) ≡ Equals = search rules in
    let read = c.in_ok-ty.ensures.reads in
    due_type source.fixities.now source.end xs (lexemes_from source 0) (c.args.at + 1) (c.args.at + 2) end (end + 1) c.args.name c.args.abbreviated read.0 (omega arith) refl c.requires.head colons read.1 equals

pub returns-then-ne-clause-fault : goal.returns-then-ne-clause-fault
returns-then-ne-clause-fault c =
    let source = c.args.source.now in
    let xs : List Lexeme = lexemes source.text.now source.tokens.now in
    let no_eq : first_word (lexemes_from source (c.args.at + 1)) ≡ Equals → ⊥ = search rules in
    let no_colon : first_word (lexemes_from source (c.args.at + 1)) ≡ Colon → ⊥ = search rules in
    stops_at_sign source.fixities.now source.end c.place.result (lexemes_from source 0) (lexemes_from source (c.args.at + 1)) c.args.name c.args.abbreviated c.requires.head no_eq no_colon c.place.ensures

pub returns-in_err-ty-clause-fault : goal.returns-in_err-ty-clause-fault
returns-in_err-ty-clause-fault c =
    let source = c.args.source.now in
    let xs : List Lexeme = lexemes source.text.now source.tokens.now in
    let colons : first_word (lexemes_from source (c.args.at + 1)) ≡ Colon = search rules in
    let due = due_colon source.fixities.now source.end xs (lexemes_from source 0) (c.args.at + 1) (c.args.at + 2) c.args.name c.args.abbreviated (omega arith) c.requires.head colons in
    let p = err_from_is_err_and c.from_residual-in_err-ty.result c.from_residual-in_err-ty.ensures.1 in
    let f = c.in_err-ty.field-0.0 in
    exits c.from_residual-in_err-ty.result p.0 f (FaultOf source) p.1 p.2 (due_stops source (c.args.at + 2) due.ending f due.due c.in_err-ty.ensures.fault)

pub returns-in_default-clause-fault : goal.returns-in_default-clause-fault
returns-in_default-clause-fault c =
    let source = c.args.source.now in
    let xs : List Lexeme = lexemes source.text.now source.tokens.now in
    let colons : first_word (lexemes_from source (c.args.at + 1)) ≡ Colon = search rules in
    let due = due_colon source.fixities.now source.end xs (lexemes_from source 0) (c.args.at + 1) (c.args.at + 2) c.args.name c.args.abbreviated (omega arith) c.requires.head colons in
    let end = c.in_ok-ty.end in
    let read = c.in_ok-ty.ensures.reads in
    let w = first_word (lexemes_from source end) in
    let no_eq : w ≡ Equals → ⊥ = search rules in
    let nameless : c.args.name ≡ None = search rules in
    stops_behind source.fixities.now source.end c.place-in_default.result (lexemes_from source 0) (lexemes_from source (c.args.at + 2)) (lexemes_from source end) due.ending read.0 due.due read.1 c.in_ok-ty.ensures.stops
    (ap (λ e. end_next e w) (due.nameless nameless) ∙ no_equals w no_eq) c.place-in_default.ensures

pub returns-then-abbreviated-clause-fault : goal.returns-then-abbreviated-clause-fault
returns-then-abbreviated-clause-fault c =
    let source = c.args.source.now in
    let xs : List Lexeme = lexemes source.text.now source.tokens.now in
    let colons : first_word (lexemes_from source (c.args.at + 1)) ≡ Colon = search rules in
    let due = due_colon source.fixities.now source.end xs (lexemes_from source 0) (c.args.at + 1) (c.args.at + 2) c.args.name c.args.abbreviated (omega arith) c.requires.head colons in
    let end = c.in_ok-ty.end in
    let read = c.in_ok-ty.ensures.reads in
    let w = first_word (lexemes_from source end) in
    let no_eq : w ≡ Equals → ⊥ = search rules in
    let short : c.args.abbreviated ≡ true = search rules in
    stops_behind source.fixities.now source.end c.place-then-abbreviated.result (lexemes_from source 0) (lexemes_from source (c.args.at + 2)) (lexemes_from source end) due.ending read.0 due.due read.1 c.in_ok-ty.ensures.stops
    (ap (λ e. end_next e w) (due.only short) ∙ no_equals w no_eq) c.place-then-abbreviated.ensures

pub returns-then-ne-2-clause-fault : goal.returns-then-ne-2-clause-fault
returns-then-ne-2-clause-fault c =
    let source = c.args.source.now in
    let xs : List Lexeme = lexemes source.text.now source.tokens.now in
    let colons : first_word (lexemes_from source (c.args.at + 1)) ≡ Colon = search rules in
    let due = due_colon source.fixities.now source.end xs (lexemes_from source 0) (c.args.at + 1) (c.args.at + 2) c.args.name c.args.abbreviated (omega arith) c.requires.head colons in
    let end = c.in_ok-ty.end in
    let read = c.in_ok-ty.ensures.reads in
    let w = first_word (lexemes_from source end) in
    let no_eq : w ≡ Equals → ⊥ = search rules in
    let no_dot : w ≡ Dot → ⊥ = search rules in
    stops_behind source.fixities.now source.end c.place-then-ne-2.result (lexemes_from source 0) (lexemes_from source (c.args.at + 2)) (lexemes_from source end) due.ending read.0 due.due read.1 c.in_ok-ty.ensures.stops
    (no_end due.ending w no_dot no_eq) c.place-then-ne-2.ensures
