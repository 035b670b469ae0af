use Rattle.std.proofs.Common.{ℕ, ◌+◌, ◌≡◌, List, Bool, Some, None, true, false, refl, sym, ap, subst, ◌∙◌, arith, rules}
use Rattle.tw_parse.specs.declared.pile.Pile.{Pile}
use Rattle.tw_parse.specs.declared.source.Source.{Source}
use Rattle.tw_parse.specs.Parts.{Takes}
use Rattle.tw_parse.specs.Sources.{lexemes_from}
use Rattle.tw_parse.specs.Words.{Lexeme, lexemes, first_word, closer_of, is_bindable, binder_of}
use Rattle.tw_parse.specs.declared.parts.Head.{Head}
use Rattle.tw_parse.specs.declared.words.Word.TheVariants.{Colon, LParen}
use Rattle.tw_parse.proofs.Building.{nothing, still, grow_token, grow_group, read_plain, read_binder, leads_alone, leads_typed}
use Rattle.std.proofs.lemmas.Result.{err_from_is_err_and}
use Rattle.tw_parse.specs.Failing.{is_item, SequenceFault, HeadFault}
use Rattle.tw_parse.proofs.Failing.{stops_first, stops_at_paren, stops_at_name, stops_at_colon, stops_at_closer, port_alone, port_typed, not_an_item, domain_stops, group_stops, head_stops, body_stops, is_syntax}
use Rattle.tw_parse.proofs.Stopping.{exits}
use Rattle.tw_parse.specs.Words.{first_place}
use Rattle.tw_parse.proofs.sequences.+sequence.Goals as goal

pub head-returns-then-eq-clause-reads : goal.head-returns-then-eq-clause-reads
head-returns-then-eq-clause-reads t c =
    let source = c.args.source.now in
    let xs : List Lexeme = lexemes source.text.now source.tokens.now in
    let closes : first_word (lexemes_from source (c.args.at + 2)) ≡ closer_of c.args.binder = search rules in
    let binds : is_bindable (first_word (lexemes_from source (c.args.at + 1))) ≡ true = search rules in
    let head : Head = record { binder = c.args.binder; name = c.in_ok-name.name; at = c.place-place.result; domain = None } in
    leads_alone source.fixities.now xs c.args.at source.end head c.requires binds closes c.in_ok-name.ensures c.place-place.ensures refl

pub head-returns-clause-reads : goal.head-returns-clause-reads
head-returns-clause-reads t c =
    let source = c.args.source.now in
    let xs : List Lexeme = lexemes source.text.now source.tokens.now in
    let colons : first_word (lexemes_from source (c.args.at + 2)) ≡ Colon = search rules in
    let closes : first_word (lexemes_from source c.in_ok-domain.end) ≡ closer_of c.args.binder = search rules in
    let binds : is_bindable (first_word (lexemes_from source (c.args.at + 1))) ≡ true = search rules in
    let head : Head = record { binder = c.args.binder; name = c.in_ok-name.name; at = c.place-place.result; domain = Some c.in_ok-domain.domain } in
    leads_typed source.fixities.now xs c.args.at c.in_ok-domain.end source.end head c.in_ok-domain.domain c.requires binds colons c.in_ok-domain.ensures.reads closes c.in_ok-name.ensures c.place-place.ensures refl

pub sequence-loop-pile-init : goal.sequence-loop-pile-init
sequence-loop-pile-init t c =
    let source = c.args.source.now in
    (omega arith, nothing source.fixities.now (lexemes source.text.now source.tokens.now) c.args.from c.new-pile.result c.new-pile.ensures.state c.new-pile.ensures.inner)

taken_now : (source : Source) (at : ℕ) (old new : Pile) (b d : Bool) → b ≡ d → Takes source at old new b → Takes source at old new d
taken_now source at old new b d e t = let P : Bool → Type 0 = λ x. Takes source at old new x in subst P e t

pub sequence-overflow_add-upto : goal.sequence-overflow_add-upto
sequence-overflow_add-upto t c = omega (arith, c.in_ok-taken.ensures.within c.if-taken.true)

pub sequence-loop-pile-smaller-then-taken : goal.sequence-loop-pile-smaller-then-taken
sequence-loop-pile-smaller-then-taken t c = omega (arith, c.in_ok-taken.ensures.within c.if-taken.true)

pub sequence-loop-pile-preserved-then-taken : goal.sequence-loop-pile-preserved-then-taken
sequence-loop-pile-preserved-then-taken t c =
    let source = c.args.source.now in
    let xs : List Lexeme = lexemes source.text.now source.tokens.now in
    let takes = taken_now source c.loop-pile.upto c.loop-pile.pile c.put_token.new.pile c.in_ok-taken.taken true c.if-taken.true c.in_ok-taken.ensures.takes in (
      omega arith,
      grow_token source.fixities.now xs c.args.from c.loop-pile.upto c.loop-pile.pile c.put_token.new.pile takes.0 takes.1 takes.2 takes.3 takes.4 takes.5 c.loop-pile.invariant.1,
    )

pub sequence-loop-pile-preserved : goal.sequence-loop-pile-preserved
sequence-loop-pile-preserved t c =
    let source = c.args.source.now in
    let xs : List Lexeme = lexemes source.text.now source.tokens.now in
    let opens : LParen ≡ first_word (lexemes_from source c.loop-pile.upto) = search rules in
    let takes = taken_now source c.loop-pile.upto c.loop-pile.pile c.put_token.new.pile c.in_ok-taken.taken false c.if-taken.false c.in_ok-taken.ensures.takes in (
      omega (arith, c.in_ok-inside.ensures.onward),
      grow_group source.fixities.now xs c.args.from c.loop-pile.upto c.in_ok-inside.end c.put_token.new.pile c.apply.new.self c.in_ok-inside.inside opens c.in_ok-expect.ensures.stands c.in_ok-inside.ensures.reads c.in_ok-apply.ensures.state
          c.in_ok-apply.ensures.inner (still source.fixities.now xs c.args.from c.loop-pile.upto c.loop-pile.pile c.put_token.new.pile takes.0 c.loop-pile.invariant.1),
    )

pub sequence-returns-in-Some-clause-reads : goal.sequence-returns-in-Some-clause-reads
sequence-returns-in-Some-clause-reads t c =
    let source = c.args.source.now in
    let xs : List Lexeme = lexemes source.text.now source.tokens.now in
    let takes = taken_now source c.loop-pile.upto c.loop-pile.pile c.put_token.new.pile c.in_ok-taken.taken false c.if-taken.false c.in_ok-taken.ensures.takes in
    read_binder source.fixities.now xs c.args.from c.loop-pile.upto c.in_ok-head.next c.in_ok-body.end source.end c.place-first.result c.put_token.new.pile c.apply-in-Some.new.self c.in_ok-head.head c.in_ok-body.body c.in_ok-bound.bound c.in_ok-whole.whole
    (still source.fixities.now xs c.args.from c.loop-pile.upto c.loop-pile.pile c.put_token.new.pile takes.0 c.loop-pile.invariant.1) c.in_ok-head.ensures.reads c.in_ok-body.ensures.reads c.in_ok-bound.ensures c.in_ok-apply-2.ensures.state
    c.in_ok-apply-2.ensures.inner c.place-first.ensures c.in_ok-whole.ensures

pub sequence-returns-clause-reads : goal.sequence-returns-clause-reads
sequence-returns-clause-reads t c =
    let source = c.args.source.now in
    let xs : List Lexeme = lexemes source.text.now source.tokens.now in
    let takes = taken_now source c.loop-pile.upto c.loop-pile.pile c.put_token.new.pile c.in_ok-taken.taken false c.if-taken.false c.in_ok-taken.ensures.takes in
    let on : c.loop-pile.upto ≡ c.args.from → ⊥ = search rules in
    read_plain source.fixities.now xs c.args.from c.loop-pile.upto source.end c.place-first.result c.put_token.new.pile c.in_ok-plain.plain
    (still source.fixities.now xs c.args.from c.loop-pile.upto c.loop-pile.pile c.put_token.new.pile takes.0 c.loop-pile.invariant.1) on c.place-first.ensures c.in_ok-plain.ensures

pub head-returns-then-not-is_bindable-clause-fault : goal.head-returns-then-not-is_bindable-clause-fault
head-returns-then-not-is_bindable-clause-fault t c =
    let source = c.args.source.now in
    let xs : List Lexeme = lexemes source.text.now source.tokens.now in
    let isnt : is_bindable (first_word (lexemes_from source (c.args.at + 1))) ≡ false = search rules in
    stops_at_name source.fixities.now source.end c.place.result xs c.args.at c.args.binder c.requires isnt c.place.ensures

pub head-returns-then-eq-clause-port : goal.head-returns-then-eq-clause-port
head-returns-then-eq-clause-port t c =
    let source = c.args.source.now in
    let xs : List Lexeme = lexemes source.text.now source.tokens.now in
    let closes : first_word (lexemes_from source (c.args.at + 2)) ≡ closer_of c.args.binder = search rules in
    let binds : is_bindable (first_word (lexemes_from source (c.args.at + 1))) ≡ true = search rules in
    port_alone source.fixities.now xs c.args.at c.args.binder c.requires binds closes

pub head-returns-in_err-expect-clause-fault : goal.head-returns-in_err-expect-clause-fault
head-returns-in_err-expect-clause-fault t c =
    let source = c.args.source.now in
    let xs : List Lexeme = lexemes source.text.now source.tokens.now in
    let p = err_from_is_err_and c.from_residual-in_err-expect.result c.from_residual-in_err-expect.ensures.1 in
    let f = c.in_err-expect.field-0.0 in
    let place = first_place source.end (lexemes_from source (c.args.at + 2)) in
    let binds : is_bindable (first_word (lexemes_from source (c.args.at + 1))) ≡ true = search rules in
    let no_closer : first_word (lexemes_from source (c.args.at + 2)) ≡ closer_of c.args.binder → ⊥ = search rules in
    exits c.from_residual-in_err-expect.result p.0 f (HeadFault source c.args.at) p.1 p.2
    (is_syntax (HeadFault source c.args.at) f place c.in_err-expect.ensures.fault.0 (stops_at_colon source.fixities.now source.end place xs c.args.at c.args.binder c.requires binds c.in_err-expect.ensures.fault.1 no_closer refl))

pub head-returns-in_err-domain-clause-fault : goal.head-returns-in_err-domain-clause-fault
head-returns-in_err-domain-clause-fault t c =
    let source = c.args.source.now in
    let xs : List Lexeme = lexemes source.text.now source.tokens.now in
    let p = err_from_is_err_and c.from_residual-in_err-domain.result c.from_residual-in_err-domain.ensures.1 in
    let f = c.in_err-domain.field-0.0 in
    let binds : is_bindable (first_word (lexemes_from source (c.args.at + 1))) ≡ true = search rules in
    exits c.from_residual-in_err-domain.result p.0 f (HeadFault source c.args.at) p.1 p.2 (domain_stops source c.args.at c.args.binder f c.requires binds c.in_ok-expect.ensures.stands c.in_err-domain.ensures.fault)

pub head-returns-in_err-expect-2-clause-fault : goal.head-returns-in_err-expect-2-clause-fault
head-returns-in_err-expect-2-clause-fault t c =
    let source = c.args.source.now in
    let xs : List Lexeme = lexemes source.text.now source.tokens.now in
    let p = err_from_is_err_and c.from_residual-in_err-expect-2.result c.from_residual-in_err-expect-2.ensures.1 in
    let f = c.in_err-expect-2.field-0.0 in
    let e = c.in_ok-domain.end in
    let place = first_place source.end (lexemes_from source e) in
    let read = c.in_ok-domain.ensures.reads in
    let binds : is_bindable (first_word (lexemes_from source (c.args.at + 1))) ≡ true = search rules in
    let wrong : first_word (lexemes_from source e) ≡ closer_of c.args.binder → ⊥ = λ same. c.in_err-expect-2.ensures.fault.1 (same ∙ sym c.closer_of-2.ensures) in
    exits c.from_residual-in_err-expect-2.result p.0 f (HeadFault source c.args.at) p.1 p.2
    (is_syntax (HeadFault source c.args.at) f place c.in_err-expect-2.ensures.fault.0
    (stops_at_closer source.fixities.now source.end place xs c.args.at e c.args.binder read.0 c.requires binds c.in_ok-expect.ensures.stands read.1 c.in_ok-domain.ensures.stops wrong refl))

pub head-returns-clause-port : goal.head-returns-clause-port
head-returns-clause-port t c =
    let source = c.args.source.now in
    let xs : List Lexeme = lexemes source.text.now source.tokens.now in
    let read = c.in_ok-domain.ensures.reads in
    let closes : first_word (lexemes_from source c.in_ok-domain.end) ≡ closer_of c.args.binder = search rules in
    let binds : is_bindable (first_word (lexemes_from source (c.args.at + 1))) ≡ true = search rules in
    port_typed source.fixities.now xs c.args.at c.in_ok-domain.end c.args.binder read.0 c.requires binds c.in_ok-expect.ensures.stands read.1 closes

pub sequence-returns-in_err-inside-clause-fault : goal.sequence-returns-in_err-inside-clause-fault
sequence-returns-in_err-inside-clause-fault t c =
    let source = c.args.source.now in
    let xs : List Lexeme = lexemes source.text.now source.tokens.now in
    let takes = taken_now source c.loop-pile.upto c.loop-pile.pile c.put_token.new.pile c.in_ok-taken.taken false c.if-taken.false c.in_ok-taken.ensures.takes in
    let g = still source.fixities.now xs c.args.from c.loop-pile.upto c.loop-pile.pile c.put_token.new.pile takes.0 c.loop-pile.invariant.1 in
    let p = err_from_is_err_and c.from_residual-in_err-inside.result c.from_residual-in_err-inside.ensures.1 in
    let f = c.in_err-inside.field-0.0 in
    let opens : LParen ≡ first_word (lexemes_from source c.loop-pile.upto) = search rules in
    exits c.from_residual-in_err-inside.result p.0 f (SequenceFault source c.args.from) p.1 p.2 (group_stops source c.args.from c.loop-pile.upto g.0 f g.1 opens c.in_err-inside.ensures.fault)

pub sequence-returns-in_err-expect-clause-fault : goal.sequence-returns-in_err-expect-clause-fault
sequence-returns-in_err-expect-clause-fault t c =
    let source = c.args.source.now in
    let xs : List Lexeme = lexemes source.text.now source.tokens.now in
    let takes = taken_now source c.loop-pile.upto c.loop-pile.pile c.put_token.new.pile c.in_ok-taken.taken false c.if-taken.false c.in_ok-taken.ensures.takes in
    let g = still source.fixities.now xs c.args.from c.loop-pile.upto c.loop-pile.pile c.put_token.new.pile takes.0 c.loop-pile.invariant.1 in
    let p = err_from_is_err_and c.from_residual-in_err-expect.result c.from_residual-in_err-expect.ensures.1 in
    let f = c.in_err-expect.field-0.0 in
    let e = c.in_ok-inside.end in
    let place = first_place source.end (lexemes_from source e) in
    let read = c.in_ok-inside.ensures.reads in
    let opens : LParen ≡ first_word (lexemes_from source c.loop-pile.upto) = search rules in
    exits c.from_residual-in_err-expect.result p.0 f (SequenceFault source c.args.from) p.1 p.2
    (is_syntax (SequenceFault source c.args.from) f place c.in_err-expect.ensures.fault.0
    (stops_at_paren source.fixities.now source.end place xs (lexemes_from source c.args.from) c.loop-pile.upto e g.0 read.0 g.1 opens read.1 c.in_ok-inside.ensures.stops c.in_err-expect.ensures.fault.1 refl))

pub sequence-returns-in_err-head-clause-fault : goal.sequence-returns-in_err-head-clause-fault
sequence-returns-in_err-head-clause-fault t c =
    let source = c.args.source.now in
    let xs : List Lexeme = lexemes source.text.now source.tokens.now in
    let takes = taken_now source c.loop-pile.upto c.loop-pile.pile c.put_token.new.pile c.in_ok-taken.taken false c.if-taken.false c.in_ok-taken.ensures.takes in
    let g = still source.fixities.now xs c.args.from c.loop-pile.upto c.loop-pile.pile c.put_token.new.pile takes.0 c.loop-pile.invariant.1 in
    let p = err_from_is_err_and c.from_residual-in_err-head.result c.from_residual-in_err-head.ensures.1 in
    let f = c.in_err-head.field-0.0 in
    exits c.from_residual-in_err-head.result p.0 f (SequenceFault source c.args.from) p.1 p.2 (head_stops source c.args.from c.loop-pile.upto g.0 f g.1 c.in_err-head.ensures.fault)

pub sequence-returns-in_err-body-clause-fault : goal.sequence-returns-in_err-body-clause-fault
sequence-returns-in_err-body-clause-fault t c =
    let source = c.args.source.now in
    let xs : List Lexeme = lexemes source.text.now source.tokens.now in
    let takes = taken_now source c.loop-pile.upto c.loop-pile.pile c.put_token.new.pile c.in_ok-taken.taken false c.if-taken.false c.in_ok-taken.ensures.takes in
    let g = still source.fixities.now xs c.args.from c.loop-pile.upto c.loop-pile.pile c.put_token.new.pile takes.0 c.loop-pile.invariant.1 in
    let p = err_from_is_err_and c.from_residual-in_err-body.result c.from_residual-in_err-body.ensures.1 in
    let f = c.in_err-body.field-0.0 in
    exits c.from_residual-in_err-body.result p.0 f (SequenceFault source c.args.from) p.1 p.2 (body_stops source c.args.from c.loop-pile.upto c.in_ok-head.next g.0 f g.1 c.in_ok-head.ensures.port c.in_err-body.ensures.fault)

pub sequence-returns-then-upto-from-clause-fault : goal.sequence-returns-then-upto-from-clause-fault
sequence-returns-then-upto-from-clause-fault t c =
    let source = c.args.source.now in
    let xs : List Lexeme = lexemes source.text.now source.tokens.now in
    let takes = taken_now source c.loop-pile.upto c.loop-pile.pile c.put_token.new.pile c.in_ok-taken.taken false c.if-taken.false c.in_ok-taken.ensures.takes in
    let upto = c.loop-pile.upto in
    let same : upto ≡ c.args.from = search rules in
    let no_paren : first_word (lexemes_from source upto) ≡ LParen → ⊥ = search rules in
    let no_binder : binder_of (first_word (lexemes_from source upto)) ≡ None = search rules in
    let isnt : is_item (first_word (lexemes_from source upto)) ≡ false = not_an_item source.fixities.now (lexemes_from source upto) takes.1 takes.2 no_paren no_binder in
    let here : is_item (first_word (lexemes_from source c.args.from)) ≡ false = sym (ap (λ n. is_item (first_word (lexemes_from source n))) same) ∙ isnt in
    stops_first source.fixities.now source.end c.place.result (lexemes_from source c.args.from) here (c.place.ensures ∙ ap (λ n. first_place source.end (lexemes_from source n)) same)
