-- What is said of the tokens of a source.
use Rattle.std.proofs.Common.{◌≡◌, ℕ, ◌+◌, List, [], ◌∷◌, ◌++◌, map, Option, None, Some, MatchOption, refl, sym, ap, subst, ◌∙◌, arith}
use Rattle.std.proofs.lemmas.List.{map-append}
use Rattle.tw_parse.specs.Failing.{SequenceFault}
use Rattle.tw_parse.specs.Outlines.{Table}
use Rattle.tw_parse.specs.Sources.{lexemes_from}
use Rattle.tw_parse.specs.Words.{Lexeme, lexemes, first_word, first_bytes}
use Rattle.tw_parse.specs.declared.decl.ExtName.{ExtName}
use Rattle.tw_parse.specs.declared.fault.SyntaxFault.{SyntaxFault}
use Rattle.tw_parse.specs.declared.fault.SyntaxFault.TheVariants.{Unsupported, Nesting, Syntax, Fixity, BadDecl, NoMemory}
use Rattle.tw_parse.specs.declared.parts.Part.{Part}
use Rattle.tw_parse.specs.declared.source.Source.{Source}
use Rattle.tw_parse.specs.declared.words.Word.TheVariants.{Keyword}
use Rattle.tw_parse.proofs.Building.{Token}
use Rattle.tw_parse_checks.specs.Faults.{in_first, LeadsQuantifier, LeadsBinder, IsFault, in_mode}
use Rattle.tw_parse_checks.specs.Meanings.{mark_in, variable_in, binder_in}
use Rattle.tw_parse_checks.specs.Parts.{HasNoHead, HasNoOpening, HasNoBinder, HasNoBare, IsBare, variable_at, IsDomain, DomainFault, TellsDomain, TellAll, AreQuantified, TypeFault, name_in, AreBinders, BinderFault}
use Rattle.tw_parse_checks.specs.Shapes.{Quantifier, TakesQuantifier, Opening, Head, a_quantifier, Binder, TakesBinder, a_typed_binder, a_bare_binder}
use Rattle.tw_parse_checks.specs.declared.bound.Bound.{Bound}
use Rattle.tw_parse_checks.specs.declared.check.CheckForm.TheVariants.{Mode}
use Rattle.tw_parse_checks.specs.declared.check.ExtMark.{ExtMark}
use Rattle.tw_parse_checks.specs.declared.quantifiers.Quantified.{Quantified}
use Rattle.tw_parse_checks.proofs.Faults.{later_stops}
use Rattle.tw_parse_checks.proofs.Tokens.{token, same_name}
use Rattle.tw_parse_checks.proofs.Rows.{push}
use Rattle.tw_parse_checks.proofs.Types.{filling_stops}

pub domain_stops : (source : Source) (from : ℕ) (f : SyntaxFault) → SequenceFault source from f → DomainFault source from f
domain_stops source from (Syntax place) s = filling_stops source.fixities.now source.end place (lexemes_from source from) s
domain_stops source from NoMemory s = tt
domain_stops source from (Fixity place) s = absurd s
domain_stops source from (BadDecl place) s = absurd s
domain_stops source from (Nesting place) s = absurd s
domain_stops source from (Unsupported name place) s = absurd s

told_further : (bs : List Binder) (ps : List (Option Part)) (b : Binder) (p : Option Part) → TellAll bs ps → TellsDomain b.type p → TellAll (bs ++ b ∷ []) (ps ++ p ∷ [])
told_further [] [] b p t h = (h, tt)
told_further [] (r ∷ ps) b p t h = absurd t
told_further (o ∷ bs) [] b p t h = absurd t
told_further (o ∷ bs) (r ∷ ps) b p t h = (t.0, told_further bs ps b p t.1 h)

-- Quantified variables

pub a_head_stands : (source : Source) (at : ℕ) (o : Option ExtMark) (mark : ExtMark) → o ≡ Some mark → MatchOption o (HasNoHead (lexemes_from source at)) (λ m. Head (lexemes_from source at) m (variable_at source (at + 1)) (lexemes_from source (at + 4)))
    → Head (lexemes_from source at) mark (variable_at source (at + 1)) (lexemes_from source (at + 4))
a_head_stands source at o mark e h = subst (λ (q : Option ExtMark). MatchOption q (HasNoHead (lexemes_from source at)) (λ m. Head (lexemes_from source at) m (variable_at source (at + 1)) (lexemes_from source (at + 4)))) e h

pub one_quantified : (source : Source) (from at end : ℕ) (old new : Quantified) (mark : ExtMark) (x : ExtName) (part : Part) → AreQuantified source from old at → Head (lexemes_from source at) mark (variable_at source (at + 1)) (lexemes_from source (at + 4)) → x.name ≡ first_bytes (lexemes_from source (at + 2))
    → x.at ≡ (variable_at source (at + 1)).at → IsDomain source (at + 4) part end → new.marks.items ≡ old.marks.items ++ mark ∷ [] → new.bound.variables.items ≡ old.bound.variables.items ++ x ∷ [] → new.bound.domains.items ≡ old.bound.domains.items ++ Some part ∷ []
    → AreQuantified source from new end
one_quantified source from at end old new mark x part are head name place domain marks variables domains =
    let variable : ExtName = variable_at source (at + 1) in
    let q : Quantifier = record { mark = mark; variable = variable; type = domain.0 } in
    let count : at + 2 ≡ at + 1 + 1 = omega arith in
    let same : x ≡ variable = same_name x variable (name ∙ ap (λ (k : ℕ). first_bytes (lexemes_from source k)) count) place in
    let told : TellAll (map binder_in are.0 ++ binder_in q ∷ []) (old.bound.domains.items ++ Some part ∷ []) = told_further (map binder_in are.0) old.bound.domains.items (binder_in q) (Some part) are.4 domain.4 in (
      are.0 ++ q ∷ [],
      push are.1 (a_quantifier head domain.3 domain.2),
      marks ∙ ap (λ (ms : List ExtMark). ms ++ mark ∷ []) are.2 ∙ sym (map-append mark_in are.0 (q ∷ [])),
      variables ∙ ap (λ (y : ExtName). old.bound.variables.items ++ y ∷ []) same ∙ ap (λ (vs : List ExtName). vs ++ variable ∷ []) are.3 ∙ sym (map-append variable_in are.0 (q ∷ [])),
      subst (TellAll (map binder_in (are.0 ++ q ∷ []))) (sym domains) (subst (λ (bs : List Binder). TellAll bs (old.bound.domains.items ++ Some part ∷ [])) (sym (map-append binder_in are.0 (q ∷ []))) told),
    )

pub type_stops : (source : Source) (from at : ℕ) (q : Quantified) (mark : ExtMark) (f : SyntaxFault) → AreQuantified source from q at → Head (lexemes_from source at) mark (variable_at source (at + 1)) (lexemes_from source (at + 4)) → DomainFault source (at + 4) f → TypeFault source from f
type_stops source from at q mark (Syntax place) are head s = later_stops LeadsQuantifier (TakesQuantifier source.fixities.now) source.fixities.now source.end place are.1 (in_first (mark, variable_at source (at + 1), head) s)
type_stops source from at q mark NoMemory are head s = tt
type_stops source from at q mark (Fixity place) are head s = absurd s
type_stops source from at q mark (BadDecl place) are head s = absurd s
type_stops source from at q mark (Nesting place) are head s = absurd s
type_stops source from at q mark (Unsupported name place) are head s = absurd s

pub type_fault : (source : Source) (f : SyntaxFault) → TypeFault source 1 f → IsFault source Mode f
type_fault source (Syntax place) s = in_mode s
type_fault source NoMemory s = tt
type_fault source (Fixity place) s = absurd s
type_fault source (BadDecl place) s = absurd s
type_fault source (Nesting place) s = absurd s
type_fault source (Unsupported name place) s = absurd s

-- Binders

pub one_binder : (source : Source) (from at end : ℕ) (old new : Bound) (x : ExtName) (b : Binder) (p : Option Part) → AreBinders source from old at → TakesBinder source.fixities.now (lexemes_from source at) b (lexemes_from source end) → b.variable ≡ variable_at source at → TellsDomain b.type p
    → x.name ≡ (variable_at source at).name → x.at ≡ (variable_at source at).at → new.variables.items ≡ old.variables.items ++ x ∷ [] → new.domains.items ≡ old.domains.items ++ p ∷ [] → AreBinders source from new end
one_binder source from at end old new x b p are takes variable told name place variables domains =
    let same : x ≡ b.variable = same_name x (variable_at source at) name place ∙ sym variable in (
      are.0 ++ b ∷ [],
      push are.1 takes,
      (
        variables ∙ ap (λ (y : ExtName). old.variables.items ++ y ∷ []) same ∙ ap (λ (vs : List ExtName). vs ++ b.variable ∷ []) are.2.0 ∙ sym (map-append name_in are.0 (b ∷ [])),
        subst (TellAll (are.0 ++ b ∷ [])) (sym domains) (told_further are.0 old.domains.items b p are.2.1 told),
      ),
    )

pub one_typed : (source : Source) (from at end : ℕ) (old new : Bound) (x : ExtName) (part : Part) → AreBinders source from old at → Opening (lexemes_from source at) (variable_at source at) (lexemes_from source (at + 3)) → IsDomain source (at + 3) part end → x.name ≡ (variable_at source at).name
    → x.at ≡ (variable_at source at).at → new.variables.items ≡ old.variables.items ++ x ∷ [] → new.domains.items ≡ old.domains.items ++ Some part ∷ [] → AreBinders source from new end
one_typed source from at end old new x part are opens domain name place variables domains =
    let b : Binder = record { variable = variable_at source at; type = Some domain.0 } in
    one_binder source from at end old new x b (Some part) are (a_typed_binder opens domain.3 domain.2) refl domain.4 name place variables domains

pub one_bare : (source : Source) (from at : ℕ) (old new : Bound) (x : ExtName) → AreBinders source from old at → IsBare source at → x.name ≡ (variable_at source at).name → x.at ≡ (variable_at source at).at → new.variables.items ≡ old.variables.items ++ x ∷ []
    → new.domains.items ≡ old.domains.items ++ None ∷ [] → AreBinders source from new (at + 3)
one_bare source from at old new x are bare name place variables domains =
    let b : Binder = record { variable = variable_at source at; type = None } in
    one_binder source from at (at + 3) old new x b None are bare refl tt name place variables domains

pub binder_stops : (source : Source) (from at : ℕ) (bound : Bound) (f : SyntaxFault) → AreBinders source from bound at → Opening (lexemes_from source at) (variable_at source at) (lexemes_from source (at + 3)) → DomainFault source (at + 3) f → BinderFault source from f
binder_stops source from at bound (Syntax place) are opens s = later_stops LeadsBinder (TakesBinder source.fixities.now) source.fixities.now source.end place are.1 (in_first (variable_at source at, opens) s)
binder_stops source from at bound NoMemory are opens s = tt
binder_stops source from at bound (Fixity place) are opens s = absurd s
binder_stops source from at bound (BadDecl place) are opens s = absurd s
binder_stops source from at bound (Nesting place) are opens s = absurd s
binder_stops source from at bound (Unsupported name place) are opens s = absurd s

-- where neither a typed binder begins nor one without a type stands
pub no_binder : (source : Source) (at : ℕ) → HasNoOpening (lexemes_from source at) → HasNoBare source at → HasNoBinder source.fixities.now (lexemes_from source at)
no_binder source at opens bare = (λ b rest t. by_binder b rest t (λ x e. bare x rest (subst (λ (d : Binder). TakesBinder source.fixities.now (lexemes_from source at) d rest) e t)) (λ x type o. opens x type o), λ type l. opens l.0 type l.1)
  where
    by_binder : {table : Table} {tokens : List Lexeme} (b : Binder) (rest : List Lexeme) → TakesBinder table tokens b rest → ((x : ExtName) → b ≡ record { variable = x; type = None } → ⊥) → ((x : ExtName) (type : List Lexeme) → Opening tokens x type → ⊥) → ⊥
    by_binder b rest (a_typed_binder {type = type} {x = x} o s e) bare opens = opens x type o
    by_binder b rest (a_bare_binder {opener = o} {x = x} e f g) bare opens = bare (record { name = x.bytes; at = o.at }) refl

-- the keyword

pub keyword_first : (source : Source) → first_word (lexemes_from source 0) ≡ Keyword → Token (lexemes source.text.now source.tokens.now) 0 1 Keyword
keyword_first source is = token (lexemes source.text.now source.tokens.now) 0 1 Keyword refl is (λ e. cc)
