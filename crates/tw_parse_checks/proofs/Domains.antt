-- What binders mean, they mean alone.
use Rattle.std.proofs.Common.{◌≡◌, List, [], ◌∷◌, ◌++◌, map, Option, None, Some, refl, ap, ◌∙◌}
use Rattle.tw_lexer.specs.declared.place.Place.{Place}
use Rattle.tw_parse.specs.Outlines.{Table, Outline, Sequence}
use Rattle.tw_parse.specs.Readings.{FirstFaultIn, of_first, of_later}
use Rattle.tw_parse.specs.Syntax.{Term, Domain, pi, typed}
use Rattle.tw_parse.specs.Words.{Lexeme}
use Rattle.tw_parse_checks.specs.Faults.{types_with, types_in}
use Rattle.tw_parse_checks.specs.Meanings.{binder_in, MeansDomain, no_type, a_type, Binds, no_variable, a_further_variable}
use Rattle.tw_parse_checks.specs.Shapes.{Row, no_more, one_more, Quantifier, TakesQuantifier, a_quantifier, Binder, TakesBinder, a_typed_binder, a_bare_binder, TakesSome, no_some, some_binders}
use Rattle.tw_parse_checks.proofs.Means.{means_once, no_fault}

-- the type, if there is one, is a sequence of tokens somewhere
abbrev pub HasSequence : Table → Option Outline → Type 0
HasSequence table None = Unit {0}
HasSequence table (Some U) = (tokens : List Lexeme) × (rest : List Lexeme) × Sequence table tokens U rest

abbrev pub AreRead : Table → List Binder → Type 0
AreRead table [] = Unit {0}
AreRead table (b ∷ bs) = HasSequence table b.type × AreRead table bs

pub quantifiers_read : (table : Table) {tokens rest : List Lexeme} {qs : List Quantifier} → Row (TakesQuantifier table) tokens qs rest → AreRead table (map binder_in qs)
quantifiers_read table no_more = tt
quantifiers_read table (one_more (a_quantifier {type = type} {rest = rest} {closer = c} h s e) w) = ((type, c ∷ rest, s), quantifiers_read table w)

pub binders_read : (table : Table) {tokens rest : List Lexeme} {bs : List Binder} → Row (TakesBinder table) tokens bs rest → AreRead table bs
binders_read table no_more = tt
binders_read table (one_more (a_typed_binder {type = type} {rest = rest} {closer = c} o s e) w) = ((type, c ∷ rest, s), binders_read table w)
binders_read table (one_more (a_bare_binder e f g) w) = (tt, binders_read table w)

pub some_read : (table : Table) {tokens rest : List Lexeme} {bs : List Binder} → TakesSome table tokens bs rest → AreRead table bs
some_read table no_some = tt
some_read table (some_binders s w) = binders_read table w

pub append_read : (table : Table) (bs ds : List Binder) → AreRead table bs → AreRead table ds → AreRead table (bs ++ ds)
append_read table [] ds r s = s
append_read table (b ∷ bs) ds r s = (r.0, append_read table bs ds r.1 s)

domain_once : (table : Table) (at : Place) (o : Option Outline) {D E : Domain} → HasSequence table o → MeansDomain o D → MeansDomain o E → D ≡ E
domain_once table at None h no_type no_type = refl
domain_once table at (Some U) h (a_type m) (a_type k) = ap typed (means_once table at h.2 m k)

pub binds_once : (table : Table) (at : Place) (bs : List Binder) {B C D : Term} → AreRead table bs → Binds bs B C → Binds bs B D → C ≡ D
binds_once table at [] r no_variable no_variable = refl
binds_once table at (b ∷ bs) r (a_further_variable {D = D} {C = M} m k) (a_further_variable {D = E} n l) =
    ap (λ (T : Domain). pi b.variable.name b.variable.at T M) (domain_once table at b.type r.0 m n) ∙ ap (pi b.variable.name b.variable.at E) (binds_once table at bs r.1 k l)

no_domain_fault : (table : Table) (at place : Place) (o : Option Outline) (types : List Outline) {D : Domain} → HasSequence table o → MeansDomain o D → (FirstFaultIn types place → ⊥) → FirstFaultIn (types_with o types) place → ⊥
no_domain_fault table at place None types h no_type n f = n f
no_domain_fault table at place (Some U) types h (a_type m) n (of_first f) = no_fault table at h.2 m f
no_domain_fault table at place (Some U) types h (a_type m) n (of_later c f) = n f

pub no_type_fault : (table : Table) (at place : Place) (bs : List Binder) {B C : Term} → AreRead table bs → Binds bs B C → FirstFaultIn (types_in bs) place → ⊥
no_type_fault table at place [] r no_variable f = elim f [ ]
no_type_fault table at place (b ∷ bs) r (a_further_variable m k) f = no_domain_fault table at place b.type (types_in bs) r.0 m (no_type_fault table at place bs r.1 k) f
