-- Why tokens declare no check.
use Rattle.std.proofs.Common.{◌≡◌, List, [], ◌∷◌, Bool, true, false, refl, sym, ap, subst, ◌∙◌}
use Rattle.tw_lexer.specs.declared.place.Place.{Place}
use Rattle.tw_parse.specs.Outlines.{Table, Sequence}
use Rattle.tw_parse.specs.Words.{Lexeme}
use Rattle.tw_parse.specs.declared.decl.ExtName.{ExtName}
use Rattle.tw_parse.specs.Keywords.{is_identifier}
use Rattle.tw_parse.specs.declared.words.Word.{Word}
use Rattle.tw_parse.specs.declared.words.Word.TheVariants.{LParen, RBrace, Colon}
use Rattle.tw_parse_checks.specs.Faults.{FillingStopsAt, StopsInType, in_first, in_later, LeadsQuantifier, LeadsBinder, StopsInQuantifier, StopsInBinder}
use Rattle.tw_parse_checks.specs.Parts.{Stuck, HasNoHead, HasNoFamily, HasNoBinder, TellsParens}
use Rattle.tw_parse_checks.specs.Shapes.{Row, no_more, one_more, TakesMark, TakesName, Opening, an_opening, Quantifier, TakesQuantifier, a_quantifier, Binder, TakesBinder, a_typed_binder, a_bare_binder, Family, bare, in_parens, Closing, Draft, full, Behind, is_short, is_full}
use Rattle.tw_parse_checks.specs.declared.check.CheckForm.TheVariants.{Mode}
use Rattle.tw_parse_checks.specs.declared.check.ExtMark.{ExtMark}
use Rattle.tw_parse_checks.proofs.Openings.{opening_once, binders_once}
use Rattle.tw_parse_checks.proofs.Patterns.{one_family}
use Rattle.tw_parse_checks.proofs.Once.{head_once, quantifiers_once, stuck_head, family_is_no_head, full_has_head, short_has_no_head, closing_mark, closing_name}
use Rattle.tw_parse_checks.proofs.Rows.{IsOnce, row_once, marks_once, names_once}
use Rattle.tw_parse_checks.proofs.Types.{whole_type}

-- Types that stop

pub later_stops : {A : Type 0} (Leads : List Lexeme → List Lexeme → Type 0) (Takes : List Lexeme → A → List Lexeme → Type 0) (table : Table) (end place : Place) {tokens rest : List Lexeme} {qs : List A} → Row Takes tokens qs rest → StopsInType Leads Takes table end place rest
    → StopsInType Leads Takes table end place tokens
later_stops Leads Takes table end place no_more s = s
later_stops Leads Takes table end place (one_more t w) s = in_later t (later_stops Leads Takes table end place w s)

-- where those in a row stand whole, and nothing leads to a further type, no type stops
no_row_stop : {A : Type 0} (Leads : List Lexeme → List Lexeme → Type 0) (Takes : List Lexeme → A → List Lexeme → Type 0) (table : Table) (end place : Place) → IsOnce Takes
    → ((tokens rest type : List Lexeme) (x : A) → Takes tokens x rest → Leads tokens type → FillingStopsAt table end type place → ⊥) → {tokens rest : List Lexeme} {qs : List A} → Row Takes tokens qs rest → Stuck Takes rest → ((type : List Lexeme) → Leads rest type → ⊥)
    → StopsInType Leads Takes table end place tokens → ⊥
no_row_stop Leads Takes table end place once whole no_more i j (in_first {type = type} l f) = j type l
no_row_stop Leads Takes table end place once whole no_more i j (in_later {next = next} {q = q} t s) = i q next t
no_row_stop Leads Takes table end place once whole (one_more {tokens = tokens} {next = next} {one = x} t w) i j (in_first {type = type} l f) = whole tokens next type x t l f
no_row_stop Leads Takes table end place once whole (one_more {tokens = tokens} {next = next} {one = x} t w) i j (in_later {next = after} {q = p} u s) =
    let same = once tokens next after x p t u in
    no_row_stop Leads Takes table end place once whole w i j (subst (StopsInType Leads Takes table end place) (sym same.1) s)

quantifier_whole : (table : Table) (end place : Place) (tokens rest type : List Lexeme) (q : Quantifier) → TakesQuantifier table tokens q rest → LeadsQuantifier tokens type → FillingStopsAt table end type place → ⊥
quantifier_whole table end place tokens rest other q (a_quantifier {closer = c} {U = U} h s e) l f =
    let heads = head_once h l.2 in
    whole_type table end place other rest c U (subst (λ (ts : List Lexeme). Sequence table ts U (c ∷ rest)) heads.rests s) e f

pub no_stop : (table : Table) (end place : Place) {tokens rest : List Lexeme} {qs : List Quantifier} → Row (TakesQuantifier table) tokens qs rest → HasNoHead rest → StopsInQuantifier table end place tokens → ⊥
no_stop table end place {rest = rest} w n s =
    no_row_stop LeadsQuantifier (TakesQuantifier table) table end place (quantifiers_once table) (quantifier_whole table end place) w (stuck_head table rest n) (λ type l. n l.0 l.1 type l.2) s

bare_is_no_opening : {opener x closer : Lexeme} {rest type : List Lexeme} {y : ExtName} → closer.word ≡ RBrace → Opening (opener ∷ x ∷ closer ∷ rest) y type → ⊥
bare_is_no_opening e (an_opening f g h) = let clash : Colon ≡ RBrace = sym h ∙ e in cc

binder_whole : (table : Table) (end place : Place) (tokens rest type : List Lexeme) (b : Binder) → TakesBinder table tokens b rest → LeadsBinder tokens type → FillingStopsAt table end type place → ⊥
binder_whole table end place tokens rest other b (a_typed_binder {closer = c} {A = A} o s e) l f =
    whole_type table end place other rest c A (subst (λ (ts : List Lexeme). Sequence table ts A (c ∷ rest)) (opening_once o l.1).1 s) e f
binder_whole table end place tokens rest other b (a_bare_binder e g h) l f = bare_is_no_opening h l.1

pub no_binder_stop : (table : Table) (end place : Place) {tokens rest : List Lexeme} {bs : List Binder} → Row (TakesBinder table) tokens bs rest → HasNoBinder table rest → StopsInBinder table end place tokens → ⊥
no_binder_stop table end place w n s = no_row_stop LeadsBinder (TakesBinder table) table end place (binders_once table) (binder_whole table end place) w n.0 n.1 s

-- Tokens that are no mode

-- the short form
record IsShort (ts : List Lexeme) : Type 0 where
  parens : Bool
  a : ExtName
  behind : List Lexeme
  rest : List Lexeme
  marks : List ExtMark
  family : Family parens ts a behind
  row : Row TakesMark behind marks rest
  closes : Closing parens rest

short_shape : (table : Table) (ts : List Lexeme) (D : Draft) → Behind table Mode ts D → HasNoHead ts → IsShort ts
short_shape table ts D (is_short {behind = behind} {rest = rest} {a = a} {marks = marks} {parens = parens} f m e) n = record { parens = parens; a = a; behind = behind; rest = rest; marks = marks; family = f; row = m; closes = e }
short_shape table ts D (is_full {q = q} (one_more {next = next} t u) f m e) n = absurd (stuck_head table ts n q next t)

-- the full form, where these quantified variables stand
record IsFull (ts : List Lexeme) : Type 0 where
  a : ExtName
  behind : List Lexeme
  rest : List Lexeme
  names : List ExtName
  family : Family true ts a behind
  row : Row TakesName behind names rest
  closes : Closing true rest

full_shape : (table : Table) (ts next : List Lexeme) (qs : List Quantifier) (D : Draft) → Behind table Mode ts D → (qs ≡ [] → ⊥) → Row (TakesQuantifier table) ts qs next → HasNoHead next → IsFull next
full_shape table ts next [] D s some w n = absurd (some refl)
full_shape table ts next (q ∷ qs) D (is_short {behind = behind} {rest = rest} {a = a} {marks = marks} {parens = parens} f m e) some w n = absurd (full_has_head table ts next q qs w (short_has_no_head ts behind rest a marks parens f m e))
full_shape table ts next (q ∷ qs) D (is_full {next = after} {behind = behind} {rest = rest} {q = p} {qs = ps} {a = a} {names = names} t f m e) some w n =
    let rows = row_once (TakesQuantifier table) (quantifiers_once table) t w (stuck_head table after (family_is_no_head after behind a f)) (stuck_head table next n) in
    record { a = a; behind = behind; rest = rest; names = names; family = subst (λ (xs : List Lexeme). Family true xs a behind) rows.1 f; row = m; closes = e }

no_identifier : (w : Word) → w ≡ LParen → is_identifier w ≡ true → ⊥
no_identifier w e f = let clash : false ≡ true = sym (ap is_identifier e) ∙ f in cc

same_parens : (b p : Bool) (ts us : List Lexeme) (a : ExtName) → TellsParens b ts → Family p ts a us → p ≡ b
same_parens true p ts us a h (bare {a = x} e) = absurd (no_identifier x.word h e)
same_parens true p ts us a h (in_parens e f) = refl
same_parens false p ts us a h (bare e) = refl
same_parens false p ts us a h (in_parens e f) = absurd (h e)

pub no_short_family : (table : Table) (ts : List Lexeme) (b : Bool) → HasNoHead ts → TellsParens b ts → HasNoFamily b ts → (D : Draft) → Behind table Mode ts D → ⊥
no_short_family table ts b n h none D shape =
    let s = short_shape table ts D shape n in
    none s.a s.behind (subst (λ (p : Bool). Family p ts s.a s.behind) (same_parens b s.parens ts s.behind s.a h s.family) s.family)

pub no_short_end : (table : Table) (ts us rest : List Lexeme) (a : ExtName) (marks : List ExtMark) (b : Bool) → HasNoHead ts → Family b ts a us → Row TakesMark us marks rest → Stuck TakesMark rest → (Closing b rest → ⊥) → (D : Draft) → Behind table Mode ts D → ⊥
no_short_end table ts us rest a marks b n f m stuck none D shape =
    let s = short_shape table ts D shape n in
    let families = one_family f s.family in
    let rows = row_once TakesMark marks_once m (subst (λ (xs : List Lexeme). Row TakesMark xs s.marks s.rest) (sym families.2) s.row) stuck (closing_mark s.parens s.rest s.closes) in
    none (subst (λ (p : Bool). Closing p rest) (sym families.0) (subst (Closing s.parens) (sym rows.1) s.closes))

pub no_full_family : (table : Table) (ts next : List Lexeme) (qs : List Quantifier) → (qs ≡ [] → ⊥) → Row (TakesQuantifier table) ts qs next → HasNoHead next → HasNoFamily true next → (D : Draft) → Behind table Mode ts D → ⊥
no_full_family table ts next qs some w n none D shape =
    let s = full_shape table ts next qs D shape some w n in
    none s.a s.behind s.family

pub no_full_end : (table : Table) (ts next us rest : List Lexeme) (qs : List Quantifier) (a : ExtName) (names : List ExtName) → (qs ≡ [] → ⊥) → Row (TakesQuantifier table) ts qs next → HasNoHead next → Family true next a us → Row TakesName us names rest → Stuck TakesName rest
    → (Closing true rest → ⊥) → (D : Draft) → Behind table Mode ts D → ⊥
no_full_end table ts next us rest qs a names some w n f m stuck none D shape =
    let s = full_shape table ts next qs D shape some w n in
    let families = one_family f s.family in
    let rows = row_once TakesName names_once m (subst (λ (xs : List Lexeme). Row TakesName xs s.names s.rest) (sym families.2) s.row) stuck (closing_name true s.rest s.closes) in
    none (subst (Closing true) (sym rows.1) s.closes)

pub a_full : (table : Table) (ts next us rest : List Lexeme) (qs : List Quantifier) (a : ExtName) (names : List ExtName) → (qs ≡ [] → ⊥) → Row (TakesQuantifier table) ts qs next → Family true next a us → Row TakesName us names rest → Closing true rest
    → Behind table Mode ts (full qs a names)
a_full table ts next us rest [] a names some t f m h = absurd (some refl)
a_full table ts next us rest (q ∷ qs) a names some t f m h = is_full t f m h
