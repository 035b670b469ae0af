-- What the forms of a mode come to.
use Rattle.std.proofs.Common.{◌≡◌, ℕ, List, [], ◌∷◌, map, length, reverse, Bool, true, false, Option, None, Some, Ok, Err, MatchBool, MatchOption, append-nil, refl, sym, ap, subst, ◌∙◌}
use Rattle.std.specs.declared.result.Result.{Result}
use Rattle.tw_lexer.specs.declared.place.Place.{Place}
use Rattle.tw_parse.specs.Keywords.{is_identifier}
use Rattle.tw_parse.specs.Outlines.{Table, Outline}
use Rattle.tw_parse.specs.Readings.{FirstFaultIn}
use Rattle.tw_parse.specs.Sources.{lexemes_from}
use Rattle.tw_parse.specs.Syntax as syntax
use Rattle.tw_parse.specs.Words.{Lexeme, first_word, first_bytes, first_place}
use Rattle.tw_parse.specs.declared.decl.ExtName.{ExtName}
use Rattle.tw_parse.specs.declared.fault.SyntaxFault.TheVariants.{Fixity, BadDecl}
use Rattle.tw_parse.specs.declared.source.Source.{Source}
use Rattle.tw_parse_checks.specs.Checks.{Check, mode_short, mode_full}
use Rattle.tw_parse_checks.specs.Faults.{types_in, types_of, in_mode, IsCheck, IsFault, NoStop}
use Rattle.tw_parse_checks.specs.Marks.{named_mark_by}
use Rattle.tw_parse_checks.specs.Meanings.{mark_in, variable_in, binder_in, keeps_rules, family_on, Binds, MeansCheck, means_short, means_full}
use Rattle.tw_parse_checks.specs.Parts.{HasNoHead, HasNoFamily, TellsParens, AreQuantified, bound_over, name_in}
use Rattle.tw_parse_checks.specs.Shapes.{Row, no_more, one_more, TakesMark, TakesName, Quantifier, TakesQuantifier, Binder, Family, Closing, Draft, short, full, Behind, is_short}
use Rattle.tw_parse_checks.specs.declared.check.CheckForm.{CheckForm}
use Rattle.tw_parse_checks.specs.declared.check.CheckForm.TheVariants.{Mode}
use Rattle.tw_parse_checks.specs.declared.check.ExtMark.{ExtMark}
use Rattle.tw_parse_checks.specs.declared.quantifiers.Quantified.{Quantified}
use Rattle.tw_parse_checks.proofs.Domains.{quantifiers_read, no_type_fault}
use Rattle.tw_parse_checks.proofs.Faults.{no_stop, no_short_family, no_short_end, no_full_family, no_full_end, a_full}
use Rattle.tw_parse_checks.proofs.Once.{behind_once}
use Rattle.tw_parse_checks.proofs.Rows.{stuck_mark, stuck_name}
use Rattle.tw_parse_checks.proofs.Variables.{bound_binds, bound_fault}

pub it_holds : (r : Bool) (P Q : Type 0) → r ≡ true → MatchBool r P Q → P
it_holds r P Q e h = subst (λ (b : Bool). MatchBool b P Q) e h

pub it_fails : (r : Bool) (P Q : Type 0) → r ≡ false → MatchBool r P Q → Q
it_fails r P Q e h = subst (λ (b : Bool). MatchBool b P Q) e h

pub it_is_none : {A : Type 0} (o : Option A) (P : Type 0) (Q : A → Type 0) → o ≡ None → MatchOption o P Q → P
it_is_none o P Q e h = subst (λ q. MatchOption q P Q) e h

pub it_is_some : {A : Type 0} (o : Option A) (x : A) (P : Type 0) (Q : A → Type 0) → o ≡ Some x → MatchOption o P Q → Q x
it_is_some o x P Q e h = subst (λ q. MatchOption q P Q) e h

-- tokens that are no check break the rules of the keyword, where no type stops
pub misfit : (source : Source) (form : CheckForm) (place : Place) → place ≡ first_place source.end (lexemes_from source 0) → ((D : Draft) → Behind source.fixities.now form (lexemes_from source 1) D → ⊥) → NoStop source form → IsFault source form (BadDecl place)
misfit source form place is none stop = (is, λ D b. absurd (none D b), stop)

mode_stop : (source : Source) {rest : List Lexeme} {qs : List Quantifier} → Row (TakesQuantifier source.fixities.now) (lexemes_from source 1) qs rest → HasNoHead rest → NoStop source Mode
mode_stop source w n place (in_mode s) = no_stop source.fixities.now source.end place w n s

-- The short form

pub short_without_family : (source : Source) (b : Bool) (place : Place) → HasNoHead (lexemes_from source 1) → TellsParens b (lexemes_from source 1) → HasNoFamily b (lexemes_from source 1) → place ≡ first_place source.end (lexemes_from source 0) → IsFault source Mode (BadDecl place)
short_without_family source b place n flags none at = misfit source Mode place at (no_short_family source.fixities.now (lexemes_from source 1) b n flags none) (mode_stop source no_more n)

pub short_without_end : (source : Source) (b : Bool) (a : ExtName) (from end : ℕ) (marks : List ExtMark) (place : Place) → HasNoHead (lexemes_from source 1) → Family b (lexemes_from source 1) a (lexemes_from source from)
    → Row TakesMark (lexemes_from source from) marks (lexemes_from source end) → named_mark_by (first_word (lexemes_from source end)) (first_bytes (lexemes_from source end)) ≡ None → (Closing b (lexemes_from source end) → ⊥)
    → place ≡ first_place source.end (lexemes_from source 0) → IsFault source Mode (BadDecl place)
short_without_end source b a from end marks place n f m stops none at =
    misfit source Mode place at (no_short_end source.fixities.now (lexemes_from source 1) (lexemes_from source from) (lexemes_from source end) a marks b n f m (stuck_mark (lexemes_from source end) stops) none) (mode_stop source no_more n)

pub short_reads : (source : Source) (b : Bool) (a : ExtName) (from end : ℕ) (marks : List ExtMark) → Family b (lexemes_from source 1) a (lexemes_from source from) → Row TakesMark (lexemes_from source from) marks (lexemes_from source end) → Closing b (lexemes_from source end)
    → IsCheck source Mode (mode_short a marks)
short_reads source b a from end marks f m c = (short a marks, is_short f m c, means_short)

-- The full form

some_variables : (source : Source) (q : Quantified) (at : ℕ) (are : AreQuantified source 1 q at) → (q.marks.items ≡ [] → ⊥) → are.0 ≡ [] → ⊥
some_variables source q at are some e = some (are.2 ∙ ap (map mark_in) e)

pub full_without_family : (source : Source) (q : Quantified) (at : ℕ) (place : Place) → AreQuantified source 1 q at → (q.marks.items ≡ [] → ⊥) → HasNoHead (lexemes_from source at) → HasNoFamily true (lexemes_from source at) → place ≡ first_place source.end (lexemes_from source 0)
    → IsFault source Mode (BadDecl place)
full_without_family source q at place are some n none is =
    misfit source Mode place is (no_full_family source.fixities.now (lexemes_from source 1) (lexemes_from source at) are.0 (some_variables source q at are some) are.1 n none) (mode_stop source are.1 n)

pub full_without_end : (source : Source) (q : Quantified) (at from end : ℕ) (a : ExtName) (names : List ExtName) (place : Place) → AreQuantified source 1 q at → (q.marks.items ≡ [] → ⊥) → HasNoHead (lexemes_from source at) → Family true (lexemes_from source at) a (lexemes_from source from)
    → Row TakesName (lexemes_from source from) names (lexemes_from source end) → is_identifier (first_word (lexemes_from source end)) ≡ false → (Closing true (lexemes_from source end) → ⊥) → place ≡ first_place source.end (lexemes_from source 0) → IsFault source Mode (BadDecl place)
full_without_end source q at from end a names place are some n f m stops none is =
    misfit source Mode place is
    (no_full_end source.fixities.now (lexemes_from source 1) (lexemes_from source at) (lexemes_from source from) (lexemes_from source end) are.0 a names (some_variables source q at are some) are.1 n f m (stuck_name (lexemes_from source end) stops) none) (mode_stop source are.1 n)

-- the tokens are the full form
pub record IsFull (source : Source) (q : Quantified) (a : ExtName) (names : List ExtName) : Type 0 where
  pub at : ℕ
  pub are : AreQuantified source 1 q at
  pub stuck : HasNoHead (lexemes_from source at)
  pub shape : Behind source.fixities.now Mode (lexemes_from source 1) (full are.0 a names)

pub is_full : (source : Source) (q : Quantified) (at from end : ℕ) (a : ExtName) (names : List ExtName) → AreQuantified source 1 q at → (q.marks.items ≡ [] → ⊥) → HasNoHead (lexemes_from source at) → Family true (lexemes_from source at) a (lexemes_from source from)
    → Row TakesName (lexemes_from source from) names (lexemes_from source end) → Closing true (lexemes_from source end) → IsFull source q a names
is_full source q at from end a names are some n f m c =
    record {
      at = at;
      are = are;
      stuck = n;
      shape = a_full source.fixities.now (lexemes_from source 1) (lexemes_from source at) (lexemes_from source from) (lexemes_from source end) are.0 a names (some_variables source q at are some) are.1 f m c;
    }

-- the names of the variables, with their types or without
same_names : (qs : List Quantifier) → map variable_in qs ≡ map name_in (map binder_in qs)
same_names [] = refl
same_names (q ∷ qs) = ap (λ (xs : List ExtName). q.variable ∷ xs) (same_names qs)

pub full_at_fault : (source : Source) (q : Quantified) (a : ExtName) (names : List ExtName) (B : syntax.Term) (place : Place) → IsFull source q a names → Err place ≡ bound_over (reverse q.bound.variables.items) (reverse q.bound.domains.items) (Ok B) → IsFault source Mode (Fixity place)
full_at_fault source q a names B place h e =
    let bs : List Binder = map binder_in h.are.0 in (
      full h.are.0 a names,
      h.shape,
      subst (λ (Us : List Outline). FirstFaultIn Us place) (append-nil (types_in bs)) (bound_fault bs q.bound.variables.items q.bound.domains.items (Ok B) [] place (h.are.3 ∙ same_names h.are.0) h.are.4 (λ f. cc) e),
    )

full_binds : (source : Source) (q : Quantified) (a : ExtName) (names : List ExtName) (B C : syntax.Term) (h : IsFull source q a names) → Ok C ≡ bound_over (reverse q.bound.variables.items) (reverse q.bound.domains.items) (Ok B) → Binds (map binder_in h.are.0) B C
full_binds source q a names B C h e =
    let found = bound_binds (map binder_in h.are.0) q.bound.variables.items q.bound.domains.items (Ok B) C (h.are.3 ∙ same_names h.are.0) h.are.4 e in
    let is : ◌≡◌ {A = Result syntax.Term Place} (Ok B) (Ok found.0) = found.1 in
    let same : found.0 ≡ B = cc in
    subst (λ (D : syntax.Term). Binds (map binder_in h.are.0) D C) same found.2

lawful : (qs : List Quantifier) (a : ExtName) (names : List ExtName) (c : Check) → MeansCheck (full qs a names) c → keeps_rules (map variable_in qs) names ≡ true
lawful qs a names c (means_full r b) = r

pub full_breaks_rules : (source : Source) (q : Quantified) (a : ExtName) (names : List ExtName) (B C : syntax.Term) (place : Place) → IsFull source q a names → Ok C ≡ bound_over (reverse q.bound.variables.items) (reverse q.bound.domains.items) (Ok B)
    → keeps_rules q.bound.variables.items names ≡ false → place ≡ first_place source.end (lexemes_from source 0) → IsFault source Mode (BadDecl place)
full_breaks_rules source q a names B C place h e broken at =
    let table = source.fixities.now in
    let qs = h.are.0 in
    let broken_so : keeps_rules (map variable_in qs) names ≡ false = sym (ap (λ (xs : List ExtName). keeps_rules xs names) h.are.3) ∙ broken in (
      at,
      λ D b.
          let same : D ≡ full qs a names = behind_once table Mode (lexemes_from source 1) D (full qs a names) b h.shape in (
            λ c m. let clash : true ≡ false = sym (lawful qs a names c (subst (λ (E : Draft). MeansCheck E c) same m)) ∙ broken_so in cc,
            λ spot f. no_type_fault table source.end spot (map binder_in qs) (quantifiers_read table h.are.1) (full_binds source q a names B C h e) (subst (λ (E : Draft). FirstFaultIn (types_of E) spot) same f),
          ),
      mode_stop source h.are.1 h.stuck,
    )

same_check : (marks others : List ExtMark) (a : ExtName) (count number : ℕ) (A : syntax.Term) (name : List ℕ) → marks ≡ others → count ≡ number → name ≡ a.name → mode_full marks a count (syntax.declare name a.at A) ≡ mode_full others a number (syntax.declare a.name a.at A)
same_check marks others a count number A name e f g =
    ap (λ (ms : List ExtMark). mode_full ms a count (syntax.declare name a.at A)) e ∙ ap (λ (n : ℕ). mode_full others a n (syntax.declare name a.at A)) f ∙ ap (λ (x : List ℕ). mode_full others a number (syntax.declare x a.at A)) g

pub full_reads : (source : Source) (q : Quantified) (a : ExtName) (names : List ExtName) (B C : syntax.Term) (count : ℕ) (name : List ℕ) → IsFull source q a names → B ≡ family_on a names → Ok C ≡ bound_over (reverse q.bound.variables.items) (reverse q.bound.domains.items) (Ok B)
    → keeps_rules q.bound.variables.items names ≡ true → count ≡ length names → name ≡ a.name → IsCheck source Mode (mode_full q.marks.items a count (syntax.declare name a.at C))
full_reads source q a names B C count name h target e keeps counts same =
    let qs = h.are.0 in
    let binds : Binds (map binder_in qs) (family_on a names) C = subst (λ (T : syntax.Term). Binds (map binder_in qs) T C) target (full_binds source q a names B C h e) in
    let kept : keeps_rules (map variable_in qs) names ≡ true = sym (ap (λ (xs : List ExtName). keeps_rules xs names) h.are.3) ∙ keeps in
    (full qs a names, h.shape, subst (MeansCheck (full qs a names)) (sym (same_check q.marks.items (map mark_in qs) a count (length names) C name h.are.2 counts same)) (means_full kept binds))

-- Both forms

no_marks : (qs : List Quantifier) → map mark_in qs ≡ [] → qs ≡ []
no_marks [] e = refl
no_marks (q ∷ qs) e = cc

no_row : {tokens rest : List Lexeme} {table : Table} {qs : List Quantifier} → Row (TakesQuantifier table) tokens qs rest → qs ≡ [] → tokens ≡ rest
no_row no_more e = refl
no_row (one_more t w) e = cc

-- where no quantified variable was read, none stands first
pub no_head_first : (source : Source) (q : Quantified) (at : ℕ) → AreQuantified source 1 q at → q.marks.items ≡ [] → HasNoHead (lexemes_from source at) → HasNoHead (lexemes_from source 1)
no_head_first source q at are e n = subst HasNoHead (sym (no_row are.1 (no_marks are.0 (sym are.2 ∙ e)))) n
