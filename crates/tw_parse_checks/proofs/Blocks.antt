-- What blocks come to.
use Rattle.std.proofs.Common.{◌≡◌, ℕ, ◌+◌, List, [], ◌∷◌, ◌++◌, length, reverse, false, Ok, Err, codes, append-nil, refl, sym, ap, subst, ◌∙◌}
use Rattle.std.proofs.lemmas.List.{length-map}
use Rattle.std.specs.declared.result.Result.{Result}
use Rattle.tw_lexer.specs.declared.place.Place.{Place}
use Rattle.tw_parse.specs.Outlines.{Outline}
use Rattle.tw_parse.specs.Readings.{FirstFaultIn}
use Rattle.tw_parse.specs.Sources.{lexemes_from}
use Rattle.tw_parse.specs.Syntax as syntax
use Rattle.tw_parse.specs.Words.{Lexeme, lexemes, first_place}
use Rattle.tw_parse.specs.declared.decl.ExtName.{ExtName}
use Rattle.tw_parse.specs.declared.fault.SyntaxFault.{SyntaxFault}
use Rattle.tw_parse.specs.declared.fault.SyntaxFault.TheVariants.{Unsupported, Nesting, Syntax, Fixity, BadDecl, NoMemory}
use Rattle.tw_parse.specs.declared.source.Source.{Source}
use Rattle.tw_parse.specs.declared.words.Word.TheVariants.{Name}
use Rattle.tw_parse.proofs.Building.{Token}
use Rattle.tw_parse_checks.specs.Checks.{block}
use Rattle.tw_parse_checks.specs.Faults.{types_in, StopsInBinder, StopsInBlock, in_some, in_entries, StopsBehind, in_block, IsCheck, IsFault, NoStop}
use Rattle.tw_parse_checks.specs.Meanings.{Binds, MeansCheck, means_block}
use Rattle.tw_parse_checks.specs.Parts.{HasNoLabel, SaysFirst, IsSomePart, SomeFault, AreBound, AreBinders, HasNoBinder, BinderFault, name_in, bound_over}
use Rattle.tw_parse_checks.specs.Shapes.{Row, Binder, TakesBinder, TakesLabel, TakesSome, Says, Closing, Draft, blocked, Behind, is_block}
use Rattle.tw_parse_checks.specs.declared.bound.Bound.{Bound}
use Rattle.tw_parse_checks.specs.declared.check.CheckForm.TheVariants.{Block}
use Rattle.tw_parse_checks.proofs.CallTokens.{says_first}
use Rattle.tw_parse_checks.proofs.Faults.{no_binder_stop}
use Rattle.tw_parse_checks.proofs.Forms.{misfit}
use Rattle.tw_parse_checks.proofs.Openings.{binders_once, closing_binder, label_once}
use Rattle.tw_parse_checks.proofs.Rows.{row_once}
use Rattle.tw_parse_checks.proofs.Tokens.{token}
use Rattle.tw_parse_checks.proofs.Variables.{bound_binds, bound_fault, binds_append, types_append}

-- The label is missing

has_label : (source : Source) (D : Draft) → Behind source.fixities.now Block (lexemes_from source 1) D → HasNoLabel (lexemes_from source 1) → ⊥
has_label source D (is_block {next = next} {l = l} k s b t c) none = none l next k

stop_has_label : (source : Source) → HasNoLabel (lexemes_from source 1) → NoStop source Block
stop_has_label source none place (in_block {next = next} {l = l} k s) = none l next k

pub block_without_label : (source : Source) (place : Place) → HasNoLabel (lexemes_from source 1) → place ≡ first_place source.end (lexemes_from source 0) → IsFault source Block (BadDecl place)
block_without_label source place none is = misfit source Block place is (λ D b. has_label source D b none) (stop_has_label source none)

-- What stands behind the label

abbrev pub Labelled : Source → ExtName → Type 0
Labelled source l = TakesLabel (lexemes_from source 1) l (lexemes_from source 3)

pub block_some_fault : (source : Source) (l : ExtName) (f : SyntaxFault) → Labelled source l → SomeFault source 3 f → IsFault source Block f
block_some_fault source l (Syntax place) k s = in_block k (subst (StopsInBlock source.fixities.now source.end place) (sym s.2) (in_some s.3 s.4))
block_some_fault source l NoMemory k s = tt
block_some_fault source l (Fixity place) k s = absurd s
block_some_fault source l (BadDecl place) k s = absurd s
block_some_fault source l (Nesting place) k s = absurd s
block_some_fault source l (Unsupported name place) k s = absurd s

-- the block with what was read before `block`
record Entries (source : Source) (at : ℕ) : Type 0 where
  word : Lexeme
  behind : List Lexeme
  rest : List Lexeme
  binders : List Binder
  stands : lexemes_from source at ≡ word ∷ behind
  says : Says (codes "block") word
  row : Row (TakesBinder source.fixities.now) behind binders rest
  closes : Closing false rest

entries : (source : Source) (l : ExtName) (some : Bound) (at : ℕ) (D : Draft) → Labelled source l → IsSomePart source 3 some at → Behind source.fixities.now Block (lexemes_from source 1) D → Entries source at
entries source l some at D label part (is_block {word = w} {next = next} {behind = us} {rest = rest} {ss = ss} {bs = bs} k s b t c) =
    let here = subst (λ (ts : List Lexeme). TakesSome source.fixities.now ts ss (w ∷ us)) (label_once k label).1 s in
    record { word = w; behind = us; rest = rest; binders = bs; stands = part.only ss w us here b; says = b; row = t; closes = c }

-- where a type stops, one of the entries' does
stopped_entries : (source : Source) (l : ExtName) (some : Bound) (at : ℕ) (place : Place) → Labelled source l → IsSomePart source 3 some at → StopsBehind source.fixities.now source.end place Block (lexemes_from source 1)
    → (w : Lexeme) × (behind : List Lexeme) × (lexemes_from source at ≡ w ∷ behind) × Says (codes "block") w × StopsInBinder source.fixities.now source.end place behind
stopped_entries source l some at place label part (in_block {next = next} k s) = by_stop s (label_once k label).1
  where
    by_stop : {tokens : List Lexeme} → StopsInBlock source.fixities.now source.end place tokens → tokens ≡ lexemes_from source 3
        → (w : Lexeme) × (behind : List Lexeme) × (lexemes_from source at ≡ w ∷ behind) × Says (codes "block") w × StopsInBinder source.fixities.now source.end place behind
    by_stop (in_some {word = w} {tokens = ts} q r) e = absurd (part.no_stop place (w, ts, sym e, q, r))
    by_stop (in_entries {word = w} {behind = us} {ss = ss} t b r) e = (w, us, part.only ss w us (subst (λ (xs : List Lexeme). TakesSome source.fixities.now xs ss (w ∷ us)) e t) b, b, r)

pub block_without_word : (source : Source) (l : ExtName) (some : Bound) (at : ℕ) (place : Place) → Labelled source l → IsSomePart source 3 some at → (SaysFirst (codes "block") (lexemes_from source at) → ⊥) → place ≡ first_place source.end (lexemes_from source 0) → IsFault source Block (BadDecl place)
block_without_word source l some at place label part isnt is =
    misfit source Block place is (λ D b. let e = entries source l some at D label part b in isnt (subst (SaysFirst (codes "block")) (sym e.stands) e.says))
    (λ spot s. let e = stopped_entries source l some at spot label part s in isnt (subst (SaysFirst (codes "block")) (sym e.2) e.3))

-- the word `block` here, and the tokens behind it
the_word : (source : Source) (at : ℕ) → SaysFirst (codes "block") (lexemes_from source at) → (w : Lexeme) × (lexemes_from source at ≡ w ∷ lexemes_from source (at + 1)) × Says (codes "block") w
the_word source at says =
    let w : Token (lexemes source.text.now source.tokens.now) at (at + 1) Name = token (lexemes source.text.now source.tokens.now) at (at + 1) Name refl says.0 (λ e. cc) in
    (w.0, w.1, says_first (codes "block") w.1 says)

pub block_entry_fault : (source : Source) (l : ExtName) (some : Bound) (at : ℕ) (f : SyntaxFault) → Labelled source l → IsSomePart source 3 some at → SaysFirst (codes "block") (lexemes_from source at) → BinderFault source (at + 1) f → IsFault source Block f
block_entry_fault source l some at (Syntax place) label part says s =
    let w = the_word source at says in
    in_block label (in_entries (subst (λ (ts : List Lexeme). TakesSome source.fixities.now (lexemes_from source 3) part.binders ts) w.1 part.takes) w.2 s)
block_entry_fault source l some at NoMemory label part says s = tt
block_entry_fault source l some at (Fixity place) label part says s = absurd s
block_entry_fault source l some at (BadDecl place) label part says s = absurd s
block_entry_fault source l some at (Nesting place) label part says s = absurd s
block_entry_fault source l some at (Unsupported name place) label part says s = absurd s

behind_word : (source : Source) (at : ℕ) (w : Lexeme) (behind : List Lexeme) → SaysFirst (codes "block") (lexemes_from source at) → lexemes_from source at ≡ w ∷ behind → behind ≡ lexemes_from source (at + 1)
behind_word source at w behind says e =
    let v = the_word source at says in
    let both : v.0 ∷ lexemes_from source (at + 1) ≡ w ∷ behind = sym v.1 ∙ e in
    let tails : behind ≡ lexemes_from source (at + 1) = cc in
    tails

pub block_without_end : (source : Source) (l : ExtName) (some bound : Bound) (at end : ℕ) (place : Place) → Labelled source l → IsSomePart source 3 some at → SaysFirst (codes "block") (lexemes_from source at) → AreBinders source (at + 1) bound end
    → HasNoBinder source.fixities.now (lexemes_from source end) → (Closing false (lexemes_from source end) → ⊥) → place ≡ first_place source.end (lexemes_from source 0) → IsFault source Block (BadDecl place)
block_without_end source l some bound at end place label part says are stuck none is =
    let table = source.fixities.now in
    misfit source Block place is
    (λ D b.
    let e = entries source l some at D label part b in
    let row : Row (TakesBinder table) (lexemes_from source (at + 1)) e.binders e.rest = subst (λ (ts : List Lexeme). Row (TakesBinder table) ts e.binders e.rest) (behind_word source at e.word e.behind says e.stands) e.row in
    none (subst (Closing false) (row_once (TakesBinder table) (binders_once table) row are.1 (closing_binder table e.rest e.closes).0 stuck.0).1 e.closes))
    (λ spot s.
    let e = stopped_entries source l some at spot label part s in
    no_binder_stop table source.end spot are.1 stuck (subst (StopsInBinder table source.end spot) (behind_word source at e.0 e.1 says e.2) e.4))

-- the tokens are a block
pub record IsBlock (source : Source) (l : ExtName) (some bound : Bound) : Type 0 where
  pub ss : List Binder
  pub bs : List Binder
  pub are : AreBound ss some
  pub behind : AreBound bs bound
  pub shape : Behind source.fixities.now Block (lexemes_from source 1) (blocked l ss bs)

pub is_block_here : (source : Source) (l : ExtName) (some bound : Bound) (at end : ℕ) → Labelled source l → IsSomePart source 3 some at → SaysFirst (codes "block") (lexemes_from source at) → AreBinders source (at + 1) bound end → Closing false (lexemes_from source end) → IsBlock source l some bound
is_block_here source l some bound at end label part says are c =
    let w = the_word source at says in
    record {
      ss = part.binders;
      bs = are.0;
      are = part.are;
      behind = are.2;
      shape = is_block label (subst (λ (ts : List Lexeme). TakesSome source.fixities.now (lexemes_from source 3) part.binders ts) w.1 part.takes) w.2 are.1 c;
    }

pub block_at_fault : (source : Source) (l : ExtName) (some bound : Bound) (r : Result syntax.Term Place) (place : Place) → IsBlock source l some bound → r ≡ bound_over (reverse bound.variables.items) (reverse bound.domains.items) (Ok syntax.star)
    → Err place ≡ bound_over (reverse some.variables.items) (reverse some.domains.items) r → IsFault source Block (Fixity place)
block_at_fault source l some bound r place h inner e =
    let behind : r ≡ Err place → FirstFaultIn (types_in h.bs) place =
    λ is. subst (λ (Us : List Outline). FirstFaultIn Us place) (append-nil (types_in h.bs)) (bound_fault h.bs bound.variables.items bound.domains.items (Ok syntax.star) [] place h.behind.0 h.behind.1 (λ f. cc) (sym is ∙ inner)) in (
      blocked l h.ss h.bs,
      h.shape,
      subst (λ (Us : List Outline). FirstFaultIn Us place) (types_append h.ss h.bs) (bound_fault h.ss some.variables.items some.domains.items r (types_in h.bs) place h.are.0 h.are.1 behind e),
    )

pub block_reads : (source : Source) (l : ExtName) (some bound : Bound) (r : Result syntax.Term Place) (C : syntax.Term) (count : ℕ) (name : List ℕ) → IsBlock source l some bound → r ≡ bound_over (reverse bound.variables.items) (reverse bound.domains.items) (Ok syntax.star)
    → Ok C ≡ bound_over (reverse some.variables.items) (reverse some.domains.items) r → count ≡ length some.variables.items → name ≡ l.name → IsCheck source Block (block l count (syntax.declare name l.at C))
block_reads source l some bound r C count name h inner e counts same =
    let outer = bound_binds h.ss some.variables.items some.domains.items r C h.are.0 h.are.1 e in
    let behind = bound_binds h.bs bound.variables.items bound.domains.items (Ok syntax.star) outer.0 h.behind.0 h.behind.1 (sym outer.1 ∙ inner) in
    let is : ◌≡◌ {A = Result syntax.Term Place} (Ok syntax.star) (Ok behind.0) = behind.1 in
    let ends : behind.0 ≡ syntax.star = cc in
    let binds : Binds (h.ss ++ h.bs) syntax.star C = binds_append (subst (λ (B : syntax.Term). Binds h.bs B outer.0) ends behind.2) outer.2 in
    let number : count ≡ length h.ss = counts ∙ ap length h.are.0 ∙ length-map h.ss name_in in
    (blocked l h.ss h.bs, h.shape, subst (MeansCheck (blocked l h.ss h.bs)) (sym (ap (λ (n : ℕ). block l n (syntax.declare name l.at C)) number ∙ ap (λ (x : List ℕ). block l (length h.ss) (syntax.declare x l.at C)) same)) (means_block binds))
