-- Laws of reading back what is printed.
use Rattle.std.specs.Prelude.{◌≡◌, ℕ, ◌+◌, List, [], ◌++◌, length, drop, Option, Some, Bool, true, false}
use Rattle.lf.specs.Entries.{Entry, Body, declare_family, declare_constant, declare_definition, signature_of, IsCanonicalSignature, BodyIsTyped}
use Rattle.lf.specs.Syntax.{Term, LfType}
use Rattle.lf.specs.Typing.{HasType, IsType}
use Rattle.law_explicit_form.specs.Explicit.{IsExplicit}
use Rattle.law_explicit_form.specs.Completion.{TermGives, TypeGives, KindGives, Completes}
use Rattle.law_explicit_form.specs.Form.{is_type_form, is_term_form, written_shape}
use Rattle.tw_names.specs.Unknown.{unknown_in}
use Rattle.tw_lexer.specs.Tokens.{ThroughDot}
use Rattle.tw_lexer.specs.declared.place.Place.{Place}
use Rattle.tw_lexer.specs.declared.token.Token.{Token}
use Rattle.tw_parse.specs.Outlines.{Table}
use Rattle.tw_parse.specs.Readings.{Declares}
use Rattle.tw_parse.specs.Syntax as syntax
use Rattle.tw_parse.specs.Words.{Lexeme, lexemes}
use Rattle.tw_print.specs.Names.{Scene}
use Rattle.tw_print.specs.Pieces.{render}
use Rattle.tw_print.specs.Shown as shown
use Rattle.tw_print.specs.Shown.{classifier, nesting_limit, keyword, declaration_line}
use Rattle.law_reading_back.specs.Layout.{pieces, line, definition_line}
use Rattle.law_reading_back.specs.Legible.{IsWhole, IsLegible}
use Rattle.law_reading_back.specs.Names.{IsName, IsByte, IsDeclaredBy, HasGoodPreferences, AreGoodHints, HasRoom, HasGoodNames, HasGoodRows, AgreeOn, EachIs, IsPlainByte, HasNoImplicit}
use Rattle.law_reading_back.specs.Sketches.{Sketch, classifier_sketch, defined_sketch}
use Rattle.law_reading_back.specs.Spelling.{Spells, IsUnhidden}
use Rattle.law_reading_back.specs.Tokens.{AreTokens}

-- what is printed of a kind or type, and of the term of a definition, is the layout of its sketch
abbrev pub LayoutIsShown : Type 0
LayoutIsShown = ((s : Scene) (implicit : ℕ) (hints : List (Option (List ℕ))) (b : Body) → classifier s implicit hints b ≡ pieces (classifier_sketch s implicit hints b))
    × ((s : Scene) (M : Term) (A : LfType) → (shown.parts s nesting_limit).term [] [] M (Some A) ≡ pieces (defined_sketch s M A))

-- what is written gives the kind or type of this body
abbrev pub GivesClassifier : List Entry → syntax.Term → Body → Type 0
GivesClassifier es U (declare_family K) = KindGives es [] [] U K
GivesClassifier es U (declare_constant A) = TypeGives es [] [] U A
GivesClassifier es U (declare_definition M A b) = TypeGives es [] [] U A

-- A scene over the signature es, which may have newer entries.
pub record IsOver (s : Scene) (es : List Entry) : Type 0 where
  pub newer : List Entry
  pub entries : s.entries ≡ newer ++ es
  pub canonical : IsCanonicalSignature es
  pub preferences : HasGoodPreferences s
  pub room : HasRoom s

-- The kind or type of an entry, as it is sketched, completes to itself over the signature before the entry, where each constant that is shown is the newest of its name and has no implicit arguments.
abbrev pub ClassifierIsKept : Type 0
ClassifierIsKept = (s : Scene) (es : List Entry) (e : Entry) (U : syntax.Term) → IsOver s es → BodyIsTyped (signature_of es) e.body → AreGoodHints e.hints
    → IsUnhidden s (classifier_sketch s e.implicit e.hints e.body) → Spells (classifier_sketch s e.implicit e.hints e.body) U → GivesClassifier es U e.body

-- and so does the term of a definition
abbrev pub DefinedIsKept : Type 0
DefinedIsKept = (s : Scene) (es : List Entry) (M : Term) (A : LfType) (P : syntax.Term) → IsOver s es → IsType (signature_of es) [] A → HasType (signature_of es) [] M A
    → IsUnhidden s (defined_sketch s M A) → Spells (defined_sketch s M A) P → TermGives es [] [] P A M

-- the tokens of a line, wherever it stands in a text, are those of its pieces
abbrev pub LineIsLexed : Type 0
LineIsLexed = (table : Table) (t : Sketch) (name text after : List ℕ) (from : ℕ) → IsName name → IsLegible table t → drop from text ≡ render (line name t) ++ after
    → (tokens : List Token) × ThroughDot text from tokens (from + length (render (line name t))) × AreTokens (line name t) (lexemes text tokens)

-- they are read as a declaration of what the sketch is written as, each sequence in one way
abbrev pub LineIsRead : Type 0
LineIsRead = (table : Table) (t : Sketch) (name : List ℕ) (words : List Lexeme) → IsName name → IsLegible table t → AreTokens (line name t) words
    → (at : Place) × (U : syntax.Term) × Declares table words (syntax.declare name at U) × Spells t U

-- the same of the line of a definition
abbrev pub DefinitionIsLexed : Type 0
DefinitionIsLexed = (table : Table) (b : Bool) (t u : Sketch) (name : Option (List ℕ)) (word text after : List ℕ) (from : ℕ) → IsDeclaredBy word b name → IsLegible table t → IsLegible table u
    → drop from text ≡ render (definition_line b word t u) ++ after → (tokens : List Token) × ThroughDot text from tokens (from + length (render (definition_line b word t u))) × AreTokens (definition_line b word t u) (lexemes text tokens)

abbrev pub DefinitionIsRead : Type 0
DefinitionIsRead = (table : Table) (b : Bool) (t u : Sketch) (name : Option (List ℕ)) (word : List ℕ) (words : List Lexeme) → IsDeclaredBy word b name → IsLegible table t → IsLegible table u
    → AreTokens (definition_line b word t u) words → (U : syntax.Term) × (P : syntax.Term) × Declares table words (syntax.define name (Some U) P b) × Spells t U × Spells u P

-- What is printed with implicit arguments hidden, over a scene whose names are names and whose rows fit, and read with this table.
pub record IsInOrder (s : Scene) (es : List Entry) (table : Table) : Type 0 where
  pub over : IsOver s es
  pub hides : s.implicit ≡ false
  pub names : HasGoodNames s
  pub rows : HasGoodRows s
  pub agrees : AgreeOn s es table

-- the sketch of a typed body is legible, where nothing in it nests too deep to be shown
abbrev pub ClassifierIsLegible : Type 0
ClassifierIsLegible = (s : Scene) (es : List Entry) (table : Table) (e : Entry) → IsInOrder s es table → BodyIsTyped (signature_of es) e.body → AreGoodHints e.hints
    → IsUnhidden s (classifier_sketch s e.implicit e.hints e.body) → IsWhole (classifier_sketch s e.implicit e.hints e.body) → IsLegible table (classifier_sketch s e.implicit e.hints e.body)

-- and so is that of a typed term
abbrev pub DefinedIsLegible : Type 0
DefinedIsLegible = (s : Scene) (es : List Entry) (table : Table) (M : Term) (A : LfType) → IsInOrder s es table → IsType (signature_of es) [] A → HasType (signature_of es) [] M A
    → IsUnhidden s (defined_sketch s M A) → IsWhole (defined_sketch s M A) → IsLegible table (defined_sketch s M A)

-- no definition
abbrev pub IsDeclared : Body → Type 0
IsDeclared (declare_family K) = Unit {0}
IsDeclared (declare_constant A) = Unit {0}
IsDeclared (declare_definition M A b) = ⊥

-- a declared family or constant with good names that is typed over the signature
pub record IsTypedEntry (es : List Entry) (e : Entry) : Type 0 where
  pub declared : IsDeclared e.body
  pub typed : BodyIsTyped (signature_of es) e.body
  pub name : IsName e.name
  pub hints : AreGoodHints e.hints

-- In the type or kind each constant that is shown is the newest of its name and has no implicit arguments; and the line is made of bytes, as each printed text is.
pub record IsOpenEntry (s : Scene) (e : Entry) : Type 0 where
  pub unhidden : IsUnhidden s (classifier_sketch s e.implicit e.hints e.body)
  pub bytes : EachIs IsByte (declaration_line s e)

-- The text from one byte up to another is read as a declaration, and as no other, that is of the explicit form and completes, over the signature, to an entry of this name and body.
pub record ReadsAs (es : List Entry) (table : Table) (text : List ℕ) (from upto : ℕ) (name : List ℕ) (body : Body) : Type 0 where
  pub tokens : List Token
  pub through : ThroughDot text from tokens upto
  pub at : Place
  pub written : syntax.Term
  pub reads : Declares table (lexemes text tokens) (syntax.declare name at written)
  pub only : (other : syntax.Declaration) → Declares table (lexemes text tokens) other → other ≡ syntax.declare name at written
  pub explicit : IsExplicit es (syntax.declare name at written)
  pub entry : Entry
  pub completes : Completes es (syntax.declare name at written) entry
  pub same : entry.body ≡ body

-- the printed line of such an entry, wherever it stands in a text, is read back to the same body over the signature before the entry
abbrev pub OpenTextReadsBack : Type 0
OpenTextReadsBack = (s : Scene) (es : List Entry) (table : Table) (e : Entry) (text after : List ℕ) (from : ℕ) → IsInOrder s es table → IsTypedEntry es e → IsOpenEntry s e
    → drop from text ≡ declaration_line s e ++ after → ReadsAs es table text from (from + length (declaration_line s e)) e.name e.body

-- THE theorem: where no entry has implicit arguments, a printed line of bytes without a percent sign, so that no name in it is shadowed, is read back to the same body.
abbrev pub TextReadsBack : Type 0
TextReadsBack = (s : Scene) (es : List Entry) (table : Table) (e : Entry) (text after : List ℕ) (from : ℕ) → IsInOrder s es table → IsTypedEntry es e → HasNoImplicit s
    → EachIs IsPlainByte (declaration_line s e) → drop from text ≡ declaration_line s e ++ after → ReadsAs es table text from (from + length (declaration_line s e)) e.name e.body

-- a definition with good names, or an abbreviation, that is typed over the signature; without a name it has `_`
pub record IsTypedDefinition (es : List Entry) (e : Entry) (name : Option (List ℕ)) (M : Term) (A : LfType) (b : Bool) : Type 0 where
  pub defines : e.body ≡ declare_definition M A b
  pub typed : BodyIsTyped (signature_of es) e.body
  pub word : IsDeclaredBy e.name b name
  pub hints : AreGoodHints e.hints

-- The same of a definition, in its type and in its term.
pub record IsOpenDefinition (s : Scene) (e : Entry) (M : Term) (A : LfType) : Type 0 where
  pub classifier : IsOpenEntry s e
  pub unhidden : IsUnhidden s (defined_sketch s M A)

-- The text from one byte up to another is read as a definition of this name, if any, or as an abbreviation, and as no other declaration. Each name in it is known, its type and its term are
-- of the explicit form, and they give, over the signature, this type and this term.
pub record ReadsAsDefinition (es : List Entry) (table : Table) (text : List ℕ) (from upto : ℕ) (name : Option (List ℕ)) (M : Term) (A : LfType) (b : Bool) : Type 0 where
  pub tokens : List Token
  pub through : ThroughDot text from tokens upto
  pub type_written : syntax.Term
  pub term_written : syntax.Term
  pub reads : Declares table (lexemes text tokens) (syntax.define name (Some type_written) term_written b)
  pub only : (other : syntax.Declaration) → Declares table (lexemes text tokens) other → other ≡ syntax.define name (Some type_written) term_written b
  pub known : unknown_in es (syntax.define name (Some type_written) term_written b) ≡ []
  pub type_form : is_type_form es [] [] type_written ≡ true
  pub term_form : is_term_form es [] [] term_written (written_shape type_written) ≡ true
  pub type_gives : TypeGives es [] [] type_written A
  pub term_gives : TermGives es [] [] term_written A M

-- the printed line of such a definition, wherever it stands in a text, is read back to the same type and term over the signature before the entry
abbrev pub OpenDefinitionReadsBack : Type 0
OpenDefinitionReadsBack = (s : Scene) (es : List Entry) (table : Table) (e : Entry) (name : Option (List ℕ)) (M : Term) (A : LfType) (b : Bool) (text after : List ℕ) (from : ℕ) → IsInOrder s es table → IsTypedDefinition es e name M A b → IsOpenDefinition s e M A
    → drop from text ≡ declaration_line s e ++ after → ReadsAsDefinition es table text from (from + length (declaration_line s e)) name M A b

-- the line behind the keyword, which an abbreviation has
abbrev pub bare_line : Scene → Entry → List ℕ
bare_line s e = drop (length (render (keyword e.body))) (declaration_line s e)

-- and where no entry has implicit arguments, that of each definition whose line has no percent sign but the keyword's
abbrev pub DefinitionReadsBack : Type 0
DefinitionReadsBack = (s : Scene) (es : List Entry) (table : Table) (e : Entry) (name : Option (List ℕ)) (M : Term) (A : LfType) (b : Bool) (text after : List ℕ) (from : ℕ) → IsInOrder s es table → IsTypedDefinition es e name M A b → HasNoImplicit s
    → EachIs IsPlainByte (bare_line s e) → drop from text ≡ declaration_line s e ++ after → ReadsAsDefinition es table text from (from + length (declaration_line s e)) name M A b
