-- A session whose printed lines read back.
use Rattle.std.specs.Prelude.{◌≡◌, ℕ, ◌+◌, ◌<◌, List, [], ◌∷◌, ◌++◌, length, drop, true, false, None, Some}
use Rattle.std.specs.FinMap.{get}
use Rattle.lf.specs.Entries.{Body, Entry, declare_constant, declare_definition, declare_family, entry, IsCanonicalSignature}
use Rattle.tw_lexer.specs.Tokens.{ThroughDot, IsFew}
use Rattle.tw_lexer.specs.declared.token.Token.{Token}
use Rattle.tw_parse.specs.Nesting.{first_too_deep}
use Rattle.tw_parse.specs.Outlines.{Table}
use Rattle.tw_parse.specs.Words.{lexemes}
use Rattle.tw_print.specs.Names.{Scene}
use Rattle.tw_print.specs.Shown.{declaration_line}
use Rattle.law_reading_back.specs.Laws.{IsOpenDefinition, IsOpenEntry, ReadsAs, ReadsAsDefinition, bare_line}
use Rattle.law_reading_back.specs.Names.{EachIs, IsPlainByte, HasRoom, HasGoodNames, AreGoodHints, HasGoodPreferences, HasGoodRows, HasNoImplicit}
use Rattle.tw_decl.specs.View.{View, scene_of, with_entry}
use Rattle.tw_decl.specs.Declaration.{Accepts, HasCause}
use Rattle.tw_decl.specs.Reports.{Reported}
use Rattle.tw_decl.specs.declared.refusal.Refusal.{Refusal}
use Rattle.tw_decl.specs.declared.refusal.Refusal.TheVariants as refusals
use Rattle.tw_server.specs.Loading.{Opens}

-- The signature is canonical; the names of entries, their hints and the preferred names are identifiers without a fixed meaning; the newest entry
-- of an operator takes as many arguments as it has operands.
pub record IsViewInOrder (v : View) : Type 0 where
  pub canonical : IsCanonicalSignature v.signature
  pub names : HasGoodNames (scene_of v)
  pub hints : (c : ℕ) (e : Entry) → entry v.signature c ≡ Some e → AreGoodHints e.hints
  pub preferences : HasGoodPreferences (scene_of v)
  pub rows : HasGoodRows (scene_of v)

-- The text from one byte up to another is read with the table as one declaration of this name, which gives this body over the signature.
abbrev pub ReadsBody : List Entry → Table → List ℕ → ℕ → ℕ → List ℕ → Body → Type 0
ReadsBody es table text from upto name (declare_family K) = ReadsAs es table text from upto name (declare_family K)
ReadsBody es table text from upto name (declare_constant A) = ReadsAs es table text from upto name (declare_constant A)
ReadsBody es table text from upto name (declare_definition M A b) = ReadsAsDefinition es table text from upto (Some name) M A b

-- The line of an entry reads back so, wherever it stands in a text.
abbrev pub LineReadsBack : Scene → List Entry → Table → Entry → Type 0
LineReadsBack s es table e = (text after : List ℕ) (from : ℕ) → drop from text ≡ declaration_line s e ++ after → ReadsBody es table text from (from + length (declaration_line s e)) e.name e.body

-- The same of a definition without a name, as `_ : nat = s z.`
abbrev pub ReadsCheck : List Entry → Table → List ℕ → ℕ → ℕ → Body → Type 0
ReadsCheck es table text from upto (declare_family K) = ⊥
ReadsCheck es table text from upto (declare_constant A) = ⊥
ReadsCheck es table text from upto (declare_definition M A b) = ReadsAsDefinition es table text from upto None M A b

abbrev pub CheckReadsBack : Scene → List Entry → Table → Entry → Type 0
CheckReadsBack s es table e = (text after : List ℕ) (from : ℕ) → drop from text ≡ declaration_line s e ++ after → ReadsCheck es table text from (from + length (declaration_line s e)) e.body

-- In the line each constant that is shown is the newest of its name and has no implicit arguments, and the line is made of bytes.
abbrev pub IsOpen : Scene → Entry → Body → Type 0
IsOpen s e (declare_family K) = IsOpenEntry s e
IsOpen s e (declare_constant A) = IsOpenEntry s e
IsOpen s e (declare_definition M A b) = IsOpenDefinition s e M A

abbrev pub HasOpenLine : Scene → Entry → Type 0
HasOpenLine s e = IsOpen s e e.body

-- no percent sign is in the line, but that of the keyword of an abbreviation
abbrev pub HasPlainLine : Scene → Entry → Type 0
HasPlainLine s e = EachIs IsPlainByte (bare_line s e)

-- The line of each entry of the session, if no percent sign is in it but that of its keyword, reads back over the entries before it.
abbrev pub EachReadsBack : View → Type 0
EachReadsBack v = (newer older : List Entry) (e : Entry) → v.signature ≡ newer ++ e ∷ older → HasPlainLine (scene_of v) e → LineReadsBack (scene_of v) older v.fixities e

-- This holds where implicit arguments aren't shown and no entry has any: a line that leaves arguments out is reconstructed, and for that no such law is
-- claimed. No memory holds too many entries.
abbrev pub ReadsItselfBack : View → Type 0
ReadsItselfBack v = v.parameters.implicit ≡ false → HasRoom (scene_of v) → HasNoImplicit (scene_of v) → EachReadsBack v

-- A text within the limits of a declaration: it has so few bytes that it can't have too many tokens, and no bracket is nested too deep.
pub record IsWithinLimits (text : List ℕ) : Type 0 where
  pub few : length text < 65536
  pub shallow : (tokens : List Token) (upto : ℕ) → ThroughDot text 0 tokens upto → first_too_deep [] 0 (lexemes text tokens) ≡ None

-- a refusal as too deep, or for want of memory
abbrev pub IsDeepOrMemory : Refusal → Type 0
IsDeepOrMemory refusals.Memory = Unit {0}
IsDeepOrMemory (refusals.TooDeep place) = Unit {0}
IsDeepOrMemory refusal = ⊥

-- By the rule of acceptance the text alone is accepted, and declares an entry of the same name and body; and there is no cause to refuse it, but as too deep or for want of memory.
pub record AcceptsAgain (v : View) (text : List ℕ) (e : Entry) : Type 0 where
  pub report : Reported
  pub entry : Entry
  pub accepts : Accepts v text report (with_entry v entry)
  pub refused : (refusal : Refusal) → HasCause v text refusal → IsDeepOrMemory refusal
  pub name : entry.name ≡ e.name
  pub body : entry.body ≡ e.body

-- what an entry has in common with the one that its line declares again: the name, the body and the number of implicit quantifiers
pub record IsAlike (e f : Entry) : Type 0 where
  pub name : f.name ≡ e.name
  pub body : f.body ≡ e.body
  pub implicit : f.implicit ≡ e.implicit

-- the same entries in the same order, but for the names by which their quantifiers are shown
abbrev pub AreAlike : List Entry → List Entry → Type 0
AreAlike [] [] = Unit {0}
AreAlike [] (f ∷ fs) = ⊥
AreAlike (e ∷ es) [] = ⊥
AreAlike (e ∷ es) (f ∷ fs) = IsAlike e f × AreAlike es fs

-- no name has the row of an operator
abbrev pub HasNoRows : View → Type 0
HasNoRows v = (x : List ℕ) → get v.fixities x ≡ None

-- no line of the session has a percent sign, but that of its keyword
abbrev pub HasPlainLines : View → Type 0
HasPlainLines v = (c : ℕ) (e : Entry) → entry v.signature c ≡ Some e → HasPlainLine (scene_of v) e

-- A text of several declarations within the limits: none has too many tokens, and no bracket is nested too deep, wherever it begins.
abbrev pub IsFileWithinLimits : List ℕ → Type 0
IsFileWithinLimits text = (tokens : List Token) (from upto : ℕ) → ThroughDot text from tokens upto → IsFew tokens × (first_too_deep [] 0 (lexemes text tokens) ≡ None)

-- By the rule of loading, a file with this text goes well over the session from its first byte to its end, whatever its name is, and declares these entries in this order.
pub record IsDeclaredAgain (u : View) (text : List ℕ) (es : List Entry) : Type 0 where
  pub after : View
  pub loads : (name : List ℕ) → (lines : List ℕ) × Opens u name text lines true after
  pub alike : AreAlike es after.signature
