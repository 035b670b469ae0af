-- Names that read as identifiers.
use Rattle.std.specs.Prelude.{◌≡◌, ◌≢◌, ◌<◌, ◌≤◌, ◌+◌, ◌-◌, ◌^◌, ℕ, zero, List, [], ◌∷◌, length, codes, Bool, false, Option, Some, None, encode_utf8_all}
use Rattle.std.specs.Char.{IsScalar}
use Rattle.std.specs.FinMap as map
use Rattle.std.specs.List.{slice_get}
use Rattle.lf.specs.Entries.{Entry, entry, body_quantifiers}
use Rattle.tw_fixity.specs.declared.table.Fix.{Fix}
use Rattle.tw_lexer.specs.Classes.{class_of}
use Rattle.tw_lexer.specs.declared.class.Class.TheVariants.{Plain}
use Rattle.tw_parse.specs.Outlines.{Table}
use Rattle.tw_parse.specs.Words.{fixed_word}
use Rattle.tw_parse.specs.declared.words.Word.TheVariants.{Name}
use Rattle.tw_print.specs.Names.{Scene, Preferences}
use Rattle.tw_print.specs.Shown.{operand_count, nesting_limit}
use Rattle.tw_signature.specs.Names.{number_of}

-- a character of identifiers
pub record IsPlainCharacter (c : ℕ) : Type 0 where
  pub scalar : IsScalar c
  pub plain : class_of c ≡ Plain

-- each of them is such
abbrev pub EachIs : (ℕ → Type 0) → List ℕ → Type 0
EachIs P [] = Unit {0}
EachIs P (c ∷ cs) = P c × EachIs P cs

-- An identifier without a fixed meaning: the UTF-8 of plain characters.
pub record IsName (x : List ℕ) : Type 0 where
  pub first : ℕ
  pub others : List ℕ
  pub spelled : x ≡ encode_utf8_all (first ∷ others)
  pub plain : EachIs IsPlainCharacter (first ∷ others)
  pub free : fixed_word x ≡ Name

-- the preferred names, of variables of any family, are names
pub record PreferNames (row : Preferences) : Type 0 where
  pub upper : IsName row.0
  pub lower : (x : List ℕ) → row.1 ≡ Some x → IsName x

abbrev pub HasGoodPreferences : Scene → Type 0
HasGoodPreferences s = (a : ℕ) (row : Preferences) → map.get s.names a ≡ Some row → PreferNames row

-- and so are the hints
abbrev pub AreGoodHints : List (Option (List ℕ)) → Type 0
AreGoodHints hints = (k : ℕ) (x : List ℕ) → slice_get hints k ≡ Some (Some x) → IsName x

-- There is room for one name more in each scope. No memory holds so many names.
abbrev pub HasRoom : Scene → Type 0
HasRoom s = length s.entries + map.len s.rows + nesting_limit < 2 ^ 64

-- each entry's name is a name
abbrev pub HasGoodNames : Scene → Type 0
HasGoodNames s = (c : ℕ) (e : Entry) → entry s.entries c ≡ Some e → IsName e.name

-- Each row is that of an operator whose newest entry takes as many arguments as it has operands, none of them hidden.
abbrev pub HasGoodRows : Scene → Type 0
HasGoodRows s = (x : List ℕ) (fix : Fix) (c : ℕ) (e : Entry) → map.get s.rows x ≡ Some fix → number_of s.entries x ≡ Some c → entry s.entries c ≡ Some e → operand_count fix ≤ body_quantifiers e.body - e.implicit

-- The table has the scene's rows, save at a name that a newer entry has: at the name of the entry that is shown it may have the row that this entry takes away.
abbrev pub AgreeOn : Scene → List Entry → Table → Type 0
AgreeOn s es table = (x : List ℕ) → number_of s.entries x ≡ number_of es x → map.get table x ≡ map.get s.rows x

-- What a text is made of: a number that a byte can be.
abbrev pub IsByte : ℕ → Type 0
IsByte b = b < 256

-- What stands for the name in a definition's line: the name, or `_` where it has none; an abbreviation has one.
abbrev pub IsDeclaredBy : List ℕ → Bool → Option (List ℕ) → Type 0
IsDeclaredBy word b (Some name) = (word ≡ name) × IsName name
IsDeclaredBy word b None = (word ≡ codes "_") × (b ≡ false)

-- a byte that is no percent sign
pub record IsPlainByte (b : ℕ) : Type 0 where
  pub byte : b < 256
  pub sign : b ≢ 37

-- no entry has implicit arguments
abbrev pub HasNoImplicit : Scene → Type 0
HasNoImplicit s = (c : ℕ) (e : Entry) → entry s.entries c ≡ Some e → e.implicit ≡ zero
