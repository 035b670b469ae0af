-- The bytes of an input as lines, and as the texts of declarations.
use Rattle.std.specs.Prelude.{◌≡◌, ◌≢◌, ◌⊎◌, ℕ, List, [], ◌∷◌, ◌++◌, Bool, true, false}
use Rattle.std.specs.List.{AllByRecursion}
use Rattle.tw_lexer.specs.Cut.{cut_after, is_done}
use Rattle.tw_lexer.specs.declared.cut.Cut.TheVariants.{Plain}

-- what ends a line: its line feed, or the end of the input
abbrev pub ending : Bool → List ℕ
ending true = 10 ∷ []
ending false = []

-- no line feed is among them
abbrev pub HasNoFeed : List ℕ → Type 0
HasNoFeed bytes = AllByRecursion (λ b. b ≢ 10) bytes

-- a line is its body, and a line feed where it is whole
pub record IsLine (whole : Bool) (line body : List ℕ) : Type 0 where
  pub spelled : line ≡ body ++ ending whole
  pub plain : HasNoFeed body

-- whether a declaration's text has come to the dot that ends it
abbrev pub is_over : List ℕ → Bool
is_over text = is_done (cut_after Plain text)

-- any number of whole lines
abbrev pub IsWholeLines : List ℕ → Type 0
IsWholeLines bytes = (bytes ≡ []) ⊎ ((front : List ℕ) × (bytes ≡ front ++ 10 ∷ []))

-- A text that goes on: it had not come to its dot at its last line feed. The body is the line after that.
pub record IsOpen (text body : List ℕ) : Type 0 where
  pub front : List ℕ
  pub spelled : text ≡ front ++ body
  pub lines : IsWholeLines front
  pub plain : HasNoFeed body
  pub before : is_over front ≡ false

-- a text: it ends with the first line that has its dot, or with the end of the input
abbrev pub IsText : Bool → List ℕ → Type 0
IsText true text = (lines body : List ℕ) × IsOpen lines body × (is_over lines ≡ true) × (text ≡ lines ++ 10 ∷ [])
IsText false text = (body : List ℕ) × IsOpen text body
