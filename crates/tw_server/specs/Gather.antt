-- What a call that looks at many bytes gathers.
use Rattle.std.specs.Prelude.{◌≡◌, ℕ, ◌<◌, ◌≤◌, List, [], ◌∷◌, ◌++◌, length, true, false, Ok, Err, None, Some, ⊤, nat_lt}
use Rattle.std.specs.Bool.{MatchBool}
use Rattle.std.specs.declared.option.Option.{Option}
use Rattle.std.specs.declared.result.Result.{Result}
use Rattle.tw_lexer.specs.Cut.{cut_after}
use Rattle.tw_lexer.specs.declared.cut.Cut.{Cut}
use Rattle.tw_lexer.specs.declared.cut.Cut.TheVariants.{Plain}
use Rattle.tw_server.specs.Lines.{IsLine, IsText, IsOpen, HasNoFeed}
use Rattle.tw_server.specs.Feed.{Pending, Sees, Stopped}
use Rattle.tw_server.specs.declared.feed.Stop.{Stop}
use Rattle.tw_server.specs.declared.text.Lost.{Lost}
use Rattle.tw_server.specs.declared.text.Lost.TheVariants as losts
use Rattle.tw_server.specs.Limits.{input_limit, line_limit, text_limit}

-- a line's body while it is no longer than a line may be
abbrev pub IsKept : Option (List ℕ) → List ℕ → Type 0
IsKept None body = line_limit < length body
IsKept (Some xs) body = (xs ≡ body) × (length body ≤ line_limit)

-- one more byte
abbrev pub IsPushed : Option (List ℕ) → ℕ → Option (List ℕ) → Type 0
IsPushed None b new = new ≡ None
IsPushed (Some xs) b new = MatchBool (nat_lt (length xs) line_limit) (new ≡ Some (xs ++ b ∷ [])) (new ≡ None)

-- a line was read, or as much of it as there is
abbrev pub ReadsLine : Pending → Option (List ℕ) → Pending → Option (List ℕ) → Option (List ℕ) → Result (Unit {0}) Stop → Type 0
ReadsLine old left new left' kept (Ok done) = (line body : List ℕ) × IsLine true line body × IsKept kept body × Sees old left new left' line × (new.seen ≤ input_limit)
ReadsLine old left new left' kept (Err stop) = (line body : List ℕ) × IsLine false line body × IsKept kept body × Sees old left new left' line × Stopped stop new left' × (new.seen ≤ input_limit)

-- what is kept of a text: all of it, unless it is too long or memory was wanting
abbrev pub IsGathered : Lost → List ℕ → List ℕ → Type 0
IsGathered losts.Nothing kept text = (kept ≡ text) × (length text ≤ text_limit)
IsGathered losts.TooLong kept text = text_limit < length text
IsGathered losts.NoMemory kept text = ⊤

-- a text was read, or as much of it as there is
abbrev pub ReadsText : Pending → Option (List ℕ) → Pending → Option (List ℕ) → Lost → List ℕ → Result (Unit {0}) Stop → Type 0
ReadsText old left new left' lost kept (Ok done) = (text : List ℕ) × IsText true text × IsGathered lost kept text × Sees old left new left' text × (new.seen ≤ input_limit)
ReadsText old left new left' lost kept (Err stop) = (text : List ℕ) × IsText false text × IsGathered lost kept text × Sees old left new left' text × Stopped stop new left' × (new.seen ≤ input_limit)

-- a line so far
pub record LineSoFar (old : Pending) (left : Option (List ℕ)) (new : Pending) (left' : Option (List ℕ)) (kept : Option (List ℕ)) : Type 0 where
  pub body : List ℕ
  pub plain : HasNoFeed body
  pub keeps : IsKept kept body
  pub sees : Sees old left new left' body

-- a text so far, and where its last byte stands
pub record TextSoFar (old : Pending) (left : Option (List ℕ)) (new : Pending) (left' : Option (List ℕ)) (lost : Lost) (kept : List ℕ) (cut : Cut) : Type 0 where
  pub text : List ℕ
  pub body : List ℕ
  pub open_yet : IsOpen text body
  pub stands : cut ≡ cut_after Plain text
  pub gathered : IsGathered lost kept text
  pub sees : Sees old left new left' text
