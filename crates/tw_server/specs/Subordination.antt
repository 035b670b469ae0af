-- What the command that shows subordination replies.
use Rattle.std.specs.Prelude.{◌≡◌, ◌⊎◌, ◌↔◌, ℕ, zero, suc, ◌≤◌, List, [], ◌∷◌, ◌++◌, length, codes, Contains, Option, None, Some}
use Rattle.std.specs.List.Sorted.{IsStrictlyIncreasing}
use Rattle.lf.specs.Entries.{signature_of}
use Rattle.lf.specs.Subordination.{Below}
use Rattle.lf.specs.Syntax.{Kind}
use Rattle.tw_decl.specs.View.{View, scene_of}
use Rattle.tw_print.specs.Names.{Scene, constant_word}
use Rattle.tw_server.specs.Replies.{accepted, refused, no_memory}

-- These are the families below a family, over all blocks that are declared, in order of declaration, each once.
pub record AreBelow (v : View) (family : ℕ) (families : List ℕ) : Type 0 where
  pub in_order : IsStrictlyIncreasing families
  pub below : (a : ℕ) → (Contains families a) ↔ Below (signature_of v.signature) v.checked.blocks a family

-- each behind one space, as it is shown
abbrev pub spaced_words : Scene → List ℕ → List ℕ
spaced_words s [] = []
spaced_words s (c ∷ cs) = codes " " ++ constant_word s c ++ spaced_words s cs

-- the line of a family: `below b:`, and these families
abbrev pub below_line : Scene → ℕ → List ℕ → List ℕ
below_line s b families = ((codes "below " ++ constant_word s b ++ codes ":") ++ spaced_words s families) ++ codes "\n"

-- what is shown of the entry of a number: of one with a kind the line with the families below it, and of one without nothing
abbrev pub ShowsBelow : View → ℕ → Option Kind → List ℕ → Type 0
ShowsBelow v n (Some K) line = (families : List ℕ) × AreBelow v n families × (line ≡ below_line (scene_of v) n families)
ShowsBelow v n None line = line ≡ []

-- the lines of the first entries, as many as this
pub data LinesBelow (v : View) : ℕ → List ℕ → Type 0 where
  no_lines : LinesBelow v zero []
  next_line : {n : ℕ} {lines : List ℕ} (line : List ℕ) → LinesBelow v n lines → ShowsBelow v n ((signature_of v.signature).kinds n) line → LinesBelow v (suc n) (lines ++ line)

-- For each family those below it are shown, in order. Where memory is wanting, the lines of some stand before that.
pub record ShowsSomeBelow (v : View) (reply : List ℕ) (w : View) : Type 0 where
  pub count : ℕ
  pub few : count ≤ length v.signature
  pub lines : List ℕ
  pub shows : LinesBelow v count lines
  pub says : reply ≡ lines ++ (no_memory ++ refused)
  pub same : w ≡ v

pub record ShowsAllBelow (v : View) (reply : List ℕ) (w : View) : Type 0 where
  pub lines : List ℕ
  pub shows : LinesBelow v (length v.signature) lines
  pub says : reply ≡ lines ++ accepted
  pub same : w ≡ v

abbrev pub ShowsSubordination : View → List ℕ → View → Type 0
ShowsSubordination v reply w = ShowsSomeBelow v reply w ⊎ ShowsAllBelow v reply w
