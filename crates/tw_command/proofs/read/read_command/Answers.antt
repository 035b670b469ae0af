use Rattle.std.proofs.Common.{◌≡◌, List, ℕ, Bool, true, false, refl, subst}
use Rattle.std.specs.Str.{IsUtf8, is_utf8}
use Rattle.std.proofs.lemmas.Str.{IsUtf8-from_is_utf8, is_utf8-from_IsUtf8}
use Rattle.tw_command.specs.Words.{words_of}
use Rattle.tw_command.specs.Meaning.{IsAnswer, line_means, words_mean}
use Rattle.tw_command.specs.Meaning.Meaning.{unknown}
use Rattle.tw_command.proofs.read.read_command.Goals as goal

-- a line that is text means what its words mean
text_means : (line : List ℕ) → IsUtf8 line → words_mean (words_of line) ≡ line_means line
text_means line text = rw (is_utf8-from_IsUtf8 line text) refl

-- one that isn't means nothing
bytes_mean : (line : List ℕ) → ¬ (IsUtf8 line) → line_means line ≡ unknown
bytes_mean line bad = go (is_utf8 line) refl where
  go : (b : Bool) → is_utf8 line ≡ b → line_means line ≡ unknown
  go true e = absurd (bad (IsUtf8-from_is_utf8 line e))
  go false e = rw e refl

pub returns-in-Ok-clause-means : goal.returns-in-Ok-clause-means
returns-in-Ok-clause-means c =
    let text : IsUtf8 c.args.line.now = c.in-Ok.ensures.cases.1 in
    let same : c.in-Ok.text.now ≡ c.args.line.now = c.in-Ok.ensures.cases.0 in
    subst (λ m. IsAnswer m c.read_text.result) (text_means c.args.line.now text) (subst (λ (l : List ℕ). IsAnswer (words_mean (words_of l)) c.read_text.result) same c.read_text.ensures.means)

pub returns-in-Err-clause-means : goal.returns-in-Err-clause-means
returns-in-Err-clause-means c = bytes_mean c.args.line.now c.in-Err.ensures.cases.0
