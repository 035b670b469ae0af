-- Where a declaration's text ends.
use Rattle.std.specs.Prelude.{ℕ, ◌+◌, ◌-◌, List, [], ◌∷◌, Bool, true, false, nat_le, ◌==◌, ◌||◌, if◌then◌else◌}
use Rattle.tw_lexer.specs.Bytes.{is_white_space}
use Rattle.tw_lexer.specs.declared.cut.Cut.{Cut}
use Rattle.tw_lexer.specs.declared.cut.Cut.TheVariants.{Plain, Percent, Line, Comment, CommentPercent, CommentClose, Done}

-- Behind a byte outside comments. The text is done at its first dot there.
abbrev pub plain_by : ℕ → Cut
plain_by b =
    if b == 46 then Done else
    if b == 37 then Percent else
    Plain

-- Behind a byte that stands behind a `%` there: white space of ASCII and a second `%` begin a comment to the end of the line, which a line feed ends
-- at once; `{` begins one to its `}%`; a dot ends the text, and every other byte leaves it outside comments.
abbrev pub percent_by : ℕ → Cut
percent_by b =
    if b == 46 then Done else
    if b == 123 then Comment 1 else
    if b == 10 then Plain else
    if is_white_space b || (b == 37) then Line else
    Plain

-- behind a byte in a comment to the end of the line
abbrev pub line_by : ℕ → Cut
line_by b = if b == 10 then Plain else Line

-- behind a byte in a comment of which so many `%{` are open
abbrev pub comment_by : ℕ → ℕ → Cut
comment_by n b =
    if b == 37 then CommentPercent n else
    if b == 125 then CommentClose n else
    Comment n

-- the `}%` that closes the last of them
abbrev pub closed : ℕ → Cut
closed n = if nat_le n 1 then Plain else Comment (n - 1)

-- the state behind a byte
abbrev pub cut_by : Cut → ℕ → Cut
cut_by Plain b = plain_by b
cut_by Percent b = percent_by b
cut_by Line b = line_by b
cut_by (Comment n) b = comment_by n b
cut_by (CommentPercent n) b = if b == 123 then Comment (n + 1) else comment_by n b
cut_by (CommentClose n) b = if b == 37 then closed n else comment_by n b
cut_by Done b = Done

-- the state behind these bytes
abbrev pub cut_after : Cut → List ℕ → Cut
cut_after state [] = state
cut_after state (b ∷ bs) = cut_after (cut_by state b) bs

abbrev pub is_done : Cut → Bool
is_done Done = true
is_done _ = false

-- how many `%{` are open
abbrev pub open_count : Cut → ℕ
open_count (Comment n) = n
open_count (CommentPercent n) = n
open_count (CommentClose n) = n
open_count _ = 0
