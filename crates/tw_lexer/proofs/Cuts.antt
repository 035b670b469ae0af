-- How a text is cut: what users of the cut need.
use Rattle.std.proofs.Common.{◌≡◌, ◌≤◌, ℕ, ◌+◌, ◌-◌, List, [], ◌∷◌, ◌++◌, length, Bool, true, false, refl, sym, ap, ◌∙◌, arith}
use Rattle.std.specs.Prelude.{if◌then◌else◌, nat_le, ◌==◌, ◌||◌}
use Rattle.tw_lexer.specs.Bytes.{is_white_space}
use Rattle.tw_lexer.specs.Cut.{cut_after, cut_by, is_done, open_count, plain_by, percent_by, line_by, comment_by, closed}
use Rattle.tw_lexer.specs.declared.cut.Cut.{Cut}
use Rattle.tw_lexer.specs.declared.cut.Cut.TheVariants.{Plain, Percent, Line, Comment, CommentPercent, CommentClose, Done}

-- a text that comes in pieces is cut as the whole text
pub cut_after-append : (s : Cut) (xs ys : List ℕ) → cut_after s (xs ++ ys) ≡ cut_after (cut_after s xs) ys
cut_after-append s [] ys = refl
cut_after-append s (x ∷ xs) ys = cut_after-append (cut_by s x) xs ys

-- what is done stays done
pub done_stays : (xs : List ℕ) → cut_after Done xs ≡ Done
done_stays [] = refl
done_stays (x ∷ xs) = done_stays xs

-- what is done is the state Done
pub is_done-state : (s : Cut) → is_done s ≡ true → s ≡ Done
is_done-state Done h = refl
is_done-state _ h = cc

-- a text that is done stays done whatever follows
pub is_done-append : (s : Cut) (xs ys : List ℕ) → is_done (cut_after s xs) ≡ true → is_done (cut_after s (xs ++ ys)) ≡ true
is_done-append s xs ys h =
    rw (cut_after-append s xs ys, is_done-state (cut_after s xs) h, done_stays ys) refl

-- a line feed ends no text
pub feed_not_done : (s : Cut) → is_done s ≡ false → is_done (cut_after s (10 ∷ [])) ≡ false
feed_not_done Done h = cc
feed_not_done Plain h = refl
feed_not_done Percent h = refl
feed_not_done Line h = refl
feed_not_done (Comment n) h = refl
feed_not_done (CommentPercent n) h = refl
feed_not_done (CommentClose n) h = refl

-- a byte opens at most one comment
either : (v : Bool) (x y : Cut) (n : ℕ) → open_count x ≤ n → open_count y ≤ n → open_count (if v then x else y) ≤ n
either true x y n p q = p
either false x y n p q = q

in_comment : (n b : ℕ) → open_count (comment_by n b) ≤ n
in_comment n b = either (b == 37) (CommentPercent n) _ n (omega arith) (either (b == 125) (CommentClose n) (Comment n) n (omega arith) (omega arith))

after_percent : (b : ℕ) → open_count (percent_by b) ≤ 1
after_percent b =
    either (b == 46) Done _ 1 (omega arith) (
    either (b == 123) (Comment 1) _ 1 (omega arith) (
    either (b == 10) Plain _ 1 (omega arith) (either (is_white_space b || (b == 37)) Line Plain 1 (omega arith) (omega arith))
    )
    )

pub cut_by-open : (s : Cut) (b : ℕ) → open_count (cut_by s b) ≤ open_count s + 1
cut_by-open Plain b = either (b == 46) Done _ 1 (omega arith) (either (b == 37) Percent Plain 1 (omega arith) (omega arith))
cut_by-open Percent b = after_percent b
cut_by-open Line b = either (b == 10) Plain Line 1 (omega arith) (omega arith)
cut_by-open (Comment n) b = let h = in_comment n b in omega (arith, h)
cut_by-open (CommentPercent n) b = either (b == 123) (Comment (n + 1)) (comment_by n b) (n + 1) (omega arith) (omega (arith, in_comment n b))
cut_by-open (CommentClose n) b =
    either (b == 37) (closed n) (comment_by n b) (n + 1) (either (nat_le n 1) Plain (Comment (n - 1)) (n + 1) (omega arith) (omega arith)) (omega (arith, in_comment n b))
cut_by-open Done b = omega arith

-- so a text has no more open comments than bytes
pub cut_after-open : (s : Cut) (xs : List ℕ) → open_count (cut_after s xs) ≤ open_count s + length xs
cut_after-open s [] = omega arith
cut_after-open s (x ∷ xs) = omega (arith, cut_after-open (cut_by s x) xs, cut_by-open s x)
