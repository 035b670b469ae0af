-- How for each family those below it are shown, one by one.
use Rattle.std.proofs.Common.{◌≡◌, ℕ, ◌+◌, ◌<◌, ◌≤◌, List, [], ◌++◌, length, refl, sym, ap, arith, subst, add-one, Err, inl, inr}
use Rattle.std.specs.declared.option.Option.{Option}
use Rattle.std.specs.declared.result.Result.{Result}
use Rattle.lf.specs.Entries.{signature_of}
use Rattle.tw_decl.specs.View.{View}
use Rattle.tw_ports.specs.Ports.{Gains}
use Rattle.tw_ports.proofs.Gained.{Gains-nil, Gains-same, Gains-trans}
use Rattle.tw_server.specs.Loaded.{BelowSoFar, IsSubordinationShown}
use Rattle.tw_server.specs.Replies.{accepted, refused, no_memory}
use Rattle.tw_server.specs.Subordination.{LinesBelow, no_lines, next_line, ShowsBelow}
use Rattle.tw_server.specs.Written.{GainsFront, GainsReply}
use Rattle.tw_server.proofs.Pieces.{front_first, reply_second}

-- what is shown of the entry of a number
abbrev Shows : View → ℕ → List ℕ → Type 0
Shows v n line = ShowsBelow v n ((signature_of v.signature).kinds n) line

one_more : (v : View) (n : ℕ) (lines line : List ℕ) → LinesBelow v n lines → Shows v n line → LinesBelow v (n + 1) (lines ++ line)
one_more v n lines line h s = subst (λ k. LinesBelow v k (lines ++ line)) (sym (add-one n)) (next_line line h s)

-- nothing was written
pub below_first : (v : View) (a : Option (List ℕ)) → BelowSoFar v 0 a a
below_first v a = record { lines = []; shows = no_lines; gains = Gains-nil a }

-- one more line was written
pub below_more : (v : View) (n : ℕ) (line bytes : List ℕ) (a b c : Option (List ℕ)) → BelowSoFar v n a b → Shows v n line → bytes ≡ line → Gains b c bytes → BelowSoFar v (n + 1) a c
below_more v n line bytes a b c so s e g = record {
  lines = so.lines ++ line;
  shows = one_more v n so.lines line so.shows s;
  gains = Gains-same a c _ _ (ap (λ (l : List ℕ). so.lines ++ l) e) (Gains-trans a b c so.lines bytes so.gains g);
}

-- a line was written in part: memory might have been wanting behind it
pub below_cut : {E : Type 0} (v : View) (n : ℕ) (line bytes : List ℕ) (a b c : Option (List ℕ)) (x : E) → n < length v.signature → BelowSoFar v n a b → Shows v n line → bytes ≡ line → GainsReply {E = E} b c bytes (Err x) → IsSubordinationShown {E = E} v a c (Err x)
below_cut {E = E} v n line bytes a b c x less so s e g =
    let cut : GainsFront a c (so.lines ++ line) = reply_second {E = E} a b c so.lines line (Err x) so.gains (subst (λ (l : List ℕ). GainsReply {E = E} b c l (Err x)) e g) in (
      (so.lines ++ line) ++ (no_memory ++ refused),
      inl (record { count = n + 1; few = omega arith; lines = so.lines ++ line; shows = one_more v n so.lines line so.shows s; says = refl; same = refl }),
      front_first a c (so.lines ++ line) (no_memory ++ refused) cut,
    )

-- memory was wanting for a line
pub below_lost : {E : Type 0} (v : View) (n : ℕ) (a b c : Option (List ℕ)) (r : Result (Unit {0}) E) → n ≤ length v.signature → BelowSoFar v n a b → GainsReply b c (no_memory ++ refused) r → IsSubordinationShown v a c r
below_lost v n a b c r few so g = (
  so.lines ++ (no_memory ++ refused),
  inl (record { count = n; few = few; lines = so.lines; shows = so.shows; says = refl; same = refl }),
  reply_second a b c so.lines (no_memory ++ refused) r so.gains g,
)

-- all lines were written
pub below_end : {E : Type 0} (v : View) (n : ℕ) (a b c : Option (List ℕ)) (r : Result (Unit {0}) E) → n ≡ length v.signature → BelowSoFar v n a b → GainsReply b c accepted r → IsSubordinationShown v a c r
below_end v n a b c r e so g = (
  so.lines ++ accepted,
  inr (record { lines = so.lines; shows = subst (λ k. LinesBelow v k so.lines) e so.shows; says = refl; same = refl }),
  reply_second a b c so.lines accepted r so.gains g,
)
