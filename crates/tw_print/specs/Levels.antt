-- How many levels a text may have doesn't matter to it.
use Rattle.std.specs.Prelude.{◌≡◌, ℕ, ◌≤◌, List, length, Option}
use Rattle.lf.specs.Syntax.{Term, LfType, Kind}
use Rattle.tw_fixity.specs.Names.{Names as Scope}
use Rattle.tw_print.specs.Names.{Scene}
use Rattle.tw_print.specs.Pieces.{render}
use Rattle.tw_print.specs.Shown.{parts, leading_type, leading_kind}

-- What has at most n bytes at n levels is the same at m. So `s z`, three bytes at three levels, is `s z` at four.
pub record AreEqualTexts (s : Scene) (n m : ℕ) : Type 0 where
  pub of_term : (G : List LfType) (ns : Scope) (M : Term) (t : Option LfType) → length (render ((parts s n).term G ns M t)) ≤ n → (parts s m).term G ns M t ≡ (parts s n).term G ns M t
  pub of_type : (G : List LfType) (ns : Scope) (A : LfType) → length (render ((parts s n).type G ns A)) ≤ n → (parts s m).type G ns A ≡ (parts s n).type G ns A
  pub of_leading_type : (implicit : ℕ) (hints : List (Option (List ℕ))) (k : ℕ) (G : List LfType) (ns : Scope) (A : LfType)
      → length (render (leading_type s implicit hints n k G ns A)) ≤ n → leading_type s implicit hints m k G ns A ≡ leading_type s implicit hints n k G ns A
  pub of_leading_kind : (implicit : ℕ) (hints : List (Option (List ℕ))) (k : ℕ) (G : List LfType) (ns : Scope) (K : Kind)
      → length (render (leading_kind s implicit hints n k G ns K)) ≤ n → leading_kind s implicit hints m k G ns K ≡ leading_kind s implicit hints n k G ns K

-- So more levels give the same text: what is cut off at some number of levels has more bytes than that.
abbrev pub MoreLevelsGiveTheSameText : Type 0
MoreLevelsGiveTheSameText = (s : Scene) (n m : ℕ) → n ≤ m → AreEqualTexts s n m
