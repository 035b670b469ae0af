-- What lasts goes on through a legal extension.
use Rattle.lf_checks.specs.Marks.{Mark}
use Rattle.lf_totality.specs.Total.{Lasting, HasTotalMarks}
use Rattle.std.proofs.Common.{ℕ, List}
use Rattle.std.specs.Prelude.{Bool}
use Rattle.lf.specs.Typing.{Signature}
use Rattle.lf.specs.Subordination.{Block}
use Rattle.lf.specs.Extension.{Extends}
use Rattle.lf.proofs.ExtensionTyping.{extensions_compose}

pub total_marks_on : (S : ℕ → Bool) (Σ Σ' : Signature) (a : ℕ) (m : List Mark) → Extends S Σ Σ' → HasTotalMarks Σ a m → HasTotalMarks Σ' a m
total_marks_on S Σ Σ' a m x ((K, e, s), n) = ((K, x.kinds_stay a K e, s), n)

-- what lasts goes on through a legal extension
pub lasting_on : (Σ Σ' : Signature) (a : ℕ) (m : List Mark) (W : List Block) (S : ℕ → Bool) → Extends S Σ Σ' → Lasting Σ a m W S → Lasting Σ' a m W S
lasting_on Σ Σ' a m W S x l = (total_marks_on S Σ Σ' a m x l.0, λ Σ'' y G w. l.1 Σ'' (extensions_compose S Σ Σ' Σ'' x y) G w)
