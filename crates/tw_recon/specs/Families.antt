-- A declared family has just the quantifiers of its text.
use Rattle.std.specs.Prelude.{◌≡◌, ◌+◌, ℕ, zero, suc, List, drop, length, true}
use Rattle.lf.specs.Entries.{Entry, declare_family, kind_quantifiers}
use Rattle.lf.specs.Syntax.{Kind, LfType}
use Rattle.lf_elaboration.specs.Completions.{CompletesKind, FreeValue}
use Rattle.lf_elaboration.specs.Written.{WrittenKind, kind_arrow, kind_quantified, written_star}
use Rattle.tw_lexer.specs.declared.place.Place.{Place}
use Rattle.tw_names.specs.Texts.{ends_in_type, hints}
use Rattle.tw_parse.specs.Syntax.{Term, declare}
use Rattle.tw_recon.specs.Reconstruction.{IsReconstructed}

-- how many quantifiers are written: of `{x:nat} vec x -> type` two
abbrev pub written_quantifiers : WrittenKind → ℕ
written_quantifiers written_star = zero
written_quantifiers (kind_arrow U k) = suc (written_quantifiers k)
written_quantifiers (kind_quantified d k) = suc (written_quantifiers k)

-- What completes a written kind has just its quantifiers, since nothing that isn't written stands for a kind.
abbrev pub CompletedKindIsAsWritten : Type 0
CompletedKindIsAsWritten = (es : List Entry) (F : List LfType) (vs : List FreeValue) (D : List LfType) (k : WrittenKind) (K : Kind) → CompletesKind es F vs D k K → kind_quantifiers K ≡ written_quantifiers k

-- The entry of a family: behind the implicit quantifiers it has those of the text, with their names. `q : {x:nat} eq x Y -> type.` has one implicit quantifier, and two behind it, of which the
-- first has the name x.
pub record HasWrittenQuantifiers (U : Term) (e : Entry) : Type 0 where
  pub kind : Kind
  pub is_family : e.body ≡ declare_family kind
  pub quantifiers : kind_quantifiers kind ≡ e.implicit + length (hints U)
  pub names : drop e.implicit e.hints ≡ hints U

abbrev pub FamilyIsAsWritten : Type 0
FamilyIsAsWritten = (es : List Entry) (c : List ℕ) (at : Place) (U : Term) (e : Entry) → ends_in_type U ≡ true → IsReconstructed es (declare c at U) e → HasWrittenQuantifiers U e
