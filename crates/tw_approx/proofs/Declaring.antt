-- A query's goal is gone over as the type of a constant is.
use Rattle.std.proofs.Common.{◌≡◌, ℕ, List, [], Bool, false, refl, sym, subst}
use Rattle.lf.specs.Entries.{Entry}
use Rattle.lf.specs.Syntax.{Skeleton}
use Rattle.tw_approx.specs.Answer.{Rows, FitsOnce, IsOfObjects, HasSkeletons, IsQueryOfObjects, HasQuerySkeletons}
use Rattle.tw_approx.specs.Names.{IsFreeIn}
use Rattle.tw_approx.specs.Skeletons.{FitsClassifier}
use Rattle.tw_names.specs.Texts.{ends_in_type}
use Rattle.tw_lexer.specs.declared.place.Place.{Place}
use Rattle.tw_parse.specs.Syntax.{Term, declare}

module _ (es : List Entry) (c : List ℕ) (at : Place) (A : Term) where
  pub declared_of_objects : IsQueryOfObjects es A → IsOfObjects es (declare c at A)
  declared_of_objects k = record { known = k.known; no_definition = refl; no_lambda = k.no_lambda }

  pub declared_skeletons : (rows : Rows) (o : List Skeleton) → ends_in_type A ≡ false → HasQuerySkeletons es A rows o → HasSkeletons es (declare c at A) rows o
  declared_skeletons rows o e h = subst (λ (b : Bool). FitsOnce (λ x. IsFreeIn es x [] A) (λ f p. FitsClassifier es f A p b) rows o) (sym e) h
