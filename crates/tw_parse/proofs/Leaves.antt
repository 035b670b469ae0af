-- The atom that a token is by itself.
use Rattle.std.proofs.Common.{◌≡◌, ℕ, List, [], ◌∷◌, Some, refl, ap, ◌∙◌}
use Rattle.tw_lexer.specs.declared.place.Place.{Place}
use Rattle.tw_parse.specs.Faults.{leaf_by, leaf_of}
use Rattle.tw_parse.specs.View.{term_of}
use Rattle.tw_parse.specs.Words.{Lexeme, first_word, first_bytes, first_place}
use Rattle.tw_parse.specs.declared.words.Word.TheVariants.{Name, Underscore, Star as StarWord}
use Rattle.tw_parse.specs.declared.term.ExtTerm.{Ident, Hole, Star}
use Rattle.tw_parse.proofs.Views.{term_of-Ident, term_of-Hole, term_of-Star}

leaf_is : (end : Place) (xs : List Lexeme) → leaf_by (first_word xs) (first_bytes xs) (first_place end xs) ≡ leaf_of xs
leaf_is end [] = refl
leaf_is end (x ∷ xs) = refl

pub name_leaf : (end : Place) (xs : List Lexeme) (x : List ℕ) (at : Place) → Name ≡ first_word xs → x ≡ first_bytes xs → at ≡ first_place end xs → Some (term_of (Ident x at)) ≡ leaf_of xs
name_leaf end xs x at e f g =
    ap Some (term_of-Ident x at) ∙ ap (λ y. leaf_by Name y at) f ∙ ap (λ p. leaf_by Name (first_bytes xs) p) g ∙ ap (λ w. leaf_by w (first_bytes xs) (first_place end xs)) e ∙ leaf_is end xs

pub hole_leaf : (end : Place) (xs : List Lexeme) (at : Place) → Underscore ≡ first_word xs → at ≡ first_place end xs → Some (term_of (Hole at)) ≡ leaf_of xs
hole_leaf end xs at e g = ap Some (term_of-Hole at) ∙ ap (λ p. leaf_by Underscore (first_bytes xs) p) g ∙ ap (λ w. leaf_by w (first_bytes xs) (first_place end xs)) e ∙ leaf_is end xs

pub star_leaf : (end : Place) (xs : List Lexeme) → StarWord ≡ first_word xs → Some (term_of Star) ≡ leaf_of xs
star_leaf end xs e = ap Some term_of-Star ∙ ap (λ w. leaf_by w (first_bytes xs) (first_place end xs)) e ∙ leaf_is end xs
