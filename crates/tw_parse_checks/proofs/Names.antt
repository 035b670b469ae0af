-- The family on its names.
use Rattle.std.proofs.Common.{◌≡◌, ℕ, zero, suc, ◌+◌, ◌<◌, List, [], ◌∷◌, length, drop, get_or, Box, Global, sym, ap, ◌∙◌, arith, add-one}
use Rattle.tw_parse.specs.Syntax as syntax
use Rattle.tw_parse.specs.View.{term_of}
use Rattle.tw_parse.specs.declared.decl.ExtName.{ExtName}
use Rattle.tw_parse.specs.declared.term.ExtTerm.{ExtTerm, Ident, App}
use Rattle.tw_parse.proofs.Views.{term_of-Ident, term_of-App}
use Rattle.tw_parse_checks.specs.Meanings.{applied}

stepped : (names : List ExtName) (i : ℕ) (y : ExtName) (M : syntax.Term) → i < length names → y ≡ get_or names i y → applied M (drop i names) ≡ applied (syntax.application M (syntax.identifier y.name y.at)) (drop (suc i) names)
stepped [] i y M h e = absurd (omega (h, arith))
stepped (x ∷ xs) zero y M h e = ap (λ (z : ExtName). applied (syntax.application M (syntax.identifier z.name z.at)) xs) (sym e)
stepped (x ∷ xs) (suc i) y M h e = stepped xs i y M (omega (h, arith)) e

pub applied_step : (names : List ExtName) (i : ℕ) (y : ExtName) (M : syntax.Term) → i < length names → y ≡ get_or names i y → applied M (drop i names) ≡ applied (syntax.application M (syntax.identifier y.name y.at)) (drop (i + 1) names)
applied_step names i y M h e = stepped names i y M h e ∙ ap (λ (n : ℕ). applied (syntax.application M (syntax.identifier y.name y.at)) (drop n names)) (sym (add-one i))

pub on_name : (f a : Box ExtTerm Global) (term : ExtTerm) (x : List ℕ) (y : ExtName) → f.value ≡ term → a.value ≡ Ident x y.at → x ≡ y.name → term_of (App f a) ≡ syntax.application (term_of term) (syntax.identifier y.name y.at)
on_name f a term x y e g h =
    term_of-App f a ∙ ap (λ (t : ExtTerm). syntax.application (term_of t) (term_of a.value)) e
    ∙ ap (syntax.application (term_of term)) (ap term_of g ∙ term_of-Ident x y.at ∙ ap (λ (n : List ℕ). syntax.identifier n y.at) h)
