-- One argument more, in front of those that were there.
use Rattle.std.proofs.Common.{◌≡◌, List, [], ◌∷◌, ◌++◌, Bor, Box, Global, refl, sym, ap, ap₂, ◌∙◌}
use Rattle.std.proofs.lemmas.List.{map-append}
use Rattle.tw_parse.specs.Applied.{applied_to, written_terms}
use Rattle.tw_parse.specs.Syntax.{Term, application}
use Rattle.tw_parse.specs.View.{term_of}
use Rattle.tw_parse.specs.declared.term.ExtTerm.{ExtTerm, App}
use Rattle.tw_parse.proofs.Views.{term_of-App}

pub applied_to-push : (h a : Term) (xs : List Term) → applied_to h (xs ++ a ∷ []) ≡ applied_to (application h a) xs
applied_to-push h a [] = refl
applied_to-push h a (b ∷ xs) = ap (λ m. application m b) (applied_to-push h a xs)

-- the head's own argument goes behind the others
pub next_argument : (head next : ExtTerm) (F M : Box ExtTerm Global) (old new : List (Bor ExtTerm)) (a : Bor ExtTerm) (W : Term) → head ≡ App F M → next ≡ F.value → a.now ≡ M.value → new ≡ old ++ a ∷ [] → applied_to (term_of head) (written_terms old) ≡ W → applied_to (term_of next) (written_terms new) ≡ W
next_argument head next F M old new a W is f m e h =
    ap₂ applied_to (ap term_of f) (ap written_terms e ∙ map-append (λ (x : Bor ExtTerm). term_of x.now) old (a ∷ []))
    ∙ applied_to-push (term_of F.value) (term_of a.now) (written_terms old)
    ∙ ap (λ N. applied_to N (written_terms old)) (ap (application (term_of F.value)) (ap term_of m) ∙ sym (term_of-App F M) ∙ sym (ap term_of is))
    ∙ h
