-- What is written step by step.
use Rattle.std.proofs.Common.{◌≡◌, ℕ, List, [], ◌∷◌, ◌++◌, Option, refl, sym, ap, ◌∙◌, subst, append_assoc, drop}
use Rattle.lf.specs.Syntax.{LfType}
use Rattle.tw_print.specs.Pieces.{Piece, token, space, render}
use Rattle.tw_fixity.specs.Names.{Names as Scope}
use Rattle.tw_print.specs.Page.{Writes, Binds}
use Rattle.tw_print.specs.declared.page.Page.{Page}

pub render-append : (ps qs : List Piece) → render (ps ++ qs) ≡ render ps ++ render qs
render-append [] qs = refl
render-append (token t ∷ ps) qs = ap (λ x. t ++ x) (render-append ps qs) ∙ sym (append_assoc t (render ps) (render qs))
render-append (space ∷ ps) qs = ap (λ x. 32 ∷ x) (render-append ps qs)

pub append_pieces : (ps qs rs : List Piece) → (ps ++ qs) ++ rs ≡ ps ++ (qs ++ rs)
append_pieces [] qs rs = refl
append_pieces (p ∷ ps) qs rs = ap (λ x. p ∷ x) (append_pieces ps qs rs)

both : (a b c : List ℕ) (ps qs : List Piece) → b ≡ a ++ render ps → c ≡ b ++ render qs → c ≡ a ++ render (ps ++ qs)
both a b c ps qs e f = f ∙ ap (λ x. x ++ render qs) e ∙ append_assoc a (render ps) (render qs) ∙ ap (λ x. a ++ x) (sym (render-append ps qs))

-- one after the other
pub then : (p q r : Page) (ps qs : List Piece) → Writes p q ps → Writes q r qs → Writes p r (ps ++ qs)
then p q r ps qs v w = record { out = both p.out.items q.out.items r.out.items ps qs v.out w.out; context = w.context ∙ v.context; scope = w.scope ∙ v.scope }

-- and a variable comes in scope
pub then_binds : (p q r : Page) (ps qs : List Piece) (A : LfType) (x : Option (List ℕ)) → Writes p q ps → Binds q r qs A x → Binds p r (ps ++ qs) A x
then_binds p q r ps qs A x v w = record { out = both p.out.items q.out.items r.out.items ps qs v.out w.out; context = w.context ∙ ap (λ G. A ∷ G) v.context; scope = w.scope ∙ ap (λ ns. x ∷ ns) v.scope }

-- a part is written under a variable, which then leaves the scope
pub under : (p q r s : Page) (ps qs : List Piece) (A : LfType) (x : Option (List ℕ)) → Binds p q ps A x → Writes q r qs
    → s.out.items ≡ r.out.items → s.context ≡ drop 1 r.context → s.scope ≡ drop 1 r.scope → Writes p s (ps ++ qs)
under p q r s ps qs A x v w o g n = record { out = o ∙ both p.out.items q.out.items r.out.items ps qs v.out w.out; context = g ∙ ap (drop 1) (w.context ∙ v.context); scope = n ∙ ap (drop 1) (w.scope ∙ v.scope) }

-- what is written by the context and scope of the page that the first call leaves
pub then_at : (p q r : Page) (ps : List Piece) (P : List LfType → Scope → List Piece) → Writes p q ps → Writes q r (P q.context q.scope) → Writes p r (ps ++ P p.context p.scope)
then_at p q r ps P v w = then p q r ps (P p.context p.scope) v (subst (λ ns. Writes q r (P p.context ns)) v.scope (subst (λ G. Writes q r (P G q.scope)) v.context w))
