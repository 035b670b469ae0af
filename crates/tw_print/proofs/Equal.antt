-- Two terms on one page.
use Rattle.std.proofs.Common.{◌≡◌, ℕ, List, [], ◌∷◌, ◌++◌, Some, codes, sym, ap, ap₂, ◌∙◌, subst}
use Rattle.lf.specs.Syntax.{Term, LfType, skeleton}
use Rattle.lf.specs.Entries.{signature_of}
use Rattle.tw_print.specs.Names.{Scene}
use Rattle.tw_print.specs.Page.{Writes}
use Rattle.tw_print.specs.Pieces.{Piece, token, space, render}
use Rattle.tw_print.specs.Showable.{HasSkeleton, IsShowableContext, IsShowableType, IsShowable}
use Rattle.tw_print.specs.Shown.{parts, nesting_limit, equal_text}
use Rattle.tw_print.specs.declared.page.Page.{Page}
use Rattle.tw_print.proofs.Typed.{term_showable}
use Rattle.tw_print.proofs.Writing.{then, then_at, append_pieces}

pub equal_context : (s r : Scene) (G D : List LfType) → s ≡ r → D ≡ G → IsShowableContext (signature_of r.entries) G → IsShowableContext (signature_of s.entries) D
equal_context s r G D e f g = subst (λ z. IsShowableContext (signature_of z.entries) D) (sym e) (subst (IsShowableContext (signature_of r.entries)) (sym f) g)

pub equal_side : (s r : Scene) (G D : List LfType) (M : Term) (A : LfType) → s ≡ r → D ≡ G → IsShowableType (signature_of r.entries) G A → HasSkeleton (signature_of r.entries) G M (skeleton A) → IsShowable (signature_of s.entries) D M (Some A)
equal_side s r G D M A e f a m =
    subst (λ z. IsShowable (signature_of z.entries) D M (Some A)) (sym e) (subst (λ X. IsShowable (signature_of r.entries) X M (Some A)) (sym f) (term_showable (signature_of r.entries) G M A a m))

abbrev equals : List Piece
equals = space ∷ token (codes "=") ∷ space ∷ []

written : (r : Scene) (M N : Term) (A : LfType) (p q t u v w : Page) → p.out.items ≡ [] → Writes p q ((parts r nesting_limit).term p.context p.scope M (Some A))
    → Writes q t (space ∷ []) → Writes t u (token (codes "=") ∷ []) → Writes u v (space ∷ []) → Writes v w ((parts r nesting_limit).term v.context v.scope N (Some A)) → w.out.items ≡ equal_text r p.context p.scope M N A
written r M N A p q t u v w blank a b c d e =
    let M' = (parts r nesting_limit).term p.context p.scope M (Some A) in
    let N' = (parts r nesting_limit).term p.context p.scope N (Some A) in
    let front : Writes p v (M' ++ equals) = then p q v M' equals a (then q u v (space ∷ token (codes "=") ∷ []) (space ∷ []) (then q t u (space ∷ []) (token (codes "=") ∷ []) b c) d) in
    let all : Writes p w ((M' ++ equals) ++ N') = then_at p v w (M' ++ equals) (λ G ns. (parts r nesting_limit).term G ns N (Some A)) front e in
    all.out ∙ ap (λ x. x ++ render ((M' ++ equals) ++ N')) blank ∙ ap render (append_pieces M' equals N')

-- what the calls write
pub equal_written : (s r : Scene) (n m : ℕ) (M N : Term) (A : LfType) (p q t u v w : Page) → s ≡ r → n ≡ nesting_limit → m ≡ nesting_limit → p.out.items ≡ [] → Writes p q ((parts s n).term p.context p.scope M (Some A))
    → Writes q t (space ∷ []) → Writes t u (token (codes "=") ∷ []) → Writes u v (space ∷ []) → Writes v w ((parts s m).term v.context v.scope N (Some A)) → w.out.items ≡ equal_text r p.context p.scope M N A
equal_written s r n m M N A p q t u v w e f g blank a b c d h =
    written r M N A p q t u v w blank (subst (λ z. Writes p q (z.term p.context p.scope M (Some A))) (ap₂ parts e f) a) b c d (subst (λ z. Writes v w (z.term v.context v.scope N (Some A))) (ap₂ parts e g) h)
