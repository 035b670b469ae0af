-- Roots and families whose arguments have no types.
use Rattle.std.proofs.Common.{◌≡◌, ℕ, List, false, refl, sym, ap, ◌∙◌, subst, drop, None}
use Rattle.lf.specs.Entries.{signature_of, IsCanonicalSignature}
use Rattle.lf.specs.Syntax.{Head, constant, Spine, LfType, atom, root}
use Rattle.tw_print.specs.Arguments.{arguments, bare_arguments, family_type, head_hidden, head_type, hidden}
use Rattle.tw_print.specs.ArgumentView.{any_lambda}
use Rattle.tw_print.specs.Due.{Begins}
use Rattle.tw_print.specs.Names.{Scene, constant_word, head_word}
use Rattle.tw_print.specs.Showable.{AreShowable, IsShowable, IsShowableContext, IsShowableType}
use Rattle.tw_print.specs.Shown.{application, atom_pieces, head_operator, operator, parts, root_pieces}
use Rattle.tw_print.specs.declared.due.Due.{Due}
use Rattle.tw_print.specs.declared.page.Page.{Page}
use Rattle.tw_print.proofs.Typed.{bare_by, family_takes, root_takes, showable_arguments, showable_drop}

-- without lambdas they are the same
bare_same : (S T : Spine) (A : LfType) → any_lambda S ≡ false → T ≡ S → bare_arguments T ≡ arguments A S
bare_same S T A n f = bare_by (bare_arguments T) S T A refl f (ap any_lambda f ∙ n)

module _ (s : Scene) where
  pub root_shown : (G : List LfType) (h : Head) (c : ℕ) (S T : Spine) → IsCanonicalSignature s.entries → IsShowableContext (signature_of s.entries) G → h ≡ constant c → any_lambda S ≡ false → T ≡ S → IsShowable (signature_of s.entries) G (root h S) None
      → AreShowable (signature_of s.entries) G (drop (hidden s c) (bare_arguments T))
  root_shown G h c S T k g e n f m =
      let Σ = signature_of s.entries in
      let xs = arguments (head_type s G h) S in
      subst (λ ys. AreShowable Σ G (drop (hidden s c) ys)) (sym (bare_same S T (head_type s G h) n f)) (showable_drop Σ G (hidden s c) xs (showable_arguments Σ G S (head_type s G h) (root_takes s G k g h S None m)))

  pub family_shown : (G : List LfType) (a : ℕ) (S T : Spine) → IsCanonicalSignature s.entries → IsShowableContext (signature_of s.entries) G → any_lambda S ≡ false → T ≡ S → IsShowableType (signature_of s.entries) G (atom a S)
      → AreShowable (signature_of s.entries) G (drop (hidden s a) (bare_arguments T))
  family_shown G a S T k g n f m =
      let Σ = signature_of s.entries in
      subst (λ ys. AreShowable Σ G (drop (hidden s a) ys)) (sym (bare_same S T (family_type s a) n f)) (showable_drop Σ G (hidden s a) (arguments (family_type s a) S) (showable_arguments Σ G S (family_type s a) (family_takes s G k g a S m)))

  module _ (n : ℕ) (p q : Page) (old new : List Due) where
    pub root_begun : (h : Head) (c : ℕ) (S T : Spine) → h ≡ constant c → any_lambda S ≡ false → T ≡ S → Begins s p q (application (parts s n) s p.context p.scope (constant_word s c) (operator s c) (drop (hidden s c) (bare_arguments T))) old new
        → Begins s p q (root_pieces (parts s n) s p.context p.scope h S) old new
    root_begun h c S T e l f b =
        subst (λ xs. Begins s p q (application (parts s n) s p.context p.scope (head_word s p.scope h) (head_operator s h) (drop (head_hidden s h) xs)) old new) (bare_same S T (head_type s p.context h) l f)
        (subst (λ g. Begins s p q (application (parts s n) s p.context p.scope (head_word s p.scope g) (head_operator s g) (drop (head_hidden s g) (bare_arguments T))) old new) (sym e) b)

    pub atom_begun : (a : ℕ) (S T : Spine) → any_lambda S ≡ false → T ≡ S → Begins s p q (application (parts s n) s p.context p.scope (constant_word s a) (operator s a) (drop (hidden s a) (bare_arguments T))) old new
        → Begins s p q (atom_pieces (parts s n) s p.context p.scope a S) old new
    atom_begun a S T l f b = subst (λ xs. Begins s p q (application (parts s n) s p.context p.scope (constant_word s a) (operator s a) (drop (hidden s a) xs)) old new) (bare_same S T (family_type s a) l f) b
